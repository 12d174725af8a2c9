use Rattle.std.proofs.Common.{◌≡◌, ◌≤◌, length}
use Rattle.kt_check.specs.Built.{stage, larger}
use Rattle.kt_check.proofs.table.intern.Given as goal

abbrev pub invariant-loop-place : goal.invariant-loop-place
invariant-loop-place l = record {
  begun : length l.fn.table.types ≤ l.place;
  within : l.place ≤ larger (length l.fn.table.types) l.count;
  stage : l.table ≡ stage l.types l.fn.table.structs l.place l.fn.table.defined;
}
