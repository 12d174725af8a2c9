use Rattle.std.proofs.Common.{◌≡◌, ◌+◌, ◌≤◌, drop}
use Rattle.kt_code.specs.Requests.{part_count}
use Rattle.kt_exec.proofs.requests.part_operands.Given as goal

abbrev pub invariant-loop-part : goal.invariant-loop-part
invariant-loop-part l = record { bound : l.count ≤ l.part-index; counted : l.count + part_count (drop l.part-index l.parts) ≡ part_count l.parts }
