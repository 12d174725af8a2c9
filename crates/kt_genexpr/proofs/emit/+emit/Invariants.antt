use Rattle.std.proofs.Common.{◌≡◌, ◌++◌, drop, reverse}
use Rattle.kt_tree.specs.Tree.{expressions_of}
use Rattle.kt_genexpr.specs.Emitting.{codes_in}
use Rattle.kt_genexpr.proofs.emit.+emit.Given as goal

abbrev pub invariant-emit_operands-loop-place : goal.invariant-emit_operands-loop-place
invariant-emit_operands-loop-place l =
    l.out.items ≡ l.fn.out.items ++ reverse (codes_in l.version (expressions_of (drop l.place l.operands)))
