use Rattle.std.proofs.Common.{◌≡◌, drop}
use Rattle.kt_tree.specs.Kinds.{takes}
use Rattle.kt_operands.specs.Views.{scope_of}
use Rattle.kt_operands.proofs.environment.Environment.takes.Given as goal

abbrev pub invariant-loop-part : goal.invariant-loop-part
invariant-loop-part l = takes (scope_of l.self) (drop l.part-index l.parts) l.rest ≡ takes (scope_of l.self) l.parts l.operands
