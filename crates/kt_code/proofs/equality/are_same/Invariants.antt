use Rattle.std.proofs.Common.{◌≡◌, ◌↔◌, drop}
use Rattle.kt_code.proofs.equality.are_same.Given as goal

abbrev pub invariant-loop-item : goal.invariant-loop-item
invariant-loop-item g l = (drop l.item-index l.a ≡ l.left) ↔ (l.a ≡ l.b)
