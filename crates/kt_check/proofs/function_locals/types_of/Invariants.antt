use Rattle.std.proofs.Common.{◌≡◌, map, take}
use Rattle.kt_check.proofs.function_locals.types_of.Given as goal

abbrev pub invariant-loop-local : goal.invariant-loop-local
invariant-loop-local l = l.types.items ≡ map (λ x. x.ty) (take l.local-index l.locals)
