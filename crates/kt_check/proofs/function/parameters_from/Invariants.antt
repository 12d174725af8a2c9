use Rattle.std.proofs.Common.{◌≡◌, drop}
use Rattle.kt_names.specs.Functions.{parameters}
use Rattle.kt_names.specs.Scopes.{state_of, body_of}
use Rattle.kt_check.proofs.function.parameters_from.Given as goal

abbrev pub invariant-loop-p : goal.invariant-loop-p
invariant-loop-p l = parameters (body_of l.body) (state_of l.fn.scopes) l.list ≡ parameters (body_of l.body) (state_of l.scopes) (drop l.p-index l.list)
