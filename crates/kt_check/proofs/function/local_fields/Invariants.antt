use Rattle.std.proofs.Common.{◌≡◌, map, take}
use Rattle.kt_names.specs.Views.{environment_of}
use Rattle.kt_names.specs.Scopes.{declared_as, local_field}
use Rattle.kt_check.proofs.function.local_fields.Given as goal

abbrev pub invariant-loop-local : goal.invariant-loop-local
invariant-loop-local l = l.fields.items ≡ map (λ x. local_field (environment_of l.env) (declared_as x)) (take l.local-index l.locals)
