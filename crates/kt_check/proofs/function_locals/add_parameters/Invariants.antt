use Rattle.std.proofs.Common.{◌≡◌, ◌++◌, map, take}
use Rattle.kt_names.specs.Tables.{parameter_local}
use Rattle.kt_names.specs.Views.{environment_of}
use Rattle.kt_names.specs.Scopes.{declared_as}
use Rattle.kt_check.proofs.function_locals.add_parameters.Given as goal

abbrev pub invariant-loop-parameter : goal.invariant-loop-parameter
invariant-loop-parameter l =
    map declared_as l.all.items ≡ map declared_as l.fn.all.items ++ map (parameter_local (environment_of l.env).names) (take l.parameter-index l.parameters)
