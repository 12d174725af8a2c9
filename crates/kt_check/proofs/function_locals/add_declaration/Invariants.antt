use Rattle.std.proofs.Common.{◌≡◌, ◌++◌, map, take}
use Rattle.kt_names.specs.Views.{environment_of}
use Rattle.kt_names.specs.Scopes.{declared_as}
use Rattle.kt_check.proofs.FunctionLocals.{local_as}
use Rattle.kt_check.proofs.function_locals.add_declaration.Given as goal

abbrev pub invariant-loop-declarator : goal.invariant-loop-declarator
invariant-loop-declarator l =
    map declared_as l.all.items ≡ map declared_as l.fn.all.items ++ map (local_as (environment_of l.env).names l.d.base) (take l.declarator-index l.d.declarators)
