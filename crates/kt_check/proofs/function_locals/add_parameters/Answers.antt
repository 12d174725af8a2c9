use Rattle.std.proofs.Common.{map}
use Rattle.kt_names.specs.Tables.{parameter_local}
use Rattle.kt_names.specs.Views.{environment_of}
use Rattle.kt_names.specs.Scopes.{declared_as}
use Rattle.kt_check.proofs.FunctionLocals.{one-more, all-of}
use Rattle.kt_check.proofs.function_locals.add_parameters.Goals as goal

pub loop-parameter-preserved : goal.loop-parameter-preserved
loop-parameter-preserved c =
    one-more (parameter_local (environment_of c.args.env.now).names) c.args.parameters.now c.loop-parameter.parameter-index c.parameter-item.result
    (map declared_as c.args.all.now.items) (map declared_as c.loop-parameter.all.items) (map declared_as c.add.new.all.items)
    c.loop-parameter.invariant c.in_ok-add.ensures.added c.loop-parameter-test.true c.parameter-item.is

pub returns-clause-added : goal.returns-clause-added
returns-clause-added c =
    all-of (parameter_local (environment_of c.args.env.now).names) c.args.parameters.now c.loop-parameter.parameter-index (map declared_as c.args.all.now.items) (map declared_as c.loop-parameter.all.items)
    c.loop-parameter-test.false c.loop-parameter.invariant
