use Rattle.std.proofs.Common.{◌≡◌, true, subst}
use Rattle.kt_tree.specs.Typed.{same_types}
use Rattle.kt_typing.specs.Operands.{types_of}
use Rattle.kt_operands.specs.Views.{scope_of}
use Rattle.kt_calls.specs.Arguments.{operands_of, values_of}
use Rattle.kt_calls.proofs.Lists.{found-types}
use Rattle.kt_calls.proofs.function.called.Goals as goal

pub called_with-requires : goal.called_with-requires
called_with-requires c =
    subst (λ ps. same_types ps (types_of (values_of c.in-Ok.values)) ≡ true) c.as_slice.ensures.value
    (found-types c.args.at (scope_of c.args.env.now) c.as_slice.result.now (operands_of c.args.arguments) (values_of c.in-Ok.values) c.in-Ok.ensures)
