use Rattle.std.proofs.Common.{◌≡◌, map, drop, reverse}
use Rattle.kt_typing.specs.Calls.{converted_all}
use Rattle.kt_operands.specs.Views.{scope_of, operand_of, value_of}
use Rattle.kt_calls.specs.Arguments.{joined}
use Rattle.kt_calls.proofs.values.converted_all.Given as goal

abbrev pub invariant-loop-ty : goal.invariant-loop-ty
invariant-loop-ty l =
    joined (map value_of l.values.items) (converted_all (scope_of l.env) (drop l.ty-index l.parameters) (map operand_of (reverse l.arguments.items)))
    ≡ converted_all (scope_of l.env) l.parameters (map operand_of l.fn.arguments.items)
