use Rattle.std.proofs.Common.{◌≡◌, map, length, reverse}
use Rattle.kt_typing.specs.Calls.{plain_values}
use Rattle.kt_operands.specs.Views.{scope_of, operand_of, value_of}
use Rattle.kt_calls.specs.Arguments.{joined}
use Rattle.kt_calls.proofs.values.plain_values.Given as goal

abbrev pub decreases-loop-x : goal.decreases-loop-x
decreases-loop-x l = length l.arguments.items

abbrev pub invariant-loop-x : goal.invariant-loop-x
invariant-loop-x l =
    joined (map value_of l.values.items) (plain_values (scope_of l.env) (map operand_of (reverse l.arguments.items)))
    ≡ plain_values (scope_of l.env) (map operand_of l.fn.arguments.items)
