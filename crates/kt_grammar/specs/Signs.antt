-- Which operator a sign is (ISO/IEC 9899:2011, 6.5), and how tightly operators bind.
use Rattle.std.specs.Prelude.{ℕ, Bool, true, false, ◌==◌, Option, Some, None}
use Rattle.kt_grammar.specs.declared.sign.Sign.{Sign}
use Rattle.kt_grammar.specs.declared.sign.Sign.TheVariants as sign
use Rattle.kt_grammar.specs.declared.operator.Dialect.{Dialect}
use Rattle.kt_grammar.specs.declared.operator.Dialect.TheVariants.{C, Rules}
use Rattle.kt_grammar.specs.declared.operator.PrefixOperator.{PrefixOperator}
use Rattle.kt_grammar.specs.declared.operator.PrefixOperator.TheVariants as prefix
use Rattle.kt_grammar.specs.declared.operator.StepOperator.{StepOperator}
use Rattle.kt_grammar.specs.declared.operator.StepOperator.TheVariants as step
use Rattle.kt_grammar.specs.declared.operator.BinaryOperator.{BinaryOperator}
use Rattle.kt_grammar.specs.declared.operator.BinaryOperator.TheVariants as binary
use Rattle.kt_grammar.specs.declared.operator.AssignOperator.{AssignOperator}
use Rattle.kt_grammar.specs.declared.operator.AssignOperator.TheVariants as assign

abbrev pub is_c : Dialect → Bool
is_c C = true
is_c Rules = false

-- ---- the sign of an operator

abbrev pub prefix_sign : PrefixOperator → Sign
prefix_sign prefix.Negate = sign.Minus
prefix_sign prefix.Not = sign.Not
prefix_sign prefix.Dereference = sign.Star
prefix_sign prefix.AddressOf = sign.And
prefix_sign prefix.Increment = sign.PlusPlus
prefix_sign prefix.Decrement = sign.MinusMinus

-- rule files have `-`, `!` and `*` alone
abbrev pub has_prefix : Dialect → PrefixOperator → Bool
has_prefix C op = true
has_prefix Rules prefix.Negate = true
has_prefix Rules prefix.Not = true
has_prefix Rules prefix.Dereference = true
has_prefix Rules prefix.AddressOf = false
has_prefix Rules prefix.Increment = false
has_prefix Rules prefix.Decrement = false

abbrev pub step_sign : StepOperator → Sign
step_sign step.Increment = sign.PlusPlus
step_sign step.Decrement = sign.MinusMinus

abbrev pub binary_sign : BinaryOperator → Sign
binary_sign binary.Or = sign.OrOr
binary_sign binary.And = sign.AndAnd
binary_sign binary.Equal = sign.Equal
binary_sign binary.NotEqual = sign.NotEqual
binary_sign binary.Less = sign.Less
binary_sign binary.Greater = sign.Greater
binary_sign binary.LessEqual = sign.LessEqual
binary_sign binary.GreaterEqual = sign.GreaterEqual
binary_sign binary.Add = sign.Plus
binary_sign binary.Subtract = sign.Minus
binary_sign binary.Multiply = sign.Star
binary_sign binary.Divide = sign.Slash
binary_sign binary.Remainder = sign.Percent

abbrev pub assign_sign : AssignOperator → Sign
assign_sign assign.Assign = sign.Assign
assign_sign assign.Add = sign.PlusAssign
assign_sign assign.Subtract = sign.MinusAssign
assign_sign assign.Multiply = sign.StarAssign
assign_sign assign.Divide = sign.SlashAssign
assign_sign assign.Remainder = sign.PercentAssign

-- how tightly a binary operator binds: 0 is assignment, 1 is `?:`, 8 are prefix operators and casts, 9 postfix operators
abbrev pub precedence : BinaryOperator → ℕ
precedence binary.Or = 2
precedence binary.And = 3
precedence binary.Equal = 4
precedence binary.NotEqual = 4
precedence binary.Less = 5
precedence binary.Greater = 5
precedence binary.LessEqual = 5
precedence binary.GreaterEqual = 5
precedence binary.Add = 6
precedence binary.Subtract = 6
precedence binary.Multiply = 7
precedence binary.Divide = 7
precedence binary.Remainder = 7

-- ---- the operator of a sign

unfoldable pub prefix_of : Dialect → Sign → Option PrefixOperator
prefix_of g sign.Minus = Some prefix.Negate
prefix_of g sign.Not = Some prefix.Not
prefix_of g sign.Star = Some prefix.Dereference
prefix_of C sign.And = Some prefix.AddressOf
prefix_of C sign.PlusPlus = Some prefix.Increment
prefix_of C sign.MinusMinus = Some prefix.Decrement
prefix_of g _ = None

unfoldable pub step_of : Dialect → Sign → Option StepOperator
step_of C sign.PlusPlus = Some step.Increment
step_of C sign.MinusMinus = Some step.Decrement
step_of g _ = None

unfoldable pub binary_of : Sign → Option BinaryOperator
binary_of sign.OrOr = Some binary.Or
binary_of sign.AndAnd = Some binary.And
binary_of sign.Equal = Some binary.Equal
binary_of sign.NotEqual = Some binary.NotEqual
binary_of sign.Less = Some binary.Less
binary_of sign.Greater = Some binary.Greater
binary_of sign.LessEqual = Some binary.LessEqual
binary_of sign.GreaterEqual = Some binary.GreaterEqual
binary_of sign.Plus = Some binary.Add
binary_of sign.Minus = Some binary.Subtract
binary_of sign.Star = Some binary.Multiply
binary_of sign.Slash = Some binary.Divide
binary_of sign.Percent = Some binary.Remainder
binary_of _ = None

unfoldable pub assign_of : Dialect → Sign → Option AssignOperator
assign_of C sign.Assign = Some assign.Assign
assign_of C sign.PlusAssign = Some assign.Add
assign_of C sign.MinusAssign = Some assign.Subtract
assign_of C sign.StarAssign = Some assign.Multiply
assign_of C sign.SlashAssign = Some assign.Divide
assign_of C sign.PercentAssign = Some assign.Remainder
assign_of g _ = None

-- a number for each sign, so that signs can be compared
abbrev pub sign_number : Sign → ℕ
sign_number sign.OpenBrace = 0
sign_number sign.CloseBrace = 1
sign_number sign.OpenParenthesis = 2
sign_number sign.CloseParenthesis = 3
sign_number sign.OpenBracket = 4
sign_number sign.CloseBracket = 5
sign_number sign.Semicolon = 6
sign_number sign.Comma = 7
sign_number sign.Dot = 8
sign_number sign.Arrow = 9
sign_number sign.DoubleColon = 10
sign_number sign.Colon = 11
sign_number sign.Question = 12
sign_number sign.Assign = 13
sign_number sign.Equal = 14
sign_number sign.NotEqual = 15
sign_number sign.Less = 16
sign_number sign.Greater = 17
sign_number sign.LessEqual = 18
sign_number sign.GreaterEqual = 19
sign_number sign.Plus = 20
sign_number sign.Minus = 21
sign_number sign.Star = 22
sign_number sign.Slash = 23
sign_number sign.Percent = 24
sign_number sign.PlusPlus = 25
sign_number sign.MinusMinus = 26
sign_number sign.PlusAssign = 27
sign_number sign.MinusAssign = 28
sign_number sign.StarAssign = 29
sign_number sign.SlashAssign = 30
sign_number sign.PercentAssign = 31
sign_number sign.Not = 32
sign_number sign.AndAnd = 33
sign_number sign.OrOr = 34
sign_number sign.And = 35

abbrev pub same_sign : Sign → Sign → Bool
same_sign a b = sign_number a == sign_number b
