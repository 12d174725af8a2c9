-- The rule of each call as a function of its arguments.
use Rattle.std.specs.Prelude.{ℕ, List, [], ◌∷◌, Some, None, Result, Err}
use Rattle.std.specs.Option.{option_map}
use Rattle.kt_tree.specs.declared.expr.Request.TheVariants as request
use Rattle.kt_tree.specs.Kinds.{int_type}
use Rattle.kt_typing.specs.declared.fault.Fault.{Fault}
use Rattle.kt_typing.specs.Environment.{Environment}
use Rattle.kt_typing.specs.Operands.{Operand}
use Rattle.kt_typing.specs.Calls.{Plain, Nullable, NullItself, converted_all, called_with, argument_values, asked, allocation, zeroed, plain_values, written, begun, pointed_at, kept_name}
use Rattle.kt_operands.specs.Views.{head_of}
use Rattle.kt_calls.specs.declared.rule.Rule.{Rule}
use Rattle.kt_calls.specs.declared.rule.Rule.TheVariants as rule

abbrev pub rule_of : Environment → ℕ → Rule → List Operand → Result Operand Fault
rule_of env at (rule.Broken f) = λ xs. Err f
rule_of env at (rule.Function f h) = λ xs. called_with at f (head_of h.now) (converted_all env.scope (head_of h.now).parameters xs)
rule_of env at (rule.Nothing r t) = λ xs. asked env at r t (argument_values env.scope [] xs)
rule_of env at (rule.One r) = λ xs. asked env at r (Some int_type) (argument_values env.scope (Plain ∷ []) xs)
rule_of env at rule.Release = λ xs. asked env at request.Release None (argument_values env.scope (Nullable ∷ []) xs)
rule_of env at rule.InitMutex = λ xs. asked env at request.InitMutex (Some int_type) (argument_values env.scope (Plain ∷ NullItself ∷ []) xs)
rule_of env at rule.Allocates = allocation env at
rule_of env at rule.AllocatesZeros = zeroed env at
rule_of env at (rule.Prints cs) = λ xs. written env at cs.now (plain_values env.scope xs)
rule_of env at rule.Begins = begun env at
rule_of env at (rule.Reaches text) = λ xs. pointed_at env at request.Point None (option_map (λ t. t.now) text)
rule_of env at (rule.AsksFrom text) = λ xs. pointed_at env at request.IsUpdatingFrom (Some int_type) (option_map (λ t. t.now) text)
rule_of env at (rule.Keeps name) = λ xs. kept_name env at (option_map (λ n. n.now) name)
