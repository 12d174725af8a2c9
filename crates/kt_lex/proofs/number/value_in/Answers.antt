use Rattle.std.proofs.Common.{◌≡◌, ◌<◌, ◌*◌, ◌+◌, ◌^◌, length, get_or, sym, ap, ◌∙◌, subst, arith, false-eqb}
use Rattle.std.specs.Char.{digit_value}
use Rattle.std.specs.Option.{option_and_then}
use Rattle.kt_lex.specs.Numbers.{at_most_greatest}
use Rattle.kt_lex.proofs.Scans.{value_in-is, next_too_great}
use Rattle.kt_lex.proofs.number.value_in.Goals as goal

-- the product with the base is too great for 64 bits
pub returns-in_err-checked_mul-clause-value : goal.returns-in_err-checked_mul-clause-value
returns-in_err-checked_mul-clause-value c =
    let digit : digit_value (get_or c.args.digits.now c.loop-digit.digit-index 0) < c.args.base = subst (λ b. digit_value b < c.args.base) c.from.ensures c.in_ok-digit.ensures.value.0 in
    let found : 0 < length c.args.digits.now = omega (arith, false-eqb _ 0 c.if-is_empty.ensures) in
    let product : c.loop-digit.value * c.args.base < 2 ^ 64 → ⊥ = subst (λ b. c.loop-digit.value * b < 2 ^ 64 → ⊥) c.into.ensures c.in_err-checked_mul.ensures in
    c.from_residual-in_err-checked_mul.ensures
    ∙ sym (
    ap (option_and_then at_most_greatest) (value_in-is _ _ found ∙ c.loop-digit.invariant)
    ∙ next_too_great c.args.base c.loop-digit.value c.args.digits.now c.loop-digit.digit-index (omega arith) (omega arith) digit (omega arith)
    )

-- the sum with the digit is
pub returns-in_err-value-clause-value : goal.returns-in_err-value-clause-value
returns-in_err-value-clause-value c =
    let digit : digit_value (get_or c.args.digits.now c.loop-digit.digit-index 0) < c.args.base = subst (λ b. digit_value b < c.args.base) c.from.ensures c.in_ok-digit.ensures.value.0 in
    let found : 0 < length c.args.digits.now = omega (arith, false-eqb _ 0 c.if-is_empty.ensures) in
    let product : c.in_ok-checked_mul.field-0 ≡ c.loop-digit.value * c.args.base = c.in_ok-checked_mul.ensures.1 ∙ ap (λ b. c.loop-digit.value * b) c.into.ensures in
    let value : c.in_ok-digit.digit ≡ digit_value (get_or c.args.digits.now c.loop-digit.digit-index 0) = c.in_ok-digit.ensures.value.1 ∙ ap digit_value c.from.ensures in
    let sum : c.in_ok-checked_mul.field-0 + c.into-in-loop-digit.result < 2 ^ 64 → ⊥ = c.in_err-value.ensures in
    c.from_residual-in_err-value.ensures
    ∙ sym (
    ap (option_and_then at_most_greatest) (value_in-is _ _ found ∙ c.loop-digit.invariant)
    ∙ next_too_great c.args.base c.loop-digit.value c.args.digits.now c.loop-digit.digit-index (omega arith) (omega arith) digit (omega (arith, c.into-in-loop-digit.ensures))
    )
