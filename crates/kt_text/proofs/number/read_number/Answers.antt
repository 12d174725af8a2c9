use Rattle.std.proofs.Common.{◌≡◌, ◌<◌, ◌*◌, ◌+◌, ◌^◌, length, get_or, sym, ap, ◌∙◌, arith, eqb-true, false-eqb, Some, subst}
use Rattle.std.specs.Char.{digit_value}
use Rattle.std.specs.Str.Parse.{digits_value}
use Rattle.kt_text.proofs.Digits.{digit-other, great-next, read-all, digits-all, number_of-is, empty-none, long-none, other-none, great-none}
use Rattle.kt_text.proofs.number.read_number.Goals as goal
use Rattle.kt_text.proofs.number.read_number.Goals.{then-is_empty-via-then-is_empty, then-is_empty-via-else-is_empty+then-bytes-gt20}

pub returns-then-is_empty-clause-number : goal.returns-then-is_empty-clause-number
returns-then-is_empty-clause-number c =
    elim c.then-is_empty.branch [
      | then-is_empty-via-then-is_empty w ↦ sym (empty-none c.args.most c.args.bytes.now (eqb-true _ 0 (sym w.if-is_empty.ensures)))
      | then-is_empty-via-else-is_empty+then-bytes-gt20 w ↦ sym (long-none c.args.most c.args.bytes.now (omega arith))
    ]

pub returns-in_err-digit-clause-number : goal.returns-in_err-digit-clause-number
returns-in_err-digit-clause-number c =
    c.from_residual.ensures
    ∙ sym (
    other-none c.args.most c.args.bytes.now
    (c.loop-byte.invariant.digits
    ∙ digit-other c.args.bytes.now c.loop-byte.byte-index (omega arith) (subst (λ b. digit_value b < 10 → ⊥) c.from.ensures c.in_err-digit.ensures.value))
    )

pub returns-in_err-checked_mul-clause-number : goal.returns-in_err-checked_mul-clause-number
returns-in_err-checked_mul-clause-number c =
    let product : c.loop-byte.value * 10 < 2 ^ 64 → ⊥ = c.in_err-checked_mul.ensures in
    c.from_residual-in_err-checked_mul.ensures
    ∙ sym (great-next c.args.most c.args.bytes.now c.loop-byte.byte-index c.loop-byte.value (omega arith) c.loop-byte.invariant.value (omega arith))

pub returns-in_err-value-clause-number : goal.returns-in_err-value-clause-number
returns-in_err-value-clause-number c =
    let product : c.in_ok-checked_mul.field-0 ≡ c.loop-byte.value * 10 = c.in_ok-checked_mul.ensures.1 in
    let digit : c.in_ok-digit.digit ≡ digit_value (get_or c.args.bytes.now c.loop-byte.byte-index 0) = c.in_ok-digit.ensures.value.1 ∙ ap digit_value c.from.ensures in
    let sum : c.in_ok-checked_mul.field-0 + c.into.result < 2 ^ 64 → ⊥ = c.in_err-value.ensures in
    c.from_residual-in_err-value.ensures
    ∙ sym (great-next c.args.most c.args.bytes.now c.loop-byte.byte-index c.loop-byte.value (omega arith) c.loop-byte.invariant.value (omega (arith, c.into.ensures)))

pub returns-then-value-most-clause-number : goal.returns-then-value-most-clause-number
returns-then-value-most-clause-number c =
    let bytes = c.args.bytes.now in
    let i = c.loop-byte.byte-index in
    let value : digits_value 10 bytes ≡ c.loop-byte.value = read-all bytes i c.loop-byte.value (omega arith) c.loop-byte.invariant.value in
    let some : 0 < length bytes = omega (arith, false-eqb _ 0 c.if-is_empty.ensures) in
    sym (
    number_of-is c.args.most bytes some (omega arith) (digits-all bytes i (omega arith) c.loop-byte.invariant.digits) (omega arith)
    ∙ ap (λ n. Some n) value
    )

pub returns-else-value-most-clause-number : goal.returns-else-value-most-clause-number
returns-else-value-most-clause-number c =
    let value : digits_value 10 c.args.bytes.now ≡ c.loop-byte.value = read-all c.args.bytes.now c.loop-byte.byte-index c.loop-byte.value (omega arith) c.loop-byte.invariant.value in
    sym (great-none c.args.most c.args.bytes.now (omega arith))
