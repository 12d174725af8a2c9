use Rattle.std.proofs.Common.{◌≡◌, ap, ◌∙◌, arith, Some}
use Rattle.std.specs.Fmt.{decimal}
use Rattle.std.specs.Str.Parse.{digits_value}
use Rattle.std.proofs.lemmas.Fmt.{decimal_nonempty, length-decimal-le, digits_decimal, digits_value-decimal}
use Rattle.std.proofs.lemmas.Str.Parse.{numerals_by_value, tells_all_ascii_digits}
use Rattle.kt_text.proofs.Digits.{number_of-is}
use Rattle.kt_text.proofs.laws.written_law.Goals as goal

pub returns : goal.returns
returns c n most small h =
    let own = numerals_by_value _ tells_all_ascii_digits in
    let value : digits_value 10 (decimal n) ≡ n = digits_value-decimal own n small in
    number_of-is most (decimal n) (decimal_nonempty n small) (length-decimal-le 20 n (omega arith) (omega arith) small) (digits_decimal own n small) (omega arith)
    ∙ ap (λ m. Some m) value
