use Rattle.std.proofs.Common.{◌<◌, ◌^◌, ap, sym, ◌∙◌, arith}
use Rattle.std.specs.Fmt.{decimal}
use Rattle.std.specs.Str.Parse.{digits_value}
use Rattle.std.proofs.lemmas.Fmt.{decimal-digits_value}
use Rattle.std.proofs.lemmas.Str.Parse.{numerals_by_value, tells_all_ascii_digits}
use Rattle.kt_text.proofs.Digits.{number_of-only}
use Rattle.kt_text.proofs.laws.one_text_law.Goals as goal

pub returns : goal.returns
returns c bytes n most small h first =
    let own = numerals_by_value _ tells_all_ascii_digits in
    let only = number_of-only most bytes n h in
    let value : digits_value 10 bytes < 2 ^ 64 = omega (arith, only.2) in
    sym (decimal-digits_value own bytes only.1 only.0 first value) ∙ ap decimal only.2
