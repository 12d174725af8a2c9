use Rattle.std.proofs.Common.{◌≡◌, drop}
use Rattle.std.specs.Str.{all_ascii_digits}
use Rattle.std.specs.Str.Parse.{digits_value_after}
use Rattle.kt_text.proofs.number.read_number.Given as goal

-- what is read are digits, and the rest makes the same number behind what they make
abbrev pub invariant-loop-byte : goal.invariant-loop-byte
invariant-loop-byte l = record {
  digits : all_ascii_digits l.bytes ≡ all_ascii_digits (drop l.byte-index l.bytes);
  value : digits_value_after 10 0 l.bytes ≡ digits_value_after 10 l.value (drop l.byte-index l.bytes);
}
