use Rattle.std.proofs.Common.{◌≡◌, drop}
use Rattle.kt_lex.specs.Numbers.{value_behind}
use Rattle.kt_lex.proofs.number.value_in.Given as goal

-- the rest makes the same number behind what is read
abbrev pub invariant-loop-digit : goal.invariant-loop-digit
invariant-loop-digit l = value_behind l.base 0 l.digits ≡ value_behind l.base l.value (drop l.digit-index l.digits)
