-- Reading a sign and its place.
use Rattle.std.proofs.Common.{◌≡◌, true, false, List, [], ◌∷◌, length, drop, Ok, Err, refl}
use Rattle.kt_grammar.specs.declared.fault.Fault.TheVariants.{Syntax}
use Rattle.kt_grammar.specs.declared.sign.Sign.{Sign}
use Rattle.kt_grammar.specs.declared.symbol.Symbol.{Symbol}
use Rattle.kt_grammar.specs.declared.symbol.Symbol.TheVariants as symbol
use Rattle.kt_grammar.specs.Cursor.{begins_sign}
use Rattle.xf_syntax.specs.Reading.{sign_place, sign_at}
use Rattle.xf_syntax.proofs.Fronts.{no_truth}

pub sign_at-not : (s : Sign) (symbols : List Symbol) → begins_sign s symbols ≡ false → sign_at s symbols ≡ Err (Syntax (length symbols))
unfolding sign_at begins_sign
sign_at-not s [] h = refl
sign_at-not s (symbol.Sign at t ∷ rest) h = rw h refl
sign_at-not s (_ ∷ rest) h = refl

pub sign_at-is : (s : Sign) (symbols : List Symbol) → begins_sign s symbols ≡ true → sign_at s symbols ≡ Ok (sign_place symbols, drop 1 symbols)
unfolding sign_at begins_sign
sign_at-is s [] h = no_truth h
sign_at-is s (symbol.Sign at t ∷ rest) h = rw h refl
sign_at-is s (_ ∷ rest) h = no_truth h

pub ruleset signs = (sign_at-not, sign_at-is)
