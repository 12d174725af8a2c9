-- Nothing is read where no symbol is left.
use Rattle.std.proofs.Common.{◌≡◌, ℕ, true, [], ◌∷◌, List, refl, Option, rules}
use Rattle.kt_grammar.specs.declared.symbol.Symbol.{Symbol}
use Rattle.kt_grammar.specs.Cursor.{unexpected, name_at}
use Rattle.kt_grammar.specs.Lists.{is_end}
use Rattle.xf_syntax.specs.Reading.{Blocks, act_at, rule_at}

pub act-end : (n : ℕ) (b : Option Blocks) → act_at n b [] ≡ unexpected []
unfolding act_at
act-end n b = refl

pub rule-end : (n : ℕ) → rule_at n [] ≡ unexpected []
unfolding rule_at name_at
rule-end n = refl

pub nothing_left : (symbols : List Symbol) → is_end symbols ≡ true → symbols ≡ []
nothing_left [] e = refl
nothing_left (s ∷ rest) e = absurd (search rules)
