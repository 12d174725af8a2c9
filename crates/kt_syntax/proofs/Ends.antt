-- Nothing is read where no symbol is left.
use Rattle.std.proofs.Common.{◌≡◌, ℕ, true, [], ◌∷◌, List, refl, Option, rules}
use Rattle.kt_grammar.specs.declared.symbol.Symbol.{Symbol}
use Rattle.kt_grammar.specs.Cursor.{unexpected, name_at}
use Rattle.kt_grammar.specs.Reading.{begins_base, bare_base_at, behind_const}
use Rattle.kt_syntax.specs.Reading.{Blocks, stars_at, pointer_behind, declarator_at, parameter_at, global_at, local_at, fields_at, entry_at, statement_at, external_at, typed_at, count_leading, is_end}

pub declarator-end : declarator_at [] ≡ unexpected []
unfolding declarator_at stars_at pointer_behind name_at
declarator-end = refl

pub global-end : global_at [] ≡ unexpected []
unfolding global_at stars_at pointer_behind name_at
global-end = refl

pub local-end : (n : ℕ) → local_at n [] ≡ unexpected []
unfolding local_at stars_at pointer_behind name_at
local-end n = refl

pub parameter-end : parameter_at [] ≡ unexpected []
unfolding parameter_at behind_const bare_base_at
parameter-end = refl

pub fields-end : fields_at [] ≡ unexpected []
unfolding fields_at behind_const bare_base_at
fields-end = refl

pub entry-end : (n : ℕ) (b : Option Blocks) → entry_at n b [] ≡ unexpected []
unfolding entry_at begins_base statement_at
entry-end n b = refl

pub external-end : (n : ℕ) → external_at n [] ≡ unexpected []
unfolding external_at count_leading typed_at bare_base_at
external-end n = refl

pub nothing_left : (symbols : List Symbol) → is_end symbols ≡ true → symbols ≡ []
nothing_left [] e = refl
nothing_left (s ∷ rest) e = absurd (search rules)
