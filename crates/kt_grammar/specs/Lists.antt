-- Lists and optional parts of a text: by which tokens they are spelled.
use Rattle.std.specs.Prelude.{ℕ, Bool, true, false, List, [], ◌∷◌, Option, Some, None}
use Rattle.kt_grammar.specs.declared.sign.Sign.TheVariants as signs
use Rattle.kt_grammar.specs.declared.symbol.Symbol.{Symbol}
use Rattle.kt_grammar.specs.Marks.{Mark, Language, nothing, sign, ◌·◌}

-- one or more, with commas between them
abbrev pub separated : {A : Type 0} → ℕ → (A → Language) → List A → Language
separated d spelling [] = λ _. ⊥
separated d spelling (x ∷ []) = spelling x
separated d spelling (x ∷ y ∷ rest) = spelling x · sign d signs.Comma · separated d spelling (y ∷ rest)

-- one after the other
abbrev pub each : {A : Type 0} → (A → Language) → List A → Language
each spelling [] = nothing
each spelling (x ∷ rest) = spelling x · each spelling rest

-- what is there where it is there
abbrev pub maybe : {A : Type 0} → (A → Language) → Option A → Language
maybe spelling None = nothing
maybe spelling (Some x) = spelling x

-- what something is spelled by
abbrev pub any : {A : Type 0} → (A → List Mark → Type 0) → List Mark → Type 0
any {A} spelling marks = (x : A) × spelling x marks

-- no symbol is left
abbrev pub is_end : List Symbol → Bool
is_end [] = true
is_end (first ∷ rest) = false
