-- Output: a text is written as far as there is room for it.
use Rattle.std.specs.Prelude.{◌≡◌, ℕ, ◌-◌, List, [], ◌∷◌, ◌++◌, length, take, Option, None, Some, Result, Ok, Err}
use Rattle.kt_mem.specs.declared.steps.Trap.{Trap}
use Rattle.kt_meaning.specs.Effects.{followed}

-- the output with a text behind it, as much of it as brings the output to one byte above what may be written
abbrev pub with_text : List ℕ → List ℕ → List ℕ
with_text output text = output ++ take (16777217 - length output) text

abbrev pub Begins : List ℕ → List ℕ → Type 0
Begins old new = (more : List ℕ) × (new ≡ old ++ more)

-- the text was put behind the output, or its trap is told, and then the output begins as before
abbrev pub IsPut : Result (List ℕ) Trap → Option Trap → List ℕ → List ℕ → Type 0
IsPut (Ok text) trap old new = (trap ≡ None) × (new ≡ with_text old text)
IsPut (Err t) trap old new = (trap ≡ Some t) × Begins old new

-- the whole is a front, which was put behind the output, and this rest
pub record IsPutUpTo (whole rest : Result (List ℕ) Trap) (old new : List ℕ) : Type 0 where
  pub front : List ℕ
  pub whole_is : whole ≡ followed front rest
  pub put : new ≡ with_text old front

-- a text goes on with the byte of a cell and the rest, ends there, or traps
abbrev pub text_from : Result (Option ℕ) Trap → Result (List ℕ) Trap → Result (List ℕ) Trap
text_from (Ok None) rest = Ok []
text_from (Ok (Some b)) rest = followed (b ∷ []) rest
text_from (Err t) rest = Err t
