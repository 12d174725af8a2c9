-- What is read of a whole text is what is spelled, and what is not read breaks off where it is told.
use Rattle.std.specs.Prelude.{◌≡◌, ℕ, List, [], Ok, Err}
use Rattle.kt_grammar.specs.declared.fault.Fault.{Fault}
use Rattle.kt_grammar.specs.declared.fault.Fault.TheVariants.{Syntax, TooDeep}
use Rattle.kt_grammar.specs.declared.symbol.Symbol.{Symbol}
use Rattle.kt_grammar.specs.Marks.{Mark, symbols_of, IsShallow}
use Rattle.kt_grammar.specs.Cursor.{Outcome}
use Rattle.kt_grammar.specs.Cut.{cut}
use Rattle.kt_grammar.specs.Laws.{FaultStands}
use Rattle.kt_grammar.specs.Local.{RefusesAlike}
use Rattle.kt_grammar.specs.Lists.{any}
use Rattle.kt_grammar.specs.Texts.{IsSpelled, IsSyntaxAt, IsDeepAt}

-- a text that is spelled is read back, unless a token of it is too deep
abbrev pub IsReadBack : {X : Type 0} → (X → List Mark → Type 0) → (ℕ → List Symbol → Outcome X) → Type 0
IsReadBack {X} language read = (n : ℕ) (x : X) (marks : List Mark) → language x marks → read n (symbols_of marks) ≡ cut n marks [] (Ok (x, []))

-- a text that is spelled within a limit is read
abbrev pub IsRead : {X : Type 0} → (X → List Mark → Type 0) → (ℕ → List Symbol → Outcome X) → Type 0
IsRead {X} language read = (n : ℕ) (x : X) (marks : List Mark) → language x marks → IsShallow n marks → read n (symbols_of marks) ≡ Ok (x, [])

-- a text that is read is one, to its end, no token of it too deep
abbrev pub TextStands : {X : Type 0} → (X → List Mark → Type 0) → (ℕ → List Symbol → Outcome X) → Type 0
TextStands {X} language read = (n : ℕ) (symbols : List Symbol) (x : X) (rest : List Symbol) → read n symbols ≡ Ok (x, rest) → (rest ≡ []) × IsSpelled language n symbols x

-- Where no text is read, what stands before the place of the fault begins one, no token of it too deep; where the fault is
-- depth, one goes on there with the symbol there, which is too deep in it.
abbrev pub TextFaultStands : {X : Type 0} → (X → List Mark → Type 0) → (ℕ → List Symbol → Outcome X) → Type 0
TextFaultStands language read = (n : ℕ) (symbols : List Symbol) (fault : Fault) → read n symbols ≡ Err fault → FaultStands n (any language) symbols fault

-- a text that is refused at a symbol is so whatever stands behind that symbol
abbrev pub TextIsLocal : {X : Type 0} → (ℕ → List Symbol → Outcome X) → Type 0
TextIsLocal read = (n : ℕ) → RefusesAlike (read n)

abbrev pub SyntaxIsThere : {X : Type 0} → (X → List Mark → Type 0) → (ℕ → List Symbol → Outcome X) → Type 0
SyntaxIsThere language read = (n : ℕ) (symbols : List Symbol) (left : ℕ) → read n symbols ≡ Err (Syntax left) → IsSyntaxAt language n symbols left

abbrev pub DepthIsThere : {X : Type 0} → (X → List Mark → Type 0) → (ℕ → List Symbol → Outcome X) → Type 0
DepthIsThere language read = (n : ℕ) (symbols : List Symbol) (left : ℕ) → read n symbols ≡ Err (TooDeep left) → IsDeepAt language n symbols left
