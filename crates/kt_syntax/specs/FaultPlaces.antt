-- Where a token list that is no file breaks off.
use Rattle.std.specs.Prelude.{◌≡◌, ℕ, ◌<◌, List, [], ◌∷◌, ◌++◌, length, Err}
use Rattle.kt_grammar.specs.declared.fault.Fault.TheVariants.{Syntax, TooDeep}
use Rattle.kt_grammar.specs.declared.symbol.Symbol.{Symbol}
use Rattle.kt_grammar.specs.Marks.{Mark, symbols_of, IsShallow}
use Rattle.kt_syntax.specs.Tree.{External}
use Rattle.kt_syntax.specs.Spelling.{externals}
use Rattle.kt_syntax.specs.File.{IsFile}
use Rattle.kt_syntax.specs.Reading.{file_at}

-- a file begins with these tokens, which have these depths in it, and goes on
pub record BeginsFile (front : List Mark) : Type 0 where
  pub file : List External
  pub others : List Mark
  pub spelled : externals file (front ++ others)

-- some file begins with these symbols
pub record IsBeginning (symbols : List Symbol) : Type 0 where
  pub marks : List Mark
  pub parts : symbols_of marks ≡ symbols
  pub begins : BeginsFile marks

-- Nothing goes on so: no file begins with what stands before and then the next symbol; where no symbol is left, what stands
-- before is no file.
abbrev pub IsRefused : List Symbol → List Symbol → Type 0
IsRefused before [] = (xs : List External) → IsFile before xs → ⊥
IsRefused before (t ∷ rest) = IsBeginning (before ++ t ∷ []) → ⊥

-- the first symbol up to which, itself included, no file has the same, with so many symbols left from there; and none before
-- it is too deep
pub record IsSyntaxAt (limit : ℕ) (symbols : List Symbol) (left : ℕ) : Type 0 where
  pub marks : List Mark
  pub rest : List Symbol
  pub parts : symbols ≡ symbols_of marks ++ rest
  pub place : length rest ≡ left
  pub begins : BeginsFile marks
  pub shallow : IsShallow limit marks
  pub refused : IsRefused (symbols_of marks) rest

-- the first symbol that is too deep, with so many symbols left from there: some file begins with the symbols up to it, and in
-- each file that does it is deeper than the limit and those before it are not
pub record IsDeepAt (limit : ℕ) (symbols : List Symbol) (left : ℕ) : Type 0 where
  pub before : List Symbol
  pub deep : Symbol
  pub rest : List Symbol
  pub parts : symbols ≡ before ++ deep ∷ rest
  pub place : length (deep ∷ rest) ≡ left
  pub begins : IsBeginning (before ++ deep ∷ [])
  pub first : (marks : List Mark) (m : Mark) → symbols_of marks ≡ before → m.symbol ≡ deep → BeginsFile (marks ++ m ∷ []) → IsShallow limit marks × (limit < m.depth)

abbrev pub SyntaxIsThere : Type 0
SyntaxIsThere = (n : ℕ) (symbols : List Symbol) (left : ℕ) → file_at n symbols ≡ Err (Syntax left) → IsSyntaxAt n symbols left

abbrev pub DepthIsThere : Type 0
DepthIsThere = (n : ℕ) (symbols : List Symbol) (left : ℕ) → file_at n symbols ≡ Err (TooDeep left) → IsDeepAt n symbols left
