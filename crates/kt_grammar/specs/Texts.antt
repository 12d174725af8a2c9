-- A whole text of a language: its tree, and where it breaks off or a token of it is too deep.
use Rattle.std.specs.Prelude.{◌≡◌, ℕ, ◌-◌, ◌<◌, List, [], ◌∷◌, ◌++◌, length, Some, None, slice_get, Result, Ok, Err}
use Rattle.kt_lex.specs.declared.token.Token.{Token}
use Rattle.kt_grammar.specs.declared.fault.Fault.{Fault}
use Rattle.kt_grammar.specs.declared.fault.Fault.TheVariants as fault
use Rattle.kt_grammar.specs.declared.syntax_fault.SyntaxFault.{SyntaxFault}
use Rattle.kt_grammar.specs.declared.syntax_fault.SyntaxFault.TheVariants.{Syntax, TooDeep, NoMemory}
use Rattle.kt_grammar.specs.declared.symbol.Symbol.{Symbol}
use Rattle.kt_grammar.specs.Symbols.{symbols_of_tokens}
use Rattle.kt_grammar.specs.Marks.{Mark, symbols_of, IsShallow}
use Rattle.kt_grammar.specs.Cursor.{Outcome}

-- the symbols are those of a text with this tree, no token deeper than the limit
pub record IsSpelled {X : Type 0} (language : X → List Mark → Type 0) (limit : ℕ) (symbols : List Symbol) (x : X) : Type 0 where
  pub marks : List Mark
  pub parts : symbols_of marks ≡ symbols
  pub spelled : language x marks
  pub shallow : IsShallow limit marks

-- at any depth
pub record IsText {X : Type 0} (language : X → List Mark → Type 0) (symbols : List Symbol) (x : X) : Type 0 where
  pub marks : List Mark
  pub parts : symbols_of marks ≡ symbols
  pub spelled : language x marks

-- a text has one tree
abbrev pub OneTree : {X : Type 0} → (X → List Mark → Type 0) → Type 0
OneTree {X} language = (symbols : List Symbol) (x y : X) → IsText language symbols x → IsText language symbols y → x ≡ y

-- ---- where a token list that is no text breaks off

-- a text begins with these tokens, which have these depths in it, and goes on
pub record BeginsText {X : Type 0} (language : X → List Mark → Type 0) (front : List Mark) : Type 0 where
  pub whole : X
  pub others : List Mark
  pub spelled : language whole (front ++ others)

-- some text begins with these symbols
pub record IsBeginning {X : Type 0} (language : X → List Mark → Type 0) (symbols : List Symbol) : Type 0 where
  pub marks : List Mark
  pub parts : symbols_of marks ≡ symbols
  pub begins : BeginsText language marks

-- Nothing goes on so: no text begins with what stands before and then the next symbol; where no symbol is left, what stands
-- before is no text.
abbrev pub IsRefused : {X : Type 0} → (X → List Mark → Type 0) → List Symbol → List Symbol → Type 0
IsRefused {X} language before [] = (x : X) → IsText language before x → ⊥
IsRefused language before (t ∷ rest) = IsBeginning language (before ++ t ∷ []) → ⊥

-- the first symbol up to which, itself included, no text has the same, with so many symbols left from there; and none before
-- it is too deep
pub record IsSyntaxAt {X : Type 0} (language : X → List Mark → Type 0) (limit : ℕ) (symbols : List Symbol) (left : ℕ) : Type 0 where
  pub marks : List Mark
  pub rest : List Symbol
  pub parts : symbols ≡ symbols_of marks ++ rest
  pub place : length rest ≡ left
  pub begins : BeginsText language marks
  pub shallow : IsShallow limit marks
  pub refused : IsRefused language (symbols_of marks) rest

-- the first symbol that is too deep, with so many symbols left from there: some text begins with the symbols up to it, and in
-- each text that does it is deeper than the limit and those before it are not
pub record IsDeepAt {X : Type 0} (language : X → List Mark → Type 0) (limit : ℕ) (symbols : List Symbol) (left : ℕ) : Type 0 where
  pub before : List Symbol
  pub deep : Symbol
  pub rest : List Symbol
  pub parts : symbols ≡ before ++ deep ∷ rest
  pub place : length (deep ∷ rest) ≡ left
  pub begins : IsBeginning language (before ++ deep ∷ [])
  pub first : (marks : List Mark) (m : Mark) → symbols_of marks ≡ before → m.symbol ≡ deep → BeginsText language (marks ++ m ∷ []) → IsShallow limit marks × (limit < m.depth)

-- texts that begin with the same tokens have them alike within a limit of depth
abbrev pub DepthsAgree : {X : Type 0} → (X → List Mark → Type 0) → Type 0
DepthsAgree language =
    (limit : ℕ) (xs ys : List Mark) → symbols_of xs ≡ symbols_of ys → BeginsText language xs → BeginsText language ys → IsShallow limit xs → IsShallow limit ys

-- ---- at which byte a fault is told

-- where so many tokens are left: the first byte of a token, or the length of the file
abbrev pub place_of : List Token → ℕ → ℕ → ℕ
place_of tokens total left = elim (slice_get tokens (length tokens - left)) as (λ _. ℕ) [ None ↦ total | (Some t) ↦ t.at ]

-- a fault of reading at its byte
abbrev pub told_of : List Token → ℕ → Fault → SyntaxFault
told_of tokens total (fault.Syntax left) = Syntax (place_of tokens total left)
told_of tokens total (fault.TooDeep left) = TooDeep (place_of tokens total left)
told_of tokens total fault.NoMemory = NoMemory

-- the fault is the one of reading, at its place
abbrev pub Tells : {X : Type 0} → List Token → ℕ → SyntaxFault → Outcome X → Type 0
Tells tokens total NoMemory read = Unit {0}
Tells tokens total (Syntax at) read = (left : ℕ) × (read ≡ Err (fault.Syntax left)) × (at ≡ place_of tokens total left)
Tells tokens total (TooDeep at) read = (left : ℕ) × (read ≡ Err (fault.TooDeep left)) × (at ≡ place_of tokens total left)

-- the tokens break off at this byte, as the tokens of a file of so many bytes: `Syntax`
abbrev pub BreaksOff : {X : Type 0} → (X → List Mark → Type 0) → List ℕ → List Token → ℕ → Type 0
BreaksOff language bytes tokens at = (left : ℕ) × IsSyntaxAt language 200 (symbols_of_tokens bytes tokens) left × (at ≡ place_of tokens (length bytes) left)

-- the token at this byte is the first that is too deep
abbrev pub IsTooDeepAt : {X : Type 0} → (X → List Mark → Type 0) → List ℕ → List Token → ℕ → Type 0
IsTooDeepAt language bytes tokens at = (left : ℕ) × IsDeepAt language 200 (symbols_of_tokens bytes tokens) left × (at ≡ place_of tokens (length bytes) left)

-- ---- what a token list is: a text with its one tree, or none, with its one fault at its one place

-- what a file has, and how many bytes the file has
pub record Sized (X : Type 0) : Type 0 where
  pub content : X
  pub length : ℕ

-- the tree is that of these tokens of a file, no token deeper than 200
pub record IsTree {X : Type 0} (language : X → List Mark → Type 0) (bytes : List ℕ) (tokens : List Token) (x : Sized X) : Type 0 where
  pub spelled : IsSpelled language 200 (symbols_of_tokens bytes tokens) x.content
  pub bytes_long : x.length ≡ length bytes

-- the tree of these tokens of a file, or their fault at its place; no token list wants memory
abbrev pub IsAnswer : {X : Type 0} → (X → List Mark → Type 0) → List ℕ → List Token → Result (Sized X) SyntaxFault → Type 0
IsAnswer language bytes tokens (Ok x) = IsTree language bytes tokens x
IsAnswer language bytes tokens (Err (Syntax at)) = BreaksOff language bytes tokens at
IsAnswer language bytes tokens (Err (TooDeep at)) = IsTooDeepAt language bytes tokens at
IsAnswer language bytes tokens (Err NoMemory) = ⊥

-- a token list has a tree or a fault
abbrev pub HasAnswer : {X : Type 0} → (X → List Mark → Type 0) → Type 0
HasAnswer {X} language = (bytes : List ℕ) (tokens : List Token) → (answer : Result (Sized X) SyntaxFault) × IsAnswer language bytes tokens answer

-- never two of these
abbrev pub OneAnswer : {X : Type 0} → (X → List Mark → Type 0) → Type 0
OneAnswer {X} language =
    (bytes : List ℕ) (tokens : List Token) (x y : Result (Sized X) SyntaxFault) → IsAnswer language bytes tokens x → IsAnswer language bytes tokens y → x ≡ y
