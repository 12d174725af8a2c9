-- What a token list is: a file with its one tree, or none, with its one fault at its one place.
use Rattle.std.specs.Prelude.{◌≡◌, ℕ, List, Result, Ok, Err}
use Rattle.kt_lex.specs.declared.token.Token.{Token}
use Rattle.kt_grammar.specs.Marks.{Mark, symbols_of, IsShallow}
use Rattle.kt_syntax.specs.Tree.{Tree}
use Rattle.kt_syntax.specs.File.{IsTree}
use Rattle.kt_syntax.specs.FaultPlaces.{BeginsFile}
use Rattle.kt_syntax.specs.Places.{BreaksOff, IsTooDeepAt}
use Rattle.kt_syntax.specs.declared.fault.SyntaxFault.{SyntaxFault}
use Rattle.kt_syntax.specs.declared.fault.SyntaxFault.TheVariants.{Syntax, TooDeep, NoMemory}

-- the tree of these tokens of a file, or their fault at its place; no token list wants memory
abbrev pub IsAnswer : List ℕ → List Token → Result Tree SyntaxFault → Type 0
IsAnswer bytes tokens (Ok x) = IsTree bytes tokens x
IsAnswer bytes tokens (Err (Syntax at)) = BreaksOff bytes tokens at
IsAnswer bytes tokens (Err (TooDeep at)) = IsTooDeepAt bytes tokens at
IsAnswer bytes tokens (Err NoMemory) = ⊥

-- a token list has a tree or a fault
abbrev pub HasAnswer : Type 0
HasAnswer = (bytes : List ℕ) (tokens : List Token) → (answer : Result Tree SyntaxFault) × IsAnswer bytes tokens answer

-- never two of these
abbrev pub OneAnswer : Type 0
OneAnswer = (bytes : List ℕ) (tokens : List Token) (x y : Result Tree SyntaxFault) → IsAnswer bytes tokens x → IsAnswer bytes tokens y → x ≡ y

-- the deepest token so far is as deep in each file that begins with the same tokens
abbrev pub DepthsAgree : Type 0
DepthsAgree = (limit : ℕ) (xs ys : List Mark) → symbols_of xs ≡ symbols_of ys → BeginsFile xs → BeginsFile ys → IsShallow limit xs → IsShallow limit ys
