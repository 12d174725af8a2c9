-- What the text of a file is: a version, or a fault at a place.
use Rattle.std.specs.Prelude.{◌≡◌, ℕ, List, Result, Ok, Err}
use Rattle.kt_lex.specs.declared.token.Token.{Token}
use Rattle.kt_lex.specs.declared.token.LexFault.TheVariants as lex
use Rattle.kt_lex.specs.Tokens.{tokens_of}
use Rattle.kt_syntax.specs.File.{IsTree}
use Rattle.kt_syntax.specs.Places.{BreaksOff, IsTooDeepAt}
use Rattle.kt_syntax.specs.Tree.{Tree}
use Rattle.kt_names.specs.declared.fault.CheckFault.{CheckFault}
use Rattle.kt_names.specs.declared.fault.CheckFault.TheVariants as check
use Rattle.kt_check.specs.Files.{version_of}
use Rattle.kt_tree.specs.Version.{Program}
use Rattle.kt_play.specs.declared.status.Cause.{Cause}
use Rattle.kt_play.specs.declared.status.Cause.TheVariants.{Byte, Unclosed, Literal, Directive, Syntax, TooDeep, Unknown, Twice, BadType, Incomplete, TooBig, Entry, Note, NoMain, Later}

-- the bytes are the text of a file with this syntax tree
pub record HasTree (bytes : List ℕ) (x : Tree) : Type 0 where
  pub tokens : List Token
  pub lexed : tokens_of bytes ≡ Ok tokens
  pub tree : IsTree bytes tokens x

-- typing gives this of the file
pub record IsTypedAs (bytes : List ℕ) (outcome : Result Program CheckFault) : Type 0 where
  pub tree : Tree
  pub parsed : HasTree bytes tree
  pub typed : version_of tree ≡ outcome

-- the bytes are the text of this version
abbrev pub IsVersionText : List ℕ → Program → Type 0
IsVersionText bytes p = IsTypedAs bytes (Ok p)

-- the tokens of the file have a fault at a place
pub record HasTokensWith (bytes : List ℕ) (P : List Token → Type 0) : Type 0 where
  pub tokens : List Token
  pub lexed : tokens_of bytes ≡ Ok tokens
  pub fault : P tokens

-- why a text is no version
abbrev pub IsFaultOf : List ℕ → Cause → Type 0
IsFaultOf bytes (Byte at) = tokens_of bytes ≡ Err (lex.Byte at)
IsFaultOf bytes (Unclosed at) = tokens_of bytes ≡ Err (lex.Unclosed at)
IsFaultOf bytes (Literal at) = tokens_of bytes ≡ Err (lex.Literal at)
IsFaultOf bytes (Directive at) = tokens_of bytes ≡ Err (lex.Directive at)
IsFaultOf bytes (Syntax at) = HasTokensWith bytes (λ tokens. BreaksOff bytes tokens at)
IsFaultOf bytes (TooDeep at) = HasTokensWith bytes (λ tokens. IsTooDeepAt bytes tokens at)
IsFaultOf bytes (Unknown at) = IsTypedAs bytes (Err (check.Unknown at))
IsFaultOf bytes (Twice at) = IsTypedAs bytes (Err (check.Twice at))
IsFaultOf bytes (BadType at) = IsTypedAs bytes (Err (check.BadType at))
IsFaultOf bytes (Incomplete at) = IsTypedAs bytes (Err (check.Incomplete at))
IsFaultOf bytes (TooBig at) = IsTypedAs bytes (Err (check.TooBig at))
IsFaultOf bytes (Entry at) = IsTypedAs bytes (Err (check.Entry at))
IsFaultOf bytes (Note at) = IsTypedAs bytes (Err (check.Note at))
IsFaultOf bytes (NoMain at) = IsTypedAs bytes (Err (check.NoMain at))
IsFaultOf bytes (Later at) = ⊥
