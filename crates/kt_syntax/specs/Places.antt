-- At which byte a fault of reading is told.
use Rattle.std.specs.Prelude.{◌≡◌, ℕ, ◌-◌, List, length, Some, None, slice_get, Err}
use Rattle.kt_lex.specs.declared.token.Token.{Token}
use Rattle.kt_grammar.specs.declared.fault.Fault.TheVariants.{Syntax, TooDeep}
use Rattle.kt_grammar.specs.Cursor.{Outcome}
use Rattle.kt_grammar.specs.Symbols.{symbols_of_tokens}
use Rattle.kt_syntax.specs.FaultPlaces.{IsSyntaxAt, IsDeepAt}
use Rattle.kt_syntax.specs.declared.fault.SyntaxFault.{SyntaxFault}
use Rattle.kt_syntax.specs.declared.fault.SyntaxFault.TheVariants as fault
use Rattle.kt_syntax.specs.Tree.{External}

-- where so many tokens are left: the first byte of a token, or the length of the file
abbrev pub place_of : List Token → ℕ → ℕ → ℕ
place_of tokens total left = elim (slice_get tokens (length tokens - left)) as (λ _. ℕ) [ None ↦ total | (Some t) ↦ t.at ]

-- the fault is the one of reading, at its place
abbrev pub Tells : List Token → ℕ → SyntaxFault → Outcome (List External) → Type 0
Tells tokens total fault.NoMemory read = Unit {0}
Tells tokens total (fault.Syntax at) read = (left : ℕ) × (read ≡ Err (Syntax left)) × (at ≡ place_of tokens total left)
Tells tokens total (fault.TooDeep at) read = (left : ℕ) × (read ≡ Err (TooDeep left)) × (at ≡ place_of tokens total left)

-- the tokens break off at this byte, as the tokens of a file of so many bytes: `Syntax`
abbrev pub BreaksOff : List ℕ → List Token → ℕ → Type 0
BreaksOff bytes tokens at = (left : ℕ) × IsSyntaxAt 200 (symbols_of_tokens bytes tokens) left × (at ≡ place_of tokens (length bytes) left)

-- the token at this byte is the first that is too deep
abbrev pub IsTooDeepAt : List ℕ → List Token → ℕ → Type 0
IsTooDeepAt bytes tokens at = (left : ℕ) × IsDeepAt 200 (symbols_of_tokens bytes tokens) left × (at ≡ place_of tokens (length bytes) left)
