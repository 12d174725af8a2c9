-- What is answered where the tokens of a text have a fault.
use Rattle.std.specs.Prelude.{◌≡◌, ℕ, ◌⊎◌, List, [], length, Result, Ok, Err, MatchResult, IfOk, IfErr}
use Rattle.std.proofs.Common.{inl, inr, refl}
use Rattle.kt_lex.specs.declared.token.Token.{Token}
use Rattle.kt_grammar.specs.declared.fault.Fault.{Fault}
use Rattle.kt_grammar.specs.declared.fault.Fault.TheVariants as fault
use Rattle.kt_grammar.specs.declared.symbol.Symbol.{Symbol}
use Rattle.kt_grammar.specs.declared.syntax_fault.SyntaxFault.{SyntaxFault}
use Rattle.kt_grammar.specs.declared.syntax_fault.SyntaxFault.TheVariants.{Syntax, TooDeep, NoMemory}
use Rattle.kt_grammar.specs.Symbols.{symbols_of_tokens}
use Rattle.kt_grammar.specs.Marks.{Mark}
use Rattle.kt_grammar.specs.Cursor.{Outcome, Fails}
use Rattle.kt_grammar.specs.Texts.{Sized, IsTree, IsAnswer, OneAnswer, Tells, told_of}
use Rattle.kt_grammar.specs.TextLaws.{TextStands, SyntaxIsThere, DepthIsThere}

-- a fault of reading is told at its place
pub tells_of : {X : Type 0} (tokens : List Token) (total : ℕ) (e : Fault) (read : Outcome X) → Fails e read → Tells tokens total (told_of tokens total e) read
tells_of tokens total (fault.Syntax left) read h = (left, h, refl)
tells_of tokens total (fault.TooDeep left) read h = (left, h, refl)
tells_of tokens total fault.NoMemory read h = tt

module _ {X F : Type 0} (language : X → List Mark → Type 0) (tree : F → Sized X) where
  -- what is answered is that of the tokens, or want of memory
  abbrev IsTold : List ℕ → List Token → Result F SyntaxFault → Type 0
  IsTold bytes tokens (Ok x) = IsTree language bytes tokens (tree x)
  IsTold bytes tokens (Err NoMemory) = Unit {0}
  IsTold bytes tokens (Err e) = IsAnswer language bytes tokens (Err e)

  -- a fault of the tokens is told, unless memory runs out
  fault-told : OneAnswer language → (bytes : List ℕ) (tokens : List Token) (result : Result F SyntaxFault) → IsTold bytes tokens result
      → (e : SyntaxFault) → IsAnswer language bytes tokens (Err e) → MatchResult result (λ x. ⊥) (λ f. (f ≡ e) ⊎ (f ≡ NoMemory))
  fault-told one bytes tokens (Ok x) h e is = let same = one bytes tokens (Ok (tree x)) (Err e) h is in cc
  fault-told one bytes tokens (Err NoMemory) h e is = inr refl
  fault-told one bytes tokens (Err (Syntax at)) h e is = inl (let same = one bytes tokens (Err (Syntax at)) (Err e) h is in cc)
  fault-told one bytes tokens (Err (TooDeep at)) h e is = inl (let same = one bytes tokens (Err (TooDeep at)) (Err e) h is in cc)

  module _ (read : ℕ → List Symbol → Outcome X) (stands : TextStands language read) (syntax : SyntaxIsThere language read) (depth : DepthIsThere language read) where
    is_told : (bytes : List ℕ) (tokens : List Token) (result : Result F SyntaxFault)
        → IfOk result (λ x. (read 200 (symbols_of_tokens bytes tokens) ≡ Ok ((tree x).content, [])) × ((tree x).length ≡ length bytes))
        → IfErr result (λ e. Tells tokens (length bytes) e (read 200 (symbols_of_tokens bytes tokens))) → IsTold bytes tokens result
    is_told bytes tokens (Ok x) ok err = record { spelled = (stands 200 (symbols_of_tokens bytes tokens) (tree x).content [] ok.0).1; bytes_long = ok.1 }
    is_told bytes tokens (Err NoMemory) ok err = tt
    is_told bytes tokens (Err (Syntax at)) ok err = (err.0, syntax 200 (symbols_of_tokens bytes tokens) err.0 err.1, err.2)
    is_told bytes tokens (Err (TooDeep at)) ok err = (err.0, depth 200 (symbols_of_tokens bytes tokens) err.0 err.1, err.2)

    pub fails : OneAnswer language → (bytes : List ℕ) (tokens : List Token) (result : Result F SyntaxFault)
        → IfOk result (λ x. (read 200 (symbols_of_tokens bytes tokens) ≡ Ok ((tree x).content, [])) × ((tree x).length ≡ length bytes))
        → IfErr result (λ e. Tells tokens (length bytes) e (read 200 (symbols_of_tokens bytes tokens)))
        → (e : SyntaxFault) → IsAnswer language bytes tokens (Err e) → MatchResult result (λ x. ⊥) (λ f. (f ≡ e) ⊎ (f ≡ NoMemory))
    fails one bytes tokens result ok err = fault-told one bytes tokens result (is_told bytes tokens result ok err)
