-- What `parse` answers where the tokens have a fault.
use Rattle.std.specs.Prelude.{◌≡◌, ℕ, ◌⊎◌, List, [], length, Result, Ok, Err, MatchResult, IfOk, IfErr}
use Rattle.std.proofs.Common.{inl, inr, refl}
use Rattle.kt_lex.specs.declared.token.Token.{Token}
use Rattle.kt_grammar.specs.Symbols.{symbols_of_tokens}
use Rattle.kt_syntax.specs.Tree.{tree_of}
use Rattle.kt_syntax.specs.File.{IsTree}
use Rattle.kt_syntax.specs.Reading.{file_at}
use Rattle.kt_syntax.specs.StandLaws.{FileStands}
use Rattle.kt_syntax.specs.FaultPlaces.{SyntaxIsThere, DepthIsThere}
use Rattle.kt_syntax.specs.Places.{Tells}
use Rattle.kt_syntax.specs.Answer.{IsAnswer, OneAnswer}
use Rattle.kt_syntax.specs.declared.tree.File.{File}
use Rattle.kt_syntax.specs.declared.fault.SyntaxFault.{SyntaxFault}
use Rattle.kt_syntax.specs.declared.fault.SyntaxFault.TheVariants.{Syntax, TooDeep, NoMemory}

-- what is answered is that of the tokens, or want of memory
abbrev IsTold : List ℕ → List Token → Result File SyntaxFault → Type 0
IsTold bytes tokens (Ok x) = IsTree bytes tokens (tree_of x)
IsTold bytes tokens (Err NoMemory) = Unit {0}
IsTold bytes tokens (Err e) = IsAnswer bytes tokens (Err e)

-- a fault of the tokens is told, unless memory runs out
fault-told : OneAnswer → (bytes : List ℕ) (tokens : List Token) (result : Result File SyntaxFault) → IsTold bytes tokens result
    → (e : SyntaxFault) → IsAnswer bytes tokens (Err e) → MatchResult result (λ x. ⊥) (λ f. (f ≡ e) ⊎ (f ≡ NoMemory))
fault-told one bytes tokens (Ok x) h e is = let same = one bytes tokens (Ok (tree_of x)) (Err e) h is in cc
fault-told one bytes tokens (Err NoMemory) h e is = inr refl
fault-told one bytes tokens (Err (Syntax at)) h e is = inl (let same = one bytes tokens (Err (Syntax at)) (Err e) h is in cc)
fault-told one bytes tokens (Err (TooDeep at)) h e is = inl (let same = one bytes tokens (Err (TooDeep at)) (Err e) h is in cc)

module _ (stands : FileStands) (syntax : SyntaxIsThere) (depth : DepthIsThere) where
  is_told : (bytes : List ℕ) (tokens : List Token) (result : Result File SyntaxFault)
      → IfOk result (λ x. (file_at 200 (symbols_of_tokens bytes tokens) ≡ Ok ((tree_of x).externals, [])) × (x.length ≡ length bytes))
      → IfErr result (λ e. Tells tokens (length bytes) e (file_at 200 (symbols_of_tokens bytes tokens))) → IsTold bytes tokens result
  is_told bytes tokens (Ok x) ok err = record { spelled = (stands 200 (symbols_of_tokens bytes tokens) (tree_of x).externals [] ok.0).1; bytes_long = ok.1 }
  is_told bytes tokens (Err NoMemory) ok err = tt
  is_told bytes tokens (Err (Syntax at)) ok err = (err.0, syntax 200 (symbols_of_tokens bytes tokens) err.0 err.1, err.2)
  is_told bytes tokens (Err (TooDeep at)) ok err = (err.0, depth 200 (symbols_of_tokens bytes tokens) err.0 err.1, err.2)

  pub fails : OneAnswer → (bytes : List ℕ) (tokens : List Token) (result : Result File SyntaxFault)
      → IfOk result (λ x. (file_at 200 (symbols_of_tokens bytes tokens) ≡ Ok ((tree_of x).externals, [])) × (x.length ≡ length bytes))
      → IfErr result (λ e. Tells tokens (length bytes) e (file_at 200 (symbols_of_tokens bytes tokens)))
      → (e : SyntaxFault) → IsAnswer bytes tokens (Err e) → MatchResult result (λ x. ⊥) (λ f. (f ≡ e) ⊎ (f ≡ NoMemory))
  fails one bytes tokens result ok err = fault-told one bytes tokens result (is_told bytes tokens result ok err)
