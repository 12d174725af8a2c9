-- Both directions of an answer, from what was read.
use Rattle.std.proofs.Common.{◌≡◌, ◌≢◌, ◌⊎◌, inl, inr, List, Result, Ok, Err, Vec, Global, sym, ◌∙◌}
use Rattle.std.specs.Prelude.{MatchResult, IfOk, IfErr}
use Rattle.kt_lex.specs.declared.token.Token.{Token}
use Rattle.kt_lex.specs.declared.token.LexFault.{LexFault}
use Rattle.kt_lex.specs.declared.token.LexFault.TheVariants.{NoMemory}

-- an answer is what was read, or want of memory
abbrev pub Answers : Result (Vec Token Global) LexFault → Result (List Token) LexFault → Type 0
Answers result read = MatchResult result (λ v. read ≡ Ok v.items) (λ e. (read ≡ Err e) ⊎ (e ≡ NoMemory))

pub answers-tokens : (result : Result (Vec Token Global) LexFault) (read : Result (List Token) LexFault) → Answers result read → IfOk result (λ v. read ≡ Ok v.items)
answers-tokens (Ok v) read h = h
answers-tokens (Err e) read h = tt

pub answers-fault : (result : Result (Vec Token Global) LexFault) (read : Result (List Token) LexFault) → Answers result read → IfErr result (λ e. e ≢ NoMemory → read ≡ Err e)
answers-fault (Ok v) read h = tt
answers-fault (Err e) read (inl is) = λ _. is
answers-fault (Err e) read (inr none) = λ other. absurd (other none)

pub answers-succeeds : (result : Result (Vec Token Global) LexFault) (read : Result (List Token) LexFault) → Answers result read → (tokens : List Token) → read ≡ Ok tokens → MatchResult result (λ v. v.items ≡ tokens) (λ e. e ≡ NoMemory)
answers-succeeds (Ok v) read h tokens is = let e : ◌≡◌ {A = Result (List Token) LexFault} (Ok v.items) (Ok tokens) = sym h ∙ is in cc
answers-succeeds (Err e) read (inl fault) tokens is = absurd (let e : ◌≡◌ {A = Result (List Token) LexFault} (Err e) (Ok tokens) = sym fault ∙ is in cc)
answers-succeeds (Err e) read (inr none) tokens is = none

pub answers-fails : (result : Result (Vec Token Global) LexFault) (read : Result (List Token) LexFault) → Answers result read → (fault : LexFault) → read ≡ Err fault → MatchResult result (λ v. ⊥) (λ e. (e ≡ fault) ⊎ (e ≡ NoMemory))
answers-fails (Ok v) read h fault is = let e : ◌≡◌ {A = Result (List Token) LexFault} (Ok v.items) (Err fault) = sym h ∙ is in cc
answers-fails (Err e) read (inl was) fault is = inl (let e : ◌≡◌ {A = Result (List Token) LexFault} (Err e) (Err fault) = sym was ∙ is in cc)
answers-fails (Err e) read (inr none) fault is = inr none
