-- From a refusal to its cause.
use Rattle.std.specs.Prelude.{◌≡◌, ◌≢◌, ◌↔◌, ℕ, List, Some, None, refl}
use Rattle.std.proofs.Common.{inl, inr, sym, subst, ◌∙◌}
use Rattle.kt_play.specs.declared.refusal.Refusal.{Refusal}
use Rattle.kt_play.specs.declared.refusal.Refusal.TheVariants as refusal
use Rattle.kt_play.specs.declared.report.RunFault.TheVariants as fault
use Rattle.kt_play.specs.declared.status.Status.{Status}
use Rattle.kt_play.specs.declared.status.Status.TheVariants.{Words}
use Rattle.kt_play.specs.Answer.{IsAnswer, IsTurnedAway}
use Rattle.kt_play.specs.Call.{Call}
use Rattle.kt_play.specs.Given.{Given}
use Rattle.kt_play.specs.Order.{order_of}
use Rattle.kt_play.specs.Refused.{IsNamed, IsCause}
use Rattle.kt_play.specs.Status.{refusal_answer}
use Rattle.kt_play.proofs.Headline.{run_or_refusal}
use Rattle.kt_play.proofs.StatusLemmas.{same_refusal, refusal_or_fault}

-- what is said of the files that the words name, said of these names
pub at_names : (words : List (List ℕ)) (P : List (List ℕ) → Type 0) (names : List (List ℕ)) → order_of words ≡ Some names → IsNamed words P → P names
at_names words P names e n = let o = n.order in let same : n.names ≡ names = cc in subst P same n.fact

pub no_name : (words names : List (List ℕ)) → order_of words ≡ Some names → order_of words ≡ None → ⊥
no_name words names e n = cc

-- the cause of what is refused
pub cause_of : (call : Call) (s : Status) → IsAnswer call s → (why : Refusal) → s ≡ refusal_answer why → IsCause why call.words call.given
cause_of call s (inl r) why e = absurd (run_or_refusal r.run why (sym r.answered ∙ e))
cause_of call s (inr (inl t)) why e =
    subst (λ (k : Refusal). IsCause k call.words call.given) (same_refusal t.why why (sym t.answered ∙ e)) t.cause
cause_of call s (inr (inr l)) why e = absurd (refusal_or_fault why fault.NoMemory (sym e ∙ l.answered))

-- words that are no order are refused as such
words_first : (words : List (List ℕ)) (given : Given) (why : Refusal) → IsCause why words given → order_of words ≡ None → why ≡ refusal.Words
words_first words given refusal.Words c e = refl
words_first words given (refusal.Read which) c e = absurd (no_name words c.names c.order e)
words_first words given (refusal.Long which) c e = absurd (no_name words c.names c.order e)
words_first words given (refusal.File n cause) c e = absurd (no_name words c.names c.order e)

-- what is refused, but words, is so of words that are an order
pub words_are_order : (words : List (List ℕ)) (given : Given) (why : Refusal) → IsCause why words given → why ≢ refusal.Words → order_of words ≢ None
words_are_order words given why c other e = other (words_first words given why c e)

words_refused : (call : Call) (s : Status) → IsAnswer call s → order_of call.words ≡ None → s ≡ Words
words_refused call s (inl r) e = absurd (no_name call.words r.accepted.names r.accepted.order e)
words_refused call s (inr (inl t)) e =
    t.answered ∙ (let is = words_first call.words call.given t.why t.cause e in subst (λ (k : Refusal). refusal_answer k ≡ Words) (sym is) refl)
words_refused call s (inr (inr l)) e = absurd (l.order e)

pub words : (call : Call) (s : Status) → IsAnswer call s → (s ≡ Words) ↔ (order_of call.words ≡ None)
words call s a = (cause_of call s a refusal.Words, words_refused call s a)
