-- Settled states: what settles to the same, and what fits code.
use Rattle.std.specs.Prelude.{◌≡◌, ℕ, suc, Some, refl}
use Rattle.std.proofs.Common.{sym, subst, ◌∙◌}
use Rattle.kt_mem.specs.declared.steps.Act.{Act}
use Rattle.kt_mem.specs.declared.steps.Reply.{Reply}
use Rattle.kt_mem.specs.declared.steps.Reply.TheVariants.{Done, Got, Trapped}
use Rattle.kt_mem.specs.declared.steps.Trap.{Trap}
use Rattle.kt_meaning.specs.Requests.{IsReplyOf}
use Rattle.kt_meaning.specs.Steps.{Step, Quiet, Acts, Traps, Ends, IsHead}
use Rattle.kt_meaning.proofs.Settling.{settle_by-rests, settle_by-quiet}
use Rattle.kt_code.specs.Agreement.{IsAnswer, IsReplyTo}
use Rattle.kt_code.specs.Code.{Code}
use Rattle.kt_code.specs.Machine.{step}
use Rattle.kt_code.specs.Settling.{HasJumps, weight, settle, head_of, IsAct, FitsHead, FitsFor, Fits}
use Rattle.kt_code.specs.declared.private.Head.{Head}
use Rattle.kt_code.specs.declared.private.Private.{Private}
use Rattle.kt_code.proofs.CodeSettling.{step-IsLowering}
use Rattle.kt_code.proofs.Fitting.{fits-settled}
use Rattle.kt_exec.specs.Apart.{EndsInInt, GoesOn}

-- a step that has a head is no quiet one
pub head_of-IsHead : (s : Step Private) (h : Head) → head_of s ≡ Some h → IsHead s
head_of-IsHead (Quiet y) h e = absurd cc
head_of-IsHead (Acts a go) h e = tt
head_of-IsHead (Traps t) h e = tt
head_of-IsHead (Ends a) h e = tt

-- settling stays where the step is not quiet, and passes a quiet one
pub settle-rests : (c : Code) (p : Private) → IsHead (step c p) → settle c p ≡ p
unfolding settle
settle-rests c p h = settle_by-rests (step c) (weight c) p h

pub settle-quiet : (c : Code) → HasJumps c.instrs → (p q : Private) → step c p ≡ Quiet q → settle c p ≡ settle c q
unfolding settle
settle-quiet c jumps p q e = settle_by-quiet (step c) (weight c) (step-IsLowering c jumps) p q e

-- where the step is no quiet one, it is the one that is said to fit
fits-at : (c : Code) (p q : Private) (n : ℕ) → settle c p ≡ settle c q → IsHead (step c q) → Fits c p → FitsHead (FitsFor c n) (step c q)
fits-at c p q n e head h = subst (λ s. FitsHead (FitsFor c n) (step c s)) (e ∙ settle-rests c q head) ((h (suc n)).1)

fits-here : (c : Code) (p : Private) (n : ℕ) → IsHead (step c p) → Fits c p → FitsHead (FitsFor c n) (step c p)
fits-here c p n head h = fits-at c p p n refl head h

ends-in-int : (c : Code) (p q : Private) (s : Step Private) → step c q ≡ s → settle c p ≡ settle c q → Fits c p → EndsInInt s
ends-in-int c p q (Quiet y) e same h = tt
ends-in-int c p q (Acts a go) e same h = tt
ends-in-int c p q (Traps t) e same h = tt
ends-in-int c p q (Ends a) e same h =
    subst (FitsHead (FitsFor c 0)) e (fits-at c p q 0 same (subst IsHead (sym e) tt) h)

-- what `main` returns is an `int`, also where quiet steps have led from a state that fits
pub fits-ends : (c : Code) (p q : Private) → settle c p ≡ settle c q → Fits c p → EndsInInt (step c q)
fits-ends c p q same h = ends-in-int c p q (step c q) refl same h

-- where a thread goes on after a reply, it fits again
fits_for-after : (c : Code) (p : Private) (a : Act) (go : Reply → Private) (r : Reply) → step c p ≡ Acts a go → Fits c p →
    IsAnswer a r → (n : ℕ) → FitsFor c n (go r)
fits_for-after c p a go r e h is n =
    let told : FitsHead (FitsFor c n) (Acts a go) = subst (FitsHead (FitsFor c n)) e (fits-here c p n (subst IsHead (sym e) tt) h) in
    told r is

is-answer : (a : Act) (r : Reply) → IsReplyOf a r → ((t : Trap) → r ≡ Trapped t → ⊥) → IsAnswer a r
is-answer a Done h free = h
is-answer a (Got v) h free = h
is-answer a (Trapped t) h free = free t refl

goes-on-fits : (c : Code) (p q : Private) (r : Reply) (s : Step Private) → step c p ≡ s → IsAct s → IsReplyTo s r → Fits c p →
    ((t : Trap) → r ≡ Trapped t → ⊥) → GoesOn s r q → Fits c q
goes-on-fits c p q r (Quiet y) e act is h free on = absurd act
goes-on-fits c p q r (Acts a go) e act is h free on =
    subst (Fits c) (sym on) (fits_for-after c p a go r e h (is-answer a r is free))
goes-on-fits c p q r (Traps t) e act is h free on = absurd act
goes-on-fits c p q r (Ends a) e act is h free on = absurd act

pub fits-after : (c : Code) (p q : Private) (r : Reply) → IsAct (step c p) → IsReplyTo (step c p) r → Fits c p →
    ((t : Trap) → r ≡ Trapped t → ⊥) → GoesOn (step c p) r q → Fits c q
fits-after c p q r act is h free on = goes-on-fits c p q r (step c p) refl act is h free on

-- what was settled to fits
pub fits-stands : (c : Code) (p q : Private) → q ≡ settle c p → Fits c p → Fits c q
fits-stands c p q e fits = subst (Fits c) (sym e) (fits-settled c p fits)
