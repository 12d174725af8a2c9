-- Where the quiet steps of a thread end.
use Rattle.std.specs.Prelude.{◌≡◌, List, ◌∷◌, slice_get, Err}
use Rattle.std.proofs.Common.{sym, ap, subst, ◌∙◌}
use Rattle.kt_meaning.specs.Steps.{IsHead}
use Rattle.kt_code.specs.Code.{Code}
use Rattle.kt_code.specs.Machine.{step}
use Rattle.kt_code.specs.Settling.{settle}
use Rattle.kt_code.specs.declared.frame.Frame.{Frame}
use Rattle.kt_code.specs.declared.private.Private.{Private}
use Rattle.kt_exec.specs.Apart.{whole, HasOperands, StopsAt, IsTried, HasSettled, HasHalted}
use Rattle.kt_exec.specs.declared.went.Halt.{Halt}
use Rattle.kt_exec.specs.declared.went.Halt.TheVariants as halt
use Rattle.kt_exec.proofs.Settled.{settle-rests}

frame-same : (f g : Frame) (fs gs : List Frame) → g ∷ gs ≡ f ∷ fs → g ≡ f
frame-same f g fs gs e = cc

-- where the thread stands
pub has-settled : (c : Code) (x : Private) (f g : Frame) (p q : Private) → StopsAt (slice_get c.instrs f.at) → whole g q ≡ whole f p →
    IsHead (step c (whole f p)) → settle c (whole f p) ≡ settle c x → HasOperands (slice_get c.instrs f.at) p.operands → HasSettled c x g q
has-settled c x f g p q stops e head same operands =
    let frame : g ≡ f = frame-same f g p.frames q.frames (ap (λ s. s.frames) e) in
    let ops = ap (λ s. s.operands) e in
    let placed = subst (λ g. HasOperands (slice_get c.instrs g.at) p.operands) (sym frame) operands in (
      e ∙ sym (settle-rests c (whole f p) head) ∙ same,
      subst (λ s. IsHead (step c s)) (sym e) head,
      subst (λ ops. HasOperands (slice_get c.instrs g.at) ops) (sym ops) placed,
      subst (λ g. StopsAt (slice_get c.instrs g.at)) (sym frame) stops,
    )

-- where its steps break off
pub has-halted : (May : Type 0) (c : Code) (x : Private) (f g : Frame) (p q : Private) (e : Halt) →
    IsTried May (step c (whole f p)) (whole f p) (whole g q) (Err e) → settle c (whole f p) ≡ settle c x → HasHalted c x g q e
has-halted May c x f g p q (halt.Trap t) told same =
    (told.0 ∙ sym (settle-rests c (whole f p) (subst (λ s. IsHead s) (sym told.1) tt)) ∙ same, ap (step c) told.0 ∙ told.1)
has-halted May c x f g p q (halt.NoMemory e) told same = tt
