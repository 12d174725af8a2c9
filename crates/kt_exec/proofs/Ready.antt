-- What the next instruction of a state that fits has.
use Rattle.std.specs.Prelude.{◌≡◌, ℕ, suc, ◌<◌, List, [], ◌∷◌, length, slice_get, Option, None, Some, refl}
use Rattle.std.proofs.Common.{sym, ap, subst, ◌∙◌}
use Rattle.std.proofs.lemmas.Option.{slice_get_within}
use Rattle.kt_mem.specs.declared.memory.Value.{Value}
use Rattle.kt_meaning.specs.Steps.{Quiet}
use Rattle.kt_code.specs.Code.{Code}
use Rattle.kt_code.specs.Machine.{step}
use Rattle.kt_code.specs.Settling.{HasNext, HasEach, Fits}
use Rattle.kt_code.specs.declared.frame.Frame.{Frame}
use Rattle.kt_code.specs.declared.instr.Instr.{Instr}
use Rattle.kt_code.specs.declared.private.Private.{Private}
use Rattle.kt_exec.specs.Apart.{whole, HasOperands}

-- it has its operands
pub has-operands : (c : Code) (f : Frame) (p : Private) → HasNext c (whole f p) → HasOperands (slice_get c.instrs f.at) p.operands
has-operands c f p h =
    let same : f ≡ h.frame = first-same f h.frame p.frames h.below h.first in
    subst (λ o. HasOperands o p.operands) (sym (ap (λ g. slice_get c.instrs g.at) same ∙ h.place)) h.operands
  where
    first-same : (f g : Frame) (fs gs : List Frame) → f ∷ fs ≡ g ∷ gs → f ≡ g
    first-same f g fs gs e = cc

-- and its place
pub within-code : (instrs : List Instr) (at : ℕ) (ops : List Value) → HasOperands (slice_get instrs at) ops → at < length instrs
within-code instrs at ops h = by (slice_get instrs at) refl h
  where
    by : (o : Option Instr) → slice_get instrs at ≡ o → HasOperands o ops → at < length instrs
    by None e h = absurd h
    by (Some i) e h = slice_get_within instrs at i e

-- where each instruction has its place and operands, so has the next one
pub each-next : (c : Code) (p : Private) → HasEach c p → HasNext c p
each-next c p h = h 0 p refl

pub fits-each : (c : Code) (p : Private) → Fits c p → HasEach c p
fits-each c p h = (h 1).0

-- also behind a quiet step
pub each-on : (c : Code) (p q : Private) → step c p ≡ Quiet q → HasEach c p → HasEach c q
each-on c p q e h = λ k r on. h (suc k) r (q, e, on)

-- a call is open
pub fits-open : (c : Code) (p : Private) → Fits c p → p.frames ≡ [] → ⊥
fits-open c p h e =
    let next = each-next c p (fits-each c p h) in
    none-some next.frame next.below (sym e ∙ next.first)
  where
    none-some : (f : Frame) (fs : List Frame) → [] ≡ f ∷ fs → ⊥
    none-some f fs e = cc
