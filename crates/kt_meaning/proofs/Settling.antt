-- Laws of settling: it passes quiet steps, it stops at the first step that is not quiet, and it ends in one state alone.
use Rattle.std.specs.Prelude.{◌≡◌, ℕ, zero, suc, ◌≤◌, refl}
use Rattle.std.proofs.Common.{arith, ◌∙◌, sym, ap, subst}
use Rattle.kt_meaning.specs.Steps.{Step, Quiet, Acts, Traps, Ends, IsHead, Comes, or_rest, settle_within, settle_by, IsLowering, Settles}

rests : {X : Type 0} (later : X → X) (x : X) (s : Step X) → IsHead s → or_rest later x s ≡ x
rests later x (Quiet y) h = absurd h
rests later x (Acts a go) h = refl
rests later x (Traps t) h = refl
rests later x (Ends a) h = refl

-- it stays where the step is not quiet
pub settle_within-rests : {X : Type 0} (step : X → Step X) (n : ℕ) (x : X) → IsHead (step x) → settle_within step n x ≡ x
settle_within-rests step zero x h = refl
settle_within-rests step (suc n) x h = rests (settle_within step n) x (step x) h

pub settle_by-rests : {X : Type 0} (step : X → Step X) (weight : X → ℕ) (x : X) → IsHead (step x) → settle_by step weight x ≡ x
settle_by-rests step weight x h = settle_within-rests step (weight x) x h

-- a step that isn't quiet where the measure is 0
still : {X : Type 0} (step : X → Step X) (weight : X → ℕ) → IsLowering step weight → (x : X) (s : Step X) →
    weight x ≤ 0 → step x ≡ s → IsHead s
still step weight l x (Quiet y) h e = let lower = l.lower x y e in absurd (omega arith)
still step weight l x (Acts a go) h e = tt
still step weight l x (Traps t) h e = tt
still step weight l x (Ends a) h e = tt

at_rest : {X : Type 0} (step : X → Step X) (weight : X → ℕ) → IsLowering step weight → (x : X) → weight x ≤ 0 → IsHead (step x)
at_rest step weight l x h = still step weight l x (step x) h refl

-- as many quiet steps as the measure lead to a step that is not quiet
ends_after : {X : Type 0} (step : X → Step X) (weight : X → ℕ) → IsLowering step weight → (n : ℕ) (x : X) (s : Step X) →
    weight x ≤ suc n → step x ≡ s → ((y : X) → weight y ≤ n → IsHead (step (settle_within step n y))) →
    IsHead (step (or_rest (settle_within step n) x s))
ends_after step weight l n x (Quiet y) h e later =
    let lower = l.lower x y e in
    let low : weight y ≤ n = omega arith in
    later y low
ends_after step weight l n x (Acts a go) h e later = subst IsHead (sym e) tt
ends_after step weight l n x (Traps t) h e later = subst IsHead (sym e) tt
ends_after step weight l n x (Ends a) h e later = subst IsHead (sym e) tt

pub settle_within-head : {X : Type 0} (step : X → Step X) (weight : X → ℕ) → IsLowering step weight → (n : ℕ) (x : X) →
    weight x ≤ n → IsHead (step (settle_within step n x))
settle_within-head step weight l zero x h = at_rest step weight l x h
settle_within-head step weight l (suc n) x h =
    ends_after step weight l n x (step x) h refl (λ y. settle_within-head step weight l n y)

-- a place in a run of quiet steps
record Reached {X : Type 0} (step : X → Step X) (x y : X) : Type 0 where
  count : ℕ
  comes : Comes step count x y

here : {X : Type 0} (step : X → Step X) (x : X) → Reached step x x
here step x = record { count = 0; comes = refl }

earlier : {X : Type 0} (step : X → Step X) (x y z : X) → step x ≡ Quiet y → Reached step y z → Reached step x z
earlier step x y z e r = record { count = suc r.count; comes = (y, e, r.comes) }

reaches_after : {X : Type 0} (step : X → Step X) (n : ℕ) (x : X) (s : Step X) → step x ≡ s →
    ((y : X) → Reached step y (settle_within step n y)) → Reached step x (or_rest (settle_within step n) x s)
reaches_after step n x (Quiet y) e later = earlier step x y (settle_within step n y) e (later y)
reaches_after step n x (Acts a go) e later = here step x
reaches_after step n x (Traps t) e later = here step x
reaches_after step n x (Ends a) e later = here step x

reaches : {X : Type 0} (step : X → Step X) (n : ℕ) (x : X) → Reached step x (settle_within step n x)
reaches step zero x = here step x
reaches step (suc n) x = reaches_after step n x (step x) refl (λ y. reaches step n y)

-- two numbers of steps that both suffice lead to one state
same_after : {X : Type 0} (step : X → Step X) (weight : X → ℕ) → IsLowering step weight → (m n : ℕ) (x : X) (s : Step X) →
    weight x ≤ suc m → weight x ≤ suc n → step x ≡ s →
    ((y : X) → weight y ≤ m → weight y ≤ n → settle_within step m y ≡ settle_within step n y) →
    or_rest (settle_within step m) x s ≡ or_rest (settle_within step n) x s
same_after step weight l m n x (Quiet y) h k e later =
    let lower = l.lower x y e in
    let low : weight y ≤ m = omega arith in
    let low' : weight y ≤ n = omega arith in
    later y low low'
same_after step weight l m n x (Acts a go) h k e later = refl
same_after step weight l m n x (Traps t) h k e later = refl
same_after step weight l m n x (Ends a) h k e later = refl

pub settle_within-enough : {X : Type 0} (step : X → Step X) (weight : X → ℕ) → IsLowering step weight → (m n : ℕ) (x : X) →
    weight x ≤ m → weight x ≤ n → settle_within step m x ≡ settle_within step n x
settle_within-enough step weight l zero n x h k = sym (settle_within-rests step n x (at_rest step weight l x h))
settle_within-enough step weight l (suc m) zero x h k = settle_within-rests step (suc m) x (at_rest step weight l x k)
settle_within-enough step weight l (suc m) (suc n) x h k =
    same_after step weight l m n x (step x) h k refl (λ y. settle_within-enough step weight l m n y)

-- settling passes a quiet step
pub settle_by-quiet : {X : Type 0} (step : X → Step X) (weight : X → ℕ) → IsLowering step weight → (x y : X) →
    step x ≡ Quiet y → settle_by step weight x ≡ settle_by step weight y
settle_by-quiet step weight l x y e =
    let lower = l.lower x y e in
    let here : weight x ≤ suc (weight x) = omega arith in
    let same : weight x ≤ weight x = omega arith in
    let low : weight y ≤ weight x = omega arith in
    let there : weight y ≤ weight y = omega arith in
    settle_within-enough step weight l (weight x) (suc (weight x)) x same here
    ∙ ap (or_rest (settle_within step (weight x)) x) e
    ∙ settle_within-enough step weight l (weight x) (weight y) y low there

-- whatever quiet steps lead to a step that is not quiet lead to the settled state
pub settle_by-only : {X : Type 0} (step : X → Step X) (weight : X → ℕ) → IsLowering step weight → (k : ℕ) (x z : X) →
    Comes step k x z → IsHead (step z) → z ≡ settle_by step weight x
settle_by-only step weight l zero x z c h =
    subst (λ y. z ≡ settle_by step weight y) (sym c) (sym (settle_by-rests step weight z h))
settle_by-only step weight l (suc k) x z c h =
    settle_by-only step weight l k (c.0) z (c.2) h ∙ sym (settle_by-quiet step weight l x (c.0) (c.1))

-- settling ends in one act, trap or end, after quiet steps alone
pub settle_by-settles : {X : Type 0} (step : X → Step X) (weight : X → ℕ) → IsLowering step weight → (x : X) →
    Settles step x (settle_by step weight x)
settle_by-settles step weight l x =
    let r = reaches step (weight x) x in
    let same : weight x ≤ weight x = omega arith in
    record {
      count = r.count;
      comes = r.comes;
      head = settle_within-head step weight l (weight x) x same;
      only = λ k z c h. settle_by-only step weight l k x z c h;
    }
