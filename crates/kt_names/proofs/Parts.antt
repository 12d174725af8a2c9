-- Answers that typing gives: of what follows a part, and of two parts.
use Rattle.std.proofs.Common.{◌≡◌, subst, ◌==◌, nat_lt, ◌&&◌, ◌||◌, true≢false, ◌⊎◌, inl, inr, ℕ, Bool, true, false, List, [], ◌∷◌, ◌++◌, Result, Ok, Err, if◌then◌else◌, refl, sym, ap, ◌∙◌, arith, rules}
use Rattle.std.proofs.lemmas.Bool.Decides.{nat_tests}
use Rattle.kt_names.specs.declared.fault.CheckFault.{CheckFault}
use Rattle.kt_names.specs.declared.fault.CheckFault.TheVariants.{NoMemory}
use Rattle.kt_names.specs.Checked.{Checked, Faults, and_then, both, first, fault, least, is_before, with_faults, place_of, rank_of}
use Rattle.kt_names.specs.Judges.{Fails, Judges, JudgesAfter, is_memory, earlier, both_of}

-- ---- what follows a part

abbrev Carries : {A : Type 0} → CheckFault → Checked A → Type 0
Carries {A} f s = (fs : Faults) × (s ≡ Err fs) × (least fs.one fs.more ≡ f)

carries : {A : Type 0} (s : Checked A) (f : CheckFault) → first s ≡ Err f → Carries f s
carries (Ok x) f e = absurd cc
carries (Err fs) f e = (fs, refl, cc)

first-of : {A : Type 0} (s : Checked A) (fs : Faults) (f : CheckFault) → s ≡ Err fs → least fs.one fs.more ≡ f → first s ≡ Err f
first-of s fs f e d = ap first e ∙ ap Err d

-- a fault of the part is that of the whole
pub fails : {A B : Type 0} (s : Checked A) (k : A → Checked B) (f : CheckFault) → Fails f s → Fails f (and_then s k)
fails s k f (inl e) = inl e
fails s k f (inr e) =
    let (fs, is, l) = carries s f e in
    inr (first-of (and_then s k) fs f (ap (λ c. and_then c k) is) l)

-- want of memory fits everywhere
pub no_memory : {B : Type 0} (s : Checked B) (f : CheckFault) → f ≡ NoMemory → Fails f s
no_memory s f e = inl e

-- a fault that typing gives
pub faulty : {B : Type 0} (s : Checked B) (f : CheckFault) → s ≡ fault f → Fails f s
faulty s f e = inr (ap first e)

-- behind a part that is typed comes what follows it
pub follows : {A B : Type 0} (s : Checked A) (k : A → Checked B) (x : A) → s ≡ Ok x → and_then s k ≡ k x
follows s k x e = ap (λ (c : Checked _). and_then c k) e

pub judges-follows : {A X B : Type 0} (view : X → B) (result : Result X CheckFault) (s : Checked A) (k : A → Checked B) (x : A) → s ≡ Ok x → Judges view result (k x) → Judges view result (and_then s k)
judges-follows view (Ok y) s k x e h = follows s k x e ∙ h
judges-follows view (Err f) s k x e (inl h) = inl h
judges-follows view (Err f) s k x e (inr h) = inr (ap first (follows s k x e) ∙ h)

-- what follows a part, whatever that is judged against
pub after_typed : {A B X Y : Type 0} (part : X → A) (whole : Y → B) (r : Result X CheckFault) (x : X) (y : Result Y CheckFault) (k : A → Checked B) → r ≡ Ok x → Judges whole y (k (part x)) → JudgesAfter part r whole y k
after_typed part whole (Ok z) x y k e h s j =
    let same : z ≡ x = cc in
    judges-follows whole y s k (part x) (j ∙ ap (λ w. Ok (part w)) same) h
after_typed part whole (Err f) x y k e h s j = absurd cc

pub after_fault : {A B X : Type 0} (part : X → A) (r : Result X CheckFault) (f : CheckFault) (k : A → Checked B) → r ≡ Err f → (s : Checked A) → Judges part r s → Fails f (and_then s k)
after_fault part (Ok x) f k e s j = absurd cc
after_fault part (Err g) f k e s j =
    let same : g ≡ f = cc in
    fails s k f (subst (λ h. Fails h s) same j)

-- ---- the least fault

abbrev lesser : CheckFault → CheckFault → CheckFault
lesser f g = if is_before g f then g else f

abbrev before : ℕ → ℕ → ℕ → ℕ → Bool
before p r q s = nat_lt p q || ((p == q) && nat_lt r s)

chain : (p r q s t u : ℕ) → before q s p r ≡ true → before t u q s ≡ true → before t u p r ≡ true
chain p r q s t u a b = grind (arith, nat_tests)

apart : (p r q s t u : ℕ) → before q s p r ≡ false → before t u q s ≡ false → before t u p r ≡ false
apart p r q s t u a b = grind (arith, nat_tests)

module _ (test : CheckFault → CheckFault → Bool) where
  abbrev pick : CheckFault → CheckFault → CheckFault
  pick f g = if test g f then g else f

  pick-assoc : (f g h : CheckFault) (a b c : Bool) → test g f ≡ a → test h g ≡ b → test h f ≡ c → (a ≡ true → b ≡ true → c ≡ true) → (a ≡ false → b ≡ false → c ≡ false)
      → pick (pick f g) h ≡ pick f (pick g h)
  pick-assoc f g h true true true i j k up down = rw (i, j, k) refl
  pick-assoc f g h true true false i j k up down = absurd (true≢false (sym (up refl refl)))
  pick-assoc f g h true false c i j k up down = rw (i, j, i) refl
  pick-assoc f g h false true c i j k up down = rw (i, j, k) refl
  pick-assoc f g h false false true i j k up down = absurd (true≢false (down refl refl))
  pick-assoc f g h false false false i j k up down = rw (i, j, k, i) refl

lesser-assoc : (f g h : CheckFault) → lesser (lesser f g) h ≡ lesser f (lesser g h)
lesser-assoc f g h =
    pick-assoc is_before f g h _ _ _ refl refl refl (chain (place_of f) (rank_of f) (place_of g) (rank_of g) (place_of h) (rank_of h)) (apart (place_of f) (rank_of f) (place_of g) (rank_of g) (place_of h) (rank_of h))

least-lesser : (f g : CheckFault) (gs : List CheckFault) → least (lesser f g) gs ≡ lesser f (least g gs)
least-lesser f g [] = refl
least-lesser f g (h ∷ gs) = ap (λ x. least x gs) (lesser-assoc f g h) ∙ least-lesser f (lesser g h) gs

least-joined : (f g : CheckFault) (fs gs : List CheckFault) → least f (fs ++ g ∷ gs) ≡ lesser (least f fs) (least g gs)
least-joined f g [] gs = least-lesser f g gs
least-joined f g (h ∷ fs) gs = least-joined (lesser f h) g fs gs

-- ---- two parts

both-fail : (f g : CheckFault) (fs gs : Faults) (m n : Bool) → is_memory f ≡ m → is_memory g ≡ n → least fs.one fs.more ≡ f → least gs.one gs.more ≡ g
    → (is_memory (earlier f g) ≡ true) ⊎ (least fs.one (fs.more ++ gs.one ∷ gs.more) ≡ earlier f g)
both-fail f g fs gs true n i j d e = inl (rw (i) i)
both-fail f g fs gs false true i j d e = inl (rw (i, j) j)
both-fail f g fs gs false false i j d e = inr (rw (i, j) (least-joined fs.one gs.one fs.more gs.more ∙ rw (d, e) refl))

memory-is : (f : CheckFault) → is_memory f ≡ true → f ≡ NoMemory
memory-is f e = search rules

memory-right-by : (f g : CheckFault) (m : Bool) → is_memory f ≡ m → is_memory g ≡ true → is_memory (earlier f g) ≡ true
memory-right-by f g true i j = rw i i
memory-right-by f g false i j = rw (i, j) j

memory-right : (f g : CheckFault) → is_memory g ≡ true → is_memory (earlier f g) ≡ true
memory-right f g j = memory-right-by f g _ refl j

both-typed : {A B : Type 0} (s : Checked A) (t : Checked B) (x : A) (y : B) → s ≡ Ok x → t ≡ Ok y → both s t ≡ Ok (x, y)
unfolding both
both-typed s t x y i j = rw (i, j) refl

second-faulty : {A B : Type 0} (s : Checked A) (t : Checked B) (x : A) (gs : Faults) → s ≡ Ok x → t ≡ Err gs → both s t ≡ Err gs
unfolding both
second-faulty s t x gs i j = rw (i, j) refl

first-faulty : {A B : Type 0} (s : Checked A) (t : Checked B) (fs : Faults) (y : B) → s ≡ Err fs → t ≡ Ok y → both s t ≡ Err fs
unfolding both
first-faulty s t fs y i j = rw (i, j) refl

both-faulty : {A B : Type 0} (s : Checked A) (t : Checked B) (fs gs : Faults) → s ≡ Err fs → t ≡ Err gs → both s t ≡ Err (with_faults fs gs)
unfolding both
both-faulty s t fs gs i j = rw (i, j) refl

-- both parts are judged as they are one by one
pub judges-both : {A B X Y : Type 0} (v : X → A) (w : Y → B) (a : Result X CheckFault) (b : Result Y CheckFault) (s : Checked A) (t : Checked B)
    → Judges v a s → Judges w b t → Judges (λ x. (v x.0, w x.1)) (both_of a b) (both s t)
judges-both v w (Ok x) (Ok y) s t h k = both-typed s t (v x) (w y) h k
judges-both v w (Ok x) (Err g) s t h (inl k) = inl k
judges-both v w (Ok x) (Err g) s t h (inr k) =
    let (gs, is, l) = carries t g k in
    inr (first-of (both s t) gs g (second-faulty s t (v x) gs h is) l)
judges-both v w (Err f) (Ok y) s t (inl h) k = inl h
judges-both v w (Err f) (Ok y) s t (inr h) k =
    let (fs, is, l) = carries s f h in
    inr (first-of (both s t) fs f (first-faulty s t fs (w y) is k) l)
judges-both v w (Err f) (Err g) s t (inl h) k = inl (rw (h) refl)
judges-both v w (Err f) (Err g) s t (inr h) (inl k) = inl (memory-is _ (memory-right f g (ap is_memory k)))
judges-both v w (Err f) (Err g) s t (inr h) (inr k) =
    let (fs, is, l) = carries s f h in
    let (gs, at, m) = carries t g k in
    elim (both-fail f g fs gs _ _ refl refl l m) as (λ _. Fails (earlier f g) (both s t)) [
      | inl e ↦ inl (memory-is _ e)
      | inr e ↦ inr (first-of (both s t) (with_faults fs gs) (earlier f g) (both-faulty s t fs gs is at) e)
    ]

pub ruleset parts = (fails, follows, judges-follows, judges-both)

-- the answer of a call that judges both
pub judges-pair : {A B X Y : Type 0} (v : X → A) (w : Y → B) (a : Result X CheckFault) (b : Result Y CheckFault) (r : Result (X × Y) CheckFault) (s : Checked A) (t : Checked B)
    → r ≡ both_of a b → Judges v a s → Judges w b t → Judges (λ x. (v x.0, w x.1)) r (both s t)
judges-pair v w a b r s t e h k = subst (λ q. Judges (λ x. (v x.0, w x.1)) q (both s t)) (sym e) (judges-both v w a b s t h k)
