-- Laws of the same acts: both settle alike, and after a reply they do the same acts again.
use Rattle.std.specs.Prelude.{◌≡◌, ℕ, zero, suc, [], ◌∷◌}
use Rattle.std.proofs.Common.{◌∙◌, sym, subst}
use Rattle.kt_mem.specs.declared.steps.Reply.{Reply}
use Rattle.kt_mem.specs.declared.steps.Reply.TheVariants.{Done, Got, Trapped}
use Rattle.kt_meaning.specs.Steps.{Step, Quiet, Acts, Traps, Ends, IsHead, Comes, after_reply}
use Rattle.kt_code.specs.Agreement.{Kind, IsAnswer, IsReplyTo, SameHead, Settled, AgreeOn, DoesSameActs, OnAnswers, Agree}

-- ---- settling is unique

no-quiet-head : {X : Type 0} (s : Step X) (x : X) → s ≡ Quiet x → IsHead s → ⊥
no-quiet-head s x e h = subst (λ t. IsHead t) e h

same-quiet : {X : Type 0} (s : Step X) (x y : X) → s ≡ Quiet x → s ≡ Quiet y → x ≡ y
same-quiet s x y d e = cc

-- quiet steps lead to one state whose step is no quiet one
pub comes-once : {X : Type 0} (step : X → Step X) (k l : ℕ) (x y z : X) → Comes step k x y → IsHead (step y) → Comes step l x z → IsHead (step z) → y ≡ z
comes-once step zero zero x y z c h d i = sym c ∙ d
comes-once step zero (suc l) x y z c h d i = absurd (no-quiet-head (step x) d.0 d.1 (subst (λ u. IsHead (step u)) (sym c) h))
comes-once step (suc k) zero x y z c h d i = absurd (no-quiet-head (step x) c.0 c.1 (subst (λ u. IsHead (step u)) (sym d) i))
comes-once step (suc k) (suc l) x y z c h d i =
    let same = same-quiet (step x) d.0 c.0 d.1 c.1 in
    comes-once step k l c.0 y z c.2 h (subst (λ u. Comes step l u z) same d.2) i

pub same-head-left : {X Y : Type 0} (s : Step X) (t : Step Y) → SameHead s t → IsHead s
same-head-left (Quiet x) t h = absurd h
same-head-left (Acts a f) t h = tt
same-head-left (Traps e) t h = tt
same-head-left (Ends a) t h = tt

pub same-head-right : {X Y : Type 0} (s : Step X) (t : Step Y) → SameHead s t → IsHead t
same-head-right s (Acts a f) h = tt
same-head-right s (Traps e) h = tt
same-head-right s (Ends a) h = tt
same-head-right s (Quiet x) h = absurd (quiet-right s x h)
  where
    quiet-right : {X Y : Type 0} (s : Step X) (x : Y) → SameHead s (Quiet x) → ⊥
    quiet-right (Quiet y) x h = h
    quiet-right (Acts a f) x h = h
    quiet-right (Traps e) x h = h
    quiet-right (Ends a) x h = h

-- states that stand alike: at the same head, and Q holds of them
pub record Stand (A B : Kind) (Q : A.State → B.State → Type 0) (p : A.State) (q : B.State) : Type 0 where
  pub look : A.look p ≡ B.look q
  pub head : SameHead (A.step p) (B.step q)
  pub onward : Q p q

module _ (A B : Kind) where
  stand-at : (Q : A.State → B.State → Type 0) (p p' : A.State) (q q' : B.State) → p ≡ p' → q ≡ q' → Stand A B Q p q → Stand A B Q p' q'
  stand-at Q p p' q q' d e h = subst (λ u. Stand A B Q p' u) e (subst (λ u. Stand A B Q u q) d h)

  -- whatever states both settle to, they stand alike
  pub settled-stand : (Q : A.State → B.State → Type 0) (k l : ℕ) (x p : A.State) (y q : B.State) → Comes A.step k x p → IsHead (A.step p) →
      Comes B.step l y q → IsHead (B.step q) → Settled A B Q x y → Stand A B Q p q
  settled-stand Q k l x p y q c i d j h =
      let first = comes-once A.step h.left_count k x h.left p h.left_comes (same-head-left (A.step h.left) (B.step h.right) h.head) c i in
      let second = comes-once B.step h.right_count l y h.right q h.right_comes (same-head-right (A.step h.left) (B.step h.right) h.head) d j in
      stand-at Q h.left p h.right q first second (record { look = h.look; head = h.head; onward = h.onward })

  -- after a reply of the act's kind they do the same acts again
  pub same_acts-reply : (k l : ℕ) (x p : A.State) (y q : B.State) → Comes A.step k x p → IsHead (A.step p) → Comes B.step l y q → IsHead (B.step q) →
      DoesSameActs A B x y → (r : Reply) → IsReplyTo (A.step p) r → DoesSameActs A B (after_reply p (A.step p) r) (after_reply q (B.step q) r)
  same_acts-reply k l x p y q c i d j h r is = λ rs.
      (settled-stand (λ p q. IsReplyTo (A.step p) r → AgreeOn A B rs (after_reply p (A.step p) r) (after_reply q (B.step q) r)) k l x p y q c i d j (h (r ∷ rs))).onward is

  -- ---- and agree by the number of replies

  on-answers : (n : ℕ) (p : A.State) (q : B.State) (s : Step A.State) (t : Step B.State) →
      ((r : Reply) → IsReplyTo s r → DoesSameActs A B (after_reply p s r) (after_reply q t r)) →
      ((x : A.State) (y : B.State) → DoesSameActs A B x y → Agree A B n x y) → OnAnswers (Agree A B n) s t
  on-answers n p q (Acts a f) (Acts b g) h later = λ r is. by_reply r is
    where
      by_reply : (r : Reply) → IsAnswer a r → Agree A B n (f r) (g r)
      by_reply Done is = later (f Done) (g Done) (h Done is)
      by_reply (Got v) is = later (f (Got v)) (g (Got v)) (h (Got v) is)
      by_reply (Trapped t) is = absurd is
  on-answers n p q s t h later = tt

  pub same_acts-agree : (n : ℕ) (x : A.State) (y : B.State) → DoesSameActs A B x y → Agree A B n x y
  same_acts-agree zero x y h = tt
  same_acts-agree (suc n) x y h =
      let at = h [] in
      let reply = same_acts-reply at.left_count at.right_count x at.left y at.right at.left_comes (same-head-left (A.step at.left) (B.step at.right) at.head)
      at.right_comes (same-head-right (A.step at.left) (B.step at.right) at.head) h in
      record {
        left = at.left;
        right = at.right;
        left_count = at.left_count;
        right_count = at.right_count;
        left_comes = at.left_comes;
        right_comes = at.right_comes;
        look = at.look;
        head = at.head;
        onward = on-answers n at.left at.right (A.step at.left) (B.step at.right) reply (same_acts-agree n);
      }
