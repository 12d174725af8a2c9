-- Laws of agreement: quiet steps may be put before; an act, a trap or an end on both sides; fewer replies; lists of replies.
use Rattle.std.specs.Prelude.{◌≡◌, ℕ, zero, suc, ◌+◌, ◌-◌, ◌<◌, ◌≤◌, List, [], ◌∷◌, length, refl}
use Rattle.std.proofs.Common.{arith, sym, subst}
use Rattle.kt_mem.specs.declared.steps.Act.{Act}
use Rattle.kt_mem.specs.declared.steps.Reply.{Reply}
use Rattle.kt_mem.specs.declared.steps.Reply.TheVariants.{Done, Got, Trapped}
use Rattle.kt_mem.specs.declared.steps.Trap.{Trap}
use Rattle.kt_meaning.specs.Steps.{Step, Quiet, Acts, Traps, Ends, Comes, after_reply}
use Rattle.kt_code.specs.Agreement.{Kind, IsAnswer, IsReplyTo, SameHead, Settled, AgreeOn, DoesSameActs, OnAnswers, Agree}

-- after each answer what holds of fewer replies holds too
fewer-answers : {X Y : Type 0} (P Q : X → Y → Type 0) → ((x : X) (y : Y) → P x y → Q x y) → (s : Step X) (t : Step Y) →
    OnAnswers P s t → OnAnswers Q s t
fewer-answers P Q h (Acts a f) (Acts b g) k = λ r is. h (f r) (g r) (k r is)
fewer-answers P Q h s t k = tt

-- two heads put in place of what the two do next
put-heads : {X Y : Type 0} (s s' : Step X) (t t' : Step Y) → s ≡ s' → t ≡ t' → SameHead s' t' → SameHead s t
put-heads s s' t t' d e h = subst (λ u. SameHead u t) (sym d) (subst (λ u. SameHead s' u) (sym e) h)

put-answers : {X Y : Type 0} (P : X → Y → Type 0) (s s' : Step X) (t t' : Step Y) → s ≡ s' → t ≡ t' → OnAnswers P s' t' → OnAnswers P s t
put-answers P s s' t t' d e h = subst (λ u. OnAnswers P u t) (sym d) (subst (λ u. OnAnswers P s' u) (sym e) h)

module _ (A B : Kind) where
  -- both stand at the same head
  pub settled-here : (Q : A.State → B.State → Type 0) (x : A.State) (y : B.State) → A.look x ≡ B.look y → SameHead (A.step x) (B.step y) → Q x y →
      Settled A B Q x y
  settled-here Q x y l h q = record { left = x; right = y; left_count = 0; right_count = 0; left_comes = refl; right_comes = refl; look = l; head = h; onward = q }

  settled-left : (Q : A.State → B.State → Type 0) (x z : A.State) (y : B.State) → A.step x ≡ Quiet z → Settled A B Q z y → Settled A B Q x y
  settled-left Q x z y e h = record {
    left = h.left;
    right = h.right;
    left_count = suc h.left_count;
    right_count = h.right_count;
    left_comes = (z, e, h.left_comes);
    right_comes = h.right_comes;
    look = h.look;
    head = h.head;
    onward = h.onward;
  }

  settled-right : (Q : A.State → B.State → Type 0) (x : A.State) (y z : B.State) → B.step y ≡ Quiet z → Settled A B Q x z → Settled A B Q x y
  settled-right Q x y z e h = record {
    left = h.left;
    right = h.right;
    left_count = h.left_count;
    right_count = suc h.right_count;
    left_comes = h.left_comes;
    right_comes = (z, e, h.right_comes);
    look = h.look;
    head = h.head;
    onward = h.onward;
  }

  -- ---- quiet steps

  pub agree-left : (n : ℕ) (x z : A.State) (y : B.State) → A.step x ≡ Quiet z → Agree A B n z y → Agree A B n x y
  agree-left zero x z y e h = tt
  agree-left (suc n) x z y e h = settled-left (λ p q. OnAnswers (Agree A B n) (A.step p) (B.step q)) x z y e h

  pub agree-right : (n : ℕ) (x : A.State) (y z : B.State) → B.step y ≡ Quiet z → Agree A B n x z → Agree A B n x y
  agree-right zero x y z e h = tt
  agree-right (suc n) x y z e h = settled-right (λ p q. OnAnswers (Agree A B n) (A.step p) (B.step q)) x y z e h

  -- a quiet step on both sides
  pub agree-both : (n : ℕ) (x z : A.State) (y u : B.State) → A.step x ≡ Quiet z → B.step y ≡ Quiet u → Agree A B n z u → Agree A B n x y
  agree-both n x z y u d e h = agree-left n x z y d (agree-right n z y u e h)

  -- runs of them
  pub agree-left_run : (k n : ℕ) (x z : A.State) (y : B.State) → Comes A.step k x z → Agree A B n z y → Agree A B n x y
  agree-left_run zero n x z y e h = subst (λ u. Agree A B n u y) (sym e) h
  agree-left_run (suc k) n x z y e h = agree-left n x e.0 y e.1 (agree-left_run k n e.0 z y e.2 h)

  pub agree-right_run : (k n : ℕ) (x : A.State) (y z : B.State) → Comes B.step k y z → Agree A B n x z → Agree A B n x y
  agree-right_run zero n x y z e h = subst (λ u. Agree A B n x u) (sym e) h
  agree-right_run (suc k) n x y z e h = agree-right n x y e.0 e.1 (agree-right_run k n x e.0 z e.2 h)

  -- ---- acts, traps and ends

  pub agree-acts : (n : ℕ) (x : A.State) (y : B.State) (a : Act) (f : Reply → A.State) (g : Reply → B.State) →
      A.step x ≡ Acts a f → B.step y ≡ Acts a g → A.look x ≡ B.look y →
      ((m : ℕ) → m < n → (r : Reply) → IsAnswer a r → Agree A B m (f r) (g r)) → Agree A B n x y
  agree-acts zero x y a f g d e l h = tt
  agree-acts (suc n) x y a f g d e l h =
      let here : n < suc n = omega arith in
      settled-here (λ p q. OnAnswers (Agree A B n) (A.step p) (B.step q)) x y l
      (put-heads (A.step x) (Acts a f) (B.step y) (Acts a g) d e refl)
      (put-answers (Agree A B n) (A.step x) (Acts a f) (B.step y) (Acts a g) d e (h n here))

  pub agree-traps : (n : ℕ) (x : A.State) (y : B.State) (t : Trap) → A.step x ≡ Traps t → B.step y ≡ Traps t → A.look x ≡ B.look y → Agree A B n x y
  agree-traps zero x y t d e l = tt
  agree-traps (suc n) x y t d e l =
      settled-here (λ p q. OnAnswers (Agree A B n) (A.step p) (B.step q)) x y l
      (put-heads (A.step x) (Traps t) (B.step y) (Traps t) d e refl)
      (put-answers (Agree A B n) (A.step x) (Traps t) (B.step y) (Traps t) d e tt)

  pub agree-ends : (n : ℕ) (x : A.State) (y : B.State) (a : Act) → A.step x ≡ Ends a → B.step y ≡ Ends a → A.look x ≡ B.look y → Agree A B n x y
  agree-ends zero x y a d e l = tt
  agree-ends (suc n) x y a d e l =
      settled-here (λ p q. OnAnswers (Agree A B n) (A.step p) (B.step q)) x y l
      (put-heads (A.step x) (Ends a) (B.step y) (Ends a) d e refl)
      (put-answers (Agree A B n) (A.step x) (Ends a) (B.step y) (Ends a) d e tt)

  -- ---- fewer replies

  pub agree-fewer : (n : ℕ) (x : A.State) (y : B.State) → Agree A B (suc n) x y → Agree A B n x y
  agree-fewer zero x y h = tt
  agree-fewer (suc n) x y h = record {
    left = h.left;
    right = h.right;
    left_count = h.left_count;
    right_count = h.right_count;
    left_comes = h.left_comes;
    right_comes = h.right_comes;
    look = h.look;
    head = h.head;
    onward = fewer-answers (Agree A B (suc n)) (Agree A B n) (agree-fewer n) (A.step h.left) (B.step h.right) h.onward;
  }

  fewer-by : (k m n : ℕ) (x : A.State) (y : B.State) → n ≡ k + m → Agree A B n x y → Agree A B m x y
  fewer-by zero m n x y e h = let same : n ≡ m = omega arith in subst (λ i. Agree A B i x y) same h
  fewer-by (suc k) m n x y e h =
      let one : n ≡ suc (k + m) = omega arith in
      fewer-by k m (k + m) x y refl (agree-fewer (k + m) x y (subst (λ i. Agree A B i x y) one h))

  pub agree-below : (m n : ℕ) (x : A.State) (y : B.State) → m ≤ n → Agree A B n x y → Agree A B m x y
  agree-below m n x y le h = let e : n ≡ (n - m) + m = omega arith in fewer-by (n - m) m n x y e h

  -- ---- lists of replies

  -- the states after a reply; one that tells of a trap leaves both as they were
  answered-list : (rs : List Reply) (r : Reply) (p : A.State) (q : B.State) (s : Step A.State) (t : Step B.State) →
      SameHead s t → OnAnswers (Agree A B (suc (length rs))) s t → AgreeOn A B rs p q →
      ((x : A.State) (y : B.State) → Agree A B (suc (length rs)) x y → AgreeOn A B rs x y) →
      IsReplyTo s r → AgreeOn A B rs (after_reply p s r) (after_reply q t r)
  answered-list rs Done p q (Acts a f) (Acts b g) h go here later is = later (f Done) (g Done) (go Done is)
  answered-list rs (Got v) p q (Acts a f) (Acts b g) h go here later is = later (f (Got v)) (g (Got v)) (go (Got v) is)
  answered-list rs (Trapped t) p q (Acts a f) (Acts b g) h go here later is = here
  answered-list rs r p q (Acts a f) t h go here later is = absurd h
  answered-list rs r p q s t h go here later is = absurd is

  agree-on : (rs : List Reply) (x : A.State) (y : B.State) → Agree A B (suc (length rs)) x y → AgreeOn A B rs x y
  agree-on [] x y h = record {
    left = h.left;
    right = h.right;
    left_count = h.left_count;
    right_count = h.right_count;
    left_comes = h.left_comes;
    right_comes = h.right_comes;
    look = h.look;
    head = h.head;
    onward = tt;
  }
  agree-on (r ∷ rs) x y h =
      let there : Agree A B (suc (suc (length rs))) h.left h.right =
      settled-here (λ p q. OnAnswers (Agree A B (suc (length rs))) (A.step p) (B.step q)) h.left h.right h.look h.head h.onward in
      let here : AgreeOn A B rs h.left h.right = agree-on rs h.left h.right (agree-fewer (suc (length rs)) h.left h.right there) in
      record {
        left = h.left;
        right = h.right;
        left_count = h.left_count;
        right_count = h.right_count;
        left_comes = h.left_comes;
        right_comes = h.right_comes;
        look = h.look;
        head = h.head;
        onward = answered-list rs r h.left h.right (A.step h.left) (B.step h.right) h.head h.onward here (agree-on rs);
      }

  -- agreement by the number of replies gives the same acts on all lists of them
  pub same-acts : (x : A.State) (y : B.State) → ((n : ℕ) → Agree A B n x y) → DoesSameActs A B x y
  same-acts x y h = λ rs. agree-on rs x y (h (suc (length rs)))
