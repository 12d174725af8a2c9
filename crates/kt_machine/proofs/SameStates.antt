-- Threads of the tree and of code that do the same acts still do so where both have settled, and after each reply of the
-- act's kind.
use Rattle.std.specs.Prelude.{◌≡◌, ℕ, zero, suc, List, [], ◌∷◌, refl}
use Rattle.std.proofs.Common.{subst, ap}
use Rattle.kt_mem.specs.declared.steps.Reply.{Reply}
use Rattle.kt_mem.specs.declared.steps.Reply.TheVariants.{Done, Got, Trapped}
use Rattle.kt_meaning.specs.Laws.{numbered}
use Rattle.kt_meaning.specs.Steps.{Step, Quiet, Acts, Traps, Ends, IsHead, Comes, or_rest, settle_within, after_reply}
use Rattle.kt_meaning.specs.Thread as tree
use Rattle.kt_meaning.specs.TreeSteps as steps
use Rattle.kt_meaning.specs.Weights as weights
use Rattle.kt_meaning.proofs.TreeSettling as trees
use Rattle.kt_code.specs.Agreement.{Kind, Look, IsReplyTo, SameHead, Settled, AgreeOn, DoesSameActs}
use Rattle.kt_code.specs.Code.{Code}
use Rattle.kt_code.specs.Looks.{code_threads, tree_threads}
use Rattle.kt_code.specs.Machine as code
use Rattle.kt_code.specs.SameActs.{Stand, settled-stand, same_acts-reply}
use Rattle.kt_code.specs.Settling.{weight, settle, FitsHead, FitsFor, Fits}
use Rattle.kt_code.specs.declared.private.Private.{Private}
use Rattle.kt_code.proofs.Fitting.{fits-head-is, fits-settled}
use Rattle.kt_exec.proofs.Settled.{settle-rests}
use Rattle.kt_pair.specs.Pair.{Pair}
use Rattle.kt_machine.specs.Same.{IsSameIn, IsSameMode}

-- ---- quiet steps

record Reached {X : Type 0} (step : X → Step X) (x y : X) : Type 0 where
  count : ℕ
  comes : Comes step count x y

earlier : {X : Type 0} (step : X → Step X) (x y z : X) → step x ≡ Quiet y → Reached step y z → Reached step x z
earlier step x y z e r = record { count = suc r.count; comes = (y, e, r.comes) }

reaches-after : {X : Type 0} (step : X → Step X) (n : ℕ) (x : X) (s : Step X) → step x ≡ s →
    ((y : X) → Reached step y (settle_within step n y)) → Reached step x (or_rest (settle_within step n) x s)
reaches-after step n x (Quiet y) e later = earlier step x y (settle_within step n y) e (later y)
reaches-after step n x (Acts a go) e later = record { count = 0; comes = refl }
reaches-after step n x (Traps t) e later = record { count = 0; comes = refl }
reaches-after step n x (Ends a) e later = record { count = 0; comes = refl }

reaches : {X : Type 0} (step : X → Step X) (n : ℕ) (x : X) → Reached step x (settle_within step n x)
reaches step zero x = record { count = 0; comes = refl }
reaches step (suc n) x = reaches-after step n x (step x) refl (λ y. reaches step n y)

code-reaches : (c : Code) (y : Private) → Reached (code.step c) y (settle c y)
unfolding settle
code-reaches c y = reaches (code.step c) (weight c y) y

-- ---- what fits code

-- what fits code settles
settled-head : (c : Code) (y : Private) → Fits c y → IsHead (code.step c (settle c y))
settled-head c y h = fits-head-is (FitsFor c 0) (code.step c (settle c y)) ((h 1).1)

fits-here : (c : Code) (y : Private) (n : ℕ) → IsHead (code.step c y) → Fits c y → FitsHead (FitsFor c n) (code.step c y)
fits-here c y n head h = subst (λ z. FitsHead (FitsFor c n) (code.step c z)) (settle-rests c y head) ((h (suc n)).1)

-- and fits after a reply
replied-fits : (c : Code) (y : Private) (s : Step Private) (r : Reply) → code.step c y ≡ s → IsHead (code.step c y) → IsReplyTo s r → Fits c y →
    Fits c (after_reply y s r)
replied-fits c y (Quiet z) r e head is h = absurd is
replied-fits c y (Acts a go) Done e head is h = λ n.
    let told : FitsHead (FitsFor c n) (Acts a go) = subst (FitsHead (FitsFor c n)) e (fits-here c y n head h) in
    told Done is
replied-fits c y (Acts a go) (Got v) e head is h = λ n.
    let told : FitsHead (FitsFor c n) (Acts a go) = subst (FitsHead (FitsFor c n)) e (fits-here c y n head h) in
    told (Got v) is
replied-fits c y (Acts a go) (Trapped t) e head is h = h
replied-fits c y (Traps t) r e head is h = absurd is
replied-fits c y (Ends a) r e head is h = absurd is

-- ---- the same acts

same-reply : {X Y : Type 0} (s : Step X) (t : Step Y) (r : Reply) → SameHead s t → IsReplyTo s r → IsReplyTo t r
same-reply (Acts a f) (Acts b g) r h is = subst (λ b. IsReplyTo (Acts b g) r) h is
same-reply (Quiet x) t r h is = absurd is
same-reply (Traps c) t r h is = absurd is
same-reply (Ends a) t r h is = absurd is
same-reply (Acts a f) t r h is = absurd h

module _ (A B : Kind) where
  rests : (Q : A.State → B.State → Type 0) (p : A.State) (q : B.State) → Stand A B Q p q → Settled A B Q p q
  rests Q p q h = record {
    left = p;
    right = q;
    left_count = 0;
    right_count = 0;
    left_comes = refl;
    right_comes = refl;
    look = h.look;
    head = h.head;
    onward = h.onward;
  }

  -- where both have settled they do the same acts
  settled-same : (k l : ℕ) (x p : A.State) (y q : B.State) → Comes A.step k x p → IsHead (A.step p) → Comes B.step l y q → IsHead (B.step q) →
      DoesSameActs A B x y → DoesSameActs A B p q
  settled-same k l x p y q c i d j h = λ rs. on_list rs (h rs)
    where
      on_list : (rs : List Reply) → AgreeOn A B rs x y → AgreeOn A B rs p q
      on_list [] g = rests (λ p q. Unit {0}) p q (settled-stand A B (λ p q. Unit {0}) k l x p y q c i d j g)
      on_list (r ∷ rs) g =
          let Q : A.State → B.State → Type 0 = λ p q. IsReplyTo (A.step p) r → AgreeOn A B rs (after_reply p (A.step p) r) (after_reply q (B.step q) r) in
          rests Q p q (settled-stand A B Q k l x p y q c i d j g)

-- ---- threads of one version

module _ (v : ℕ) (c : Pair) where
  abbrev version : steps.Version
  version = numbered c.program v

  stands : (x : tree.Thread) (y : Private) → IsSameIn v c x y → Stand (tree_threads version) (code_threads c.code) (λ p q. Unit {0}) x y
  stands x y h =
      settled-stand (tree_threads version) (code_threads c.code) (λ p q. Unit {0}) 0 0 x x y y refl h.tree_settled refl h.code_settled (h.acts [])

  -- both stand at the same act, trap or end
  pub head-same : (x : tree.Thread) (y : Private) → IsSameIn v c x y → SameHead (steps.step version x) (code.step c.code y)
  head-same x y h = (stands x y h).head

  pub in-one-mode : (x : tree.Thread) (y : Private) → IsSameIn v c x y → IsSameMode x y
  in-one-mode x y h = ap (λ (look : Look). look.restart.mode) (stands x y h).look

  -- both settle
  pub settled-IsSameIn : (x : tree.Thread) (y : Private) → DoesSameActs (tree_threads version) (code_threads c.code) x y → Fits c.code y →
      IsSameIn v c (weights.settle version x) (settle c.code y)
  settled-IsSameIn x y acts fits =
      let there = trees.settle-settles version x in
      let reached = code-reaches c.code y in
      let head = settled-head c.code y fits in
      record {
        acts = settled-same (tree_threads version) (code_threads c.code) there.count reached.count x (weights.settle version x) y (settle c.code y)
            there.comes there.head reached.comes head acts;
        fits = fits-settled c.code y fits;
        tree_settled = there.head;
        code_settled = head;
      }

  -- after a reply of the act's kind both settle again
  pub replied-IsSameIn : (x : tree.Thread) (y : Private) → IsSameIn v c x y → (r : Reply) → IsReplyTo (steps.step version x) r →
      IsSameIn v c (weights.settle version (after_reply x (steps.step version x) r)) (settle c.code (after_reply y (code.step c.code y) r))
  replied-IsSameIn x y h r is =
      settled-IsSameIn (after_reply x (steps.step version x) r) (after_reply y (code.step c.code y) r)
      (same_acts-reply (tree_threads version) (code_threads c.code) 0 0 x x y y refl h.tree_settled refl h.code_settled h.acts r is)
      (replied-fits c.code y (code.step c.code y) r refl h.code_settled
      (same-reply (steps.step version x) (code.step c.code y) r (head-same x y h) is) h.fits)
