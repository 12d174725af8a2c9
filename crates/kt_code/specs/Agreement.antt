-- Same acts: two threads, each with steps of its own, that do the same on every list of replies.
use Rattle.std.specs.Prelude.{◌≡◌, ℕ, zero, suc, List, [], ◌∷◌}
use Rattle.kt_mem.specs.declared.memory.Value.{Value}
use Rattle.kt_mem.specs.declared.steps.Act.{Act}
use Rattle.kt_mem.specs.declared.steps.Reply.{Reply}
use Rattle.kt_mem.specs.declared.steps.Reply.TheVariants.{Done, Got, Trapped}
use Rattle.kt_meaning.specs.Steps.{Step, Acts, Traps, Ends, Comes, after_reply}
use Rattle.kt_meaning.specs.Requests.{IsReplyOf}
use Rattle.kt_meaning.specs.Thread.{Restart}

-- a function on a thread's stack, and the values of its locals
pub record Called : Type 0 where
  pub function : ℕ
  pub locals : List Value

-- what tree and code have in common: the functions on the stack, the latest first, and what an update left
pub record Look : Type 0 where
  pub calls : List Called
  pub restart : Restart

-- threads of one kind: their steps, and how they look
pub record Kind : Type 1 where
  pub State : Type 0
  pub step : State → Step State
  pub look : State → Look

-- a reply of the act's kind that tells of no trap
abbrev pub IsAnswer : Act → Reply → Type 0
IsAnswer a Done = IsReplyOf a Done
IsAnswer a (Got v) = IsReplyOf a (Got v)
IsAnswer a (Trapped t) = ⊥

-- ---- the definition, over all lists of replies

-- the reply is of the kind of the step's act
abbrev pub IsReplyTo : {X : Type 0} → Step X → Reply → Type 0
IsReplyTo (Acts a go) r = IsReplyOf a r
IsReplyTo _ r = ⊥

-- the same act, trap or end
abbrev pub SameHead : {X Y : Type 0} → Step X → Step Y → Type 0
SameHead (Acts a f) (Acts b g) = a ≡ b
SameHead (Traps t) (Traps u) = t ≡ u
SameHead (Ends a) (Ends b) = a ≡ b
SameHead _ _ = ⊥

-- both come by quiet steps to states that look alike and have the same head, and of which Q holds
pub record Settled (A B : Kind) (Q : A.State → B.State → Type 0) (x : A.State) (y : B.State) : Type 0 where
  pub left : A.State
  pub right : B.State
  pub left_count : ℕ
  pub right_count : ℕ
  pub left_comes : Comes A.step left_count x left
  pub right_comes : Comes B.step right_count y right
  pub look : A.look left ≡ B.look right
  pub head : SameHead (A.step left) (B.step right)
  pub onward : Q left right

-- on a list of replies, each of the kind of the act that it answers
abbrev pub AgreeOn : (A B : Kind) → List Reply → A.State → B.State → Type 0
AgreeOn A B [] x y = Settled A B (λ p q. Unit {0}) x y
AgreeOn A B (r ∷ rs) x y =
    Settled A B (λ p q. IsReplyTo (A.step p) r → AgreeOn A B rs (after_reply p (A.step p) r) (after_reply q (B.step q) r)) x y

-- the same acts, on all lists of replies
abbrev pub DoesSameActs : (A B : Kind) → A.State → B.State → Type 0
DoesSameActs A B x y = (rs : List Reply) → AgreeOn A B rs x y

-- ---- the same by the number of replies

-- after each answer P holds of how the two go on
abbrev pub OnAnswers : {X Y : Type 0} → (X → Y → Type 0) → Step X → Step Y → Type 0
OnAnswers P (Acts a f) (Acts b g) = (r : Reply) → IsAnswer a r → P (f r) (g r)
OnAnswers P _ _ = Unit {0}

-- on all lists of fewer than n answers
abbrev pub Agree : (A B : Kind) → ℕ → A.State → B.State → Type 0
Agree A B zero x y = Unit {0}
Agree A B (suc n) x y = Settled A B (λ p q. OnAnswers (Agree A B n) (A.step p) (B.step q)) x y
