-- Worlds of the tree and of code that stand for one another.
use Rattle.std.specs.Prelude.{◌≡◌, ℕ, true, List, [], ◌∷◌, Option, Some, None, slice_get}
use Rattle.std.specs.Option.{is_some}
use Rattle.kt_meaning.specs.Laws.{numbered}
use Rattle.kt_meaning.specs.Steps.{IsHead}
use Rattle.kt_meaning.specs.Thread as tree
use Rattle.kt_meaning.specs.TreeSteps as steps
use Rattle.kt_code.specs.Agreement.{DoesSameActs}
use Rattle.kt_code.specs.Looks.{code_threads, tree_threads}
use Rattle.kt_code.specs.Machine as code
use Rattle.kt_code.specs.Settling.{Fits}
use Rattle.kt_code.specs.declared.private.Private.{Private}
use Rattle.kt_pair.specs.Pair.{Pair}
use Rattle.kt_lone.specs.Update.{point_of}
use Rattle.kt_lone.specs.World.{Standing, Live, Parked, Ended, Thread, World}

-- ---- over any relation of states, by version and standing

pub record IsSameThread {X Y : Type 0} (S : Standing → X → Y → Type 0) (a : Thread X) (b : Thread Y) : Type 0 where
  pub standing : a.standing ≡ b.standing
  pub state : S a.standing a.state b.state

abbrev pub AreSameThreads : {X Y : Type 0} → (Standing → X → Y → Type 0) → List (Thread X) → List (Thread Y) → Type 0
AreSameThreads S [] [] = Unit {0}
AreSameThreads S (a ∷ l) (b ∷ m) = IsSameThread S a b × AreSameThreads S l m
AreSameThreads S _ _ = ⊥

-- what is shared is equal, and the threads are related one by one
pub record AreSameWorlds {X Y : Type 0} (S : ℕ → Standing → X → Y → Type 0) (w : World X) (v : World Y) : Type 0 where
  pub shared : w.shared ≡ v.shared
  pub threads : AreSameThreads (S w.shared.version) w.threads v.threads

-- ---- states of the tree and of code

-- settled states that do the same acts in version v; that of code fits it
pub record IsSameIn (v : ℕ) (c : Pair) (x : tree.Thread) (y : Private) : Type 0 where
  pub acts : DoesSameActs (tree_threads (numbered c.program v)) (code_threads c.code) x y
  pub fits : Fits c.code y
  pub tree_settled : IsHead (steps.step (numbered c.program v) x)
  pub code_settled : IsHead (code.step c.code y)

abbrev pub IsSameMode : tree.Thread → Private → Type 0
IsSameMode x y = x.restart.mode ≡ y.mode

-- where there is no version, only the mode counts
abbrev pub IsSameState : ℕ → Option Pair → tree.Thread → Private → Type 0
IsSameState v None x y = IsSameMode x y
IsSameState v (Some c) x y = IsSameIn v c x y

-- the thread stands at a point
abbrev pub IsAtPoint : ℕ → Option Pair → tree.Thread → Type 0
IsAtPoint v None x = ⊥
IsAtPoint v (Some c) x = is_some (point_of (steps.step (numbered c.program v) x)) ≡ true

-- a parked thread stands at a point; of an ended one only the mode counts
abbrev pub IsSameBy : ℕ → Option Pair → Standing → tree.Thread → Private → Type 0
IsSameBy v c Live x y = IsSameState v c x y
IsSameBy v c Parked x y = IsSameState v c x y × IsAtPoint v c x
IsSameBy v c Ended x y = IsSameMode x y

abbrev pub IsSameWorld : List Pair → World tree.Thread → World Private → Type 0
IsSameWorld codes w v = AreSameWorlds (λ n. IsSameBy n (slice_get codes n)) w v
