-- Laws of worlds, as statements.
use Rattle.std.specs.Prelude.{◌≡◌, ◌↔◌, ◌≤◌, ℕ, false, true, List, [], ◌∷◌, ◌++◌, length, Option, None, Some}
use Rattle.std.specs.List.{AllByRecursion}
use Rattle.kt_meaning.specs.Thread as tree
use Rattle.kt_phase.specs.declared.counters.Phase.TheVariants.{Main}
use Rattle.kt_world.specs.declared.mark.Closed.{Closed}
use Rattle.kt_world.specs.declared.mark.End.{End}
use Rattle.kt_world.specs.declared.mark.Mark.{Mark}
use Rattle.kt_world.specs.declared.mark.Mark.TheVariants as mark
use Rattle.kt_world.specs.Job.{Job}
use Rattle.kt_world.specs.Marks.{AreMarks}
use Rattle.kt_world.specs.Told.{IsThread, PlansLeadOn, TellOf}
use Rattle.kt_world.specs.Trees.{AreTurnsOf, tree_engine, world}
use Rattle.kt_world.specs.Turns.{AreChosen, IsComplete, MayTurn, first_world, turn}
use Rattle.kt_world.specs.Update.{refused}
use Rattle.kt_world.specs.Waiting.{any_enabled, is_enabled}
use Rattle.kt_world.specs.World.{Engine, Thread, World, lives}

-- one turn more may be taken exactly where the turns before may be and the thread may take one in their world
abbrev pub OneMoreMayBeTaken : Job → List ℕ → Type 0
OneMoreMayBeTaken job turns =
    (t : ℕ) →
    AreTurnsOf job (turns ++ t ∷ []) ↔ (AreTurnsOf job turns × MayTurn (tree_engine job) (world job turns) t)

-- the world of the longer list is one turn of that thread from theirs
abbrev pub OneMoreIsTheNext : Job → List ℕ → Type 0
OneMoreIsTheNext job turns = (t : ℕ) → world job (turns ++ t ∷ []) ≡ turn (tree_engine job) job (world job turns) t

-- while `main` is on its way to its point after an update, no other thread may take a turn
abbrev pub MainIsAlone : Job → List ℕ → Type 0
MainIsAlone job turns = (t : ℕ) → AreTurnsOf job (turns ++ t ∷ []) → (world job turns).shared.phase ≡ Main → t ≡ 0

-- the turns are counted
abbrev pub TurnsAreCounted : Job → List ℕ → Type 0
TurnsAreCounted job turns = (world job turns).shared.turns ≡ length turns

-- at most 64 threads are made beside `main`
abbrev pub ThreadsAreFew : Job → List ℕ → Type 0
ThreadsAreFew job turns = length (world job turns).threads ≤ 65

-- each turn is that of a thread that may be there
abbrev pub TurnsAreOfThreads : Job → List ℕ → Type 0
TurnsAreOfThreads job turns = AreTurnsOf job turns → AllByRecursion IsThread turns

-- no more turns are made than the budget allows
abbrev pub BudgetIsKept : Job → List ℕ → Type 0
BudgetIsKept job turns = AreTurnsOf job turns → length turns ≤ job.budget

-- what marks tell is there: threads, and places of the version that a closing was to bring
abbrev pub MarksTellOfJobs : Job → List ℕ → Type 0
MarksTellOfJobs job turns = PlansLeadOn job → TellOf job 0 (world job turns).shared.marks

-- a heap number is given out once: the next one never falls
abbrev pub HeapNumbersNeverFall : Job → List ℕ → Type 0
HeapNumbersNeverFall job turns =
    (t : ℕ) → (world job turns).shared.memory.next ≤ (world job (turns ++ t ∷ [])).shared.memory.next

-- a thread that has ended has no call
abbrev pub IsGoneIfEnded : {X : Type 0} → Engine X → Thread X → Type 0
IsGoneIfEnded e th = lives th.standing ≡ false → e.calls th.state ≡ []

abbrev pub EndedAreGone : Job → List ℕ → Type 0
EndedAreGone job turns = AreTurnsOf job turns → AllByRecursion (IsGoneIfEnded (tree_engine job)) (world job turns).threads

-- the mark tells no end of a run
abbrev pub IsNoEnd : Mark → Type 0
IsNoEnd (mark.End turn how) = ⊥
IsNoEnd m = Unit {0}

-- the end is the last of the marks, and the only one that tells an end
pub record IsLastEnd (how : End) (marks : List Mark) : Type 0 where
  pub front : List Mark
  pub turn : ℕ
  pub is : marks ≡ front ++ mark.End turn how ∷ []
  pub others : AllByRecursion IsNoEnd front

abbrev pub EndIsLast : Option End → List Mark → Type 0
EndIsLast None marks = AllByRecursion IsNoEnd marks
EndIsLast (Some how) marks = IsLastEnd how marks

abbrev pub EndsAreLast : Job → List ℕ → Type 0
EndsAreLast job turns = AreTurnsOf job turns → EndIsLast (world job turns).shared.ended (world job turns).shared.marks

-- The marks of a run lead to its phase, and to as many requests and turns as were made: turns never fall, each request is answered by
-- a closing before the next one is made, and after an accepted closing `main` comes to its point and then all threads to theirs.
abbrev pub MarksAreInOrder : Job → List ℕ → Type 0
MarksAreInOrder job turns =
    AreTurnsOf job turns →
    AreMarks (world job turns).shared.ended (world job turns).shared.phase (world job turns).shared.requests (world job turns).shared.turns (world job turns).shared.marks

-- a refused closing changes neither memory nor code
pub record StaysAtRefusal (job : Job) (c : Closed) (w : World tree.Thread) : Type 0 where
  pub memory : (refused (tree_engine job) c w).shared.memory ≡ w.shared.memory
  pub version : (refused (tree_engine job) c w).shared.version ≡ w.shared.version
  pub kept : (refused (tree_engine job) c w).shared.kept ≡ w.shared.kept

abbrev pub RefusalsChangeNothing : Type 0
RefusalsChangeNothing = (job : Job) (c : Closed) (w : World tree.Thread) → StaysAtRefusal job c w

-- a schedule makes at most one complete list of turns
abbrev pub OneListIsComplete : Job → Type 0
OneListIsComplete job =
    (choice : List ℕ → World tree.Thread → ℕ) (turns others : List ℕ) (how which : End) →
    AreChosen (tree_engine job) job choice [] (first_world (tree_engine job) job) turns →
    AreChosen (tree_engine job) job choice [] (first_world (tree_engine job) job) others →
    IsComplete (tree_engine job) job turns how → IsComplete (tree_engine job) job others which → turns ≡ others

-- a schedule chooses an enabled thread wherever there is one
abbrev pub ChoosesEnabled : Job → (List ℕ → World tree.Thread → ℕ) → Type 0
ChoosesEnabled job choice =
    (made : List ℕ) (w : World tree.Thread) →
    any_enabled (tree_engine job) w 0 w.threads ≡ true → is_enabled (tree_engine job) w (choice made w) ≡ true

-- the complete list of turns that a schedule makes
pub record MadeList (job : Job) (choice : List ℕ → World tree.Thread → ℕ) : Type 0 where
  pub turns : List ℕ
  pub how : End
  pub chosen : AreChosen (tree_engine job) job choice [] (first_world (tree_engine job) job) turns
  pub complete : IsComplete (tree_engine job) job turns how

abbrev pub AListIsMade : Job → Type 0
AListIsMade job = (choice : List ℕ → World tree.Thread → ℕ) → ChoosesEnabled job choice → MadeList job choice
