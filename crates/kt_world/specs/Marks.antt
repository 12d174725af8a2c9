-- The marks of a run, one behind another.
use Rattle.std.specs.Prelude.{◌≡◌, ◌≤◌, ℕ, suc, List, [], ◌∷◌, ◌++◌, Option, None, Some}
use Rattle.kt_phase.specs.declared.counters.Phase.{Phase}
use Rattle.kt_phase.specs.declared.counters.Phase.TheVariants.{Run, Asked, Main, Others}
use Rattle.kt_world.specs.declared.mark.Closed.{Closed}
use Rattle.kt_world.specs.declared.mark.Closed.TheVariants as closed
use Rattle.kt_world.specs.declared.mark.End.{End}
use Rattle.kt_world.specs.declared.mark.Mark.{Mark}
use Rattle.kt_world.specs.declared.mark.Mark.TheVariants as mark

-- a closing that went so was refused
abbrev pub IsRefusal : Closed → Type 0
IsRefusal (closed.Ok images) = ⊥
IsRefusal c = Unit {0}

-- After such marks a run is in this phase, so many requests were made, and so many turns. A request is made in phase `Run` and has
-- the next number; the closing that answers it comes before any other; after an accepted one `main` comes to its point, and then all
-- threads to theirs. A mark stands at the turns that were made before it.
pub data Leads : Phase → ℕ → ℕ → List Mark → Type 0 where
  Begins : Leads Run 0 0 []
  Goes : (phase : Phase) (k turn later : ℕ) (marks : List Mark) → turn ≤ later → Leads phase k turn marks → Leads phase k later marks
  Asks : (k turn woken : ℕ) (marks : List Mark) → Leads Run k turn marks → Leads Asked (suc k) turn (marks ++ mark.Ask turn (suc k) woken ∷ [])
  Refuses : (k turn : ℕ) (c : Closed) (marks : List Mark) → IsRefusal c → Leads Asked k turn marks → Leads Run k turn (marks ++ mark.Close turn k c ∷ [])
  Accepts : (k turn images : ℕ) (marks : List Mark) → Leads Asked k turn marks → Leads Main k turn (marks ++ mark.Close turn k (closed.Ok images) ∷ [])
  Arrives : (k turn : ℕ) (marks : List Mark) → Leads Main k turn marks → Leads Others k turn (marks ++ mark.MainThere turn k ∷ [])
  Returns : (k turn : ℕ) (marks : List Mark) → Leads Others k turn marks → Leads Run k turn (marks ++ mark.Back turn k ∷ [])

-- the last mark tells how the run ended, and the others led there
pub record Ends (how : End) (phase : Phase) (k turn : ℕ) (marks : List Mark) : Type 0 where
  pub front : List Mark
  pub is : marks ≡ front ++ mark.End turn how ∷ []
  pub leads : Leads phase k turn front

-- the marks of a run, which has perhaps ended
abbrev pub AreMarks : Option End → Phase → ℕ → ℕ → List Mark → Type 0
AreMarks None phase k turn marks = Leads phase k turn marks
AreMarks (Some how) phase k turn marks = Ends how phase k turn marks
