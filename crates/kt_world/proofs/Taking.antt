-- Turns that may be taken: each is that of a thread that there may be, and there are no more than the budget allows.
use Rattle.std.specs.Prelude.{◌≡◌, ◌==◌, ℕ, Bool, true, false, is_none, List, [], ◌∷◌, length, Option, None, Some, slice_get, refl, if◌then◌else◌}
use Rattle.std.specs.List.{AllByRecursion}
use Rattle.std.proofs.Common.{◌+◌, ◌≤◌, ◌<◌, arith, sym, subst}
use Rattle.std.proofs.lemmas.Bool.{false≢true, eqb-false, eqb-true}
use Rattle.std.proofs.lemmas.Option.{slice_get_within}
use Rattle.kt_world.specs.declared.mark.End.{End}
use Rattle.kt_world.specs.declared.mark.End.TheVariants as end
use Rattle.kt_world.specs.Acts.{acted}
use Rattle.kt_world.specs.Events.{ongoing, on_shared, end_marked, ended_as, main_there, all_back, closed_up, asked, stuck, spent, before_turn}
use Rattle.kt_world.specs.Job.{Job, types_at}
use Rattle.kt_world.specs.Laws.{BudgetIsKept, TurnsAreOfThreads}
use Rattle.kt_world.specs.Told.{IsThread}
use Rattle.kt_world.specs.Trees.{tree_engine}
use Rattle.kt_world.specs.Turns.{MayTurnAll, counted, first_world, start, turn}
use Rattle.kt_world.specs.Waiting.{enabled_if}
use Rattle.kt_world.specs.World.{Engine, Thread, World}
use Rattle.kt_world.proofs.Counting.{first-counts, turn-counts}
use Rattle.kt_world.proofs.Numbering.{first-few, turn-few}

no-end : {A : Type 0} (o : Option A) (x : A) → o ≡ None → o ≡ Some x → ⊥
no-end o x h k = absurd cc

module _ {X : Type 0} (e : Engine X) (job : Job) where
  -- ---- threads

  -- an enabled thread is one of the world's
  enabled-within : (w : World X) (t : ℕ) (o : Option (Thread X)) → slice_get w.threads t ≡ o → enabled_if e w t o ≡ true → t < length w.threads
  enabled-within w t None is may = absurd (false≢true may)
  enabled-within w t (Some th) is may = slice_get_within w.threads t th is

  of-threads : (turns : List ℕ) (w : World X) → length w.threads ≤ 65 → MayTurnAll e job w turns → AllByRecursion IsThread turns
  of-threads [] w few may = tt
  of-threads (t ∷ turns) w few may =
      let within = enabled-within w t (slice_get w.threads t) refl may.0.enabled in
      (omega (arith, within, few), of-threads turns (turn e job w t) (turn-few e job w t few) may.1)

  -- ---- the budget

  -- where the run goes on, the budget isn't spent
  abbrev IsLeft : World X → Type 0
  IsLeft w = w.shared.ended ≡ None → w.shared.turns ≡ job.budget → ⊥

  spent-left : (w : World X) → IsLeft (ongoing (on_shared (spent job)) w)
  spent-left w = by w.shared.ended refl
    where
      by-spent : (b : Bool) → (w.shared.turns == job.budget) ≡ b → IsLeft (record w { shared = if b then ended_as end.Budget w.shared else w.shared })
      by-spent true is h = absurd cc
      by-spent false is h = λ same. eqb-false w.shared.turns job.budget is same

      by : (o : Option End) → w.shared.ended ≡ o → IsLeft (ongoing (on_shared (spent job)) w)
      by None is = subst (λ o. IsLeft (if is_none o then on_shared (spent job) w else w)) (sym is) (by-spent (w.shared.turns == job.budget) refl)
      by (Some how) is = subst (λ o. IsLeft (if is_none o then on_shared (spent job) w else w)) (sym is) (λ h. absurd (no-end w.shared.ended how h is))

  before_turn-left : (w : World X) → IsLeft (before_turn e job w)
  before_turn-left w = spent-left (ongoing (stuck e) (ongoing (λ u. asked job u.shared.phase u) w))

  turn-left : (w : World X) (t : ℕ) → IsLeft (turn e job w t)
  turn-left w t =
      let a = end_marked (counted (acted e (types_at job w.shared.version) w t)) in
      let b = ongoing (λ u. main_there e u.shared.phase u) a in
      let c = ongoing (λ u. all_back e u.shared.phase u) b in
      before_turn-left (ongoing (λ u. closed_up e job u.shared.phase u) c)

  below : (n b : ℕ) → n ≤ b → (n ≡ b → ⊥) → n < b
  below n b h other = by (n == b) refl
    where
      by : (c : Bool) → (n == b) ≡ c → n < b
      by true same = absurd (other (eqb-true n b same))
      by false same = omega (arith, h, eqb-false n b same)

  kept-from : (turns : List ℕ) (w : World X) → w.shared.turns ≤ job.budget → IsLeft w → MayTurnAll e job w turns → w.shared.turns + length turns ≤ job.budget
  kept-from [] w h left may = omega (arith, h)
  kept-from (t ∷ turns) w h left may =
      let one = turn-counts e job w t in
      let less = below w.shared.turns job.budget h (left may.0.ongoing) in
      let rest = kept-from turns (turn e job w t) (omega (arith, one, less)) (turn-left w t) may.1 in
      omega (arith, rest, one)

pub turns-of-threads : (job : Job) (turns : List ℕ) → TurnsAreOfThreads job turns
turns-of-threads job turns may = let e = tree_engine job in of-threads e job turns (first_world e job) (first-few e job) may

pub budget-kept : (job : Job) (turns : List ℕ) → BudgetIsKept job turns
budget-kept job turns may =
    let e = tree_engine job in
    let none = first-counts e job in
    let all = kept-from e job turns (first_world e job) (omega (arith, none)) (before_turn-left e job (start e job)) may in
    omega (arith, all, none)
