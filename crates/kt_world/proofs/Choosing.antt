-- A schedule makes one complete list of turns.
use Rattle.std.specs.Prelude.{◌≡◌, ◌==◌, ℕ, zero, suc, Bool, true, false, is_none, if◌then◌else◌, List, [], ◌∷◌, ◌++◌, Option, None, Some, refl}
use Rattle.std.proofs.lemmas.Bool.{eqb-false}
use Rattle.std.proofs.Common.{◌+◌, arith, ap, sym, subst, ◌∙◌}
use Rattle.kt_world.specs.declared.mark.End.{End}
use Rattle.kt_world.specs.declared.mark.End.TheVariants as end
use Rattle.kt_world.specs.Acts.{acted}
use Rattle.kt_world.specs.Events.{ongoing, on_shared, end_marked, ended_as, main_there, all_back, closed_up, asked, stuck, spent, before_turn}
use Rattle.kt_world.specs.Job.{Job, types_at}
use Rattle.kt_world.proofs.Counting.{first-counts, turn-counts}
use Rattle.kt_world.specs.Waiting.{any_enabled, is_enabled}
use Rattle.kt_world.specs.Laws.{AListIsMade, OneListIsComplete}
use Rattle.kt_world.specs.Trees.{tree_engine}
use Rattle.kt_world.specs.Turns.{AreChosen, MayTurnAll, counted, first_world, start, turn, world_from}
use Rattle.kt_world.specs.World.{Engine, World}

no-end : {A : Type 0} (o : Option A) (x : A) → o ≡ None → o ≡ Some x → ⊥
no-end o x h k = absurd cc

module _ {X : Type 0} (e : Engine X) (job : Job) (choice : List ℕ → World X → ℕ) where
  same-turns : (turns others made : List ℕ) (w : World X) (how which : End) → AreChosen e job choice made w turns → AreChosen e job choice made w others
      → MayTurnAll e job w turns → MayTurnAll e job w others → (world_from e job w turns).shared.ended ≡ Some how → (world_from e job w others).shared.ended ≡ Some which
      → turns ≡ others
  unfolding world_from
  same-turns [] [] made w how which c d may might over done = refl
  same-turns [] (u ∷ others) made w how which c d may might over done = absurd (no-end w.shared.ended how might.0.ongoing over)
  same-turns (t ∷ turns) [] made w how which c d may might over done = absurd (no-end w.shared.ended which may.0.ongoing done)
  same-turns (t ∷ turns) (u ∷ others) made w how which c d may might over done =
      let same : u ≡ t = d.0 ∙ sym c.0 in
      let d-same = subst (λ v. AreChosen e job choice (made ++ v ∷ []) (turn e job w v) others) same d.1 in
      let might-same = subst (λ v. MayTurnAll e job (turn e job w v) others) same might.1 in
      let done-same = subst (λ v. (world_from e job (turn e job w v) others).shared.ended ≡ Some which) same done in
      let rest = same-turns turns others (made ++ t ∷ []) (turn e job w t) how which c.1 d-same may.1 might-same over done-same in
      ap (λ vs. t ∷ vs) rest ∙ ap (λ v. v ∷ others) (sym same)

-- ---- a list is made

-- what a schedule makes from a world on
record Made {X : Type 0} (e : Engine X) (job : Job) (choice : List ℕ → World X → ℕ) (made : List ℕ) (w : World X) : Type 0 where
  turns : List ℕ
  how : End
  chosen : AreChosen e job choice made w turns
  may_turn : MayTurnAll e job w turns
  ended : (world_from e job w turns).shared.ended ≡ Some how

module _ {X : Type 0} (e : Engine X) (job : Job) where
  -- where the run goes on, a thread is enabled, and the budget isn't spent
  abbrev Open : World X → Type 0
  Open w = w.shared.ended ≡ None → (any_enabled e w 0 w.threads ≡ true) × (w.shared.turns ≡ job.budget → ⊥)

  -- a thread is enabled
  abbrev Goes : World X → Type 0
  Goes w = w.shared.ended ≡ None → any_enabled e w 0 w.threads ≡ true

  stuck-goes : (w : World X) → Goes (ongoing (stuck e) w)
  stuck-goes w = by w.shared.ended refl
    where
      by-enabled : (b : Bool) → any_enabled e w 0 w.threads ≡ b → Goes (if b then w else on_shared (ended_as end.Stuck) w)
      by-enabled true is h = is
      by-enabled false is h = absurd cc

      by : (o : Option End) → w.shared.ended ≡ o → Goes (ongoing (stuck e) w)
      by None is = subst (λ o. Goes (if is_none o then stuck e w else w)) (sym is) (by-enabled (any_enabled e w 0 w.threads) refl)
      by (Some how) is = subst (λ o. Goes (if is_none o then stuck e w else w)) (sym is) (λ h. absurd (no-end w.shared.ended how h is))

  spent-opens : (w : World X) → Goes w → Open (ongoing (on_shared (spent job)) w)
  spent-opens w goes = by w.shared.ended refl
    where
      by-spent : (b : Bool) → (w.shared.turns == job.budget) ≡ b → Open (record w { shared = if b then ended_as end.Budget w.shared else w.shared })
      by-spent true is h = absurd cc
      by-spent false is h = (goes h, λ same. eqb-false w.shared.turns job.budget is same)

      by : (o : Option End) → w.shared.ended ≡ o → Open (ongoing (on_shared (spent job)) w)
      by None is = subst (λ o. Open (if is_none o then on_shared (spent job) w else w)) (sym is) (by-spent (w.shared.turns == job.budget) refl)
      by (Some how) is = subst (λ o. Open (if is_none o then on_shared (spent job) w else w)) (sym is) (λ h. absurd (no-end w.shared.ended how h is))

  before_turn-opens : (w : World X) → Open (before_turn e job w)
  before_turn-opens w =
      let a = ongoing (λ u. asked job u.shared.phase u) w in spent-opens (ongoing (stuck e) a) (stuck-goes a)

  turn-opens : (w : World X) (t : ℕ) → Open (turn e job w t)
  turn-opens w t =
      let a = end_marked (counted (acted e (types_at job w.shared.version) w t)) in
      let b = ongoing (λ u. main_there e u.shared.phase u) a in
      let c = ongoing (λ u. all_back e u.shared.phase u) b in
      before_turn-opens (ongoing (λ u. closed_up e job u.shared.phase u) c)

  -- so many turns are left of the budget
  make : (choice : List ℕ → World X → ℕ) → ((made : List ℕ) (w : World X) → any_enabled e w 0 w.threads ≡ true → is_enabled e w (choice made w) ≡ true)
      → (n : ℕ) (made : List ℕ) (w : World X) (o : Option End) → w.shared.ended ≡ o → Open w → n + w.shared.turns ≡ job.budget → Made e job choice made w
  unfolding world_from
  make choice enables n made w (Some how) is goes left = record { turns = []; how = how; chosen = tt; may_turn = tt; ended = is }
  make choice enables zero made w None is goes left = absurd ((goes is).1 (omega (arith, left)))
  make choice enables (suc n) made w None is goes left =
      let t = choice made w in
      let u = turn e job w t in
      let one = turn-counts e job w t in
      let rest = make choice enables n (made ++ t ∷ []) u u.shared.ended refl (turn-opens w t) (omega (arith, left, one)) in
      record {
        turns = t ∷ rest.turns;
        how = rest.how;
        chosen = (refl, rest.chosen);
        may_turn = (record { ongoing = is; enabled = enables made w (goes is).0 }, rest.may_turn);
        ended = rest.ended;
      }

pub a-list : (job : Job) → AListIsMade job
a-list job choice enables =
    let e = tree_engine job in
    let w = first_world e job in
    let none = first-counts e job in
    let all = make e job choice enables job.budget [] w w.shared.ended refl (before_turn-opens e job (start e job)) (omega (arith, none)) in
    record { turns = all.turns; how = all.how; chosen = all.chosen; complete = record { may_turn = all.may_turn; ended = all.ended } }

pub one-list : (job : Job) → OneListIsComplete job
one-list job choice turns others how which c d over done =
    let e = tree_engine job in
    same-turns e job choice turns others [] (first_world e job) how which c d over.may_turn done.may_turn over.ended done.ended
