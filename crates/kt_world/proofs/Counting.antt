-- Only a turn counts: neither an act nor what is tried after it changes how many turns were made.
use Rattle.std.specs.Prelude.{◌≡◌, ℕ, suc, ◌+◌, Bool, true, false, List, [], ◌∷◌, length, Option, None, Some, refl, slice_get, is_none, is_some, nat_le, ◌==◌, ◌&&◌, if◌then◌else◌}
use Rattle.std.proofs.Common.{ap, ◌∙◌, arith}
use Rattle.kt_phase.specs.declared.counters.Phase.{Phase}
use Rattle.kt_phase.specs.declared.counters.Phase.TheVariants.{Run, Asked, Main, Others}
use Rattle.xf_plan.specs.declared.place.Root.{Root}
use Rattle.kt_world.specs.declared.mark.Closed.{Closed}
use Rattle.kt_world.specs.declared.mark.End.{End}
use Rattle.kt_world.specs.declared.mark.End.TheVariants as end
use Rattle.kt_world.specs.declared.mark.Mark.{Mark}
use Rattle.kt_world.proofs.Acting.{act-same}
use Rattle.kt_world.specs.Acts.{acted}
use Rattle.kt_world.specs.Events.{ongoing, on_shared, with_mark, end_marked, ended_as, main_is_normal, main_there, all_normal, all_back, all_parked, closed_up, requested, request, asked, stuck, spent, before_turn, after_act}
use Rattle.kt_world.specs.Job.{Job, Passage, passage_at, types_at}
use Rattle.kt_world.specs.Laws.{TurnsAreCounted}
use Rattle.kt_world.specs.Refusals.{refusal}
use Rattle.kt_world.specs.Roots.{thread_roots}
use Rattle.kt_world.specs.Trees.{tree_engine}
use Rattle.kt_world.specs.Turns.{counted, first_world, start, turn, world_from}
use Rattle.kt_world.specs.Update.{closing, decided}
use Rattle.kt_world.specs.Waiting.{any_enabled}
use Rattle.kt_world.specs.World.{Engine, Shared, World}

module _ {X : Type 0} (e : Engine X) (job : Job) where
  -- as many turns were made
  abbrev Same : World X → World X → Type 0
  Same w u = u.shared.turns ≡ w.shared.turns

  by-choice : (b : Bool) (w u v : World X) → Same w u → Same w v → Same w (if b then u else v)
  by-choice true w u v h k = h
  by-choice false w u v h k = k

  -- ---- what is tried after an act

  -- unless the run has ended
  ongoing-same : (f : World X → World X) (w : World X) → Same w (f w) → Same w (ongoing f w)
  ongoing-same f w h = by-choice (is_none w.shared.ended) w (f w) w h refl

  mark-same : (how : Option End) (s : Shared) → (with_mark how s).turns ≡ s.turns
  mark-same None s = refl
  mark-same (Some how) s = refl

  main_there-same : (phase : Phase) (w : World X) → Same w (main_there e phase w)
  main_there-same Run w = refl
  main_there-same Asked w = refl
  main_there-same Main w = by-choice (main_is_normal e w.threads) w _ w refl refl
  main_there-same Others w = refl

  all_back-same : (phase : Phase) (w : World X) → Same w (all_back e phase w)
  all_back-same Run w = refl
  all_back-same Asked w = refl
  all_back-same Main w = refl
  all_back-same Others w = by-choice (all_normal e w.threads) w _ w refl refl

  decided-same : (j : Passage) (w : World X) (roots : List Root) (c : Option Closed) → Same w (decided e j w roots c)
  decided-same j w roots None = refl
  decided-same j w roots (Some c) = refl

  closing-same : (j : Option Passage) (w : World X) → Same w (closing e j w)
  closing-same None w = refl
  closing-same (Some j) w =
      let roots = thread_roots e j w.shared.memory w.threads in decided-same j w roots (refusal e j w roots)

  closed_up-same : (phase : Phase) (w : World X) → Same w (closed_up e job phase w)
  closed_up-same Run w = refl
  closed_up-same Asked w = by-choice (all_parked w.threads) w _ w (closing-same (passage_at job w.shared.version) w) refl
  closed_up-same Main w = refl
  closed_up-same Others w = refl

  request-same : (after : List ℕ) (w : World X) → Same w (request job after w)
  request-same [] w = refl
  request-same (n ∷ after) w =
      by-choice (is_some (passage_at job w.shared.version) && nat_le n w.shared.turns) w (requested after w) w refl refl

  asked-same : (phase : Phase) (w : World X) → Same w (asked job phase w)
  asked-same Run w = request-same w.shared.after w
  asked-same Asked w = refl
  asked-same Main w = refl
  asked-same Others w = refl

  stuck-same : (w : World X) → Same w (stuck e w)
  stuck-same w = by-choice (any_enabled e w 0 w.threads) w w _ refl refl

  spent-same : (w : World X) → Same w (on_shared (spent job) w)
  spent-same w = by-shared (w.shared.turns == job.budget)
    where
      by-shared : (b : Bool) → (if b then ended_as end.Budget w.shared else w.shared).turns ≡ w.shared.turns
      by-shared true = refl
      by-shared false = refl

  before_turn-same : (w : World X) → Same w (before_turn e job w)
  before_turn-same w =
      let a = ongoing (λ u. asked job u.shared.phase u) w in
      let b = ongoing (stuck e) a in
      ongoing-same (on_shared (spent job)) b (spent-same b)
      ∙ ongoing-same (stuck e) a (stuck-same a)
      ∙ ongoing-same (λ u. asked job u.shared.phase u) w (asked-same w.shared.phase w)

  after_act-same : (w : World X) → Same w (after_act e job w)
  after_act-same w =
      let a = end_marked w in
      let b = ongoing (λ u. main_there e u.shared.phase u) a in
      let c = ongoing (λ u. all_back e u.shared.phase u) b in
      let d = ongoing (λ u. closed_up e job u.shared.phase u) c in
      before_turn-same d
      ∙ ongoing-same (λ u. closed_up e job u.shared.phase u) c (closed_up-same c.shared.phase c)
      ∙ ongoing-same (λ u. all_back e u.shared.phase u) b (all_back-same b.shared.phase b)
      ∙ ongoing-same (λ u. main_there e u.shared.phase u) a (main_there-same a.shared.phase a)
      ∙ mark-same w.shared.ended w.shared

  -- ---- turns

  pub turn-counts : (w : World X) (t : ℕ) → (turn e job w t).shared.turns ≡ suc w.shared.turns
  turn-counts w t =
      after_act-same (counted (acted e (types_at job w.shared.version) w t))
      ∙ ap (λ (h : (ℕ × ℕ) × (Phase × List Mark)). suc h.0.0) (act-same e (types_at job w.shared.version) w t (slice_get w.threads t))

  counted-from : (turns : List ℕ) (w : World X) → (world_from e job w turns).shared.turns ≡ length turns + w.shared.turns
  unfolding world_from
  counted-from [] w = omega arith
  counted-from (t ∷ turns) w =
      let rest = counted-from turns (turn e job w t) in
      let one = turn-counts w t in
      omega (arith, rest, one)

  pub first-counts : (first_world e job).shared.turns ≡ 0
  first-counts = before_turn-same (start e job)

pub turns-counted : (job : Job) (turns : List ℕ) → TurnsAreCounted job turns
turns-counted job turns =
    let e = tree_engine job in
    let all = counted-from e job turns (first_world e job) in
    let none = first-counts e job in
    omega (arith, all, none)
