-- What turns keep: a property of worlds that an act, an update, a refusal, and changes beside memory, input and output
-- keep.
use Rattle.std.specs.Prelude.{◌≡◌, ℕ, ◌+◌, List, [], ◌∷◌, Option, Some, None, is_none, Bool, true, false, if◌then◌else◌, slice_get, refl}
use Rattle.kt_tree.specs.Version.{Program}
use Rattle.kt_lone.specs.declared.mark.End.TheVariants as end
use Rattle.kt_lone.specs.declared.mark.Phase.{Phase}
use Rattle.kt_lone.specs.declared.mark.Phase.TheVariants.{Run, Asked, Main, Others}
use Rattle.kt_lone.specs.Job.{Job, version_at, types_at}
use Rattle.kt_lone.specs.World.{Engine, Shared, Thread, World}
use Rattle.kt_lone.specs.Update.{lost_point, updated, refused, decided, closed_between, closing}
use Rattle.kt_lone.specs.Turn.{effect, act_of, acted, any_enabled, ongoing, on_shared, with_mark, ended_as, main_is_normal, all_normal, all_parked, main_there, all_back, closed_up, asked, stuck, spent, before_turn, after_act, turn, start, first_world, world_from, MayTurn, MayTurnAll}
use Rattle.kt_lone.specs.SharedLaws.{KeepsOutside, with_mark-keeps, asked-keeps, spent-keeps}

-- the versions between which the worlds of an update or a refusal lie; no thread lives that isn't parked
pub record IsBetween {X : Type 0} (job : Job) (old new : Program) (w : World X) : Type 0 where
  pub from : version_at job w.shared.version ≡ Some old
  pub to : version_at job (w.shared.version + 1) ≡ Some new
  pub parked : all_parked w.threads ≡ true

pub record IsKept {X : Type 0} (e : Engine X) (job : Job) (P : World X → Type 0) : Type 0 where
  pub shared : (s r : Shared) (l : List (Thread X)) → KeepsOutside s r → P (record { shared = s; threads = l }) →
      P (record { shared = r; threads = l })
  pub act : (w : World X) (t : ℕ) (th : Thread X) → slice_get w.threads t ≡ Some th → MayTurn e w t → P w →
      P (effect e (types_at job w.shared.version) w t th (e.step w.shared.version th.state))
  -- the new version has the point of each parked thread
  pub update : (old new : Program) (w : World X) → IsBetween job old new w → lost_point e w.shared.version old new 0 w.threads ≡ None →
      P w → P (updated e old new w)
  pub refusal : (old new : Program) (t : ℕ) (w : World X) → IsBetween job old new w → P w → P (refused e t w)

module _ {X : Type 0} (e : Engine X) (job : Job) (P : World X → Type 0) (kept : IsKept e job P) where
  if-keeps : (b : Bool) (w v : World X) → P w → P v → P (if b then w else v)
  if-keeps true w v h k = h
  if-keeps false w v h k = k

  on_shared-keeps : (change : Shared → Shared) → ((s : Shared) → KeepsOutside s (change s)) → (w : World X) → P w → P (on_shared change w)
  on_shared-keeps change keeps w h = kept.shared w.shared (change w.shared) w.threads (keeps w.shared) h

  ongoing-keeps : (go : World X → World X) → ((w : World X) → P w → P (go w)) → (w : World X) → P w → P (ongoing go w)
  ongoing-keeps go one w h = if-keeps (is_none w.shared.ended) (go w) w (one w h) h

  main_there-keeps : (phase : Phase) (w : World X) → P w → P (main_there e phase w)
  main_there-keeps Run w h = h
  main_there-keeps Asked w h = h
  main_there-keeps Main w h =
      if-keeps (main_is_normal e w.threads) _ w
      (kept.shared w.shared _ w.threads (record { version = refl; kept = refl; outside = refl }) h) h
  main_there-keeps Others w h = h

  all_back-keeps : (phase : Phase) (w : World X) → P w → P (all_back e phase w)
  all_back-keeps Run w h = h
  all_back-keeps Asked w h = h
  all_back-keeps Main w h = h
  all_back-keeps Others w h =
      if-keeps (all_normal e w.threads) _ w
      (kept.shared w.shared _ w.threads (record { version = refl; kept = refl; outside = refl }) h) h

  decided-keeps : (old new : Program) (lost : Option ℕ) (w : World X) → lost_point e w.shared.version old new 0 w.threads ≡ lost →
      IsBetween job old new w → P w → P (decided e old new lost w)
  decided-keeps old new None w found between h = kept.update old new w between found h
  decided-keeps old new (Some t) w found between h = kept.refusal old new t w between h

  closed_between-keeps : (old new : Option Program) (w : World X) → version_at job w.shared.version ≡ old →
      version_at job (w.shared.version + 1) ≡ new → all_parked w.threads ≡ true → P w → P (closed_between e old new w)
  closed_between-keeps None new w from to parked h = h
  closed_between-keeps (Some old) None w from to parked h = h
  closed_between-keeps (Some old) (Some new) w from to parked h =
      decided-keeps old new (lost_point e w.shared.version old new 0 w.threads) w refl (record { from = from; to = to; parked = parked }) h

  parked-keeps : (b : Bool) (w : World X) → all_parked w.threads ≡ b → P w → P (if b then closing e job w else w)
  parked-keeps true w parked h =
      closed_between-keeps (version_at job w.shared.version) (version_at job (w.shared.version + 1)) w refl refl parked h
  parked-keeps false w parked h = h

  closed_up-keeps : (phase : Phase) (w : World X) → P w → P (closed_up e job phase w)
  closed_up-keeps Run w h = h
  closed_up-keeps Asked w h = parked-keeps (all_parked w.threads) w refl h
  closed_up-keeps Main w h = h
  closed_up-keeps Others w h = h

  stuck-keeps : (w : World X) → P w → P (stuck e w)
  stuck-keeps w h =
      if-keeps (any_enabled e w.shared 0 w.threads) w _ h
      (kept.shared w.shared (ended_as end.Stuck w.shared) w.threads (record { version = refl; kept = refl; outside = refl }) h)

  pub before_turn-keeps : (w : World X) → P w → P (before_turn e job w)
  before_turn-keeps w h =
      ongoing-keeps (on_shared (spent job)) (on_shared-keeps (spent job) (spent-keeps job)) _
      (ongoing-keeps (stuck e) stuck-keeps _
      (ongoing-keeps (λ u. on_shared (asked job u.shared.phase) u)
      (λ u k. kept.shared u.shared _ u.threads (asked-keeps job u.shared.phase u.shared) k) w h))

  pub after_act-keeps : (w : World X) → P w → P (after_act e job w)
  after_act-keeps w h =
      before_turn-keeps _
      (ongoing-keeps (λ u. closed_up e job u.shared.phase u) (λ u. closed_up-keeps u.shared.phase u) _
      (ongoing-keeps (λ u. all_back e u.shared.phase u) (λ u. all_back-keeps u.shared.phase u) _
      (ongoing-keeps (λ u. main_there e u.shared.phase u) (λ u. main_there-keeps u.shared.phase u) _
      (on_shared-keeps (λ s. with_mark s.ended s) (λ s. with_mark-keeps s.ended s) w h))))

  act_of-keeps : (w : World X) (t : ℕ) (o : Option (Thread X)) → slice_get w.threads t ≡ o → MayTurn e w t → P w → P (act_of e job w t o)
  act_of-keeps w t None found may h = h
  act_of-keeps w t (Some th) found may h = kept.act w t th found may h

  pub turn-keeps : (w : World X) (t : ℕ) → MayTurn e w t → P w → P (turn e job w t)
  turn-keeps w t may h =
      after_act-keeps _
      (on_shared-keeps (λ s. record s { turns = s.turns + 1 }) (λ s. record { version = refl; kept = refl; outside = refl }) (acted e job w t)
      (act_of-keeps w t (slice_get w.threads t) refl may h))

  -- the world before the first turn
  pub first_world-keeps : P (start e job) → P (first_world e job)
  first_world-keeps h = before_turn-keeps (start e job) h

  pub world_from-keeps : (turns : List ℕ) (w : World X) → MayTurnAll e job w turns → P w → P (world_from e job w turns)
  world_from-keeps [] w may h = h
  world_from-keeps (t ∷ turns) w may h = world_from-keeps turns (turn e job w t) may.1 (turn-keeps w t may.0 h)
