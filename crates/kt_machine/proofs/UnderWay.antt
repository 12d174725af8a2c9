-- Worlds between turns: each turn counts, and where the run goes on, some thread may take the next one.
use Rattle.std.specs.Prelude.{◌≡◌, ℕ, ◌+◌, ◌<◌, ◌==◌, nat_le, List, [], ◌∷◌, length, Option, Some, None, is_none, is_some, Bool, true, false, ◌&&◌, if◌then◌else◌, slice_get, refl}
use Rattle.std.proofs.Common.{sym, subst, ap, ◌∙◌}
use Rattle.std.proofs.lemmas.Option.{none-some, slice_get_within}
use Rattle.kt_types.specs.Table.{Table}
use Rattle.kt_mem.specs.declared.steps.Act.{Act}
use Rattle.kt_mem.specs.declared.steps.Act.TheVariants as act
use Rattle.kt_mem.specs.declared.steps.Reply.{Reply}
use Rattle.kt_mem.specs.declared.steps.Reply.TheVariants.{Done, Got, Trapped}
use Rattle.kt_mem.specs.declared.thread.Mode.{Mode}
use Rattle.kt_mem.specs.declared.thread.Mode.TheVariants.{Normal, Updating}
use Rattle.kt_tree.specs.Version.{Program}
use Rattle.kt_meaning.specs.Effects as outside
use Rattle.kt_meaning.specs.Effects.{Outcome, Replies, Waits, Elsewhere}
use Rattle.kt_meaning.specs.Steps.{Step, Quiet, Acts, Traps, Ends}
use Rattle.kt_lone.specs.declared.mark.End.{End}
use Rattle.kt_lone.specs.declared.mark.End.TheVariants as end
use Rattle.kt_lone.specs.declared.mark.Phase.{Phase}
use Rattle.kt_lone.specs.declared.mark.Phase.TheVariants.{Run, Asked, Main, Others}
use Rattle.kt_lone.specs.Job.{Job, version_at, types_at}
use Rattle.kt_lone.specs.World.{Engine, Shared, Thread, World, outside_of, with_outside}
use Rattle.kt_lone.specs.Update.{lost_point, decided, closed_between, closing}
use Rattle.kt_lone.specs.Turn.{answered, at_point, migrated, elsewhere, on_outcome, ends, effect, act_of, acted, counted, any_enabled, ongoing, on_shared, with_mark, ended_as, main_is_normal, all_normal, all_parked, main_there, all_back, closed_up, request, asked, stuck, spent, before_turn, after_act, turn, start, first_world, world_from, MayTurnAll}
use Rattle.kt_lone.specs.Kept.{IsKept, first_world-keeps, world_from-keeps}

-- ---- acts

-- the version in force and the count of turns stay
record IsActed {X : Type 0} (w v : World X) : Type 0 where
  version : v.shared.version ≡ w.shared.version
  turns : v.shared.turns ≡ w.shared.turns

unmoved : {X : Type 0} (w : World X) → IsActed w w
unmoved w = record { version = refl; turns = refl }

module _ {X : Type 0} (e : Engine X) (job : Job) where
  module _ (w : World X) (t : ℕ) (th : Thread X) where
    answered-acted : (s : Shared) (r : Reply) → s.version ≡ w.shared.version → s.turns ≡ w.shared.turns → IsActed w (answered e w t th s r)
    answered-acted s Done version turns = record { version = version; turns = turns }
    answered-acted s (Got v) version turns = record { version = version; turns = turns }
    answered-acted s (Trapped cause) version turns = record { version = version; turns = turns }

    at_point-acted : (mode : Mode) (phase : Phase) → IsActed w (at_point e w t th mode phase)
    at_point-acted Normal Run = record { version = refl; turns = refl }
    at_point-acted Normal Asked = record { version = refl; turns = refl }
    at_point-acted Normal Main = record { version = refl; turns = refl }
    at_point-acted Normal Others = record { version = refl; turns = refl }
    at_point-acted (Updating p) phase = record { version = refl; turns = refl }

    migrated-acted : (mode : Mode) → IsActed w (answered e w t th (migrated mode w.shared) Done)
    migrated-acted Normal = record { version = refl; turns = refl }
    migrated-acted (Updating p) = record { version = refl; turns = refl }

    elsewhere-acted : (a : Act) → IsActed w (elsewhere e w t th a)
    elsewhere-acted (act.Create f v) = record { version = refl; turns = refl }
    elsewhere-acted (act.Join n) = record { version = refl; turns = refl }
    elsewhere-acted (act.Point p) = at_point-acted (e.mode th.state) w.shared.phase
    elsewhere-acted act.Automigrate = migrated-acted (e.mode th.state)
    elsewhere-acted _ = unmoved w

    on_outcome-acted : (a : Act) (o : Outcome) → IsActed w (on_outcome e w t th a o)
    on_outcome-acted a (Replies r s) = answered-acted (with_outside w.shared s) r refl refl
    on_outcome-acted a Waits = unmoved w
    on_outcome-acted a Elsewhere = elsewhere-acted a

    ends-acted : (a : Act) → IsActed w (ends w t th a)
    ends-acted act.ThreadEnd = record { version = refl; turns = refl }
    ends-acted (act.MainReturn n) = record { version = refl; turns = refl }
    ends-acted _ = unmoved w

    effect-acted : (types : Table) (s : Step X) → IsActed w (effect e types w t th s)
    effect-acted types (Quiet x) = unmoved w
    effect-acted types (Acts a go) = on_outcome-acted a (outside.effect types t a (outside_of w.shared))
    effect-acted types (Traps cause) = record { version = refl; turns = refl }
    effect-acted types (Ends a) = ends-acted a

  act_of-acted : (w : World X) (t : ℕ) (o : Option (Thread X)) → IsActed w (act_of e job w t o)
  act_of-acted w t None = unmoved w
  act_of-acted w t (Some th) = effect-acted w t th (types_at job w.shared.version) (e.step w.shared.version th.state)

  -- ---- the version in force

  -- it is one of the job's
  abbrev pub HasVersion : World X → Type 0
  HasVersion w = w.shared.version < length job.versions

  HasVersion-kept : IsKept e job HasVersion
  HasVersion-kept = record {
    shared = λ s r l same h. subst (λ n. n < length job.versions) (sym same.version) h;
    act = λ w t th found may h.
        subst (λ n. n < length job.versions) (sym (effect-acted w t th (types_at job w.shared.version) (e.step w.shared.version th.state)).version) h;
    update = λ old new w between found h. slice_get_within job.versions (w.shared.version + 1) new between.to;
    refusal = λ old new t w between h. h;
  }

  pub worlds-version : 0 < length job.versions → (turns : List ℕ) → MayTurnAll e job (first_world e job) turns →
      HasVersion (world_from e job (first_world e job) turns)
  worlds-version some turns may =
      world_from-keeps e job HasVersion HasVersion-kept turns (first_world e job) may (first_world-keeps e job HasVersion HasVersion-kept some)

-- ---- the count of turns

-- as many turns were made in the one as in the other
record CountsAs {X : Type 0} (w v : World X) : Type 0 where
  turns : v.shared.turns ≡ w.shared.turns

same : {X : Type 0} (w : World X) → CountsAs w w
same w = record { turns = refl }

joined : {X : Type 0} (w v u : World X) → CountsAs w v → CountsAs v u → CountsAs w u
joined w v u h k = record { turns = k.turns ∙ h.turns }

if-counts : {X : Type 0} (b : Bool) (w v u : World X) → CountsAs w v → CountsAs w u → CountsAs w (if b then v else u)
if-counts true w v u h k = h
if-counts false w v u h k = k

with_mark-turns : (o : Option End) (s : Shared) → (with_mark o s).turns ≡ s.turns
with_mark-turns None s = refl
with_mark-turns (Some how) s = refl

if-turns : (b : Bool) (s r : Shared) → r.turns ≡ s.turns → (if b then r else s).turns ≡ s.turns
if-turns true s r h = h
if-turns false s r h = refl

request-turns : (job : Job) (after : List ℕ) (s : Shared) → (request job after s).turns ≡ s.turns
request-turns job [] s = refl
request-turns job (n ∷ after) s = if-turns (is_some (version_at job (s.version + 1)) && nat_le n s.turns) s _ refl

asked-turns : (job : Job) (phase : Phase) (s : Shared) → (asked job phase s).turns ≡ s.turns
asked-turns job Run s = request-turns job s.after s
asked-turns job Asked s = refl
asked-turns job Main s = refl
asked-turns job Others s = refl

spent-turns : (job : Job) (s : Shared) → (spent job s).turns ≡ s.turns
spent-turns job s = if-turns (s.turns == job.budget) s _ refl

module _ {X : Type 0} (e : Engine X) (job : Job) where
  -- ---- what is tried after it

  ongoing-counts : (go : World X → World X) → ((w : World X) → CountsAs w (go w)) → (w : World X) → CountsAs w (ongoing go w)
  ongoing-counts go one w = if-counts (is_none w.shared.ended) w (go w) w (one w) (same w)

  main_there-counts : (phase : Phase) (w : World X) → CountsAs w (main_there e phase w)
  main_there-counts Run w = same w
  main_there-counts Asked w = same w
  main_there-counts Main w = if-counts (main_is_normal e w.threads) w _ w (record { turns = refl }) (same w)
  main_there-counts Others w = same w

  all_back-counts : (phase : Phase) (w : World X) → CountsAs w (all_back e phase w)
  all_back-counts Run w = same w
  all_back-counts Asked w = same w
  all_back-counts Main w = same w
  all_back-counts Others w = if-counts (all_normal e w.threads) w _ w (record { turns = refl }) (same w)

  decided-counts : (old new : Program) (lost : Option ℕ) (w : World X) → CountsAs w (decided e old new lost w)
  decided-counts old new None w = record { turns = refl }
  decided-counts old new (Some t) w = record { turns = refl }

  closed_between-counts : (old new : Option Program) (w : World X) → CountsAs w (closed_between e old new w)
  closed_between-counts None new w = same w
  closed_between-counts (Some old) None w = same w
  closed_between-counts (Some old) (Some new) w = decided-counts old new (lost_point e w.shared.version old new 0 w.threads) w

  closed_up-counts : (phase : Phase) (w : World X) → CountsAs w (closed_up e job phase w)
  closed_up-counts Run w = same w
  closed_up-counts Asked w =
      if-counts (all_parked w.threads) w (closing e job w) w
      (closed_between-counts (version_at job w.shared.version) (version_at job (w.shared.version + 1)) w) (same w)
  closed_up-counts Main w = same w
  closed_up-counts Others w = same w

  stuck-counts : (w : World X) → CountsAs w (stuck e w)
  stuck-counts w = if-counts (any_enabled e w.shared 0 w.threads) w w _ (same w) (record { turns = refl })

  before_turn-counts : (w : World X) → CountsAs w (before_turn e job w)
  before_turn-counts w =
      let a = ongoing (λ (u : World X). on_shared (asked job u.shared.phase) u) w in
      let b = ongoing (stuck e) a in
      joined w b (before_turn e job w)
      (joined w a b (ongoing-counts (λ u. on_shared (asked job u.shared.phase) u) (λ u. record { turns = asked-turns job u.shared.phase u.shared }) w)
      (ongoing-counts (stuck e) stuck-counts a))
      (ongoing-counts (on_shared (spent job)) (λ u. record { turns = spent-turns job u.shared }) b)

  after_act-counts : (w : World X) → CountsAs w (after_act e job w)
  after_act-counts w =
      let a = on_shared (λ s. with_mark s.ended s) w in
      let b = ongoing (λ (u : World X). main_there e u.shared.phase u) a in
      let c = ongoing (λ (u : World X). all_back e u.shared.phase u) b in
      let d = ongoing (λ (u : World X). closed_up e job u.shared.phase u) c in
      joined w d (after_act e job w)
      (joined w c d
      (joined w b c
      (joined w a b (record { turns = with_mark-turns w.shared.ended w.shared })
      (ongoing-counts (λ u. main_there e u.shared.phase u) (λ u. main_there-counts u.shared.phase u) a))
      (ongoing-counts (λ u. all_back e u.shared.phase u) (λ u. all_back-counts u.shared.phase u) b))
      (ongoing-counts (λ u. closed_up e job u.shared.phase u) (λ u. closed_up-counts u.shared.phase u) c))
      (before_turn-counts d)

  pub first-turns : (first_world e job).shared.turns ≡ 0
  first-turns = (before_turn-counts (start e job)).turns

  -- a turn counts
  pub turn-turns : (w : World X) (t : ℕ) → (turn e job w t).shared.turns ≡ w.shared.turns + 1
  turn-turns w t =
      (after_act-counts (counted (acted e job w t))).turns
      ∙ ap (λ n. n + 1) (act_of-acted e job w t (slice_get w.threads t)).turns

  -- where these are the turns after the act
  pub rest-turns : (w v : World X) (t : ℕ) → v.shared.turns ≡ (acted e job w t).shared.turns → (after_act e job (counted v)).shared.turns ≡ w.shared.turns + 1
  rest-turns w v t e_turns =
      (after_act-counts (counted v)).turns ∙ ap (λ n. n + 1) (e_turns ∙ (act_of-acted e job w t (slice_get w.threads t)).turns)

-- ---- where the run goes on

-- some thread may take a turn, and the budget is not used up
pub record GoesOn {X : Type 0} (e : Engine X) (job : Job) (w : World X) : Type 0 where
  pub some : any_enabled e w.shared 0 w.threads ≡ true
  pub unspent : (w.shared.turns == job.budget) ≡ false

module _ {X : Type 0} (e : Engine X) (job : Job) where
  -- unless the run has ended, some thread may take a turn
  abbrev HasEnabled : World X → Type 0
  HasEnabled w = w.shared.ended ≡ None → any_enabled e w.shared 0 w.threads ≡ true

  abbrev pub IsOpen : World X → Type 0
  IsOpen w = w.shared.ended ≡ None → GoesOn e job w

  stuck-enabled : (w : World X) (o : Option End) (b : Bool) → w.shared.ended ≡ o → any_enabled e w.shared 0 w.threads ≡ b →
      HasEnabled (if is_none o then (if b then w else on_shared (ended_as end.Stuck) w) else w)
  stuck-enabled w (Some how) b ended some = λ none. absurd (none-some how (sym none ∙ ended))
  stuck-enabled w None true ended some = λ none. some
  stuck-enabled w None false ended some = λ none. absurd (none-some end.Stuck (sym none))

  spent-open : (w : World X) (o : Option End) (b : Bool) → w.shared.ended ≡ o → (w.shared.turns == job.budget) ≡ b → HasEnabled w →
      IsOpen (if is_none o then record { shared = if b then ended_as end.Budget w.shared else w.shared; threads = w.threads } else w)
  spent-open w (Some how) b ended spent h = λ none. absurd (none-some how (sym none ∙ ended))
  spent-open w None true ended spent h = λ none. absurd (none-some end.Budget (sym none))
  spent-open w None false ended spent h = λ none. record { some = h none; unspent = spent }

  before_turn-open : (w : World X) → IsOpen (before_turn e job w)
  before_turn-open w =
      let a = ongoing (λ (u : World X). on_shared (asked job u.shared.phase) u) w in
      let b = ongoing (stuck e) a in
      spent-open b b.shared.ended (b.shared.turns == job.budget) refl refl
      (stuck-enabled a a.shared.ended (any_enabled e a.shared 0 a.threads) refl refl)

  pub first-open : IsOpen (first_world e job)
  first-open = before_turn-open (start e job)

  after_act-open : (w : World X) → IsOpen (after_act e job w)
  after_act-open w =
      let a = on_shared (λ s. with_mark s.ended s) w in
      let b = ongoing (λ (u : World X). main_there e u.shared.phase u) a in
      let c = ongoing (λ (u : World X). all_back e u.shared.phase u) b in
      before_turn-open (ongoing (λ (u : World X). closed_up e job u.shared.phase u) c)

  -- behind an act that any world stands for
  pub rest-open : (w : World X) → IsOpen (after_act e job (counted w))
  rest-open w = after_act-open (counted w)

  pub turn-open : (w : World X) (t : ℕ) → IsOpen (turn e job w t)
  turn-open w t = after_act-open (counted (acted e job w t))
