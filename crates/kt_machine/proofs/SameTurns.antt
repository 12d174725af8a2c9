-- Worlds that stand for one another still do after a turn: each definition of a turn, same in, same out.
use Rattle.std.specs.Prelude.{◌≡◌, ℕ, ◌+◌, List, Option, Some, None, is_none, true, slice_get, refl}
use Rattle.std.specs.Option.{is_some}
use Rattle.std.proofs.Common.{sym, subst, ap, ◌∙◌}
use Rattle.kt_types.specs.Table.{Table}
use Rattle.kt_mem.specs.declared.steps.Act.{Act}
use Rattle.kt_mem.specs.declared.steps.Act.TheVariants as act
use Rattle.kt_mem.specs.declared.steps.Reply.{Reply}
use Rattle.kt_mem.specs.declared.steps.Reply.TheVariants.{Done, Got, Trapped}
use Rattle.kt_mem.specs.declared.steps.Trap.{Trap}
use Rattle.kt_mem.specs.declared.steps.Trap.TheVariants as trap
use Rattle.kt_mem.specs.declared.thread.Mode.{Mode}
use Rattle.kt_mem.specs.declared.thread.Mode.TheVariants.{Normal, Updating}
use Rattle.kt_tree.specs.Version.{Program}
use Rattle.kt_meaning.specs.Effects as outside
use Rattle.kt_meaning.specs.Effects.{Outcome, Replies, Waits, Elsewhere}
use Rattle.kt_meaning.specs.Laws.{IsShared, IsOutcomeOf}
use Rattle.kt_meaning.specs.Steps.{Step, Acts, Traps, Ends}
use Rattle.kt_meaning.proofs.EffectTypes.{effect-IsOutcomeOf}
use Rattle.kt_code.specs.Agreement.{IsReplyTo, SameHead}
use Rattle.kt_lone.specs.declared.mark.End.TheVariants as end
use Rattle.kt_lone.specs.declared.mark.Phase.{Phase}
use Rattle.kt_lone.specs.declared.mark.Phase.TheVariants.{Run, Asked, Main, Others}
use Rattle.kt_lone.specs.Job.{Job, version_at, types_at}
use Rattle.kt_lone.specs.SharedLaws.{with_mark-keeps, asked-keeps, spent-keeps}
use Rattle.kt_lone.specs.Turn.{answered, at_point, migrated, elsewhere, on_outcome, ends, effect, act_of, acted, is_enabled, enabled_if, any_enabled, ongoing, on_shared, with_mark, main_is_normal, all_normal, all_parked, main_there, all_back, closed_up, asked, stuck, spent, before_turn, after_act, counted, turn, start, first_world, MayTurn}
use Rattle.kt_lone.specs.TypedThreads.{IsModeIf}
use Rattle.kt_lone.specs.Update.{point_of}
use Rattle.kt_lone.specs.World.{Engine, Standing, Live, Shared, Thread, World, outside_of, with_outside}
use Rattle.kt_machine.specs.Same.{IsSameThread, AreSameThreads, AreSameWorlds}
use Rattle.kt_machine.proofs.SameThreads.{AreSameEngines, AreSameFound, slice_get-same, slice_set-same, all_normal-same, all_parked-same, main_is_normal-same, enabled_if-same, any_enabled-same, enabled-live}
use Rattle.kt_machine.proofs.SameUpdates.{chosen-same, closing-same}

normal-mode : (o : Option Program) → IsModeIf o Normal
normal-mode None = tt
normal-mode (Some p) = tt

module _ {X Y : Type 0} (e : Engine X) (f : Engine Y) (S : ℕ → Standing → X → Y → Type 0) (job : Job) (engines : AreSameEngines e f S job) where
  -- threads that stand for one another, where what is shared is equal
  abbrev Alike : Shared → List (Thread X) → List (Thread Y) → Type 0
  Alike s l m = AreSameThreads (S s.version) l m

  -- what holds of each two such worlds
  on_same : (C : World X → World Y → Type 0) →
      ((s : Shared) (l : List (Thread X)) (m : List (Thread Y)) → Alike s l m →
      C (record { shared = s; threads = l }) (record { shared = s; threads = m })) →
      (w : World X) (v : World Y) → AreSameWorlds S w v → C w v
  on_same C all w v h =
      subst (λ (s : Shared). C w (record { shared = s; threads = v.threads })) h.shared (all w.shared w.threads v.threads h.threads)

  -- ---- an act of a thread that lives

  module _ (s : Shared) (l : List (Thread X)) (m : List (Thread Y)) (t : ℕ) (x : X) (y : Y) where
    abbrev left : World X
    left = record { shared = s; threads = l }

    abbrev right : World Y
    right = record { shared = s; threads = m }

    abbrev mine : Thread X
    mine = record { state = x; standing = Live }

    abbrev theirs : Thread Y
    theirs = record { state = y; standing = Live }

    -- the run ends, and the threads stay
    traps-same : (r : Shared) → Alike r l m → (cause : Trap) →
        AreSameWorlds S (answered e left t mine r (Trapped cause)) (answered f right t theirs r (Trapped cause))
    traps-same r h cause = record { shared = refl; threads = h }

    -- the thread goes on, and this is shared
    answered-same : (r : Shared) → Alike r l m → S r.version Live x y → (reply : Reply) → IsReplyTo (e.step r.version x) reply →
        AreSameWorlds S (answered e left t mine r reply) (answered f right t theirs r reply)
    answered-same r h k Done is = record {
      shared = refl;
      threads = slice_set-same (S r.version) l m t _ _ h (record { standing = refl; state = engines.replies r.version x y k Done is });
    }
    answered-same r h k (Got v) is = record {
      shared = refl;
      threads = slice_set-same (S r.version) l m t _ _ h (record { standing = refl; state = engines.replies r.version x y k (Got v) is });
    }
    answered-same r h k (Trapped cause) is = traps-same r h cause

    at_point-same : Alike s l m → S s.version Live x y → is_some (point_of (e.step s.version x)) ≡ true → IsReplyTo (e.step s.version x) Done →
        (mode : Mode) (phase : Phase) → AreSameWorlds S (at_point e left t mine mode phase) (at_point f right t theirs mode phase)
    at_point-same h k point is (Updating q) phase = answered-same s h k Done is
    at_point-same h k point is Normal Run = answered-same s h k Done is
    at_point-same h k point is Normal Asked = record {
      shared = refl;
      threads = slice_set-same (S s.version) l m t _ _ h (record { standing = refl; state = engines.parks s.version x y k point });
    }
    at_point-same h k point is Normal Main = answered-same s h k Done is
    at_point-same h k point is Normal Others = answered-same s h k Done is

    migrated-same : Alike s l m → S s.version Live x y → IsReplyTo (e.step s.version x) Done → (mode : Mode) →
        AreSameWorlds S (answered e left t mine (migrated mode s) Done) (answered f right t theirs (migrated mode s) Done)
    migrated-same h k is Normal = answered-same s h k Done is
    migrated-same h k is (Updating q) = answered-same (migrated (Updating q) s) h k Done is

    -- acts on threads and updates
    elsewhere-same : Alike s l m → S s.version Live x y → (a : Act) (go : Reply → X) → e.step s.version x ≡ Acts a go →
        AreSameWorlds S (elsewhere e left t mine a) (elsewhere f right t theirs a)
    elsewhere-same h k (act.Create g v) go at = traps-same s h trap.Threads
    elsewhere-same h k (act.Join n) go at = traps-same s h trap.Thread
    elsewhere-same h k (act.Point p) go at =
        subst (λ mode. AreSameWorlds S (at_point e left t mine (e.mode x) s.phase) (at_point f right t theirs mode s.phase))
        (engines.modes s.version Live x y k)
        (at_point-same h k (ap (λ step. is_some (point_of step)) at) (subst (λ step. IsReplyTo step Done) (sym at) (refl, tt)) (e.mode x) s.phase)
    elsewhere-same h k act.Automigrate go at =
        subst (λ mode. AreSameWorlds S (answered e left t mine (migrated (e.mode x) s) Done) (answered f right t theirs (migrated mode s) Done))
        (engines.modes s.version Live x y k)
        (migrated-same h k (subst (λ step. IsReplyTo step Done) (sym at) (refl, tt)) (e.mode x))
    elsewhere-same h k a go at = record { shared = refl; threads = h }

    on_outcome-same : Alike s l m → S s.version Live x y → (a : Act) (go : Reply → X) → e.step s.version x ≡ Acts a go → (o : Outcome) → IsOutcomeOf a o →
        AreSameWorlds S (on_outcome e left t mine a o) (on_outcome f right t theirs a o)
    on_outcome-same h k a go at (Replies r o) is =
        answered-same (with_outside s o) h k r (subst (λ step. IsReplyTo step r) (sym at) is)
    on_outcome-same h k a go at Waits is = record { shared = refl; threads = h }
    on_outcome-same h k a go at Elsewhere is = elsewhere-same h k a go at

    ends-same : Alike s l m → S s.version Live x y → (a : Act) → AreSameWorlds S (ends left t mine a) (ends right t theirs a)
    ends-same h k act.ThreadEnd = record {
      shared = refl;
      threads = slice_set-same (S s.version) l m t _ _ h (record { standing = refl; state = engines.ends s.version x y k });
    }
    ends-same h k (act.MainReturn n) = record { shared = refl; threads = h }
    ends-same h k a = record { shared = refl; threads = h }

    effect-same : Alike s l m → S s.version Live x y → IsShared (outside_of s) → (types : Table) (i : Step X) (j : Step Y) →
        e.step s.version x ≡ i → SameHead i j → AreSameWorlds S (effect e types left t mine i) (effect f types right t theirs j)
    effect-same h k typed types (Acts a go) (Acts b go') at head =
        subst (λ b. AreSameWorlds S (on_outcome e left t mine a (outside.effect types t a (outside_of s)))
        (on_outcome f right t theirs b (outside.effect types t b (outside_of s)))) head
        (on_outcome-same h k a go at (outside.effect types t a (outside_of s)) (effect-IsOutcomeOf types t a (outside_of s) typed))
    effect-same h k typed types (Traps c) (Traps d) at head = record {
      shared = ap (λ c. record s { ended = Some (end.Trap t c) }) head;
      threads = h;
    }
    effect-same h k typed types (Ends a) (Ends b) at head =
        subst (λ b. AreSameWorlds S (ends left t mine a) (ends right t theirs b)) head (ends-same h k a)
    effect-same h k typed types i j at head = absurd head

  -- ---- the act of a thread that may take a turn

  -- where both live
  lives-same : (s : Shared) (l : List (Thread X)) (m : List (Thread Y)) → Alike s l m → (t : ℕ) (types : Table) → IsShared (outside_of s) →
      (a : Thread X) (b : Thread Y) → Live ≡ a.standing → IsSameThread (S s.version) a b →
      AreSameWorlds S (effect e types (record { shared = s; threads = l }) t a (e.step s.version a.state))
      (effect f types (record { shared = s; threads = m }) t b (f.step s.version b.state))
  lives-same s l m h t types typed a b live k =
      let x = a.state in
      let y = b.state in
      let state : S s.version Live x y = subst (λ standing. S s.version standing x y) (sym live) k.state in
      let here : AreSameWorlds S (effect e types (record { shared = s; threads = l }) t (record { state = x; standing = Live }) (e.step s.version x))
      (effect f types (record { shared = s; threads = m }) t (record { state = y; standing = Live }) (f.step s.version y)) =
      effect-same s l m t x y h state typed types (e.step s.version x) (f.step s.version y) refl (engines.heads s.version x y state) in
      subst (λ standing. AreSameWorlds S (effect e types (record { shared = s; threads = l }) t a (e.step s.version x))
      (effect f types (record { shared = s; threads = m }) t (record { state = y; standing = standing }) (f.step s.version y)))
      (live ∙ k.standing)
      (subst (λ standing. AreSameWorlds S (effect e types (record { shared = s; threads = l }) t (record { state = x; standing = standing }) (e.step s.version x))
      (effect f types (record { shared = s; threads = m }) t (record { state = y; standing = Live }) (f.step s.version y)))
      live here)

  act_of-same : (s : Shared) (l : List (Thread X)) (m : List (Thread Y)) → Alike s l m → (t : ℕ) → IsShared (outside_of s) →
      (o : Option (Thread X)) (p : Option (Thread Y)) → AreSameFound (S s.version) o p → enabled_if e s t o ≡ true →
      AreSameWorlds S (act_of e job (record { shared = s; threads = l }) t o) (act_of f job (record { shared = s; threads = m }) t p)
  act_of-same s l m h t typed None None k on = record { shared = refl; threads = h }
  act_of-same s l m h t typed (Some a) (Some b) k on =
      lives-same s l m h t (types_at job s.version) typed a b (sym (enabled-live e s t a.standing a.state on)) k
  act_of-same s l m h t typed None (Some b) k on = absurd k
  act_of-same s l m h t typed (Some a) None k on = absurd k

  acted-same : (t : ℕ) (w : World X) (v : World Y) → AreSameWorlds S w v → IsShared (outside_of w.shared) → is_enabled e w t ≡ true →
      AreSameWorlds S (acted e job w t) (acted f job v t)
  acted-same t = on_same (λ w v. IsShared (outside_of w.shared) → is_enabled e w t ≡ true → AreSameWorlds S (acted e job w t) (acted f job v t))
      (λ s l m h typed on. act_of-same s l m h t typed (slice_get l t) (slice_get m t) (slice_get-same (S s.version) l m t h) on)

  -- ---- what is tried after an act

  on_shared-same : (change : Shared → Shared) → ((s : Shared) → (change s).version ≡ s.version) → (w : World X) (v : World Y) →
      AreSameWorlds S w v → AreSameWorlds S (on_shared change w) (on_shared change v)
  on_shared-same change keeps = on_same (λ w v. AreSameWorlds S (on_shared change w) (on_shared change v))
      (λ s l m h. record { shared = refl; threads = subst (λ n. AreSameThreads (S n) l m) (sym (keeps s)) h })

  ongoing-same : (go : World X → World X) (go' : World Y → World Y) →
      ((w : World X) (v : World Y) → AreSameWorlds S w v → AreSameWorlds S (go w) (go' v)) →
      (w : World X) (v : World Y) → AreSameWorlds S w v → AreSameWorlds S (ongoing go w) (ongoing go' v)
  ongoing-same go go' one w v h =
      chosen-same S (is_none w.shared.ended) (is_none v.shared.ended) (ap (λ (s : Shared). is_none s.ended) h.shared) (go w) w (go' v) v (λ _. one w v h) h

  main_there-same : (phase : Phase) (s : Shared) (l : List (Thread X)) (m : List (Thread Y)) → Alike s l m →
      AreSameWorlds S (main_there e phase (record { shared = s; threads = l })) (main_there f phase (record { shared = s; threads = m }))
  main_there-same Run s l m h = record { shared = refl; threads = h }
  main_there-same Asked s l m h = record { shared = refl; threads = h }
  main_there-same Main s l m h =
      chosen-same S (main_is_normal e l) (main_is_normal f m) (main_is_normal-same e f S job engines s.version l m h) _ _ _ _
      (λ _. record { shared = refl; threads = h }) (record { shared = refl; threads = h })
  main_there-same Others s l m h = record { shared = refl; threads = h }

  all_back-same : (phase : Phase) (s : Shared) (l : List (Thread X)) (m : List (Thread Y)) → Alike s l m →
      AreSameWorlds S (all_back e phase (record { shared = s; threads = l })) (all_back f phase (record { shared = s; threads = m }))
  all_back-same Run s l m h = record { shared = refl; threads = h }
  all_back-same Asked s l m h = record { shared = refl; threads = h }
  all_back-same Main s l m h = record { shared = refl; threads = h }
  all_back-same Others s l m h =
      chosen-same S (all_normal e l) (all_normal f m) (all_normal-same e f S job engines s.version l m h) _ _ _ _
      (λ _. record { shared = refl; threads = h }) (record { shared = refl; threads = h })

  closed_up-same : (phase : Phase) (s : Shared) (l : List (Thread X)) (m : List (Thread Y)) → Alike s l m →
      AreSameWorlds S (closed_up e job phase (record { shared = s; threads = l })) (closed_up f job phase (record { shared = s; threads = m }))
  closed_up-same Run s l m h = record { shared = refl; threads = h }
  closed_up-same Asked s l m h =
      chosen-same S (all_parked l) (all_parked m) (all_parked-same (S s.version) l m h) _ _ _ _
      (λ still. closing-same e f S job engines s l m still h) (record { shared = refl; threads = h })
  closed_up-same Main s l m h = record { shared = refl; threads = h }
  closed_up-same Others s l m h = record { shared = refl; threads = h }

  stuck-same : (w : World X) (v : World Y) → AreSameWorlds S w v → AreSameWorlds S (stuck e w) (stuck f v)
  stuck-same = on_same (λ w v. AreSameWorlds S (stuck e w) (stuck f v))
      (λ s l m h. chosen-same S (any_enabled e s 0 l) (any_enabled f s 0 m) (any_enabled-same e f S job engines s 0 l m h) _ _ _ _
      (λ _. record { shared = refl; threads = h }) (record { shared = refl; threads = h }))

  asked-same : (w : World X) (v : World Y) → AreSameWorlds S w v → AreSameWorlds S (on_shared (asked job w.shared.phase) w) (on_shared (asked job v.shared.phase) v)
  asked-same = on_shared-same (λ s. asked job s.phase s) (λ s. (asked-keeps job s.phase s).version)

  before_turn-same : (w : World X) (v : World Y) → AreSameWorlds S w v → AreSameWorlds S (before_turn e job w) (before_turn f job v)
  before_turn-same w v h =
      ongoing-same (on_shared (spent job)) (on_shared (spent job)) (on_shared-same (spent job) (λ s. (spent-keeps job s).version)) _ _
      (ongoing-same (stuck e) (stuck f) stuck-same _ _
      (ongoing-same (λ u. on_shared (asked job u.shared.phase) u) (λ u. on_shared (asked job u.shared.phase) u) asked-same w v h))

  after_act-same : (w : World X) (v : World Y) → AreSameWorlds S w v → AreSameWorlds S (after_act e job w) (after_act f job v)
  after_act-same w v h =
      before_turn-same _ _
      (ongoing-same (λ u. closed_up e job u.shared.phase u) (λ u. closed_up f job u.shared.phase u)
      (on_same (λ w v. AreSameWorlds S (closed_up e job w.shared.phase w) (closed_up f job v.shared.phase v)) (λ s. closed_up-same s.phase s)) _ _
      (ongoing-same (λ u. all_back e u.shared.phase u) (λ u. all_back f u.shared.phase u)
      (on_same (λ w v. AreSameWorlds S (all_back e w.shared.phase w) (all_back f v.shared.phase v)) (λ s. all_back-same s.phase s)) _ _
      (ongoing-same (λ u. main_there e u.shared.phase u) (λ u. main_there f u.shared.phase u)
      (on_same (λ w v. AreSameWorlds S (main_there e w.shared.phase w) (main_there f v.shared.phase v)) (λ s. main_there-same s.phase s)) _ _
      (on_shared-same (λ s. with_mark s.ended s) (λ s. (with_mark-keeps s.ended s).version) w v h))))

  -- ---- turns and worlds

  -- the same threads may take a turn
  pub is_enabled-same : (w : World X) (v : World Y) (t : ℕ) → AreSameWorlds S w v → is_enabled e w t ≡ is_enabled f v t
  is_enabled-same w v t h = on_same (λ w v. is_enabled e w t ≡ is_enabled f v t)
      (λ s l m h. enabled_if-same e f S job engines s t (slice_get l t) (slice_get m t) (slice_get-same (S s.version) l m t h)) w v h

  -- the act, and behind it a world that stands for the one that it leaves
  pub act-same : (w : World X) (v : World Y) (t : ℕ) → AreSameWorlds S w v → IsShared (outside_of w.shared) → MayTurn e w t →
      AreSameWorlds S (acted e job w t) (acted f job v t)
  act-same w v t h typed may = acted-same t w v h typed may.0

  pub rest-same : (w : World X) (v : World Y) → AreSameWorlds S w v → AreSameWorlds S (after_act e job (counted w)) (after_act f job (counted v))
  rest-same w v h = after_act-same _ _ (on_shared-same (λ s. record s { turns = s.turns + 1 }) (λ s. refl) w v h)

  pub turn-same : (w : World X) (v : World Y) (t : ℕ) → AreSameWorlds S w v → IsShared (outside_of w.shared) → MayTurn e w t →
      AreSameWorlds S (turn e job w t) (turn f job v t)
  turn-same w v t h typed may =
      after_act-same _ _
      (on_shared-same (λ s. record s { turns = s.turns + 1 }) (λ s. refl) (acted e job w t) (acted f job v t) (acted-same t w v h typed may.0))

  pub first_world-same : AreSameWorlds S (first_world e job) (first_world f job)
  first_world-same =
      before_turn-same (start e job) (start f job)
      (record { shared = refl; threads = (record { standing = refl; state = engines.entries 0 Normal (normal-mode (version_at job 0)) }, tt) })
