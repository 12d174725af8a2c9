-- The first world is well formed, and each turn leaves a world well formed.
use Rattle.std.specs.Prelude.{◌≡◌, ℕ, ◌+◌, ◌<◌, ◌≤◌, length, slice_set, refl}
use Rattle.std.proofs.Common.{arith, sym, subst, ap, ◌∙◌}
use Rattle.std.proofs.lemmas.List.{length-set, length-map}
use Rattle.std.proofs.lemmas.Option.{slice_get_within}
use Rattle.kt_types.specs.Table.{Table}
use Rattle.kt_mem.specs.declared.steps.Act.{Act}
use Rattle.kt_mem.specs.declared.steps.Act.TheVariants as act
use Rattle.kt_mem.specs.declared.steps.Reply.{Reply}
use Rattle.kt_mem.specs.declared.steps.Reply.TheVariants.{Done, Got, Trapped}
use Rattle.kt_mem.specs.declared.steps.Trap.TheVariants as trap
use Rattle.kt_mem.specs.declared.thread.Mode.{Mode}
use Rattle.kt_mem.specs.declared.thread.Mode.TheVariants.{Normal, Updating}
use Rattle.kt_tree.specs.Version.{Program}
use Rattle.kt_meaning.specs.Effects as outside
use Rattle.kt_meaning.specs.Effects.{Outcome, Replies, Waits, Elsewhere}
use Rattle.kt_meaning.specs.Steps.{Step, Quiet, Acts, Traps, Ends}
use Rattle.kt_lone.specs.declared.mark.Phase.{Phase}
use Rattle.kt_lone.specs.declared.mark.Phase.TheVariants.{Run, Asked, Main, Others}
use Rattle.kt_lone.specs.Job.{Job, version_at, types_at}
use Rattle.kt_lone.specs.World.{Engine, Parked, Ended, Shared, Thread, World, outside_of, with_outside}
use Rattle.kt_lone.specs.Update.{kept_value, kept_values, first_memory, restarted, let_go, updated, refused}
use Rattle.kt_lone.specs.Turn.{answered, at_point, migrated, elsewhere, on_outcome, ends, effect, start, first_world}
use Rattle.kt_lone.specs.SharedLaws.{KeepsOutside}
use Rattle.kt_lone.specs.Kept.{IsBetween, IsKept, first_world-keeps}
use Rattle.kt_lone.specs.Typed.{globals_of, HasGlobals, IsWellFormed}
use Rattle.kt_lone.proofs.Globals.{KeepsGlobals, globals-stay, has-globals, LeavesGlobals, effect-globals, placed-globals, first_memory-globals, memory_if-globals}

-- in the same version, with the shapes of its globals, no more kept values, and as many threads
pub record IsMoved {X : Type 0} (w v : World X) : Type 0 where
  pub version : v.shared.version ≡ w.shared.version
  pub globals : KeepsGlobals w.shared.memory v.shared.memory
  pub kept : length v.shared.kept ≤ length w.shared.kept
  pub threads : length v.threads ≡ length w.threads

stays : {X : Type 0} (w : World X) → IsMoved w w
stays w = record { version = refl; globals = globals-stay w.shared.memory; kept = omega arith; threads = refl }

-- a world that differs beside the version, memory and kept values, with as many threads
beside : {X : Type 0} (w v : World X) → KeepsOutside w.shared v.shared → length v.threads ≡ length w.threads → IsMoved w v
beside w v same threads = record {
  version = same.version;
  globals = subst (KeepsGlobals w.shared.memory) (sym (ap (λ o. o.memory) same.outside)) (globals-stay w.shared.memory);
  kept = subst (λ k. length k ≤ length w.shared.kept) (sym same.kept) (omega arith);
  threads = threads;
}

moved-well_formed : {X : Type 0} (job : Job) (w v : World X) → IsMoved w v → IsWellFormed job w → IsWellFormed job v
moved-well_formed job w v moved h = record {
  version = λ some. subst (λ n. n < length job.versions) (sym moved.version) (h.version some);
  memory = subst (λ n. HasGlobals (version_at job n) v.shared.memory) (sym moved.version)
      (has-globals (version_at job w.shared.version) w.shared.memory v.shared.memory moved.globals h.memory);
  kept = subst (λ n. length v.shared.kept ≤ length (globals_of (version_at job n))) (sym moved.version) (omega (arith, moved.kept, h.kept));
  alone = moved.threads ∙ h.alone;
}

-- ---- an act

module _ {X : Type 0} (e : Engine X) (w : World X) (t : ℕ) (th : Thread X) where
  -- this is shared after an act
  record IsLeft (s : Shared) : Type 0 where
    version : s.version ≡ w.shared.version
    globals : KeepsGlobals w.shared.memory s.memory
    kept : length s.kept ≤ length w.shared.kept

  unchanged : IsLeft w.shared
  unchanged = record { version = refl; globals = globals-stay w.shared.memory; kept = omega arith }

  set-moved : (s : Shared) (a : Thread X) → IsLeft s → IsMoved w (record { shared = s; threads = slice_set w.threads t a })
  set-moved s a left = record { version = left.version; globals = left.globals; kept = left.kept; threads = length-set w.threads t a }

  answered-moved : (s : Shared) (r : Reply) → IsLeft s → IsMoved w (answered e w t th s r)
  answered-moved s (Trapped cause) left = record { version = left.version; globals = left.globals; kept = left.kept; threads = refl }
  answered-moved s Done left = set-moved s _ left
  answered-moved s (Got v) left = set-moved s _ left

  at_point-moved : (mode : Mode) (phase : Phase) → IsMoved w (at_point e w t th mode phase)
  at_point-moved Normal Run = answered-moved w.shared Done unchanged
  at_point-moved Normal Asked = set-moved w.shared (record th { standing = Parked }) unchanged
  at_point-moved Normal Main = answered-moved w.shared Done unchanged
  at_point-moved Normal Others = answered-moved w.shared Done unchanged
  at_point-moved (Updating p) phase = answered-moved w.shared Done unchanged

  migrated-left : (mode : Mode) → IsLeft (migrated mode w.shared)
  migrated-left Normal = unchanged
  migrated-left (Updating p) = record { version = refl; globals = placed-globals w.shared.kept w.shared.memory; kept = omega arith }

  elsewhere-moved : (a : Act) → IsMoved w (elsewhere e w t th a)
  elsewhere-moved (act.Create f v) = answered-moved w.shared (Trapped trap.Threads) unchanged
  elsewhere-moved (act.Join n) = answered-moved w.shared (Trapped trap.Thread) unchanged
  elsewhere-moved (act.Point p) = at_point-moved (e.mode th.state) w.shared.phase
  elsewhere-moved act.Automigrate = answered-moved (migrated (e.mode th.state) w.shared) Done (migrated-left (e.mode th.state))
  elsewhere-moved _ = stays w

  on_outcome-moved : (a : Act) (o : Outcome) → LeavesGlobals w.shared.memory o → IsMoved w (on_outcome e w t th a o)
  on_outcome-moved a (Replies r s) left =
      answered-moved (with_outside w.shared s) r (record { version = refl; globals = left; kept = omega arith })
  on_outcome-moved a Waits left = stays w
  on_outcome-moved a Elsewhere left = elsewhere-moved a

  ends-moved : (a : Act) → IsMoved w (ends w t th a)
  ends-moved act.ThreadEnd = set-moved w.shared (record th { standing = Ended }) unchanged
  ends-moved (act.MainReturn n) = beside w _ (record { version = refl; kept = refl; outside = refl }) refl
  ends-moved _ = stays w

  effect-moved : (types : Table) (s : Step X) → IsMoved w (effect e types w t th s)
  effect-moved types (Quiet x) = stays w
  effect-moved types (Acts a go) =
      on_outcome-moved a (outside.effect types t a (outside_of w.shared)) (effect-globals types t a (outside_of w.shared))
  effect-moved types (Traps cause) = beside w _ (record { version = refl; kept = refl; outside = refl }) refl
  effect-moved types (Ends a) = ends-moved a

-- ---- updates and turns

module _ {X : Type 0} (e : Engine X) (job : Job) where
  updated-well_formed : (old new : Program) (w : World X) → IsBetween job old new w → IsWellFormed job w → IsWellFormed job (updated e old new w)
  updated-well_formed old new w between h = record {
    version = λ some. slice_get_within job.versions (w.shared.version + 1) new between.to;
    memory = subst (λ o. HasGlobals o (first_memory (w.shared.version + 1) new w.shared.memory.next)) (sym between.to)
        (first_memory-globals (w.shared.version + 1) new w.shared.memory.next);
    kept = subst (λ o. length (kept_values old w.shared.memory new) ≤ length (globals_of o)) (sym between.to)
        (omega (arith, length-map new.globals (kept_value old w.shared.memory)));
    alone = length-map w.threads (restarted e w.shared.version old new) ∙ h.alone;
  }

  refused-moved : (t : ℕ) (w : World X) → IsMoved w (refused e t w)
  refused-moved t w = beside w _ (record { version = refl; kept = refl; outside = refl }) (length-map w.threads (let_go e w.shared.version))

  pub IsWellFormed-kept : IsKept e job (IsWellFormed job)
  IsWellFormed-kept = record {
    shared = λ s r l same h.
        moved-well_formed job (record { shared = s; threads = l }) (record { shared = r; threads = l }) (beside _ _ same refl) h;
    act = λ w t th found may h.
        moved-well_formed job w _ (effect-moved e w t th (types_at job w.shared.version) (e.step w.shared.version th.state)) h;
    update = λ old new w between found h. updated-well_formed old new w between h;
    refusal = λ old new t w between h. moved-well_formed job w _ (refused-moved t w) h;
  }

  start-well_formed : IsWellFormed job (start e job)
  start-well_formed = record {
    version = λ some. some;
    memory = memory_if-globals (version_at job 0);
    kept = omega arith;
    alone = refl;
  }

  pub first_world-well_formed : IsWellFormed job (first_world e job)
  first_world-well_formed = first_world-keeps e job (IsWellFormed job) IsWellFormed-kept start-well_formed
