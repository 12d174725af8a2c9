-- The worlds of a job whose versions are programs: what is shared is typed, and each thread that has not ended is one of the
-- version in force and settled; a parked one stands at a point.
use Rattle.std.specs.Prelude.{◌≡◌, ℕ, ◌+◌, ◌<◌, Bool, true, false, not, List, [], length, Option, Some, None, slice_get, slice_index_or, refl}
use Rattle.std.specs.List.{All}
use Rattle.std.proofs.Common.{sym, subst, ◌∙◌, arith}
use Rattle.std.proofs.lemmas.Bool.{false≢true}
use Rattle.std.proofs.lemmas.List.Elements.{All-nil, All-cons, All-set, All-map}
use Rattle.std.proofs.lemmas.List.Folds.{list_all_at}
use Rattle.std.proofs.lemmas.Option.{none-some, same_Some, slice_get_within, get_or_from_slice_get}
use Rattle.kt_types.specs.Table.{Table}
use Rattle.kt_mem.specs.declared.memory.Value.{Value}
use Rattle.kt_mem.specs.declared.steps.Act.{Act}
use Rattle.kt_mem.specs.declared.steps.Act.TheVariants as act
use Rattle.kt_mem.specs.declared.steps.Reply.{Reply}
use Rattle.kt_mem.specs.declared.steps.Reply.TheVariants.{Done, Got, Trapped}
use Rattle.kt_mem.specs.declared.thread.Mode.{Mode}
use Rattle.kt_mem.specs.declared.thread.Mode.TheVariants.{Normal, Updating}
use Rattle.kt_mem.specs.Memory.{Memory}
use Rattle.kt_tree.specs.Version.{Program, IsProgram}
use Rattle.kt_meaning.proofs.EffectTypes.{effect-IsOutcomeOf}
use Rattle.kt_meaning.proofs.MemoryTypes.{effect-LeavesShared}
use Rattle.kt_meaning.proofs.StepTypes.{Keeps}
use Rattle.kt_meaning.proofs.WorkTypes.{step-Keeps}
use Rattle.kt_meaning.specs.Effects as outside
use Rattle.kt_meaning.specs.Effects.{Outcome, Replies, Waits, Elsewhere}
use Rattle.kt_meaning.specs.Laws.{IsReplyTo, IsTyped, IsShared, IsOutcomeOf, LeavesShared, numbered}
use Rattle.kt_meaning.specs.Requests.{IsReplyOf}
use Rattle.kt_meaning.specs.Steps.{Step, Quiet, Acts, Traps, Ends, after_reply}
use Rattle.kt_meaning.specs.Thread as tree
use Rattle.kt_meaning.specs.TreeSteps as steps
use Rattle.kt_lone.specs.declared.mark.Phase.{Phase}
use Rattle.kt_lone.specs.declared.mark.Phase.TheVariants.{Run, Asked, Main, Others}
use Rattle.kt_lone.specs.Job.{Job, version_at, types_at}
use Rattle.kt_lone.specs.World.{Standing, Live, Parked, Ended, Shared, Thread, World, outside_of}
use Rattle.kt_lone.specs.Update.{placed, point_of_act, point_of, next_point, if_parked, let_go, updating_from, restarted, updated, refused}
use Rattle.kt_lone.specs.Turn.{with_thread, answered, at_point, migrated, elsewhere, on_outcome, ends, effect, is_live, all_parked, memory_if, start, first_world, turn, MayTurn, tree_step, tree_engine, world}
use Rattle.kt_lone.specs.Typed.{IsIntIfSome, IsThreadOf, IsTypedThread, IsTypedJob, IsTypedWorld}
use Rattle.kt_lone.specs.SharedLaws.{KeepsOutside}
use Rattle.kt_lone.specs.Laws.{enabled-parts, AreTurnsOf}
use Rattle.kt_lone.specs.Kept.{IsBetween, IsKept, first_world-keeps, turn-keeps, world_from-keeps}
use Rattle.kt_lone.specs.TypedMemories.{first_memory-typed, kept_values-int, placed-shared}
use Rattle.kt_lone.specs.TypedThreads.{IsProgramIf, IsModeIf, IsSettledThread, replied-thread, entered-thread, next-mode}

-- the step is a point
abbrev pub IsAtPoint : {X : Type 0} → Step X → Type 0
IsAtPoint s = (p : ℕ) × (point_of s ≡ Some p)

-- settled, unless it has ended; at a point, if it is parked
abbrev pub IsSettledAs : ℕ → Option Program → Standing → tree.Thread → Type 0
IsSettledAs v o Live x = IsSettledThread v o x
IsSettledAs v o Parked x = IsSettledThread v o x × IsAtPoint (tree_step v o x)
IsSettledAs v o Ended x = Unit {0}

pub record IsSettledWorld (job : Job) (w : World tree.Thread) : Type 0 where
  pub shared : IsShared (outside_of w.shared)
  pub kept : All IsIntIfSome w.shared.kept
  pub threads : All (λ (th : Thread tree.Thread). IsSettledAs w.shared.version (version_at job w.shared.version) th.standing th.state) w.threads

-- ---- such a world is typed

typed-as : (v : ℕ) (o : Option Program) (standing : Standing) (x : tree.Thread) → IsSettledAs v o standing x → IsTypedThread o standing x
typed-as v o Live x i = i.typed
typed-as v o Parked x i = i.0.typed
typed-as v o Ended x i = tt

pub settled-IsTypedWorld : (job : Job) (w : World tree.Thread) → IsSettledWorld job w → IsTypedWorld job w
settled-IsTypedWorld job w h = record {
  shared = h.shared;
  kept = h.kept;
  threads = λ k d in_range.
      let th = slice_index_or w.threads k d in
      typed-as w.shared.version (version_at job w.shared.version) th.standing th.state (h.threads k d in_range);
}

-- ---- steps

point-takes : (a : Act) (p : ℕ) → point_of_act a ≡ Some p → IsReplyOf a Done
point-takes (act.Point q) p e = (refl, tt)
point-takes _ p e = absurd (none-some p e)

-- a thread at a point takes the plain reply
point-reply : (s : Step tree.Thread) → IsAtPoint s → IsReplyTo s Done
point-reply (Quiet x) at = absurd (none-some at.0 at.1)
point-reply (Acts a go) at = point-takes a at.0 at.1
point-reply (Traps t) at = absurd (none-some at.0 at.1)
point-reply (Ends a) at = absurd (none-some at.0 at.1)

-- what a step does outside leaves it typed
abbrev Leaves : Table → ℕ → outside.Shared → Step tree.Thread → Type 0
Leaves types t s (Quiet x) = Unit {0}
Leaves types t s (Acts a go) = LeavesShared (outside.effect types t a s)
Leaves types t s (Traps cause) = Unit {0}
Leaves types t s (Ends a) = Unit {0}

keeps-leaves : (types : Table) (t : ℕ) (s : outside.Shared) (p : Program) (a : Step tree.Thread) → IsShared s → Keeps p a → Leaves types t s a
keeps-leaves types t s p (Quiet x) h k = tt
keeps-leaves types t s p (Acts a go) h k = effect-LeavesShared p types t a s k.0 h
keeps-leaves types t s p (Traps cause) h k = tt
keeps-leaves types t s p (Ends a) h k = tt

step-leaves : (types : Table) (t : ℕ) (s : outside.Shared) (v : ℕ) (o : Option Program) (x : tree.Thread) → IsShared s → IsProgramIf o → IsThreadOf o x →
    Leaves types t s (tree_step v o x)
step-leaves types t s v None x h program i = tt
step-leaves types t s v (Some p) x h program i =
    keeps-leaves types t s p (steps.step (numbered p v) x) h (step-Keeps (numbered p v) program x i)

-- ---- standings

as-live : (v : ℕ) (o : Option Program) (standing : Standing) (x : tree.Thread) → is_live standing ≡ true → IsSettledThread v o x → IsSettledAs v o standing x
as-live v o Live x live i = i
as-live v o Parked x live i = absurd (false≢true live)
as-live v o Ended x live i = absurd (false≢true live)

of-live : (v : ℕ) (o : Option Program) (standing : Standing) (x : tree.Thread) → is_live standing ≡ true → IsSettledAs v o standing x → IsSettledThread v o x
of-live v o Live x live i = i
of-live v o Parked x live i = absurd (false≢true live)
of-live v o Ended x live i = absurd (false≢true live)

-- no thread lives that isn't parked
none-lives : {X : Type 0} (threads : List (Thread X)) (k : ℕ) (d : Thread X) → all_parked threads ≡ true → k < length threads →
    not (is_live (slice_index_or threads k d).standing) ≡ true
none-lives {X = X} threads k d parked in_range = by_test (not (is_live (slice_index_or threads k d).standing)) refl
  where
    by_test : (b : Bool) → not (is_live (slice_index_or threads k d).standing) ≡ b → b ≡ true
    by_test true e = refl
    by_test false e = absurd (false≢true (sym (list_all_at (λ (th : Thread X). not (is_live th.standing)) threads k d in_range e) ∙ parked))

-- ---- versions

found : {X : Type 0} (P : X → Type 0) (l : List X) (k : ℕ) (x : X) → All P l → slice_get l k ≡ Some x → P x
found P l k x all is = subst P (get_or_from_slice_get l k x x is) (all k x (slice_get_within l k x is))

normal-mode : (o : Option Program) → IsModeIf o Normal
normal-mode None = tt
normal-mode (Some p) = tt

start-memory : (o : Option Program) → IsProgramIf o → IsTyped (memory_if o)
start-memory None h = λ n o k c at there. absurd (none-some o at)
start-memory (Some p) h = first_memory-typed p h 0 0

module _ (job : Job) (typed : IsTypedJob job) where
  is-program : (v : ℕ) → IsProgramIf (version_at job v)
  is-program v = by_version (version_at job v) refl
    where
      by_version : (o : Option Program) → version_at job v ≡ o → IsProgramIf o
      by_version None e = tt
      by_version (Some p) e = found IsProgram job.versions v p typed.versions e

  -- the thread is settled in the version of that number
  abbrev IsSettledIn : ℕ → Thread tree.Thread → Type 0
  IsSettledIn v th = IsSettledAs v (version_at job v) th.standing th.state

  shared-settled : (s r : Shared) (l : List (Thread tree.Thread)) → KeepsOutside s r → IsSettledWorld job (record { shared = s; threads = l }) →
      IsSettledWorld job (record { shared = r; threads = l })
  shared-settled s r l same h = record {
    shared = subst IsShared (sym same.outside) h.shared;
    kept = subst (All IsIntIfSome) (sym same.kept) h.kept;
    threads = subst (λ n. All (IsSettledIn n) l) (sym same.version) h.threads;
  }

  -- ---- acts

  module _ (w : World tree.Thread) (h : IsSettledWorld job w) (t : ℕ) (th : Thread tree.Thread) where
    set-settled : (now : Thread tree.Thread) → IsSettledIn w.shared.version now → IsSettledWorld job (with_thread w t now)
    set-settled now i = record { shared = h.shared; kept = h.kept; threads = All-set (IsSettledIn w.shared.version) w.threads t now i h.threads }

    ends-settled : (a : Act) → IsSettledWorld job (ends w t th a)
    ends-settled act.ThreadEnd = set-settled (record th { standing = Ended }) tt
    ends-settled (act.MainReturn n) = record { shared = h.shared; kept = h.kept; threads = h.threads }
    ends-settled _ = h

    module _ (live : is_live th.standing ≡ true) (i : IsSettledThread w.shared.version (version_at job w.shared.version) th.state) where
      abbrev AtStep : Step tree.Thread → Type 0
      AtStep a = tree_step w.shared.version (version_at job w.shared.version) th.state ≡ a

      -- the thread after a reply, settled again
      abbrev after : Reply → Thread tree.Thread
      after r = record th {
        state = (tree_engine job).settle w.shared.version (after_reply th.state (tree_step w.shared.version (version_at job w.shared.version) th.state) r);
      }

      after-settled : (r : Reply) → IsReplyTo (tree_step w.shared.version (version_at job w.shared.version) th.state) r →
          IsSettledWorld job (with_thread w t (after r))
      after-settled r reply =
          set-settled (after r)
          (as-live w.shared.version (version_at job w.shared.version) th.standing (after r).state live
          (replied-thread w.shared.version (version_at job w.shared.version) th.state r (is-program w.shared.version) i.typed reply))

      answered-settled : (m : Memory) (input output : List ℕ) (kept : List (Option Value)) (r : Reply) →
          IsShared (record { memory = m; input = input; output = output }) → All IsIntIfSome kept →
          IsReplyTo (tree_step w.shared.version (version_at job w.shared.version) th.state) r →
          IsSettledWorld job
          (answered (tree_engine job) w t th (record w.shared { memory = m; input = input; output = output; kept = kept }) r)
      answered-settled m input output kept Done s k reply = record { shared = s; kept = k; threads = (after-settled Done reply).threads }
      answered-settled m input output kept (Got v) s k reply = record { shared = s; kept = k; threads = (after-settled (Got v) reply).threads }
      answered-settled m input output kept (Trapped cause) s k reply = record { shared = s; kept = k; threads = h.threads }

      -- nothing is changed outside, and the thread goes on
      goes-on : (a : Act) (go : Reply → tree.Thread) → AtStep (Acts a go) → IsReplyOf a Done →
          IsSettledWorld job (answered (tree_engine job) w t th w.shared Done)
      goes-on a go e k =
          answered-settled w.shared.memory w.shared.input w.shared.output w.shared.kept Done h.shared h.kept
          (subst (λ s. IsReplyTo s Done) (sym e) k)

      at_point-settled : (p : ℕ) (go : Reply → tree.Thread) → AtStep (Acts (act.Point p) go) → (mode : Mode) (phase : Phase) →
          IsSettledWorld job (at_point (tree_engine job) w t th mode phase)
      at_point-settled p go e Normal Asked =
          set-settled (record th { standing = Parked }) (i, (p, subst (λ s. point_of s ≡ Some p) (sym e) refl))
      at_point-settled p go e Normal Run = goes-on (act.Point p) go e (refl, tt)
      at_point-settled p go e Normal Main = goes-on (act.Point p) go e (refl, tt)
      at_point-settled p go e Normal Others = goes-on (act.Point p) go e (refl, tt)
      at_point-settled p go e (Updating q) phase = goes-on (act.Point p) go e (refl, tt)

      migrated-settled : (go : Reply → tree.Thread) → AtStep (Acts act.Automigrate go) → (mode : Mode) →
          IsSettledWorld job (answered (tree_engine job) w t th (migrated mode w.shared) Done)
      migrated-settled go e Normal = goes-on act.Automigrate go e (refl, tt)
      migrated-settled go e (Updating q) =
          answered-settled (placed w.shared.kept w.shared.memory) w.shared.input w.shared.output [] Done
          (placed-shared w.shared.kept (outside_of w.shared) h.shared h.kept) (All-nil IsIntIfSome)
          (subst (λ s. IsReplyTo s Done) (sym e) (refl, tt))

      elsewhere-settled : (a : Act) (go : Reply → tree.Thread) → AtStep (Acts a go) → IsSettledWorld job (elsewhere (tree_engine job) w t th a)
      elsewhere-settled (act.Create f v) go e = record { shared = h.shared; kept = h.kept; threads = h.threads }
      elsewhere-settled (act.Join n) go e = record { shared = h.shared; kept = h.kept; threads = h.threads }
      elsewhere-settled (act.Point p) go e = at_point-settled p go e th.state.restart.mode w.shared.phase
      elsewhere-settled act.Automigrate go e = migrated-settled go e th.state.restart.mode
      elsewhere-settled _ go e = h

      outcome-settled : (a : Act) (go : Reply → tree.Thread) → AtStep (Acts a go) → (o : Outcome) → LeavesShared o → IsOutcomeOf a o →
          IsSettledWorld job (on_outcome (tree_engine job) w t th a o)
      outcome-settled a go e (Replies r s) l k =
          answered-settled s.memory s.input s.output w.shared.kept r l h.kept (subst (λ s. IsReplyTo s r) (sym e) k)
      outcome-settled a go e Waits l k = h
      outcome-settled a go e Elsewhere l k = elsewhere-settled a go e

      effect-settled : (types : Table) (a : Step tree.Thread) → AtStep a → Leaves types t (outside_of w.shared) a →
          IsSettledWorld job (effect (tree_engine job) types w t th a)
      effect-settled types (Quiet x) e l = h
      effect-settled types (Acts a go) e l =
          outcome-settled a go e (outside.effect types t a (outside_of w.shared)) l (effect-IsOutcomeOf types t a (outside_of w.shared) h.shared)
      effect-settled types (Traps cause) e l = record { shared = h.shared; kept = h.kept; threads = h.threads }
      effect-settled types (Ends a) e l = ends-settled a

  act-settled : (w : World tree.Thread) (t : ℕ) (th : Thread tree.Thread) → slice_get w.threads t ≡ Some th → MayTurn (tree_engine job) w t →
      IsSettledWorld job w →
      IsSettledWorld job (effect (tree_engine job) (types_at job w.shared.version) w t th (tree_step w.shared.version (version_at job w.shared.version) th.state))
  act-settled w t th is may h =
      let parts = enabled-parts (tree_engine job) w.shared t (slice_get w.threads t) may.0 in
      let same : parts.0 ≡ th = same_Some parts.0 th (sym parts.1 ∙ is) in
      let live : is_live th.standing ≡ true = subst (λ (x : Thread tree.Thread). is_live x.standing ≡ true) same parts.2 in
      let i = of-live w.shared.version (version_at job w.shared.version) th.standing th.state live
      (found (IsSettledIn w.shared.version) w.threads t th h.threads is) in
      effect-settled w h t th live i (types_at job w.shared.version) (tree_step w.shared.version (version_at job w.shared.version) th.state) refl
      (step-leaves (types_at job w.shared.version) t (outside_of w.shared) w.shared.version (version_at job w.shared.version) th.state h.shared
      (is-program w.shared.version) i.typed)

  -- ---- updates and refusals

  update-settled : (old new : Program) (w : World tree.Thread) → IsBetween job old new w → IsSettledWorld job w →
      IsSettledWorld job (updated (tree_engine job) old new w)
  update-settled old new w between h = record {
    shared = record {
      memory = first_memory-typed new (subst IsProgramIf between.to (is-program (w.shared.version + 1))) (w.shared.version + 1) w.shared.memory.next;
      input = h.shared.input;
      output = h.shared.output;
    };
    kept = kept_values-int (outside_of w.shared) h.shared old new;
    threads = All-map (IsSettledIn (w.shared.version + 1)) (restarted (tree_engine job) w.shared.version old new) w.threads
        (λ k d in_range. restarted-in (slice_index_or w.threads k d) (none-lives w.threads k d between.parked in_range));
  }
    where
      mode-in : (th : Thread tree.Thread) → IsModeIf (version_at job (w.shared.version + 1))
          (updating_from (next_point old new (tree_step w.shared.version (version_at job w.shared.version) th.state)))
      mode-in th =
          subst (λ o. IsModeIf o (updating_from (next_point old new (tree_step w.shared.version (version_at job w.shared.version) th.state))))
          (sym between.to) (next-mode old new (tree_step w.shared.version (version_at job w.shared.version) th.state))

      by_standing : (th : Thread tree.Thread) (standing : Standing) → th.standing ≡ standing → not (is_live standing) ≡ true →
          IsSettledIn (w.shared.version + 1) (if_parked standing th (record {
            state = (tree_engine job).settle (w.shared.version + 1) ((tree_engine job).entry (w.shared.version + 1)
                (updating_from (next_point old new (tree_step w.shared.version (version_at job w.shared.version) th.state))));
            standing = Live;
          }))
      by_standing th Live e parked = absurd (false≢true parked)
      by_standing th Parked e parked =
          entered-thread (w.shared.version + 1) (version_at job (w.shared.version + 1)) _ (is-program (w.shared.version + 1)) (mode-in th)
      by_standing th Ended e parked =
          subst (λ s. IsSettledAs (w.shared.version + 1) (version_at job (w.shared.version + 1)) s th.state) (sym e) tt

      restarted-in : (th : Thread tree.Thread) → not (is_live th.standing) ≡ true →
          IsSettledIn (w.shared.version + 1) (restarted (tree_engine job) w.shared.version old new th)
      restarted-in th parked = by_standing th th.standing refl parked

  refusal-settled : (t : ℕ) (w : World tree.Thread) → IsSettledWorld job w → IsSettledWorld job (refused (tree_engine job) t w)
  refusal-settled t w h = record {
    shared = h.shared;
    kept = h.kept;
    threads = All-map (IsSettledIn w.shared.version) (let_go (tree_engine job) w.shared.version) w.threads
        (λ k d in_range. let_go-in (slice_index_or w.threads k d) (h.threads k d in_range));
  }
    where
      by_standing : (th : Thread tree.Thread) (standing : Standing) → th.standing ≡ standing → IsSettledIn w.shared.version th →
          IsSettledIn w.shared.version (if_parked standing th (record {
            state = (tree_engine job).settle w.shared.version
                (after_reply th.state (tree_step w.shared.version (version_at job w.shared.version) th.state) Done);
            standing = Live;
          }))
      by_standing th Live e i = i
      by_standing th Parked e i =
          let there = subst (λ s. IsSettledAs w.shared.version (version_at job w.shared.version) s th.state) e i in
          replied-thread w.shared.version (version_at job w.shared.version) th.state Done (is-program w.shared.version) there.0.typed
          (point-reply (tree_step w.shared.version (version_at job w.shared.version) th.state) there.1)
      by_standing th Ended e i = i

      let_go-in : (th : Thread tree.Thread) → IsSettledIn w.shared.version th → IsSettledIn w.shared.version (let_go (tree_engine job) w.shared.version th)
      let_go-in th i = by_standing th th.standing refl i

  -- ---- worlds

  pub settled-kept : IsKept (tree_engine job) job (IsSettledWorld job)
  settled-kept = record {
    shared = shared-settled;
    act = act-settled;
    update = λ old new w between lost h. update-settled old new w between h;
    refusal = λ old new t w between h. refusal-settled t w h;
  }

  start-settled : IsSettledWorld job (start (tree_engine job) job)
  start-settled = record {
    shared = record { memory = start-memory (version_at job 0) (is-program 0); input = typed.input; output = omega arith };
    kept = All-nil IsIntIfSome;
    threads = All-cons (IsSettledIn 0) _ []
        (entered-thread 0 (version_at job 0) Normal (is-program 0) (normal-mode (version_at job 0))) (All-nil (IsSettledIn 0));
  }

  -- the world before the first turn
  pub first_world-settled : IsSettledWorld job (first_world (tree_engine job) job)
  first_world-settled = first_world-keeps (tree_engine job) job (IsSettledWorld job) settled-kept start-settled

  -- a turn more
  pub turn-settled : (w : World tree.Thread) (t : ℕ) → MayTurn (tree_engine job) w t → IsSettledWorld job w →
      IsSettledWorld job (turn (tree_engine job) job w t)
  turn-settled w t may h = turn-keeps (tree_engine job) job (IsSettledWorld job) settled-kept w t may h

  -- the world of each list of turns
  pub world-settled : (turns : List ℕ) → AreTurnsOf job turns → IsSettledWorld job (world job turns)
  world-settled turns may =
      world_from-keeps (tree_engine job) job (IsSettledWorld job) settled-kept turns (first_world (tree_engine job) job) may first_world-settled
