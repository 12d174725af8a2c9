-- The worlds of a job whose versions are programs and whose plans keep types are typed.
use Rattle.std.specs.Prelude.{◌≡◌, ℕ, zero, suc, ◌+◌, ◌==◌, ◌&&◌, nat_le, Bool, true, false, List, [], ◌∷◌, slice_get, Option, None, Some, is_none, is_some, length, unwrap_or, refl, if◌then◌else◌}
use Rattle.std.specs.List.{AllByRecursion}
use Rattle.std.specs.Option.{option_map}
use Rattle.std.proofs.Common.{arith, ap, sym, subst, ◌∙◌}
use Rattle.std.proofs.lemmas.Option.{none-some, same_Some}
use Rattle.kt_types.specs.Layout.{layout}
use Rattle.kt_types.specs.Table.{Table}
use Rattle.kt_mem.specs.declared.memory.Name.{Name}
use Rattle.kt_mem.specs.declared.memory.Name.TheVariants.{Lit, Heap}
use Rattle.kt_mem.specs.declared.steps.Reply.TheVariants.{Done}
use Rattle.kt_mem.specs.declared.thread.Mode.TheVariants.{Normal}
use Rattle.kt_mem.specs.Memory.{Memory, Object, no_objects}
use Rattle.kt_tree.specs.Kinds.{char_type}
use Rattle.kt_tree.specs.Version.{IsProgram, Program}
use Rattle.kt_meaning.specs.Thread as tree
use Rattle.kt_phase.specs.declared.counters.Phase.{Phase}
use Rattle.kt_phase.specs.declared.counters.Phase.TheVariants.{Run, Asked, Main, Others}
use Rattle.xf_plan.proofs.TypedImages.{IsObjectOf, RootGives, all-get, kept-globals-of, moved-object-of}
use Rattle.xf_plan.specs.Images.{FreshPlace, faults, first_fault, fresh_places, is_too_big, kept_globals, live_cells, moved_object, sizes}
use Rattle.kt_meaning.specs.Laws.{IsTyped}
use Rattle.xf_plan.specs.KeepsTypes.{AreKeptFor, HasGlobals, IsMemoryOf, KeepsTypes}
use Rattle.xf_plan.specs.Plan.{Plan}
use Rattle.xf_plan.specs.Reached.{distinct, reached}
use Rattle.xf_plan.specs.declared.place.Root.{Root}
use Rattle.kt_world.specs.declared.mark.Closed.{Closed}
use Rattle.kt_world.specs.declared.mark.Closed.TheVariants as closed
use Rattle.kt_world.specs.declared.mark.End.{End}
use Rattle.kt_world.specs.declared.mark.End.TheVariants as end
use Rattle.kt_world.specs.Acts.{act_of, acted, awake, gone_on}
use Rattle.kt_world.specs.Events.{after_act, all_back, all_normal, all_parked, asked, before_turn, closed_up, end_marked, ended_as, is_waiter, main_is_normal, main_there, on_shared, ongoing, request, requested, spent, stuck, with_mark}
use Rattle.kt_world.specs.Job.{Job, Passage, passage_at, passage_of, types_at, version_at}
use Rattle.kt_world.specs.Refusals.{any_held, first_of, if_held, if_too_big, lacks_entry, lacks_point, least, refusal, size_refusal}
use Rattle.kt_world.specs.Roots.{thread_roots}
use Rattle.kt_world.specs.Trees.{tree_engine, tree_step, world}
use Rattle.kt_world.specs.Turns.{MayTurn, MayTurnAll, counted, first_function, first_memory, first_world, start, turn, world_from}
use Rattle.kt_world.specs.Typed.{AreArguments, IsTypedAs, IsTypedJob, IsTypedThread, IsTypedWorld, WorldsAreTyped}
use Rattle.kt_world.specs.Update.{closing, decided, if_parked, let_go, refused, updated}
use Rattle.kt_world.specs.Waiting.{any_enabled, enabled_if, is_enabled, is_turnable}
use Rattle.kt_world.specs.World.{Standing, Live, Waiter, Parked, Ended, Shared, Thread, World, outside_of, takes_turns}
use Rattle.kt_world.proofs.GoodThreads.{AllFrom, IsGood, IsGoodAs, IsMainFunction, begun, from-map, point-reply, replied}
use Rattle.kt_world.proofs.NewMemories.{begun-globals, begun-memory, begun-typed, char-layout}
use Rattle.kt_world.proofs.NewThreads.{main-arguments, main-is, main-place, restarted-good, roots-fit}
use Rattle.kt_world.proofs.TypedActs.{IsGoodIn, act-good, untyped}
use Rattle.kt_world.proofs.TypedRoots.{RootFits}

-- ---- what a closing that isn't refused shows

first-none : (a b : Option Closed) → first_of a b ≡ None → (a ≡ None) × (b ≡ None)
first-none None b is = (refl, is)
first-none (Some c) b is = absurd cc

not-too-big : (b : Bool) → if_too_big b ≡ None → b ≡ false
not-too-big true is = absurd cc
not-too-big false is = refl

none-least : (o : Option ℕ) → option_map closed.Entry o ≡ None → o ≡ None
none-least None is = refl
none-least (Some n) is = absurd cc

least-none : {X : Type 0} (test : ℕ → Thread X → Bool) (k : ℕ) (threads : List (Thread X)) → least test k threads ≡ None → (n : ℕ) (th : Thread X) → slice_get threads n ≡ Some th → test (k + n) th ≡ false
least-none test k [] none n th at = absurd (none-some th at)
least-none test k (x ∷ threads) none n th at = by (test k x) refl none n at (least-none test (suc k) threads)
  where
    by : (b : Bool) → test k x ≡ b → (if b then Some k else least test (suc k) threads) ≡ None → (n : ℕ) → slice_get (x ∷ threads) n ≡ Some th
        → (least test (suc k) threads ≡ None → (n : ℕ) (th : _) → slice_get threads n ≡ Some th → test (suc k + n) th ≡ false) → test (k + n) th ≡ false
    by true is none n at rest = absurd cc
    by false is none zero at rest = subst (λ i. test i th ≡ false) (omega arith) (subst (λ y. test k y ≡ false) (same_Some x th at) is)
    by false is none (suc n) at rest = subst (λ i. test i th ≡ false) (omega arith) (rest none n th at)

passage-parts : (a b : Option Program) (c : Option Plan) (j : Passage) → passage_of a b c ≡ Some j → (a ≡ Some j.old) × (b ≡ Some j.new)
passage-parts (Some x) (Some y) (Some z) j is = let same : record { old = x; new = y; plan = z } ≡ j = same_Some _ j is in (ap (λ (i : Passage). Some i.old) same, ap (λ (i : Passage). Some i.new) same)
passage-parts (Some x) (Some y) None j is = absurd (none-some j is)
passage-parts (Some x) None c j is = absurd (none-some j is)
passage-parts None b c j is = absurd (none-some j is)

module _ (job : Job) (typed : IsTypedJob job) where
  program-at : (v : ℕ) (p : Program) → version_at job v ≡ Some p → IsProgram p
  program-at v p at = all-get IsProgram job.versions v p typed.versions at

  -- typed by the version in force
  pub record GoodWorld (w : World tree.Thread) : Type 0 where
    pub program : Program
    pub good : IsGoodIn job program w

  by-choice : (b : Bool) (w u : World tree.Thread) → GoodWorld w → GoodWorld u → GoodWorld (if b then w else u)
  by-choice true w u h k = h
  by-choice false w u h k = k

  abbrev Keeps : (World tree.Thread → World tree.Thread) → Type 0
  Keeps f = (w : World tree.Thread) → GoodWorld w → GoodWorld (f w)

  ongoing-good : (f : World tree.Thread → World tree.Thread) → Keeps f → Keeps (ongoing f)
  ongoing-good f keeps w h = by-choice (is_none w.shared.ended) (f w) w (keeps w h) h

  -- other marks, phases and counts
  shared-good : (w : World tree.Thread) (s : Shared) → s.version ≡ w.shared.version → outside_of s ≡ outside_of w.shared → s.kept ≡ w.shared.kept → GoodWorld w → GoodWorld (record w { shared = s })
  shared-good w s same outside kept h =
      let g = h.good in
      record {
        program = h.program;
        good = record {
          version_is = ap (version_at job) same ∙ g.version_is;
          shared = untyped h.program w.shared s outside kept g.shared;
          threads = subst (λ n. AllFrom (IsGood n (version_at job n) h.program) 0 w.threads) (sym same) g.threads;
        };
      }

  marked-good : Keeps end_marked
  marked-good w h = by w.shared.ended
    where
      by : (o : Option End) → GoodWorld (record w { shared = with_mark o w.shared })
      by None = h
      by (Some how) = shared-good w _ refl refl refl h

  there-good : (phase : Phase) → Keeps (main_there (tree_engine job) phase)
  there-good Run w h = h
  there-good Asked w h = h
  there-good Main w h = by-choice (main_is_normal (tree_engine job) w.threads) _ w (shared-good w _ refl refl refl h) h
  there-good Others w h = h

  back-good : (phase : Phase) → Keeps (all_back (tree_engine job) phase)
  back-good Run w h = h
  back-good Asked w h = h
  back-good Main w h = h
  back-good Others w h = by-choice (all_normal (tree_engine job) w.threads) _ w (shared-good w _ refl refl refl h) h

  awake-good : (v : ℕ) (o : Option Program) (p : Program) (k : ℕ) (th : Thread tree.Thread) → IsGood v o p k th → IsGood v o p k (if is_waiter th.standing then awake th else th)
  awake-good v o p k th h = by th.standing refl h
    where
      by : (standing : Standing) → th.standing ≡ standing → IsGoodAs v o p k standing th → IsGood v o p k (if is_waiter standing then awake th else th)
      by Live is i = h
      by (Waiter n c) is i = (record { thread = i.0.thread; arguments = i.0.arguments }, i.1)
      by Parked is i = h
      by Ended is i = h

  requested-good : (after : List ℕ) → Keeps (requested after)
  requested-good after w h =
      let g = h.good in
      let v = w.shared.version in
      let P = IsGood v (version_at job v) h.program in
      record {
        program = h.program;
        good = record {
          version_is = g.version_is;
          shared = untyped h.program w.shared _ refl refl g.shared;
          threads = from-map P P _ (awake-good v (version_at job v) h.program) 0 w.threads g.threads;
        };
      }

  request-good : (after : List ℕ) → Keeps (request job after)
  request-good [] w h = h
  request-good (n ∷ after) w h =
      by-choice (is_some (passage_at job w.shared.version) && nat_le n w.shared.turns) (requested after w) w (requested-good after w h) h

  asked-good : (phase : Phase) → Keeps (asked job phase)
  asked-good Run w h = request-good w.shared.after w h
  asked-good Asked w h = h
  asked-good Main w h = h
  asked-good Others w h = h

  stuck-good : Keeps (stuck (tree_engine job))
  stuck-good w h = by-choice (any_enabled (tree_engine job) w 0 w.threads) w _ h (shared-good w _ refl refl refl h)

  spent-good : Keeps (on_shared (spent job))
  spent-good w h = by (w.shared.turns == job.budget)
    where
      by : (b : Bool) → GoodWorld (record w { shared = if b then ended_as end.Budget w.shared else w.shared })
      by true = shared-good w _ refl refl refl h
      by false = h

  -- ---- a refusal

  let-go-good : (v : ℕ) (p : Program) → version_at job v ≡ Some p → (k : ℕ) (th : Thread tree.Thread) → IsGood v (version_at job v) p k th → IsGood v (version_at job v) p k (let_go (tree_engine job) v th)
  let-go-good v p at k th h = by th.standing refl h
    where
      by : (standing : Standing) → th.standing ≡ standing → IsGoodAs v (version_at job v) p k standing th → IsGood v (version_at job v) p k (if_parked standing th (record (gone_on (tree_engine job) v th Done) { standing = Live }))
      by Live is i = h
      by (Waiter n c) is i = h
      by Parked is i = (
        record {
          thread = replied v (version_at job v) p at (program-at v p at) th.state Done i.0.thread (point-reply (tree_step v (version_at job v) th.state) i.2);
          arguments = i.0.arguments;
        },
        i.1,
      )
      by Ended is i = h

  refused-good : (c : Closed) → Keeps (refused (tree_engine job) c)
  refused-good c w h =
      let g = h.good in
      let v = w.shared.version in
      let P = IsGood v (version_at job v) h.program in
      record {
        program = h.program;
        good = record {
          version_is = g.version_is;
          shared = untyped h.program w.shared _ refl refl g.shared;
          threads = from-map P P (let_go (tree_engine job) v) (let-go-good v h.program g.version_is) 0 w.threads g.threads;
        };
      }

  -- ---- an update

  module _ (w : World tree.Thread) (j : Passage) (at : passage_at job w.shared.version ≡ Some j) (g : IsGoodIn job j.old w) (parked : all_parked w.threads ≡ true) where
    abbrev v : ℕ
    v = w.shared.version

    abbrev m : Memory
    m = w.shared.memory

    abbrev roots : List Root
    roots = thread_roots (tree_engine job) j m w.threads

    abbrev fresh : List FreshPlace
    fresh = fresh_places j.plan m roots

    abbrev names : List Name
    names = reached j.plan m roots

    there : version_at job (suc v) ≡ Some j.new
    there = (passage-parts (version_at job v) (version_at job (suc v)) (slice_get job.plans v) j at).1

    new : IsProgram j.new
    new = program-at (suc v) j.new there

    old : IsProgram j.old
    old = program-at v j.old g.version_is

    keeps : KeepsTypes j.old j.new j.plan
    keeps = typed.plans v j at

    module _ (none : refusal (tree_engine job) j w roots ≡ None) where
      abbrev place : Option Closed
      place = first_of (option_map closed.At (first_fault (faults j.plan m roots))) (size_refusal j m roots)

      abbrev entry : Option Closed
      entry = first_of (option_map closed.Entry (least (lacks_entry j) 0 w.threads)) place

      abbrev point : Option Closed
      point = first_of (option_map closed.Point (least (lacks_point (tree_engine job) v j) 0 w.threads)) entry

      no-entry : entry ≡ None
      no-entry =
          (first-none (option_map closed.Point (least (lacks_point (tree_engine job) v j) 0 w.threads)) entry
          (first-none (if_held (any_held j.old m)) point none).1).1

      entries : least (lacks_entry j) 0 w.threads ≡ None
      entries = none-least (least (lacks_entry j) 0 w.threads) (first-none (option_map closed.Entry (least (lacks_entry j) 0 w.threads)) place no-entry).0

      fits : is_too_big (sizes j.plan m (distinct names) fresh) ≡ false
      fits =
          not-too-big (is_too_big (sizes j.plan m (distinct names) fresh))
          (first-none (option_map closed.At (first_fault (faults j.plan m roots))) (size_refusal j m roots)
          (first-none (option_map closed.Entry (least (lacks_entry j) 0 w.threads)) place no-entry).1).1

      enters : (t : ℕ) (th : Thread tree.Thread) → slice_get w.threads t ≡ Some th → lacks_entry j t th ≡ false
      enters t th here = subst (λ i. lacks_entry j i th ≡ false) (omega arith) (least-none (lacks_entry j) 0 w.threads entries t th here)

      fit-roots : AllByRecursion (RootFits j keeps m g.shared.memory v (version_at job v)) roots
      fit-roots = roots-fit job j keeps m g.shared.memory v new there w.threads g.threads enters

      give : (rs : List Root) → AllByRecursion (RootFits j keeps m g.shared.memory v (version_at job v)) rs → AllByRecursion (RootGives j.old j.plan m g.shared.memory) rs
      give [] all = tt
      give (r ∷ rs) all = (all.0.gives, give rs all.1)

      chars : layout j.plan.new char_type ≡ layout j.old.types char_type
      chars = ap (λ (t : Table). layout t char_type) keeps.types ∙ char-layout j.new new ∙ sym (char-layout j.old old)

      abbrev others : Name → Option Object
      others = moved_object j.plan m names fresh

      literals : (u i : ℕ) (o : Object) → others (Lit u i) ≡ Some o → IsObjectOf j.new.types (Lit u i) o
      literals u i o is =
          subst (λ (t : Table). IsObjectOf t (Lit u i) o) keeps.types
          (moved-object-of j.old j.plan m g.shared.memory roots j.new.globals g.shared.globals keeps.objects keeps.globals (give roots fit-roots) fits keeps.chars chars (Lit u i) o refl is)

      objects : (a : ℕ) (o : Object) → others (Heap a) ≡ Some o → IsObjectOf j.new.types (Heap a) o
      objects a o is =
          subst (λ (t : Table). IsObjectOf t (Heap a) o) keeps.types
          (moved-object-of j.old j.plan m g.shared.memory roots j.new.globals g.shared.globals keeps.objects keeps.globals (give roots fit-roots) fits keeps.chars chars (Heap a) o refl is)

      updated-good : GoodWorld (updated (tree_engine job) j w roots)
      updated-good = record {
        program = j.new;
        good = record {
          version_is = there;
          shared = record {
            outside = record { memory = begun-typed j.new new (suc v) others literals objects (m.next + length fresh) (live_cells j.plan m names fresh); input = g.shared.outside.input; output = g.shared.outside.output };
            memory = begun-memory j.new new (suc v) others literals objects (m.next + length fresh) (live_cells j.plan m names fresh);
            globals = begun-globals j.new new (suc v) others literals objects (m.next + length fresh) (live_cells j.plan m names fresh);
            kept = subst (λ (t : Table). AreKeptFor t j.new.globals (kept_globals j.plan m fresh 0 j.plan.globals)) keeps.types (kept-globals-of j.old j.plan m g.shared.memory g.shared.globals fresh 0 j.new.globals j.plan.globals keeps.globals);
          };
          threads = restarted-good job j keeps m g.shared.memory v new there w.threads g.threads enters parked;
        };
      }

    decided-good : (c : Option Closed) → refusal (tree_engine job) j w roots ≡ c → GoodWorld (decided (tree_engine job) j w roots c)
    decided-good None is = updated-good is
    decided-good (Some c) is = refused-good c w (record { program = j.old; good = g })

  closing-good : (w : World tree.Thread) → GoodWorld w → all_parked w.threads ≡ true → (o : Option Passage) → passage_at job w.shared.version ≡ o → GoodWorld (closing (tree_engine job) o w)
  closing-good w h parked None at = h
  closing-good w h parked (Some j) at =
      let here = (passage-parts (version_at job w.shared.version) (version_at job (suc w.shared.version)) (slice_get job.plans w.shared.version) j at).0 in
      let same : h.program ≡ j.old = same_Some h.program j.old (sym h.good.version_is ∙ here) in
      let g = subst (λ p. IsGoodIn job p w) same h.good in
      decided-good w j at g parked (refusal (tree_engine job) j w (thread_roots (tree_engine job) j w.shared.memory w.threads)) refl

  closed-good : (phase : Phase) → Keeps (closed_up (tree_engine job) job phase)
  closed-good Run w h = h
  closed-good Asked w h = by (all_parked w.threads) refl
    where
      by : (b : Bool) → all_parked w.threads ≡ b → GoodWorld (if b then closing (tree_engine job) (passage_at job w.shared.version) w else w)
      by true parked = closing-good w h parked (passage_at job w.shared.version) refl
      by false parked = h
  closed-good Main w h = h
  closed-good Others w h = h

  -- ---- turns

  before-good : Keeps (before_turn (tree_engine job) job)
  before-good w h =
      let a = ongoing (λ u. asked job u.shared.phase u) w in
      let b = ongoing (stuck (tree_engine job)) a in
      ongoing-good (on_shared (spent job)) spent-good b
      (ongoing-good (stuck (tree_engine job)) stuck-good a (ongoing-good (λ u. asked job u.shared.phase u) (λ u. asked-good u.shared.phase u) w h))

  after-good : Keeps (after_act (tree_engine job) job)
  after-good w h =
      let e = tree_engine job in
      let a = end_marked w in
      let b = ongoing (λ u. main_there e u.shared.phase u) a in
      let c = ongoing (λ u. all_back e u.shared.phase u) b in
      let d = ongoing (λ u. closed_up e job u.shared.phase u) c in
      before-good d
      (ongoing-good (λ u. closed_up e job u.shared.phase u) (λ u. closed-good u.shared.phase u) c
      (ongoing-good (λ u. all_back e u.shared.phase u) (λ u. back-good u.shared.phase u) b
      (ongoing-good (λ u. main_there e u.shared.phase u) (λ u. there-good u.shared.phase u) a (marked-good w h))))

  act-keeps : (w : World tree.Thread) (t : ℕ) → is_enabled (tree_engine job) w t ≡ true → GoodWorld w → GoodWorld (acted (tree_engine job) (types_at job w.shared.version) w t)
  act-keeps w t enabled h = by (slice_get w.threads t) refl enabled
    where
      takes : (a b c : Bool) → (a && b && c) ≡ true → a ≡ true
      takes true b c is = refl
      takes false b c is = absurd cc

      by : (o : Option (Thread tree.Thread)) → slice_get w.threads t ≡ o → enabled_if (tree_engine job) w t o ≡ true → GoodWorld (act_of (tree_engine job) (types_at job w.shared.version) w t o)
      by None at is = h
      by (Some th) at is =
          record { program = h.program; good = act-good job h.program (program-at w.shared.version h.program h.good.version_is) w h.good t th at (takes (takes_turns th.standing) (is_turnable w.shared.phase t) _ is) }

  turn-good : (w : World tree.Thread) (t : ℕ) → MayTurn (tree_engine job) w t → GoodWorld w → GoodWorld (turn (tree_engine job) job w t)
  turn-good w t may h =
      let u = acted (tree_engine job) (types_at job w.shared.version) w t in
      after-good (counted u) (shared-good u _ refl refl refl (act-keeps w t may.enabled h))

  from-good : (turns : List ℕ) (w : World tree.Thread) → MayTurnAll (tree_engine job) job w turns → GoodWorld w → GoodWorld (world_from (tree_engine job) job w turns)
  unfolding world_from
  from-good [] w may h = h
  from-good (t ∷ turns) w may h = from-good turns (turn (tree_engine job) job w t) may.1 (turn-good w t may.0 h)

  -- ---- the first world

  start-good : GoodWorld (start (tree_engine job) job)
  start-good =
      let (p, at) = typed.some in
      let program = program-at 0 p at in
      let memory : first_memory (version_at job 0) ≡ first_memory (Some p) = ap first_memory at in
      let main : first_function (version_at job 0) ≡ program.main.0 = ap first_function at ∙ ap (λ o. unwrap_or o 0) (main-place p program) in
      let are : AreArguments p (first_function (version_at job 0)) [] = subst (λ f. AreArguments p f []) (sym main) (main-arguments p program) in
      record {
        program = p;
        good = record {
          version_is = at;
          shared = record {
            outside = record { memory = subst IsTyped (sym memory) (begun-typed p program 0 no_objects none-literal none-heap 0 0); input = typed.input; output = omega arith };
            memory = subst (IsMemoryOf p.types) (sym memory) (begun-memory p program 0 no_objects none-literal none-heap 0 0);
            globals = subst (HasGlobals p.globals) (sym memory) (begun-globals p program 0 no_objects none-literal none-heap 0 0);
            kept = tt;
          };
          threads = (
            (
              record { thread = begun 0 (version_at job 0) p at program (first_function (version_at job 0)) [] (record { mode = Normal; kept = [] }) are (record { mode = tt; kept = tt }); arguments = are },
              subst (IsMainFunction p) (sym main) (main-is p program),
            ),
            tt,
          );
        };
      }
    where
      none-literal : {types : Table} (u i : ℕ) (o : Object) → no_objects (Lit u i) ≡ Some o → IsObjectOf types (Lit u i) o
      none-literal u i o is = absurd (none-some o is)

      none-heap : {types : Table} (a : ℕ) (o : Object) → no_objects (Heap a) ≡ Some o → IsObjectOf types (Heap a) o
      none-heap a o is = absurd (none-some o is)

  first-good : GoodWorld (first_world (tree_engine job) job)
  first-good = before-good (start (tree_engine job) job) start-good

  -- ---- such a world is typed

  typed-as : (v : ℕ) (o : Option Program) (p : Program) (k : ℕ) (standing : Standing) (th : Thread tree.Thread) → IsGoodAs v o p k standing th → IsTypedAs p standing th
  typed-as v o p k Live th h = h.0
  typed-as v o p k (Waiter n c) th h = h.0
  typed-as v o p k Parked th h = h.0
  typed-as v o p k Ended th h = tt

  typed-threads : (v : ℕ) (o : Option Program) (p : Program) (k : ℕ) (threads : List (Thread tree.Thread)) → AllFrom (IsGood v o p) k threads → AllByRecursion (IsTypedThread p) threads
  typed-threads v o p k [] h = tt
  typed-threads v o p k (th ∷ threads) h = (typed-as v o p k th.standing th h.0, typed-threads v o p (suc k) threads h.1)

  pub good-typed : (w : World tree.Thread) → GoodWorld w → IsTypedWorld job w
  good-typed w h = record {
    version = h.program;
    version_is = h.good.version_is;
    typed = record { shared = h.good.shared; threads = typed-threads w.shared.version (version_at job w.shared.version) h.program 0 w.threads h.good.threads };
  }

pub worlds-are-typed : (job : Job) (turns : List ℕ) → WorldsAreTyped job turns
worlds-are-typed job turns typed may =
    good-typed job typed (world job turns) (from-good job typed turns (first_world (tree_engine job) job) may (first-good job typed))
