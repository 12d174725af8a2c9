-- What marks tell is there: threads, and places of the version that a closing was to bring.
use Rattle.std.specs.Prelude.{◌≡◌, ℕ, suc, pos, nat_le, ◌&&◌, ◌==◌, Bool, true, false, List, [], ◌∷◌, ◌++◌, filter, length, Option, None, Some, is_none, is_some, Result, Ok, Err, refl, slice_get, if◌then◌else◌}
use Rattle.std.specs.List.{AllByRecursion}
use Rattle.std.specs.Option.{option_map}
use Rattle.std.proofs.Common.{◌≤◌, ◌<◌, ◌+◌, ap, sym, subst, ◌∙◌, arith}
use Rattle.std.proofs.lemmas.Option.{slice_get_within}
use Rattle.kt_types.specs.Table.{Table}
use Rattle.kt_tree.specs.Version.{Program}
use Rattle.kt_mem.specs.declared.memory.Value.{Value}
use Rattle.kt_mem.specs.declared.memory.Value.TheVariants.{Num}
use Rattle.kt_mem.specs.declared.steps.Act.{Act}
use Rattle.kt_mem.specs.declared.steps.Act.TheVariants as act
use Rattle.kt_mem.specs.declared.steps.Reply.{Reply}
use Rattle.kt_mem.specs.declared.steps.Reply.TheVariants.{Done, Got, Trapped}
use Rattle.kt_mem.specs.declared.steps.Trap.{Trap}
use Rattle.kt_mem.specs.declared.steps.Trap.TheVariants as trap
use Rattle.kt_mem.specs.declared.thread.Mode.{Mode}
use Rattle.kt_mem.specs.declared.thread.Mode.TheVariants.{Normal, Updating}
use Rattle.kt_mem.specs.Memory.{Memory, unlock, signal}
use Rattle.kt_meaning.specs.Effects as outside
use Rattle.kt_meaning.specs.Effects.{Outcome, Replies, Waits, Elsewhere}
use Rattle.kt_meaning.specs.Steps.{Step, Quiet, Acts, Traps, Ends}
use Rattle.kt_phase.specs.declared.counters.Phase.{Phase}
use Rattle.kt_phase.specs.declared.counters.Phase.TheVariants.{Run, Asked, Main, Others}
use Rattle.xf_plan.specs.Images.{faults, first_fault, fresh_places, image_count, is_too_big, sizes}
use Rattle.xf_plan.specs.Plan.{LocalRule, Plan}
use Rattle.xf_plan.specs.Reached.{distinct, reached}
use Rattle.xf_plan.specs.declared.place.Fault.{Fault}
use Rattle.xf_plan.specs.declared.place.Root.{Root}
use Rattle.kt_world.specs.declared.mark.Closed.{Closed}
use Rattle.kt_world.specs.declared.mark.Closed.TheVariants as closed
use Rattle.kt_world.specs.declared.mark.End.{End}
use Rattle.kt_world.specs.declared.mark.End.TheVariants as end
use Rattle.kt_world.specs.declared.mark.Mark.{Mark}
use Rattle.kt_world.specs.declared.mark.Mark.TheVariants as mark
use Rattle.kt_world.specs.Acts.{answered, created, new_thread, with_new, joins, waited, waiting_in, signalled, woken, at_point, migrated, elsewhere, on_outcome, ends, effect, act_of, acted, with_shared}
use Rattle.kt_world.specs.Events.{ongoing, on_shared, with_mark, end_marked, ended_as, is_waiter, main_is_normal, main_there, all_normal, all_back, all_parked, closed_up, requested, request, waiters, asked, stuck, spent, before_turn, after_act}
use Rattle.kt_world.specs.Job.{Job, Passage, passage_at, passage_of, types_at, version_at}
use Rattle.kt_world.specs.Laws.{MarksTellOfJobs}
use Rattle.kt_world.specs.Marks.{IsRefusal}
use Rattle.kt_world.specs.Refusals.{any_held, first_of, if_held, if_too_big, lacks_entry, lacks_point, least, refusal, size_refusal}
use Rattle.kt_world.specs.Roots.{thread_roots}
use Rattle.kt_world.specs.Told.{HasLocal, IsPlaceIn, IsThread, LeadsTo, PlansLeadOn, TellOf, TellsClosing, TellsEnd, TellsOf, version_after}
use Rattle.kt_world.specs.Trees.{tree_engine}
use Rattle.kt_world.specs.Turns.{counted, first_world, start, turn, world_from}
use Rattle.kt_world.specs.Update.{closing, decided}
use Rattle.kt_world.specs.Waiting.{any_enabled, joined}
use Rattle.kt_world.specs.World.{Engine, Shared, Thread, World, outside_of, with_outside}
use Rattle.kt_world.proofs.Numbering.{act-few, all_back-few, asked-few, closed_up-few, first-few, main_there-few, ongoing-few, turn-few}
use Rattle.kt_world.proofs.Places.{faults-at, roots-at}

-- ---- marks, one behind another

-- the version in force behind marks
abbrev behind : List Mark → ℕ → ℕ
behind [] v = v
behind (m ∷ marks) v = behind marks (version_after m v)

behind-more : (marks : List Mark) (m : Mark) (v : ℕ) → behind (marks ++ m ∷ []) v ≡ version_after m (behind marks v)
behind-more [] m v = refl
behind-more (n ∷ marks) m v = behind-more marks m (version_after n v)

tell-more : (job : Job) (v : ℕ) (marks : List Mark) (m : Mark) → TellOf job v marks → TellsOf (version_at job (suc (behind marks v))) m → TellOf job v (marks ++ m ∷ [])
tell-more job v [] m all one = (one, tt)
tell-more job v (n ∷ marks) m all one = (all.0, tell-more job (version_after n v) marks m all.1 one)

-- ---- an update

passage-new : (a b : Option Program) (o : Option Plan) (j : Passage) → passage_of a b o ≡ Some j → (b ≡ Some j.new) × (o ≡ Some j.plan)
passage-new (Some old) (Some new) (Some plan) j is = (ap (λ q. option_map (λ (k : Passage). k.new) q) is, ap (λ q. option_map (λ (k : Passage). k.plan) q) is)
passage-new (Some old) (Some new) None j is = absurd cc
passage-new (Some old) None o j is = absurd cc
passage-new None b o j is = absurd cc

-- ---- what refuses a closing

abbrev AllTell : Option Program → Option Closed → Type 0
AllTell new None = Unit {0}
AllTell new (Some c) = IsRefusal c × TellsClosing new c

first-tells : (new : Option Program) (a b : Option Closed) → AllTell new a → AllTell new b → AllTell new (first_of a b)
first-tells new None b h k = k
first-tells new (Some c) b h k = h

held-tells : (new : Option Program) (b : Bool) → AllTell new (if_held b)
held-tells new true = (tt, tt)
held-tells new false = tt

size-tells : (new : Option Program) (b : Bool) → AllTell new (if_too_big b)
size-tells new true = (tt, tt)
size-tells new false = tt

-- a number below this, if any
abbrev IsBelow : ℕ → Option ℕ → Type 0
IsBelow n None = Unit {0}
IsBelow n (Some t) = t < n

least-below : {X : Type 0} (is : ℕ → Thread X → Bool) (n t : ℕ) (threads : List (Thread X)) → t + length threads ≤ n → IsBelow n (least is t threads)
least-below is n t [] h = tt
least-below is n t (th ∷ threads) h = by (is t th) (least-below is n (suc t) threads (omega (arith, h)))
  where
    by : (b : Bool) → IsBelow n (least is (suc t) threads) → IsBelow n (if b then Some t else least is (suc t) threads)
    by true rest = omega (arith, h)
    by false rest = rest

point-tells : (new : Option Program) (o : Option ℕ) → IsBelow 65 o → AllTell new (option_map closed.Point o)
point-tells new None h = tt
point-tells new (Some t) h = (tt, omega (arith, h))

entry-tells : (new : Option Program) (o : Option ℕ) → IsBelow 65 o → AllTell new (option_map closed.Entry o)
entry-tells new None h = tt
entry-tells new (Some t) h = (tt, omega (arith, h))

place-tells : (p : Program) (fs : List Fault) → AllByRecursion (λ (f : Fault). IsPlaceIn p f.place) fs → AllTell (Some p) (option_map closed.At (first_fault fs))
place-tells p [] all = tt
place-tells p (f ∷ fs) all = (tt, all.0)

-- a refusal makes no update
stays : (c : Closed) (turn k v : ℕ) → IsRefusal c → version_after (mark.Close turn k c) v ≡ v
stays (closed.Ok images) turn k v refuses = absurd refuses
stays closed.Held turn k v refuses = refl
stays (closed.Point t) turn k v refuses = refl
stays (closed.Entry t) turn k v refuses = refl
stays (closed.At fault) turn k v refuses = refl
stays closed.Size turn k v refuses = refl

with-thread : (p : Program) (t : ℕ) (rules : List LocalRule) → IsThread t → AllByRecursion (λ (r : LocalRule). HasLocal p r.function r.local) rules
    → AllByRecursion (λ (r : LocalRule). IsThread t × HasLocal p r.function r.local) rules
with-thread p t [] small all = tt
with-thread p t (r ∷ rules) small all = ((small, all.0), with-thread p t rules small all.1)

-- ---- worlds

-- the marks lead to the version in force, and they and the end tell what is there
record Tells (job : Job) (s : Shared) : Type 0 where
  version : behind s.marks 0 ≡ s.version
  marks : TellOf job 0 s.marks
  ended : (how : End) → s.ended ≡ Some how → TellsEnd how

-- one mark more, which makes no update
more : (job : Job) (s : Shared) (m : Mark) (phase : Phase) (after : List ℕ) (requests : ℕ) → Tells job s → ((v : ℕ) → version_after m v ≡ v) → TellsOf (version_at job (suc s.version)) m
    → Tells job (record s { phase = phase; after = after; requests = requests; marks = s.marks ++ m ∷ [] })
more job s m phase after requests h stays one = record {
  version = behind-more s.marks m 0 ∙ stays (behind s.marks 0) ∙ h.version;
  marks = tell-more job 0 s.marks m h.marks (subst (λ v. TellsOf (version_at job (suc v)) m) (sym h.version) one);
  ended = h.ended;
}

module _ {X : Type 0} (e : Engine X) (job : Job) where
  abbrev Good : World X → Type 0
  Good w = Tells job w.shared

  by-choice : (b : Bool) (w u : World X) → Good w → Good u → Good (if b then w else u)
  by-choice true w u h k = h
  by-choice false w u h k = k

  -- ---- acts of a thread that there may be

  trapped : (w : World X) (t : ℕ) (cause : Trap) → IsThread t → Good w → Good (record w { shared = record w.shared { ended = Some (end.Trap t cause) } })
  trapped w t cause small h = record { version = h.version; marks = h.marks; ended = λ how is. subst (tells-if) is small }
    where
      tells-if : Option End → Type 0
      tells-if None = Unit {0}
      tells-if (Some how) = TellsEnd how

  module _ (t : ℕ) (small : IsThread t) where
    answered-good : (w : World X) (th : Thread X) (r : Reply) → Good w → Good (answered e w t th r)
    answered-good w th Done h = h
    answered-good w th (Got v) h = h
    answered-good w th (Trapped cause) h = trapped w t cause small h

    outside-good : (w : World X) (m : Memory) (o : List ℕ) (i : List ℕ) → Good w → Good (with_shared w (record w.shared { memory = m; input = i; output = o }))
    outside-good w m o i h = record { version = h.version; marks = h.marks; ended = h.ended }

    migrated-good : (mode : Mode) (w : World X) → Good w → Good (with_shared w (migrated mode w.shared))
    migrated-good Normal w h = h
    migrated-good (Updating p) w h = record { version = h.version; marks = h.marks; ended = h.ended }

    created-good : (w : World X) (th : Thread X) (f : ℕ) (a : Value) → Good w → Good (created e w t th f a)
    created-good w th f a h =
        by-choice (nat_le 65 (length w.threads)) _ _ (answered-good w th (Trapped trap.Threads) h)
        (answered-good (with_new w (new_thread e w.shared.version f a)) th (Got (Num (pos (length w.threads)))) h)

    joins-good : (w : World X) (th : Thread X) (o : Option (Thread X)) → Good w → Good (joins e w t th o)
    joins-good w th None h = answered-good w th (Trapped trap.Thread) h
    joins-good w th (Some other) h = answered-good w th Done h

    waited-good : (w : World X) (th : Thread X) (p : Value) (r : Result Memory Trap) → Good w → Good (waited e w t th p r)
    waited-good w th p (Err cause) h = answered-good w th (Trapped cause) h
    waited-good w th p (Ok m) h =
        answered-good (with_shared w (record w.shared { memory = m })) (record th { standing = waiting_in w.shared.phase p }) Done
        (outside-good w m w.shared.output w.shared.input h)

    signalled-good : (w : World X) (th : Thread X) (p : Value) (all : Bool) (r : Result Memory Trap) → Good w → Good (signalled e w t th p all r)
    signalled-good w th p all (Err cause) h = answered-good w th (Trapped cause) h
    signalled-good w th p all (Ok m) h = answered-good (record w { threads = woken all p w.threads }) th Done h

    at_point-good : (w : World X) (th : Thread X) (mode : Mode) (phase : Phase) → Good w → Good (at_point e w t th mode phase)
    at_point-good w th Normal Run h = h
    at_point-good w th Normal Asked h = h
    at_point-good w th Normal Main h = h
    at_point-good w th Normal Others h = h
    at_point-good w th (Updating p) phase h = h

    elsewhere-good : (w : World X) (th : Thread X) (a : Act) → Good w → Good (elsewhere e w t th a)
    elsewhere-good w th (act.Create f a) h = created-good w th f a h
    elsewhere-good w th (act.Join n) h = joins-good w th (joined w.threads t n) h
    elsewhere-good w th (act.Wait p) h = waited-good w th p (unlock w.shared.memory t p) h
    elsewhere-good w th (act.Signal p all) h = signalled-good w th p all (signal w.shared.memory p) h
    elsewhere-good w th (act.Point p) h = at_point-good w th (e.mode th.state) w.shared.phase h
    elsewhere-good w th act.Automigrate h = migrated-good (e.mode th.state) w h
    elsewhere-good w th _ h = h

    outcome-good : (w : World X) (th : Thread X) (a : Act) (o : Outcome) → Good w → Good (on_outcome e w t th a o)
    outcome-good w th a (Replies r o) h =
        answered-good (with_shared w (with_outside w.shared o)) th r (outside-good w o.memory o.output o.input h)
    outcome-good w th a Waits h = h
    outcome-good w th a Elsewhere h = elsewhere-good w th a h

    returned : (w : World X) (n : _) → Good w → Good (record w { shared = record w.shared { ended = Some (end.Main n) } })
    returned w n h = record { version = h.version; marks = h.marks; ended = λ how is. subst (tells-if) is tt }
      where
        tells-if : Option End → Type 0
        tells-if None = Unit {0}
        tells-if (Some how) = TellsEnd how

    ends-good : (w : World X) (th : Thread X) (a : Act) → Good w → Good (ends e w t th a)
    ends-good w th act.ThreadEnd h = h
    ends-good w th (act.MainReturn n) h = returned w n h
    ends-good w th _ h = h

    effect-good : (types : Table) (w : World X) (th : Thread X) (s : Step X) → Good w → Good (effect e types w t th s)
    effect-good types w th (Quiet x) h = h
    effect-good types w th (Acts a go) h = outcome-good w th a (outside.effect types t a (outside_of w.shared)) h
    effect-good types w th (Traps cause) h = trapped w t cause small h
    effect-good types w th (Ends a) h = ends-good w th a h

  -- no other thread acts
  act-good : (types : Table) (w : World X) (t : ℕ) (o : Option (Thread X)) → slice_get w.threads t ≡ o → length w.threads ≤ 65 → Good w → Good (act_of e types w t o)
  act-good types w t None is few h = h
  act-good types w t (Some th) is few h =
      let within = slice_get_within w.threads t th is in
      effect-good t (omega (arith, within, few)) types w th (e.step w.shared.version th.state) h

  -- ---- what is tried after an act

  -- at most 65 threads, and what marks tell is there
  abbrev Both : World X → Type 0
  Both w = (length w.threads ≤ 65) × Good w

  ongoing-good : (f : World X → World X) → ((w : World X) → Both w → Good (f w)) → (w : World X) → Both w → Good (ongoing f w)
  ongoing-good f keeps w h = by-choice (is_none w.shared.ended) (f w) w (keeps w h) h.1

  main_there-good : (phase : Phase) (w : World X) → Good w → Good (main_there e phase w)
  main_there-good Run w h = h
  main_there-good Asked w h = h
  main_there-good Main w h =
      let s = w.shared in
      by-choice (main_is_normal e w.threads) _ w (more job s (mark.MainThere s.turns s.requests) Others s.after s.requests h (λ v. refl) tt) h
  main_there-good Others w h = h

  all_back-good : (phase : Phase) (w : World X) → Good w → Good (all_back e phase w)
  all_back-good Run w h = h
  all_back-good Asked w h = h
  all_back-good Main w h = h
  all_back-good Others w h =
      let s = w.shared in
      by-choice (all_normal e w.threads) _ w (more job s (mark.Back s.turns s.requests) Run s.after s.requests h (λ v. refl) tt) h

  waiters-few : (threads : List (Thread X)) → waiters threads ≤ length threads
  waiters-few [] = omega arith
  waiters-few (th ∷ threads) = by (is_waiter th.standing) (waiters-few threads)
    where
      by : (b : Bool) → waiters threads ≤ length threads
          → length (if b then th ∷ filter (λ (u : Thread X). is_waiter u.standing) threads else filter (λ (u : Thread X). is_waiter u.standing) threads) ≤ suc (length threads)
      by true rest = omega (arith, rest)
      by false rest = omega (arith, rest)

  request-good : (after : List ℕ) (w : World X) → Both w → Good (request job after w)
  request-good [] w h = h.1
  request-good (n ∷ after) w h =
      let s = w.shared in
      let some = waiters-few w.threads in
      by-choice (is_some (passage_at job s.version) && nat_le n s.turns) (requested after w) w
      (more job s (mark.Ask s.turns (suc s.requests) (waiters w.threads)) Asked after (suc s.requests) h.1 (λ v. refl) (omega (arith, some, h.0))) h.1

  asked-good : (phase : Phase) (w : World X) → Both w → Good (asked job phase w)
  asked-good Run w h = request-good w.shared.after w h
  asked-good Asked w h = h.1
  asked-good Main w h = h.1
  asked-good Others w h = h.1

  -- ---- an end

  ended-good : (s : Shared) (how : End) → TellsEnd how → Tells job s → Tells job (ended_as how s)
  ended-good s how tells h =
      let one = more job s (mark.End s.turns how) s.phase s.after s.requests h (λ v. refl) tells in
      record { version = one.version; marks = one.marks; ended = λ which is. subst tells-if is tells }
    where
      tells-if : Option End → Type 0
      tells-if None = Unit {0}
      tells-if (Some which) = TellsEnd which

  marked-good : (o : Option End) (s : Shared) → s.ended ≡ o → Tells job s → Tells job (with_mark o s)
  marked-good None s is h = h
  marked-good (Some how) s is h =
      let one = more job s (mark.End s.turns how) s.phase s.after s.requests h (λ v. refl) (h.ended how is) in
      record { version = one.version; marks = one.marks; ended = one.ended }

  spent-good : (w : World X) → Both w → Good (on_shared (spent job) w)
  spent-good w h = by (w.shared.turns == job.budget)
    where
      by : (b : Bool) → Tells job (if b then ended_as end.Budget w.shared else w.shared)
      by true = ended-good w.shared end.Budget tt h.1
      by false = h.1

  stuck-good : (w : World X) → Both w → Good (stuck e w)
  stuck-good w h = by-choice (any_enabled e w 0 w.threads) w (on_shared (ended_as end.Stuck) w) h.1 (ended-good w.shared end.Stuck tt h.1)

  -- ---- the closing

  refusal-tells : (j : Passage) (w : World X) → LeadsTo j.new j.plan → length w.threads ≤ 65
      → AllTell (Some j.new) (refusal e j w (thread_roots e j w.shared.memory w.threads))
  refusal-tells j w leads few =
      let s = w.shared in
      let new = Some j.new in
      let roots = thread_roots e j s.memory w.threads in
      let size = size_refusal j s.memory roots in
      let place = first_of (option_map closed.At (first_fault (faults j.plan s.memory roots))) size in
      let entry = first_of (option_map closed.Entry (least (lacks_entry j) 0 w.threads)) place in
      let point = first_of (option_map closed.Point (least (lacks_point e s.version j) 0 w.threads)) entry in
      let places = faults-at (IsPlaceIn j.new) j.plan s.memory roots
      (roots-at (IsPlaceIn j.new) e j s.memory w.threads (λ t h. thread t h few) (λ t h. with-thread j.new t j.plan.locals (thread t h few) leads.locals))
      (λ g cell h. subst (λ n. g < n) leads.globals h) (λ number cell. tt) in
      first-tells new (if_held (any_held j.old s.memory)) point (held-tells new (any_held j.old s.memory))
      (first-tells new (option_map closed.Point (least (lacks_point e s.version j) 0 w.threads)) entry
      (point-tells new (least (lacks_point e s.version j) 0 w.threads) (least-below (lacks_point e s.version j) 65 0 w.threads (omega (arith, few))))
      (first-tells new (option_map closed.Entry (least (lacks_entry j) 0 w.threads)) place
      (entry-tells new (least (lacks_entry j) 0 w.threads) (least-below (lacks_entry j) 65 0 w.threads (omega (arith, few))))
      (first-tells new (option_map closed.At (first_fault (faults j.plan s.memory roots))) size (place-tells j.new (faults j.plan s.memory roots) places)
      (size-tells new (is_too_big (sizes j.plan s.memory (distinct (reached j.plan s.memory roots)) (fresh_places j.plan s.memory roots)))))))
    where
      thread : (t : ℕ) → t < length w.threads → length w.threads ≤ 65 → IsThread t
      thread t h few = omega (arith, h, few)

  updated-good : (s : Shared) (m : Memory) (kept : _) (phase : Phase) (images : ℕ) → Tells job s
      → Tells job (record s { version = suc s.version; memory = m; kept = kept; phase = phase; marks = s.marks ++ mark.Close s.turns s.requests (closed.Ok images) ∷ [] })
  updated-good s m kept phase images h =
      let one = mark.Close s.turns s.requests (closed.Ok images) in
      record { version = behind-more s.marks one 0 ∙ ap suc h.version; marks = tell-more job 0 s.marks one h.marks tt; ended = h.ended }

  decided-good : (j : Passage) (roots : List Root) (w : World X) (c : Option Closed) → version_at job (suc w.shared.version) ≡ Some j.new → AllTell (Some j.new) c
      → Good w → Good (decided e j w roots c)
  decided-good j roots w None is tells h =
      updated-good w.shared _ _ Main (image_count j.plan w.shared.memory roots) h
  decided-good j roots w (Some c) is tells h =
      let s = w.shared in
      more job s (mark.Close s.turns s.requests c) Run s.after s.requests h (λ v. stays c s.turns s.requests v tells.0)
      (subst (λ o. TellsClosing o c) (sym is) tells.1)

  closing-good : PlansLeadOn job → (o : Option Passage) (w : World X) → passage_at job w.shared.version ≡ o → Both w → Good (closing e o w)
  closing-good leads None w is h = h.1
  closing-good leads (Some j) w is h =
      let new = passage-new (version_at job w.shared.version) (version_at job (suc w.shared.version)) (slice_get job.plans w.shared.version) j is in
      let roots = thread_roots e j w.shared.memory w.threads in
      decided-good j roots w (refusal e j w roots) new.0 (refusal-tells j w (leads w.shared.version j.new j.plan new.0 new.1) h.0) h.1

  closed_up-good : PlansLeadOn job → (phase : Phase) (w : World X) → Both w → Good (closed_up e job phase w)
  closed_up-good leads Run w h = h.1
  closed_up-good leads Asked w h =
      by-choice (all_parked w.threads) _ w (closing-good leads (passage_at job w.shared.version) w refl h) h.1
  closed_up-good leads Main w h = h.1
  closed_up-good leads Others w h = h.1

  -- ---- turns

  stuck-few : (w : World X) → length w.threads ≤ 65 → length (stuck e w).threads ≤ 65
  stuck-few w few = by (any_enabled e w 0 w.threads)
    where
      by : (b : Bool) → length (if b then w else on_shared (ended_as end.Stuck) w).threads ≤ 65
      by true = few
      by false = few

  before_turn-good : (w : World X) → Both w → Good (before_turn e job w)
  before_turn-good w h =
      let a = ongoing (λ u. asked job u.shared.phase u) w in
      let b = ongoing (stuck e) a in
      let asks = ongoing-good (λ u. asked job u.shared.phase u) (λ u k. asked-good u.shared.phase u k) w h in
      let asks-few = ongoing-few e job (λ u. asked job u.shared.phase u) (λ u k. asked-few e job u.shared.phase u k) w h.0 in
      let sticks = ongoing-good (stuck e) stuck-good a (asks-few, asks) in
      let sticks-few = ongoing-few e job (stuck e) stuck-few a asks-few in
      ongoing-good (on_shared (spent job)) spent-good b (sticks-few, sticks)

  after_act-good : PlansLeadOn job → (w : World X) → Both w → Good (after_act e job w)
  after_act-good leads w h =
      let a = end_marked w in
      let b = ongoing (λ u. main_there e u.shared.phase u) a in
      let c = ongoing (λ u. all_back e u.shared.phase u) b in
      let d = ongoing (λ u. closed_up e job u.shared.phase u) c in
      let marks = marked-good w.shared.ended w.shared refl h.1 in
      let there = ongoing-good (λ u. main_there e u.shared.phase u) (λ u k. main_there-good u.shared.phase u k.1) a (h.0, marks) in
      let there-few = ongoing-few e job (λ u. main_there e u.shared.phase u) (λ u k. main_there-few e job u.shared.phase u k) a h.0 in
      let back = ongoing-good (λ u. all_back e u.shared.phase u) (λ u k. all_back-good u.shared.phase u k.1) b (there-few, there) in
      let back-few = ongoing-few e job (λ u. all_back e u.shared.phase u) (λ u k. all_back-few e job u.shared.phase u k) b there-few in
      let closes = ongoing-good (λ u. closed_up e job u.shared.phase u) (λ u k. closed_up-good leads u.shared.phase u k) c (back-few, back) in
      let closes-few = ongoing-few e job (λ u. closed_up e job u.shared.phase u) (λ u k. closed_up-few e job u.shared.phase u k) c back-few in
      before_turn-good d (closes-few, closes)

  from-good : PlansLeadOn job → (turns : List ℕ) (w : World X) → Both w → Good (world_from e job w turns)
  unfolding world_from
  from-good leads [] w h = h.1
  from-good leads (t ∷ turns) w h =
      let types = types_at job w.shared.version in
      let act = act-good types w t (slice_get w.threads t) refl h.0 h.1 in
      let counts : Good (counted (acted e types w t)) = record { version = act.version; marks = act.marks; ended = act.ended } in
      let few = act-few e job types w t (slice_get w.threads t) h.0 in
      from-good leads turns (turn e job w t) (turn-few e job w t h.0, after_act-good leads (counted (acted e types w t)) (few, counts))

  first-good : Good (first_world e job)
  first-good = before_turn-good (start e job) (omega arith, record { version = refl; marks = tt; ended = λ how is. absurd cc })

pub marks-tell : (job : Job) (turns : List ℕ) → MarksTellOfJobs job turns
marks-tell job turns leads =
    let e = tree_engine job in (from-good e job leads turns (first_world e job) (first-few e job, first-good e job)).marks
