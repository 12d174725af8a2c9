-- At most 65 threads are made, `main` among them.
use Rattle.std.specs.Prelude.{◌≡◌, ℕ, zero, suc, pos, nat_le, ◌&&◌, Bool, true, false, List, [], ◌∷◌, ◌++◌, map, length, Option, None, Some, is_none, is_some, Result, Ok, Err, refl, slice_get, slice_set, if◌then◌else◌}
use Rattle.std.proofs.Common.{◌≤◌, ap, arith}
use Rattle.std.proofs.lemmas.Bool.{leb-false}
use Rattle.kt_types.specs.Table.{Table}
use Rattle.kt_mem.specs.declared.memory.Value.{Value}
use Rattle.kt_mem.specs.declared.memory.Value.TheVariants.{Num}
use Rattle.kt_mem.specs.declared.steps.Act.{Act}
use Rattle.kt_mem.specs.declared.steps.Act.TheVariants as act
use Rattle.kt_mem.specs.declared.steps.Reply.{Reply}
use Rattle.kt_mem.specs.declared.steps.Reply.TheVariants.{Done, Got, Trapped}
use Rattle.kt_mem.specs.declared.steps.Trap.{Trap}
use Rattle.kt_mem.specs.declared.steps.Trap.TheVariants as trap
use Rattle.kt_mem.specs.declared.thread.Mode.{Mode}
use Rattle.kt_mem.specs.declared.thread.Mode.TheVariants.{Normal, Updating}
use Rattle.kt_mem.specs.Memory.{Memory, unlock, signal}
use Rattle.kt_meaning.specs.Effects as outside
use Rattle.kt_meaning.specs.Effects.{Outcome, Replies, Waits, Elsewhere}
use Rattle.kt_meaning.specs.Steps.{Step, Quiet, Acts, Traps, Ends}
use Rattle.kt_phase.specs.declared.counters.Phase.{Phase}
use Rattle.kt_phase.specs.declared.counters.Phase.TheVariants.{Run, Asked, Main, Others}
use Rattle.xf_plan.specs.declared.place.Root.{Root}
use Rattle.kt_world.specs.declared.mark.Closed.{Closed}
use Rattle.kt_world.specs.Acts.{answered, created, new_thread, with_new, joins, waited, waiting_in, signalled, woken, woken_first, awake, waits_for, at_point, migrated, elsewhere, on_outcome, ends, effect, act_of, acted, with_shared, gone_on}
use Rattle.kt_world.specs.Events.{ongoing, on_shared, end_marked, main_is_normal, main_there, all_normal, all_back, all_parked, closed_up, requested, request, asked, stuck, spent, before_turn, after_act}
use Rattle.kt_world.specs.Job.{Job, Passage, passage_at, types_at}
use Rattle.kt_world.specs.Laws.{ThreadsAreFew}
use Rattle.kt_world.specs.Refusals.{refusal}
use Rattle.kt_world.specs.Roots.{thread_roots}
use Rattle.kt_world.specs.Trees.{tree_engine}
use Rattle.kt_world.specs.Turns.{counted, first_world, start, turn, world_from}
use Rattle.kt_world.specs.Update.{all_restarted, closing, decided}
use Rattle.kt_world.specs.Waiting.{any_enabled, joined}
use Rattle.kt_world.specs.World.{Engine, Thread, World, with_outside, outside_of}

module _ {X : Type 0} (e : Engine X) (job : Job) where
  -- as many threads
  abbrev AsMany : List (Thread X) → List (Thread X) → Type 0
  AsMany threads others = length others ≡ length threads

  set : (threads : List (Thread X)) (t : ℕ) (th : Thread X) → AsMany threads (slice_set threads t th)
  set [] t th = refl
  set (u ∷ threads) zero th = refl
  set (u ∷ threads) (suc t) th = ap suc (set threads t th)

  one-more : (threads : List (Thread X)) (th : Thread X) → length (threads ++ th ∷ []) ≡ suc (length threads)
  one-more [] th = refl
  one-more (u ∷ threads) th = ap suc (one-more threads th)

  each : (f : Thread X → Thread X) (threads : List (Thread X)) → AsMany threads (map f threads)
  each f [] = refl
  each f (u ∷ threads) = ap suc (each f threads)

  first-woken : (p : Value) (threads : List (Thread X)) → AsMany threads (woken_first p threads)
  first-woken p [] = refl
  first-woken p (u ∷ threads) = by (waits_for p u.standing) (first-woken p threads)
    where
      by : (b : Bool) → AsMany threads (woken_first p threads) → length (if b then awake u ∷ threads else u ∷ woken_first p threads) ≡ suc (length threads)
      by true rest = refl
      by false rest = ap suc rest

  all-woken : (all : Bool) (p : Value) (threads : List (Thread X)) → AsMany threads (woken all p threads)
  all-woken true p threads = each _ threads
  all-woken false p threads = first-woken p threads

  begun : (v : ℕ) (j : Passage) (m : Memory) (roots : List Root) (t : ℕ) (threads : List (Thread X)) → AsMany threads (all_restarted e v j m roots t threads)
  begun v j m roots t [] = refl
  begun v j m roots t (u ∷ threads) = ap suc (begun v j m roots (suc t) threads)

  -- at most 65 threads
  abbrev Few : World X → Type 0
  Few w = length w.threads ≤ 65

  -- as many threads as in another world
  abbrev Same : World X → World X → Type 0
  Same w u = AsMany w.threads u.threads

  few : (w u : World X) → Same w u → Few w → Few u
  few w u same h = omega (arith, same, h)

  by-choice : (b : Bool) (w u : World X) → Few w → Few u → Few (if b then w else u)
  by-choice true w u h k = h
  by-choice false w u h k = k

  -- ---- acts

  answered-few : (w : World X) (t : ℕ) (th : Thread X) (r : Reply) → Few w → Few (answered e w t th r)
  answered-few w t th Done h = few w (answered e w t th Done) (set w.threads t (gone_on e w.shared.version th Done)) h
  answered-few w t th (Got v) h = few w (answered e w t th (Got v)) (set w.threads t (gone_on e w.shared.version th (Got v))) h
  answered-few w t th (Trapped cause) h = h

  created-few : (w : World X) (t : ℕ) (th : Thread X) (f : ℕ) (a : Value) → Few w → Few (created e w t th f a)
  created-few w t th f a h = by (nat_le 65 (length w.threads)) refl
    where
      new : Thread X
      new = new_thread e w.shared.version f a

      got : Reply
      got = Got (Num (pos (length w.threads)))

      by : (b : Bool) → nat_le 65 (length w.threads) ≡ b → Few (if b then answered e w t th (Trapped trap.Threads) else answered e (with_new w new) t th got)
      by true is = h
      by false is =
          let more = one-more w.threads new in
          let less = leb-false 65 (length w.threads) is in
          answered-few (with_new w new) t th got (omega (arith, more, less))

  joins-few : (w : World X) (t : ℕ) (th : Thread X) (o : Option (Thread X)) → Few w → Few (joins e w t th o)
  joins-few w t th None h = h
  joins-few w t th (Some other) h = answered-few w t th Done h

  waited-few : (w : World X) (t : ℕ) (th : Thread X) (p : Value) (r : Result Memory Trap) → Few w → Few (waited e w t th p r)
  waited-few w t th p (Err cause) h = h
  waited-few w t th p (Ok m) h =
      answered-few (with_shared w (record w.shared { memory = m })) t (record th { standing = waiting_in w.shared.phase p }) Done h

  signalled-few : (w : World X) (t : ℕ) (th : Thread X) (p : Value) (all : Bool) (r : Result Memory Trap) → Few w → Few (signalled e w t th p all r)
  signalled-few w t th p all (Err cause) h = h
  signalled-few w t th p all (Ok m) h =
      let u = record w { threads = woken all p w.threads } in answered-few u t th Done (few w u (all-woken all p w.threads) h)

  at_point-few : (w : World X) (t : ℕ) (th : Thread X) (mode : Mode) (phase : Phase) → Few w → Few (at_point e w t th mode phase)
  at_point-few w t th Normal Run h = answered-few w t th Done h
  at_point-few w t th Normal Asked h = few w (at_point e w t th Normal Asked) (set w.threads t _) h
  at_point-few w t th Normal Main h = answered-few w t th Done h
  at_point-few w t th Normal Others h = answered-few w t th Done h
  at_point-few w t th (Updating p) phase h = answered-few w t th Done h

  elsewhere-few : (w : World X) (t : ℕ) (th : Thread X) (a : Act) → Few w → Few (elsewhere e w t th a)
  elsewhere-few w t th (act.Create f a) h = created-few w t th f a h
  elsewhere-few w t th (act.Join n) h = joins-few w t th (joined w.threads t n) h
  elsewhere-few w t th (act.Wait p) h = waited-few w t th p (unlock w.shared.memory t p) h
  elsewhere-few w t th (act.Signal p all) h = signalled-few w t th p all (signal w.shared.memory p) h
  elsewhere-few w t th (act.Point p) h = at_point-few w t th (e.mode th.state) w.shared.phase h
  elsewhere-few w t th act.Automigrate h = answered-few (with_shared w (migrated (e.mode th.state) w.shared)) t th Done h
  elsewhere-few w t th _ h = h

  outcome-few : (w : World X) (t : ℕ) (th : Thread X) (a : Act) (o : Outcome) → Few w → Few (on_outcome e w t th a o)
  outcome-few w t th a (Replies r o) h = answered-few (with_shared w (with_outside w.shared o)) t th r h
  outcome-few w t th a Waits h = h
  outcome-few w t th a Elsewhere h = elsewhere-few w t th a h

  ends-few : (w : World X) (t : ℕ) (th : Thread X) (a : Act) → Few w → Few (ends e w t th a)
  ends-few w t th act.ThreadEnd h = few w (ends e w t th act.ThreadEnd) (set w.threads t _) h
  ends-few w t th (act.MainReturn n) h = h
  ends-few w t th _ h = h

  effect-few : (types : Table) (w : World X) (t : ℕ) (th : Thread X) (s : Step X) → Few w → Few (effect e types w t th s)
  effect-few types w t th (Quiet x) h = h
  effect-few types w t th (Acts a go) h = outcome-few w t th a (outside.effect types t a (outside_of w.shared)) h
  effect-few types w t th (Traps cause) h = h
  effect-few types w t th (Ends a) h = ends-few w t th a h

  pub act-few : (types : Table) (w : World X) (t : ℕ) (o : Option (Thread X)) → Few w → Few (act_of e types w t o)
  act-few types w t None h = h
  act-few types w t (Some th) h = effect-few types w t th (e.step w.shared.version th.state) h

  -- ---- what is tried after an act

  pub ongoing-few : (f : World X → World X) → ((w : World X) → Few w → Few (f w)) → (w : World X) → Few w → Few (ongoing f w)
  ongoing-few f keeps w h = by-choice (is_none w.shared.ended) (f w) w (keeps w h) h

  pub main_there-few : (phase : Phase) (w : World X) → Few w → Few (main_there e phase w)
  main_there-few Run w h = h
  main_there-few Asked w h = h
  main_there-few Main w h = by-choice (main_is_normal e w.threads) _ w h h
  main_there-few Others w h = h

  pub all_back-few : (phase : Phase) (w : World X) → Few w → Few (all_back e phase w)
  all_back-few Run w h = h
  all_back-few Asked w h = h
  all_back-few Main w h = h
  all_back-few Others w h = by-choice (all_normal e w.threads) _ w h h

  decided-few : (j : Passage) (w : World X) (roots : List Root) (c : Option Closed) → Few w → Few (decided e j w roots c)
  decided-few j w roots None h = few w (decided e j w roots None) (begun w.shared.version j w.shared.memory roots 0 w.threads) h
  decided-few j w roots (Some c) h = few w (decided e j w roots (Some c)) (each _ w.threads) h

  closing-few : (j : Option Passage) (w : World X) → Few w → Few (closing e j w)
  closing-few None w h = h
  closing-few (Some j) w h =
      let roots = thread_roots e j w.shared.memory w.threads in decided-few j w roots (refusal e j w roots) h

  pub closed_up-few : (phase : Phase) (w : World X) → Few w → Few (closed_up e job phase w)
  closed_up-few Run w h = h
  closed_up-few Asked w h = by-choice (all_parked w.threads) _ w (closing-few (passage_at job w.shared.version) w h) h
  closed_up-few Main w h = h
  closed_up-few Others w h = h

  request-few : (after : List ℕ) (w : World X) → Few w → Few (request job after w)
  request-few [] w h = h
  request-few (n ∷ after) w h =
      by-choice (is_some (passage_at job w.shared.version) && nat_le n w.shared.turns) (requested after w) w
      (few w (requested after w) (each _ w.threads) h) h

  pub asked-few : (phase : Phase) (w : World X) → Few w → Few (asked job phase w)
  asked-few Run w h = request-few w.shared.after w h
  asked-few Asked w h = h
  asked-few Main w h = h
  asked-few Others w h = h

  pub before_turn-few : (w : World X) → Few w → Few (before_turn e job w)
  before_turn-few w h =
      let a = ongoing (λ u. asked job u.shared.phase u) w in
      let b = ongoing (stuck e) a in
      let asks = ongoing-few (λ u. asked job u.shared.phase u) (λ u k. asked-few u.shared.phase u k) w h in
      let sticks = ongoing-few (stuck e) (λ u k. by-choice (any_enabled e u 0 u.threads) u _ k k) a asks in
      ongoing-few (on_shared (spent job)) (λ u k. k) b sticks

  after_act-few : (w : World X) → Few w → Few (after_act e job w)
  after_act-few w h =
      let a = end_marked w in
      let b = ongoing (λ u. main_there e u.shared.phase u) a in
      let c = ongoing (λ u. all_back e u.shared.phase u) b in
      let d = ongoing (λ u. closed_up e job u.shared.phase u) c in
      let there = ongoing-few (λ u. main_there e u.shared.phase u) (λ u k. main_there-few u.shared.phase u k) a h in
      let back = ongoing-few (λ u. all_back e u.shared.phase u) (λ u k. all_back-few u.shared.phase u k) b there in
      before_turn-few d (ongoing-few (λ u. closed_up e job u.shared.phase u) (λ u k. closed_up-few u.shared.phase u k) c back)

  pub turn-few : (w : World X) (t : ℕ) → Few w → Few (turn e job w t)
  turn-few w t h =
      after_act-few (counted (acted e (types_at job w.shared.version) w t)) (act-few (types_at job w.shared.version) w t (slice_get w.threads t) h)

  from-few : (turns : List ℕ) (w : World X) → Few w → Few (world_from e job w turns)
  unfolding world_from
  from-few [] w h = h
  from-few (t ∷ turns) w h = from-few turns (turn e job w t) (turn-few w t h)

  pub first-few : Few (first_world e job)
  first-few = before_turn-few (start e job) (omega arith)

pub threads-are-few : (job : Job) (turns : List ℕ) → ThreadsAreFew job turns
threads-are-few job turns = let e = tree_engine job in from-few e job turns (first_world e job) (first-few e job)
