-- A thread that has ended has no call.
use Rattle.std.specs.Prelude.{◌≡◌, ℕ, zero, suc, pos, nat_le, ◌&&◌, Bool, true, false, List, [], ◌∷◌, ◌++◌, map, length, Option, None, Some, is_none, is_some, not, Result, Ok, Err, refl, slice_get, slice_set, if◌then◌else◌}
use Rattle.std.specs.List.{AllByRecursion}
use Rattle.std.proofs.Common.{sym, ◌∙◌}
use Rattle.std.proofs.lemmas.Bool.{false≢true, and_parts}
use Rattle.kt_types.specs.Table.{Table}
use Rattle.kt_mem.specs.declared.memory.Value.{Value}
use Rattle.kt_mem.specs.declared.memory.Value.TheVariants.{Num, Null, Ptr, Free, Held, Undef}
use Rattle.kt_mem.specs.declared.steps.Act.{Act}
use Rattle.kt_mem.specs.declared.steps.Act.TheVariants as act
use Rattle.kt_mem.specs.declared.steps.Reply.{Reply}
use Rattle.kt_mem.specs.declared.steps.Reply.TheVariants.{Done, Got, Trapped}
use Rattle.kt_mem.specs.declared.steps.Trap.{Trap}
use Rattle.kt_mem.specs.declared.steps.Trap.TheVariants as trap
use Rattle.kt_mem.specs.declared.thread.Mode.{Mode}
use Rattle.kt_mem.specs.declared.thread.Mode.TheVariants.{Normal, Updating}
use Rattle.kt_mem.specs.Memory.{Memory, unlock, signal}
use Rattle.kt_meaning.specs.Effects as outside
use Rattle.kt_meaning.specs.Effects.{Outcome, Replies, Waits, Elsewhere}
use Rattle.kt_meaning.specs.Steps.{Step, Quiet, Acts, Traps, Ends}
use Rattle.kt_meaning.specs.Thread.{Restart}
use Rattle.kt_phase.specs.declared.counters.Phase.{Phase}
use Rattle.kt_phase.specs.declared.counters.Phase.TheVariants.{Run, Asked, Main, Others}
use Rattle.xf_plan.specs.declared.place.Root.{Root}
use Rattle.kt_world.specs.declared.mark.Closed.{Closed}
use Rattle.kt_world.specs.Acts.{answered, created, new_thread, with_new, joins, waited, waiting_in, signalled, woken, woken_first, awake, waits_for, at_point, migrated, elsewhere, on_outcome, ends, effect, act_of, acted, with_shared, gone_on}
use Rattle.kt_world.specs.Events.{ongoing, on_shared, end_marked, main_is_normal, main_there, all_normal, all_back, all_parked, is_waiter, closed_up, requested, request, asked, stuck, spent, before_turn, after_act}
use Rattle.kt_world.specs.Job.{Job, Passage, passage_at, types_at, version_at}
use Rattle.kt_world.specs.Laws.{IsGoneIfEnded, EndedAreGone}
use Rattle.kt_world.specs.Refusals.{refusal}
use Rattle.kt_world.specs.Roots.{thread_roots}
use Rattle.kt_world.specs.Trees.{tree_engine}
use Rattle.kt_world.specs.Turns.{MayTurn, MayTurnAll, counted, first_function, first_world, start, turn, world_from}
use Rattle.kt_world.specs.Update.{all_restarted, begun_again, closing, decided, if_parked, let_go, restarted}
use Rattle.kt_world.specs.Waiting.{any_enabled, enabled_if, is_turnable, is_waiting, joined}
use Rattle.kt_world.specs.World.{Engine, Standing, Live, Waiter, Parked, Ended, Thread, World, lives, takes_turns, with_outside, outside_of}

takes-lives : (s : Standing) → takes_turns s ≡ true → lives s ≡ true
takes-lives Live h = refl
takes-lives (Waiter n k) h = refl
takes-lives Parked h = refl
takes-lives Ended h = h

module _ {X : Type 0} (e : Engine X) (job : Job) (without : (x : X) → e.calls (e.ended x) ≡ []) where
  abbrev Tidy : Thread X → Type 0
  Tidy th = IsGoneIfEnded e th

  abbrev AllTidy : List (Thread X) → Type 0
  AllTidy threads = AllByRecursion (IsGoneIfEnded e) threads

  alive : (th : Thread X) → lives th.standing ≡ true → Tidy th
  alive th h ended = absurd (false≢true (sym ended ∙ h))

  -- ---- lists

  set : (threads : List (Thread X)) (t : ℕ) (th : Thread X) → AllTidy threads → Tidy th → AllTidy (slice_set threads t th)
  set [] t th all one = tt
  set (u ∷ threads) zero th all one = (one, all.1)
  set (u ∷ threads) (suc t) th all one = (all.0, set threads t th all.1 one)

  append : (threads : List (Thread X)) (th : Thread X) → AllTidy threads → Tidy th → AllTidy (threads ++ th ∷ [])
  append [] th all one = (one, tt)
  append (u ∷ threads) th all one = (all.0, append threads th all.1 one)

  each : (f : Thread X → Thread X) → ((th : Thread X) → Tidy th → Tidy (f th)) → (threads : List (Thread X)) → AllTidy threads → AllTidy (map f threads)
  each f keeps [] all = tt
  each f keeps (u ∷ threads) all = (keeps u all.0, each f keeps threads all.1)

  by-choice : (b : Bool) (w u : World X) → AllTidy w.threads → AllTidy u.threads → AllTidy (if b then w else u).threads
  by-choice true w u h k = h
  by-choice false w u h k = k

  -- ---- acts of a thread that lives

  answered-tidy : (w : World X) (t : ℕ) (th : Thread X) (r : Reply) → AllTidy w.threads → lives th.standing ≡ true → AllTidy (answered e w t th r).threads
  answered-tidy w t th Done all live = set w.threads t (gone_on e w.shared.version th Done) all (alive (gone_on e w.shared.version th Done) live)
  answered-tidy w t th (Got v) all live =
      set w.threads t (gone_on e w.shared.version th (Got v)) all (alive (gone_on e w.shared.version th (Got v)) live)
  answered-tidy w t th (Trapped cause) all live = all

  created-tidy : (w : World X) (t : ℕ) (th : Thread X) (f : ℕ) (a : Value) → AllTidy w.threads → lives th.standing ≡ true →
      AllTidy (created e w t th f a).threads
  created-tidy w t th f a all live =
      let new = new_thread e w.shared.version f a in
      let got = Got (Num (pos (length w.threads))) in
      by-choice (nat_le 65 (length w.threads)) (answered e w t th (Trapped trap.Threads)) (answered e (with_new w new) t th got) all
      (answered-tidy (with_new w new) t th got (append w.threads new all (alive new refl)) live)

  joins-tidy : (w : World X) (t : ℕ) (th : Thread X) (o : Option (Thread X)) → AllTidy w.threads → lives th.standing ≡ true → AllTidy (joins e w t th o).threads
  joins-tidy w t th None all live = all
  joins-tidy w t th (Some other) all live = answered-tidy w t th Done all live

  waiting-lives : (phase : Phase) (p : Value) → lives (waiting_in phase p) ≡ true
  waiting-lives Run (Num z) = refl
  waiting-lives Run Null = refl
  waiting-lives Run (Ptr n k) = refl
  waiting-lives Run Free = refl
  waiting-lives Run (Held h) = refl
  waiting-lives Run Undef = refl
  waiting-lives Asked p = refl
  waiting-lives Main p = refl
  waiting-lives Others p = refl

  waited-tidy : (w : World X) (t : ℕ) (th : Thread X) (p : Value) (r : Result Memory Trap) → AllTidy w.threads → lives th.standing ≡ true →
      AllTidy (waited e w t th p r).threads
  waited-tidy w t th p (Err cause) all live = all
  waited-tidy w t th p (Ok m) all live =
      answered-tidy (with_shared w (record w.shared { memory = m })) t (record th { standing = waiting_in w.shared.phase p }) Done all
      (waiting-lives w.shared.phase p)

  awake-if : (b : Bool) (th : Thread X) → Tidy th → Tidy (if b then awake th else th)
  awake-if true th h = alive (awake th) refl
  awake-if false th h = h

  first-tidy : (b : Bool) (th : Thread X) (rest other : List (Thread X)) → Tidy th → AllTidy rest → AllTidy other →
      AllTidy (if b then awake th ∷ rest else th ∷ other)
  first-tidy true th rest other h k l = (alive (awake th) refl, k)
  first-tidy false th rest other h k l = (h, l)

  woken_first-tidy : (p : Value) (threads : List (Thread X)) → AllTidy threads → AllTidy (woken_first p threads)
  woken_first-tidy p [] all = tt
  woken_first-tidy p (th ∷ rest) all =
      first-tidy (waits_for p th.standing) th rest (woken_first p rest) all.0 all.1 (woken_first-tidy p rest all.1)

  woken-tidy : (all : Bool) (p : Value) (threads : List (Thread X)) → AllTidy threads → AllTidy (woken all p threads)
  woken-tidy true p threads h = each _ (λ th one. awake-if (waits_for p th.standing) th one) threads h
  woken-tidy false p threads h = woken_first-tidy p threads h

  signalled-tidy : (w : World X) (t : ℕ) (th : Thread X) (p : Value) (all : Bool) (r : Result Memory Trap) → AllTidy w.threads → lives th.standing ≡ true →
      AllTidy (signalled e w t th p all r).threads
  signalled-tidy w t th p all (Err cause) h live = h
  signalled-tidy w t th p all (Ok m) h live =
      answered-tidy (record w { threads = woken all p w.threads }) t th Done (woken-tidy all p w.threads h) live

  at_point-tidy : (w : World X) (t : ℕ) (th : Thread X) (mode : Mode) (phase : Phase) → AllTidy w.threads → lives th.standing ≡ true →
      AllTidy (at_point e w t th mode phase).threads
  at_point-tidy w t th Normal Run all live = answered-tidy w t th Done all live
  at_point-tidy w t th Normal Asked all live = set w.threads t (record th { standing = Parked }) all (alive (record th { standing = Parked }) refl)
  at_point-tidy w t th Normal Main all live = answered-tidy w t th Done all live
  at_point-tidy w t th Normal Others all live = answered-tidy w t th Done all live
  at_point-tidy w t th (Updating p) phase all live = answered-tidy w t th Done all live

  elsewhere-tidy : (w : World X) (t : ℕ) (th : Thread X) (a : Act) → AllTidy w.threads → lives th.standing ≡ true → AllTidy (elsewhere e w t th a).threads
  elsewhere-tidy w t th (act.Create f a) all live = created-tidy w t th f a all live
  elsewhere-tidy w t th (act.Join n) all live = joins-tidy w t th (joined w.threads t n) all live
  elsewhere-tidy w t th (act.Wait p) all live = waited-tidy w t th p (unlock w.shared.memory t p) all live
  elsewhere-tidy w t th (act.Signal p each) all live = signalled-tidy w t th p each (signal w.shared.memory p) all live
  elsewhere-tidy w t th (act.Point p) all live = at_point-tidy w t th (e.mode th.state) w.shared.phase all live
  elsewhere-tidy w t th act.Automigrate all live = answered-tidy (with_shared w (migrated (e.mode th.state) w.shared)) t th Done all live
  elsewhere-tidy w t th _ all live = all

  outcome-tidy : (w : World X) (t : ℕ) (th : Thread X) (a : Act) (o : Outcome) → AllTidy w.threads → lives th.standing ≡ true →
      AllTidy (on_outcome e w t th a o).threads
  outcome-tidy w t th a (Replies r o) all live = answered-tidy (with_shared w (with_outside w.shared o)) t th r all live
  outcome-tidy w t th a Waits all live = all
  outcome-tidy w t th a Elsewhere all live = elsewhere-tidy w t th a all live

  ends-tidy : (w : World X) (t : ℕ) (th : Thread X) (a : Act) → AllTidy w.threads → AllTidy (ends e w t th a).threads
  ends-tidy w t th act.ThreadEnd all =
      set w.threads t (record th { state = e.ended th.state; standing = Ended }) all (λ ended. without th.state)
  ends-tidy w t th (act.MainReturn n) all = all
  ends-tidy w t th _ all = all

  effect-tidy : (types : Table) (w : World X) (t : ℕ) (th : Thread X) (s : Step X) → AllTidy w.threads → lives th.standing ≡ true →
      AllTidy (effect e types w t th s).threads
  effect-tidy types w t th (Quiet x) all live = all
  effect-tidy types w t th (Acts a go) all live = outcome-tidy w t th a (outside.effect types t a (outside_of w.shared)) all live
  effect-tidy types w t th (Traps cause) all live = all
  effect-tidy types w t th (Ends a) all live = ends-tidy w t th a all

  act-tidy : (types : Table) (w : World X) (t : ℕ) (o : Option (Thread X)) → enabled_if e w t o ≡ true → AllTidy w.threads → AllTidy (act_of e types w t o).threads
  act-tidy types w t None may all = all
  act-tidy types w t (Some th) may all =
      let waits = not (is_waiting w t (e.step w.shared.version th.state)) in
      let outer = and_parts (takes_turns th.standing && is_turnable w.shared.phase t) waits may in
      let inner = and_parts (takes_turns th.standing) (is_turnable w.shared.phase t) outer.0 in
      effect-tidy types w t th (e.step w.shared.version th.state) all (takes-lives th.standing inner.0)

  -- ---- what is tried after an act

  ongoing-tidy : (f : World X → World X) (w : World X) → AllTidy (f w).threads → AllTidy w.threads → AllTidy (ongoing f w).threads
  ongoing-tidy f w h all = by-choice (is_none w.shared.ended) (f w) w h all

  main_there-tidy : (phase : Phase) (w : World X) → AllTidy w.threads → AllTidy (main_there e phase w).threads
  main_there-tidy Run w all = all
  main_there-tidy Asked w all = all
  main_there-tidy Main w all = by-choice (main_is_normal e w.threads) _ w all all
  main_there-tidy Others w all = all

  all_back-tidy : (phase : Phase) (w : World X) → AllTidy w.threads → AllTidy (all_back e phase w).threads
  all_back-tidy Run w all = all
  all_back-tidy Asked w all = all
  all_back-tidy Main w all = all
  all_back-tidy Others w all = by-choice (all_normal e w.threads) _ w all all

  -- a parked thread that is changed lives then
  parked-tidy : (s : Standing) (th changed : Thread X) → Tidy th → lives changed.standing ≡ true → Tidy (if_parked s th changed)
  parked-tidy Live th changed h live = h
  parked-tidy (Waiter n k) th changed h live = h
  parked-tidy Parked th changed h live = alive changed live
  parked-tidy Ended th changed h live = h

  restarted-tidy : (v : ℕ) (j : Passage) (m : Memory) (roots : List Root) (t : ℕ) (threads : List (Thread X)) → AllTidy threads →
      AllTidy (all_restarted e v j m roots t threads)
  restarted-tidy v j m roots t [] all = tt
  restarted-tidy v j m roots t (th ∷ rest) all =
      (parked-tidy th.standing th (restarted e v j m roots t th) all.0 refl, restarted-tidy v j m roots (suc t) rest all.1)

  let_go-tidy : (v : ℕ) (th : Thread X) → Tidy th → Tidy (let_go e v th)
  let_go-tidy v th h = parked-tidy th.standing th (record (gone_on e v th Done) { standing = Live }) h refl

  decided-tidy : (j : Passage) (w : World X) (roots : List Root) (c : Option Closed) → AllTidy w.threads → AllTidy (decided e j w roots c).threads
  decided-tidy j w roots None all = restarted-tidy w.shared.version j w.shared.memory roots 0 w.threads all
  decided-tidy j w roots (Some c) all = each (let_go e w.shared.version) (let_go-tidy w.shared.version) w.threads all

  closing-tidy : (j : Option Passage) (w : World X) → AllTidy w.threads → AllTidy (closing e j w).threads
  closing-tidy None w all = all
  closing-tidy (Some j) w all =
      let roots = thread_roots e j w.shared.memory w.threads in decided-tidy j w roots (refusal e j w roots) all

  closed_up-tidy : (phase : Phase) (w : World X) → AllTidy w.threads → AllTidy (closed_up e job phase w).threads
  closed_up-tidy Run w all = all
  closed_up-tidy Asked w all = by-choice (all_parked w.threads) _ w (closing-tidy (passage_at job w.shared.version) w all) all
  closed_up-tidy Main w all = all
  closed_up-tidy Others w all = all

  request-tidy : (after : List ℕ) (w : World X) → AllTidy w.threads → AllTidy (request job after w).threads
  request-tidy [] w all = all
  request-tidy (n ∷ after) w all =
      by-choice (is_some (passage_at job w.shared.version) && nat_le n w.shared.turns) (requested after w) w
      (each _ (λ th one. awake-if (is_waiter th.standing) th one) w.threads all) all

  asked-tidy : (phase : Phase) (w : World X) → AllTidy w.threads → AllTidy (asked job phase w).threads
  asked-tidy Run w all = request-tidy w.shared.after w all
  asked-tidy Asked w all = all
  asked-tidy Main w all = all
  asked-tidy Others w all = all

  stuck-tidy : (w : World X) → AllTidy w.threads → AllTidy (stuck e w).threads
  stuck-tidy w all = by-choice (any_enabled e w 0 w.threads) w _ all all

  before_turn-tidy : (w : World X) → AllTidy w.threads → AllTidy (before_turn e job w).threads
  before_turn-tidy w all =
      let a = ongoing (λ u. asked job u.shared.phase u) w in
      let b = ongoing (stuck e) a in
      let asks = ongoing-tidy (λ u. asked job u.shared.phase u) w (asked-tidy w.shared.phase w all) all in
      let sticks = ongoing-tidy (stuck e) a (stuck-tidy a asks) asks in
      ongoing-tidy (on_shared (spent job)) b sticks sticks

  after_act-tidy : (w : World X) → AllTidy w.threads → AllTidy (after_act e job w).threads
  after_act-tidy w all =
      let a = end_marked w in
      let b = ongoing (λ u. main_there e u.shared.phase u) a in
      let c = ongoing (λ u. all_back e u.shared.phase u) b in
      let d = ongoing (λ u. closed_up e job u.shared.phase u) c in
      let there = ongoing-tidy (λ u. main_there e u.shared.phase u) a (main_there-tidy a.shared.phase a all) all in
      let back = ongoing-tidy (λ u. all_back e u.shared.phase u) b (all_back-tidy b.shared.phase b there) there in
      let closes = ongoing-tidy (λ u. closed_up e job u.shared.phase u) c (closed_up-tidy c.shared.phase c back) back in
      before_turn-tidy d closes

  -- ---- turns

  turn-tidy : (w : World X) (t : ℕ) → MayTurn e w t → AllTidy w.threads → AllTidy (turn e job w t).threads
  turn-tidy w t may all =
      after_act-tidy (counted (acted e (types_at job w.shared.version) w t))
      (act-tidy (types_at job w.shared.version) w t (slice_get w.threads t) may.enabled all)

  from-tidy : (turns : List ℕ) (w : World X) → MayTurnAll e job w turns → AllTidy w.threads → AllTidy (world_from e job w turns).threads
  unfolding world_from
  from-tidy [] w may all = all
  from-tidy (t ∷ turns) w may all = from-tidy turns (turn e job w t) may.1 (turn-tidy w t may.0 all)

  begins-tidy : (v f : ℕ) (arguments : List Value) (r : Restart) → Tidy (begun_again e v f arguments r)
  begins-tidy v f arguments r ended = absurd (false≢true (sym ended))

  first-tidy-world : AllTidy (first_world e job).threads
  first-tidy-world =
      before_turn-tidy (start e job) (begins-tidy 0 (first_function (version_at job 0)) [] (record { mode = Normal; kept = [] }), tt)

pub ended-are-gone : (job : Job) (turns : List ℕ) → EndedAreGone job turns
ended-are-gone job turns may =
    let e = tree_engine job in
    let without : (x : _) → e.calls (e.ended x) ≡ [] = λ x. refl in
    from-tidy e job without turns (first_world e job) may (first-tidy-world e job without)
