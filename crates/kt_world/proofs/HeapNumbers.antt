-- The next heap number never falls.
use Rattle.std.specs.Prelude.{◌≡◌, ℕ, pos, ◌+◌, ◌≤◌, nat_le, nat_lt, ◌&&◌, ◌==◌, Bool, true, false, List, [], ◌∷◌, length, Option, None, Some, is_none, is_some, Result, Ok, Err, refl, slice_get, if◌then◌else◌}
use Rattle.std.proofs.Common.{arith, ap, ◌∙◌}
use Rattle.kt_types.specs.Layout.{cells}
use Rattle.kt_types.specs.Table.{Table}
use Rattle.kt_mem.specs.declared.memory.Value.{Value}
use Rattle.kt_mem.specs.declared.memory.Value.TheVariants.{Num, Null, Ptr, Free, Held, Undef}
use Rattle.kt_mem.specs.declared.steps.Act.{Act}
use Rattle.kt_mem.specs.declared.steps.Act.TheVariants as act
use Rattle.kt_mem.specs.declared.steps.Reply.{Reply}
use Rattle.kt_mem.specs.declared.steps.Reply.TheVariants.{Done, Got, Trapped}
use Rattle.kt_mem.specs.declared.steps.Trap.{Trap}
use Rattle.kt_mem.specs.declared.steps.Trap.TheVariants as trap
use Rattle.kt_mem.specs.declared.thread.Mode.{Mode}
use Rattle.kt_mem.specs.declared.thread.Mode.TheVariants.{Normal, Updating}
use Rattle.kt_mem.specs.Laws.{Effect, Stores, Allocates, Releases, Locks, Unlocks, Inits, effect_on}
use Rattle.kt_mem.specs.Memory.{Memory, with_value, load, store, alloc, release, lock, unlock, init_mutex, signal, waits}
use Rattle.kt_mem.proofs.Changes.{Change, Kept, Wrote, Made, Freed, changed}
use Rattle.kt_meaning.specs.Effects as outside
use Rattle.kt_meaning.specs.Effects.{Outcome, Replies, Waits, Elsewhere, reads, leaves, makes, next_byte, writes, pieces_text}
use Rattle.kt_meaning.specs.Steps.{Step, Quiet, Acts, Traps, Ends}
use Rattle.kt_phase.specs.declared.counters.Phase.{Phase}
use Rattle.kt_phase.specs.declared.counters.Phase.TheVariants.{Run, Asked, Main, Others}
use Rattle.xf_plan.specs.declared.place.Root.{Root}
use Rattle.kt_world.specs.declared.mark.Closed.{Closed}
use Rattle.kt_world.specs.declared.mark.End.{End}
use Rattle.kt_world.specs.declared.mark.End.TheVariants as end
use Rattle.kt_world.specs.Acts.{answered, created, new_thread, with_new, joins, waited, signalled, at_point, migrated, elsewhere, on_outcome, ends, effect, act_of, acted, with_shared}
use Rattle.kt_world.specs.Events.{ongoing, on_shared, with_mark, end_marked, ended_as, main_is_normal, main_there, all_normal, all_back, all_parked, closed_up, requested, request, asked, stuck, spent, before_turn, after_act}
use Rattle.kt_world.specs.Job.{Job, Passage, passage_at, types_at}
use Rattle.kt_world.specs.Laws.{HeapNumbersNeverFall}
use Rattle.kt_world.specs.Refusals.{refusal}
use Rattle.kt_world.specs.Roots.{thread_roots}
use Rattle.kt_world.specs.Trees.{tree_engine, world}
use Rattle.kt_world.specs.Turns.{counted, turn}
use Rattle.kt_world.specs.Update.{closing, decided}
use Rattle.kt_world.specs.Waiting.{any_enabled, joined}
use Rattle.kt_world.specs.World.{Engine, Shared, Thread, World, with_outside, outside_of}
use Rattle.kt_world.proofs.Following.{one-more-next}

-- ---- memory

same-number : (m after : Memory) → after ≡ m → m.next ≤ after.next
same-number m after e = let n = ap (λ (x : Memory). x.next) e in omega (arith, n)

with_value-number : (m : Memory) (p : Value) (t : _) (v : Value) → (with_value m p t v).next ≡ m.next
with_value-number m (Num z) t v = refl
with_value-number m Null t v = refl
with_value-number m (Ptr n k) t v = refl
with_value-number m Free t v = refl
with_value-number m (Held h) t v = refl
with_value-number m Undef t v = refl

change-number : (m after : Memory) → Change m after → m.next ≤ after.next
change-number m after (Kept e) = same-number m after e
change-number m after (Wrote p t old new was e) =
    let n = ap (λ (x : Memory). x.next) e ∙ with_value-number m p t new in omega (arith, n)
change-number m after (Made o room e) = let n = ap (λ (x : Memory). x.next) e in omega (arith, n)
change-number m after (Freed a o was e) = let n = ap (λ (x : Memory). x.next) e in omega (arith, n)

effect_on-number : (m after : Memory) (e : Effect) → effect_on m e ≡ Ok after → m.next ≤ after.next
effect_on-number m after e is = change-number m after (changed m after e is)

-- ---- acts on memory, input and output

-- what an outcome leaves has no lower one
abbrev LeavesNumber : Memory → Outcome → Type 0
LeavesNumber m (Replies r s) = m.next ≤ s.memory.next
LeavesNumber m Waits = Unit {0}
LeavesNumber m Elsewhere = Unit {0}

reads-number : (s : outside.Shared) (r : Result Value Trap) → LeavesNumber s.memory (reads s r)
reads-number s (Ok v) = omega arith
reads-number s (Err t) = omega arith

leaves-number : (s : outside.Shared) (e : Effect) (r : Result Memory Trap) → effect_on s.memory e ≡ r → LeavesNumber s.memory (leaves s r)
leaves-number s e (Ok m) h = effect_on-number s.memory m e h
leaves-number s e (Err t) h = omega arith

makes-number : (s : outside.Shared) (e : Effect) (r : Result Memory Trap) → effect_on s.memory e ≡ r → LeavesNumber s.memory (makes s r)
makes-number s e (Ok m) h = effect_on-number s.memory m e h
makes-number s e (Err t) h = omega arith

byte-number : (s : outside.Shared) (bytes : List ℕ) → LeavesNumber s.memory (next_byte s bytes)
byte-number s [] = omega arith
byte-number s (b ∷ rest) = omega arith

choice-number : (m : Memory) (b : Bool) (o q : Outcome) → LeavesNumber m o → LeavesNumber m q → LeavesNumber m (if b then o else q)
choice-number m true o q h k = h
choice-number m false o q h k = k

writes-number : (s : outside.Shared) (r : Result (List ℕ) Trap) → LeavesNumber s.memory (writes s r)
writes-number s (Ok bytes) = choice-number s.memory (nat_lt 16777216 (length s.output + length bytes)) _ _ (omega arith) (omega arith)
writes-number s (Err t) = omega arith

outcome-number : (types : Table) (t : ℕ) (a : Act) (s : outside.Shared) → LeavesNumber s.memory (outside.effect types t a s)
outcome-number types t act.Tick s = omega arith
outcome-number types t (act.Load p u) s = reads-number s (load s.memory p u)
outcome-number types t (act.Store p u v) s = leaves-number s (Stores p u v) (store s.memory p u v) refl
outcome-number types t (act.Allocate e n zeros) s =
    makes-number s (Allocates e (cells types e) n zeros) (alloc s.memory e (cells types e) n zeros) refl
outcome-number types t (act.Release p) s = leaves-number s (Releases p) (release s.memory p) refl
outcome-number types t (act.Lock p) s =
    choice-number s.memory (waits s.memory t p) Waits _ tt (leaves-number s (Locks t p) (lock s.memory t p) refl)
outcome-number types t (act.Unlock p) s = leaves-number s (Unlocks t p) (unlock s.memory t p) refl
outcome-number types t (act.InitMutex p) s = leaves-number s (Inits p) (init_mutex s.memory p) refl
outcome-number types t act.GetChar s = byte-number s s.input
outcome-number types t (act.Print ps) s = writes-number s (pieces_text s.memory ps)
outcome-number types t (act.MigrateLocal f n) s = omega arith
outcome-number types t (act.UpdatingTest n) s = omega arith
outcome-number types t (act.Wait p) s = tt
outcome-number types t (act.Signal p all) s = tt
outcome-number types t (act.Create f v) s = tt
outcome-number types t (act.Join n) s = tt
outcome-number types t (act.Point n) s = tt
outcome-number types t act.Automigrate s = tt
outcome-number types t act.ThreadEnd s = tt
outcome-number types t (act.MainReturn n) s = tt

module _ {X : Type 0} (e : Engine X) (job : Job) where
  -- the next heap number is no lower
  abbrev Rises : World X → World X → Type 0
  Rises w u = w.shared.memory.next ≤ u.shared.memory.next

  stays : (w : World X) → Rises w w
  stays w = omega arith

  by-choice : (b : Bool) (w u v : World X) → Rises w u → Rises w v → Rises w (if b then u else v)
  by-choice true w u v h k = h
  by-choice false w u v h k = k

  -- ---- acts

  answered-rises : (w : World X) (t : ℕ) (th : Thread X) (r : Reply) → Rises w (answered e w t th r)
  answered-rises w t th Done = stays w
  answered-rises w t th (Got v) = stays w
  answered-rises w t th (Trapped cause) = stays w

  -- the same where the memory was changed before
  after-rises : (w : World X) (s : Shared) (t : ℕ) (th : Thread X) (r : Reply) → w.shared.memory.next ≤ s.memory.next →
      Rises w (answered e (with_shared w s) t th r)
  after-rises w s t th Done h = h
  after-rises w s t th (Got v) h = h
  after-rises w s t th (Trapped cause) h = h

  created-rises : (w : World X) (t : ℕ) (th : Thread X) (f : ℕ) (a : Value) → Rises w (created e w t th f a)
  created-rises w t th f a =
      by-choice (nat_le 65 (length w.threads)) w _ _ (answered-rises w t th (Trapped trap.Threads))
      (answered-rises (with_new w (new_thread e w.shared.version f a)) t th (Got (Num (pos (length w.threads)))))

  joins-rises : (w : World X) (t : ℕ) (th : Thread X) (o : Option (Thread X)) → Rises w (joins e w t th o)
  joins-rises w t th None = stays w
  joins-rises w t th (Some other) = stays w

  waited-rises : (w : World X) (t : ℕ) (th : Thread X) (p : Value) (r : Result Memory Trap) → unlock w.shared.memory t p ≡ r →
      Rises w (waited e w t th p r)
  waited-rises w t th p (Err cause) h = stays w
  waited-rises w t th p (Ok m) h = effect_on-number w.shared.memory m (Unlocks t p) h

  signalled-rises : (w : World X) (t : ℕ) (th : Thread X) (p : Value) (all : Bool) (r : Result Memory Trap) → Rises w (signalled e w t th p all r)
  signalled-rises w t th p all (Err cause) = stays w
  signalled-rises w t th p all (Ok m) = stays w

  at_point-rises : (w : World X) (t : ℕ) (th : Thread X) (mode : Mode) (phase : Phase) → Rises w (at_point e w t th mode phase)
  at_point-rises w t th Normal Run = stays w
  at_point-rises w t th Normal Asked = stays w
  at_point-rises w t th Normal Main = stays w
  at_point-rises w t th Normal Others = stays w
  at_point-rises w t th (Updating p) phase = stays w

  migrated-rises : (mode : Mode) (s : Shared) → s.memory.next ≤ (migrated mode s).memory.next
  migrated-rises Normal s = omega arith
  migrated-rises (Updating p) s = omega arith

  elsewhere-rises : (w : World X) (t : ℕ) (th : Thread X) (a : Act) → Rises w (elsewhere e w t th a)
  elsewhere-rises w t th (act.Create f a) = created-rises w t th f a
  elsewhere-rises w t th (act.Join n) = joins-rises w t th (joined w.threads t n)
  elsewhere-rises w t th (act.Wait p) = waited-rises w t th p (unlock w.shared.memory t p) refl
  elsewhere-rises w t th (act.Signal p all) = signalled-rises w t th p all (signal w.shared.memory p)
  elsewhere-rises w t th (act.Point p) = at_point-rises w t th (e.mode th.state) w.shared.phase
  elsewhere-rises w t th act.Automigrate =
      after-rises w (migrated (e.mode th.state) w.shared) t th Done (migrated-rises (e.mode th.state) w.shared)
  elsewhere-rises w t th _ = stays w

  outcome-rises : (w : World X) (t : ℕ) (th : Thread X) (a : Act) (o : Outcome) → LeavesNumber w.shared.memory o → Rises w (on_outcome e w t th a o)
  outcome-rises w t th a (Replies r o) h = after-rises w (with_outside w.shared o) t th r h
  outcome-rises w t th a Waits h = stays w
  outcome-rises w t th a Elsewhere h = elsewhere-rises w t th a

  ends-rises : (w : World X) (t : ℕ) (th : Thread X) (a : Act) → Rises w (ends e w t th a)
  ends-rises w t th act.ThreadEnd = stays w
  ends-rises w t th (act.MainReturn n) = stays w
  ends-rises w t th _ = stays w

  effect-rises : (types : Table) (w : World X) (t : ℕ) (th : Thread X) (s : Step X) → Rises w (effect e types w t th s)
  effect-rises types w t th (Quiet x) = stays w
  effect-rises types w t th (Acts a go) =
      outcome-rises w t th a (outside.effect types t a (outside_of w.shared)) (outcome-number types t a (outside_of w.shared))
  effect-rises types w t th (Traps cause) = stays w
  effect-rises types w t th (Ends a) = ends-rises w t th a

  act-rises : (types : Table) (w : World X) (t : ℕ) (o : Option (Thread X)) → Rises w (act_of e types w t o)
  act-rises types w t None = stays w
  act-rises types w t (Some th) = effect-rises types w t th (e.step w.shared.version th.state)

  -- ---- what is tried after an act

  ongoing-rises : (f : World X → World X) (w : World X) → Rises w (f w) → Rises w (ongoing f w)
  ongoing-rises f w h = by-choice (is_none w.shared.ended) w (f w) w h (stays w)

  mark-rises : (how : Option End) (s : Shared) → s.memory.next ≤ (with_mark how s).memory.next
  mark-rises None s = omega arith
  mark-rises (Some how) s = omega arith

  main_there-rises : (phase : Phase) (w : World X) → Rises w (main_there e phase w)
  main_there-rises Run w = stays w
  main_there-rises Asked w = stays w
  main_there-rises Main w = by-choice (main_is_normal e w.threads) w _ w (stays w) (stays w)
  main_there-rises Others w = stays w

  all_back-rises : (phase : Phase) (w : World X) → Rises w (all_back e phase w)
  all_back-rises Run w = stays w
  all_back-rises Asked w = stays w
  all_back-rises Main w = stays w
  all_back-rises Others w = by-choice (all_normal e w.threads) w _ w (stays w) (stays w)

  -- an update adds the objects of fresh places
  decided-rises : (j : Passage) (w : World X) (roots : List Root) (c : Option Closed) → Rises w (decided e j w roots c)
  decided-rises j w roots None = omega arith
  decided-rises j w roots (Some c) = stays w

  closing-rises : (j : Option Passage) (w : World X) → Rises w (closing e j w)
  closing-rises None w = stays w
  closing-rises (Some j) w =
      let roots = thread_roots e j w.shared.memory w.threads in decided-rises j w roots (refusal e j w roots)

  closed_up-rises : (phase : Phase) (w : World X) → Rises w (closed_up e job phase w)
  closed_up-rises Run w = stays w
  closed_up-rises Asked w = by-choice (all_parked w.threads) w _ w (closing-rises (passage_at job w.shared.version) w) (stays w)
  closed_up-rises Main w = stays w
  closed_up-rises Others w = stays w

  request-rises : (after : List ℕ) (w : World X) → Rises w (request job after w)
  request-rises [] w = stays w
  request-rises (n ∷ after) w =
      by-choice (is_some (passage_at job w.shared.version) && nat_le n w.shared.turns) w (requested after w) w (stays w) (stays w)

  asked-rises : (phase : Phase) (w : World X) → Rises w (asked job phase w)
  asked-rises Run w = request-rises w.shared.after w
  asked-rises Asked w = stays w
  asked-rises Main w = stays w
  asked-rises Others w = stays w

  stuck-rises : (w : World X) → Rises w (stuck e w)
  stuck-rises w = by-choice (any_enabled e w 0 w.threads) w w _ (stays w) (stays w)

  spent-rises : (w : World X) → Rises w (on_shared (spent job) w)
  spent-rises w = by-shared (w.shared.turns == job.budget)
    where
      by-shared : (b : Bool) → w.shared.memory.next ≤ (if b then ended_as end.Budget w.shared else w.shared).memory.next
      by-shared true = omega arith
      by-shared false = omega arith

  before_turn-rises : (w : World X) → Rises w (before_turn e job w)
  before_turn-rises w =
      let a = ongoing (λ u. asked job u.shared.phase u) w in
      let b = ongoing (stuck e) a in
      let asks = ongoing-rises (λ u. asked job u.shared.phase u) w (asked-rises w.shared.phase w) in
      let sticks = ongoing-rises (stuck e) a (stuck-rises a) in
      let spends = ongoing-rises (on_shared (spent job)) b (spent-rises b) in
      omega (arith, asks, sticks, spends)

  after_act-rises : (w : World X) → Rises w (after_act e job w)
  after_act-rises w =
      let a = end_marked w in
      let b = ongoing (λ u. main_there e u.shared.phase u) a in
      let c = ongoing (λ u. all_back e u.shared.phase u) b in
      let d = ongoing (λ u. closed_up e job u.shared.phase u) c in
      let ends = mark-rises w.shared.ended w.shared in
      let there = ongoing-rises (λ u. main_there e u.shared.phase u) a (main_there-rises a.shared.phase a) in
      let back = ongoing-rises (λ u. all_back e u.shared.phase u) b (all_back-rises b.shared.phase b) in
      let closes = ongoing-rises (λ u. closed_up e job u.shared.phase u) c (closed_up-rises c.shared.phase c) in
      let rest = before_turn-rises d in
      omega (arith, ends, there, back, closes, rest)

  pub turn-rises : (w : World X) (t : ℕ) → Rises w (turn e job w t)
  turn-rises w t =
      let acts = act-rises (types_at job w.shared.version) w t (slice_get w.threads t) in
      let rest = after_act-rises (counted (acted e (types_at job w.shared.version) w t)) in
      omega (arith, acts, rest)

pub heap-numbers-never-fall : (job : Job) (turns : List ℕ) → HeapNumbersNeverFall job turns
heap-numbers-never-fall job turns t =
    let e = tree_engine job in
    let one = turn-rises e job (world job turns) t in
    let next = ap (λ (w : World _). w.shared.memory.next) (one-more-next job turns t) in
    omega (arith, one, next)
