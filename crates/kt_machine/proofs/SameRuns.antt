-- The same turns make worlds of the tree and of code that stand for one another; and a machine's turns may be taken.
use Rattle.std.specs.Prelude.{◌≡◌, ℕ, false, List, [], ◌∷◌, map, Option, Some, None, slice_get}
use Rattle.std.specs.List.{All}
use Rattle.std.proofs.Common.{subst, ap, ◌∙◌, arith}
use Rattle.kt_types.specs.Table.{Table}
use Rattle.kt_mem.specs.declared.steps.Act.{Act}
use Rattle.kt_mem.specs.declared.steps.Act.TheVariants as act
use Rattle.kt_mem.specs.declared.steps.Trap.TheVariants as trap
use Rattle.kt_tree.specs.Version.{Program}
use Rattle.kt_meaning.specs.Laws.{IsShared, numbered}
use Rattle.kt_meaning.specs.Requests.{takes_reply}
use Rattle.kt_meaning.specs.Steps.{Step, Quiet, Acts, Traps, Ends}
use Rattle.kt_meaning.specs.Thread as tree
use Rattle.kt_meaning.specs.ThreadTypes.{IsTypedAct}
use Rattle.kt_meaning.proofs.StepTypes.{Keeps}
use Rattle.kt_meaning.proofs.WorkTypes.{step-Keeps}
use Rattle.kt_code.specs.Agreement.{SameHead}
use Rattle.kt_code.specs.Settling.{head_of}
use Rattle.kt_code.specs.declared.private.Head.{Head}
use Rattle.kt_code.specs.declared.private.Head.TheVariants as head
use Rattle.kt_code.specs.declared.private.Private.{Private}
use Rattle.kt_heap.specs.Heap as heap
use Rattle.kt_mem.specs.Renaming.{Pairs}
use Rattle.kt_pair.specs.Pair.{Pair}
use Rattle.kt_lone.specs.Job.{Job, version_at, types_at, types_of}
use Rattle.kt_lone.specs.Laws.{AreTurnsOf}
use Rattle.kt_lone.specs.Turn.{acted, has_ended, is_enabled, turn, first_world, world, world_from, MayTurn, MayTurnAll, tree_step, tree_engine}
use Rattle.kt_lone.specs.Typed.{IsTypedJob, IsTypedWorld, IsThreadOf, IsTypedThread}
use Rattle.kt_lone.specs.TypedThreads.{IsProgramIf}
use Rattle.kt_lone.specs.TypedWorlds.{IsSettledWorld, first_world-settled, turn-settled}
use Rattle.kt_lone.specs.World.{Standing, Live, Parked, Ended, Shared, Thread, World, outside_of}
use Rattle.kt_machine.specs.declared.machine.Machine.{Machine}
use Rattle.kt_machine.specs.declared.machine.Standing.TheVariants as standing
use Rattle.kt_machine.specs.Acts.{step_of, turned}
use Rattle.kt_machine.specs.ByNumber.{head_by, private_by}
use Rattle.kt_machine.specs.Engine.{code_step, code_engine, AreCodesOf, left_thread, left_to, pairs_of, standing_of, thread_of, without_ended, world_of, IsSettled, IsCompleteHead, IsReady}
use Rattle.kt_machine.specs.Outside.{IsComplete}
use Rattle.kt_machine.specs.Same.{IsSameBy, IsSameThread, AreSameThreads, IsSameWorld}
use Rattle.kt_machine.proofs.Heads.{IsPlaced, step-placed}
use Rattle.kt_machine.proofs.SameEngines.{engines-same, is-program}
use Rattle.kt_machine.proofs.SameTurns as turns
use Rattle.kt_machine.proofs.Threads.{head-stands}

module _ (job : Job) (codes : List Pair) (are : AreCodesOf job codes) (typed : IsTypedJob job) where
  -- the worlds before the first turn
  pub first-same : IsSameWorld codes (first_world (tree_engine job) job) (first_world (code_engine codes) job)
  first-same = turns.first_world-same (tree_engine job) (code_engine codes) (λ n. IsSameBy n (slice_get codes n)) job (engines-same job codes are typed)

  -- the same threads may take a turn
  pub enabled-same : (w : World tree.Thread) (v : World Private) (t : ℕ) → IsSameWorld codes w v →
      is_enabled (tree_engine job) w t ≡ is_enabled (code_engine codes) v t
  enabled-same w v t h =
      turns.is_enabled-same (tree_engine job) (code_engine codes) (λ n. IsSameBy n (slice_get codes n)) job (engines-same job codes are typed) w v t h

  -- a turn that may be taken
  pub turn-same : (w : World tree.Thread) (v : World Private) (t : ℕ) → IsSameWorld codes w v → IsShared (outside_of w.shared) →
      MayTurn (tree_engine job) w t → IsSameWorld codes (turn (tree_engine job) job w t) (turn (code_engine codes) job v t)
  turn-same w v t h shared may =
      turns.turn-same (tree_engine job) (code_engine codes) (λ n. IsSameBy n (slice_get codes n)) job (engines-same job codes are typed) w v t h shared may

  -- a turn of thread 0 behind which nothing is kept of threads that have ended
  left-same : (v : ℕ) (c : Option Pair) (standing : Standing) (x : tree.Thread) (y : Private) → IsSameBy v c standing x y →
      IsSameBy v c standing x (left_to standing y)
  left-same v c Live x y h = h
  left-same v c Parked x y h = h
  left-same v c Ended x y h = h

  left-thread : (v : ℕ) (c : Option Pair) (a : Thread tree.Thread) (b : Thread Private) → IsSameThread (IsSameBy v c) a b → IsSameThread (IsSameBy v c) a (left_thread b)
  left-thread v c a b h = record {
    standing = h.standing;
    state = subst (λ s. IsSameBy v c a.standing a.state (left_to s b.state)) h.standing (left-same v c a.standing a.state b.state h.state);
  }

  left-threads : (v : ℕ) (c : Option Pair) (l : List (Thread tree.Thread)) (m : List (Thread Private)) → AreSameThreads (IsSameBy v c) l m →
      AreSameThreads (IsSameBy v c) l (map left_thread m)
  left-threads v c [] [] h = tt
  left-threads v c [] (b ∷ m) h = absurd h
  left-threads v c (a ∷ l) [] h = absurd h
  left-threads v c (a ∷ l) (b ∷ m) h = (left-thread v c a b h.0, left-threads v c l m h.1)

  without-same : (w : World tree.Thread) (v : World Private) → IsSameWorld codes w v → IsSameWorld codes w (without_ended v)
  without-same w v h = record { shared = h.shared; threads = left-threads w.shared.version (slice_get codes w.shared.version) w.threads v.threads h.threads }

  -- what both share after an act
  pub acted-same : (w : World tree.Thread) (v : World Private) (t : ℕ) → IsSameWorld codes w v → IsShared (outside_of w.shared) →
      MayTurn (tree_engine job) w t → IsSameWorld codes (acted (tree_engine job) job w t) (acted (code_engine codes) job v t)
  acted-same w v t h shared may =
      turns.act-same (tree_engine job) (code_engine codes) (λ n. IsSameBy n (slice_get codes n)) job (engines-same job codes are typed) w v t h shared may

  pub turned-same : (w : World tree.Thread) (v : World Private) → IsSameWorld codes w v → IsShared (outside_of w.shared) →
      MayTurn (tree_engine job) w 0 → IsSameWorld codes (turn (tree_engine job) job w 0) (turned (code_engine codes) job v)
  turned-same w v h shared may =
      turns.rest-same (tree_engine job) (code_engine codes) (λ n. IsSameBy n (slice_get codes n)) job (engines-same job codes are typed)
      (acted (tree_engine job) job w 0) (without_ended (acted (code_engine codes) job v 0))
      (without-same (acted (tree_engine job) job w 0) (acted (code_engine codes) job v 0) (acted-same w v 0 h shared may))

  -- all turns of a list
  pub from-same : (list : List ℕ) (w : World tree.Thread) (v : World Private) → IsSameWorld codes w v → IsSettledWorld job w →
      MayTurnAll (tree_engine job) job w list →
      IsSameWorld codes (world_from (tree_engine job) job w list) (world_from (code_engine codes) job v list)
  from-same [] w v h settled may = h
  from-same (t ∷ list) w v h settled may =
      from-same list (turn (tree_engine job) job w t) (turn (code_engine codes) job v t) (turn-same w v t h settled.shared may.0)
      (turn-settled job typed w t may.0 settled) may.1

  pub worlds-same : (list : List ℕ) → AreTurnsOf job list →
      IsSameWorld codes (world job list) (world_from (code_engine codes) job (first_world (code_engine codes) job) list)
  worlds-same list may =
      from-same list (first_world (tree_engine job) job) (first_world (code_engine codes) job) first-same (first_world-settled job typed) may

-- ---- a machine whose thread may take a turn

-- a last act takes no reply
abbrev IsLast : Step Private → Type 0
IsLast (Ends a) = takes_reply a ≡ false
IsLast s = Unit {0}

placed-last : (s : Step Private) → IsPlaced s → IsLast s
placed-last (Ends a) h = h
placed-last (Quiet x) h = tt
placed-last (Acts a go) h = tt
placed-last (Traps t) h = tt

typed-complete : (p : Program) (a : Act) → IsTypedAct p a → IsComplete p.types a
typed-complete p (act.Allocate e n zeros) h = h
typed-complete p a h = tt

last-complete : (types : Table) (a : Act) → takes_reply a ≡ false → IsComplete types a
last-complete types (act.Allocate e n zeros) h = absurd cc
last-complete types a h = tt

-- what a head allocates is complete, where the tree's thread stands at the same one
head-complete : (p : Program) (i : Step tree.Thread) (j : Step Private) (h : Head) → Keeps p i → SameHead i j → IsLast j → head_of j ≡ Some h →
    IsCompleteHead p.types h
head-complete p (Acts a go) (Acts b go') h k same last is =
    let at : head.Act a ≡ h = cc in
    subst (IsCompleteHead p.types) at (typed-complete p a k.0)
head-complete p (Ends a) (Ends b) h k same last is =
    let at : head.Act b ≡ h = cc in
    subst (IsCompleteHead p.types) at (last-complete p.types b last)
head-complete p (Traps t) (Traps u) h k same last is =
    let at : head.Trap u ≡ h = cc in
    subst (IsCompleteHead p.types) at tt
head-complete p i j h k same last is = absurd same

trap-complete : (types : Table) (j : Step Private) (h : Head) → SameHead {X = tree.Thread} (Traps trap.Uninit) j → head_of j ≡ Some h → IsCompleteHead types h
trap-complete types (Traps u) h same is =
    let at : head.Trap u ≡ h = cc in
    subst (IsCompleteHead types) at tt
trap-complete types j h same is = absurd same

complete-in : (v : ℕ) (o : Option Program) → IsProgramIf o → (x : tree.Thread) → IsThreadOf o x → (j : Step Private) (h : Head) →
    SameHead (tree_step v o x) j → IsLast j → head_of j ≡ Some h → IsCompleteHead (types_of o) h
complete-in v None program x i j h same last is = trap-complete (types_of None) j h same is
complete-in v (Some p) program x i j h same last is =
    head-complete p (tree_step v (Some p) x) j h (step-Keeps (numbered p v) program x i) same last is

-- what is allocated is no heap name
own-complete : (ps : Pairs) (types : Table) (h : Head) → IsCompleteHead types (head_by ps h) → IsCompleteHead types h
own-complete ps types (head.Act (act.Allocate e n zeros)) h = h
own-complete ps types (head.Act a) h = tt
own-complete ps types (head.Trap t) h = tt

first-of : {X : Type 0} (P : X → Type 0) (x : X) (xs : List X) → All P (x ∷ xs) → P x
first-of P x xs all = all 0 x (omega arith)

module _ (job : Job) (codes : List Pair) (are : AreCodesOf job codes) (typed : IsTypedJob job) where
  -- its thread lives, so it stands where the tree's one does
  lives-complete : (v : ℕ) (th : Thread tree.Thread) (b : Thread Private) (h : Head) → IsSameThread (IsSameBy v (slice_get codes v)) th b →
      IsTypedThread (version_at job v) th.standing th.state → b.standing ≡ Live → IsLast (code_step (slice_get codes v) b.state) →
      head_of (code_step (slice_get codes v) b.state) ≡ Some h → IsCompleteHead (types_at job v) h
  lives-complete v th b h same of_version live last is =
      let standing : th.standing ≡ Live = same.standing ∙ live in
      let x = th.state in
      let y = b.state in
      let thread : IsThreadOf (version_at job v) x = subst (λ s. IsTypedThread (version_at job v) s x) standing of_version in
      let state : IsSameBy v (slice_get codes v) Live x y = subst (λ s. IsSameBy v (slice_get codes v) s x y) standing same.state in
      complete-in v (version_at job v) (is-program job codes are typed v) x thread (code_step (slice_get codes v) y) h
      ((engines-same job codes are typed).heads v x y state) last is

  alone-complete : (v : ℕ) (l : List (Thread tree.Thread)) (b : Thread Private) (h : Head) → AreSameThreads (IsSameBy v (slice_get codes v)) l (b ∷ []) →
      All (λ (th : Thread tree.Thread). IsTypedThread (version_at job v) th.standing th.state) l → b.standing ≡ Live →
      IsLast (code_step (slice_get codes v) b.state) → head_of (code_step (slice_get codes v) b.state) ≡ Some h → IsCompleteHead (types_at job v) h
  alone-complete v [] b h same all live last is = absurd same
  alone-complete v (th ∷ rest) b h same all live last is =
      lives-complete v th b h same.0 (first-of (λ (th : Thread tree.Thread). IsTypedThread (version_at job v) th.standing th.state) th rest all) live last is

  -- what the turns of a machine ask of it, where its thread lives
  pub ready : (w : World tree.Thread) (m : Machine) → heap.AreOneToOne (pairs_of m) → IsSameWorld codes w (world_of m) → IsTypedWorld job w →
      IsShared (outside_of (acted (tree_engine job) job w 0).shared) → MayTurn (tree_engine job) w 0 → m.standing ≡ standing.Live → IsSettled codes m → IsReady job codes m
  ready w m once h world after may live settled =
      let on = ap (λ s. has_ended (standing_of s)) live in
      let step = step_of codes m in
      record {
        shared = subst (λ (s : Shared). IsShared (outside_of s)) h.shared world.shared;
        after = subst (λ (s : Shared). IsShared (outside_of s)) (acted-same job codes are typed w (world_of m) 0 h world.shared may).shared after;
        complete = own-complete (pairs_of m) (types_at job m.shared.version) m.head
            (alone-complete m.shared.version w.threads (thread_of m) (head_by (pairs_of m) m.head)
            (subst (λ (s : Shared). AreSameThreads (IsSameBy s.version (slice_get codes s.version)) w.threads (thread_of m ∷ [])) h.shared h.threads)
            (subst (λ (s : Shared). All (λ (th : Thread tree.Thread). IsTypedThread (version_at job s.version) th.standing th.state) w.threads) h.shared world.threads)
            (ap standing_of live) (placed-last step (step-placed (slice_get codes m.shared.version) (private_by (pairs_of m) m.private)))
            (head-stands codes m once settled on));
      }
