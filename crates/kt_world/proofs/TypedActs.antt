-- Typed worlds stay typed through acts.
use Rattle.std.specs.Prelude.{◌≡◌, IsTrue, ℕ, suc, pos, ◌+◌, ◌<◌, ◌^◌, nat_le, nat_lt, Bool, true, false, List, [], ◌∷◌, ◌++◌, length, slice_get, slice_set, Option, None, Some, Result, Ok, Err, refl, if◌then◌else◌}
use Rattle.std.proofs.Common.{inr, arith, ap, eqb-true, leb-false, sym, subst, ◌∙◌}
use Rattle.std.proofs.lemmas.Bool.{lt-ltb}
use Rattle.std.proofs.lemmas.Option.{none-some}
use Rattle.kt_types.specs.Table.{Table}
use Rattle.kt_mem.specs.declared.memory.Value.{Value}
use Rattle.kt_mem.specs.declared.memory.Value.TheVariants.{Num, Null, Ptr, Free, Held, Undef}
use Rattle.kt_mem.specs.declared.steps.Act.{Act}
use Rattle.kt_mem.specs.declared.steps.Act.TheVariants as act
use Rattle.kt_mem.specs.declared.steps.Reply.{Reply}
use Rattle.kt_mem.specs.declared.steps.Reply.TheVariants.{Done, Got, Trapped}
use Rattle.kt_mem.specs.declared.steps.Trap.{Trap}
use Rattle.kt_mem.specs.declared.steps.Trap.TheVariants as trap
use Rattle.kt_mem.specs.declared.thread.Mode.{Mode}
use Rattle.kt_mem.specs.declared.thread.Mode.TheVariants.{Normal, Updating}
use Rattle.kt_mem.specs.Memory.{Memory, signal, unlock}
use Rattle.kt_tree.specs.Kinds.{is_entry_head}
use Rattle.kt_tree.specs.Version.{IsProgram, Program, head_of}
use Rattle.kt_meaning.proofs.EffectTypes.{effect-IsOutcomeOf}
use Rattle.kt_meaning.proofs.StepTypes.{Keeps}
use Rattle.kt_meaning.specs.Effects as outside
use Rattle.kt_meaning.specs.Effects.{Outcome, Replies, Waits, Elsewhere}
use Rattle.kt_meaning.specs.Laws.{IsOutcomeOf, IsReplyTo}
use Rattle.kt_meaning.specs.Requests.{IsReplyOf}
use Rattle.kt_meaning.specs.Steps.{Step, Quiet, Acts, Traps, Ends}
use Rattle.kt_meaning.specs.Thread as tree
use Rattle.kt_meaning.specs.ThreadTypes.{IsEntry, IsTypedAct}
use Rattle.kt_meaning.specs.Laws.{IsShared}
use Rattle.kt_meaning.specs.ThreadTypes.{IsThread}
use Rattle.kt_meaning.specs.Values.{AreIn, is_of}
use Rattle.kt_meaning.proofs.OperationTypes.{and-true}
use Rattle.kt_types.specs.declared.kinds.Ty.TheVariants as ty
use Rattle.xf_plan.specs.KeepsTypes.{AreKeptFor, HasGlobals, IsMemoryOf}
use Rattle.kt_phase.specs.declared.counters.Phase.{Phase}
use Rattle.kt_phase.specs.declared.counters.Phase.TheVariants.{Run, Asked, Main, Others}
use Rattle.kt_world.specs.Acts.{answered, at_point, awake, created, effect, elsewhere, ends, gone_on, joins, migrated, new_thread, on_outcome, signalled, waited, waiting_in, waits_for, with_new, with_shared, with_thread, woken, woken_first}
use Rattle.kt_world.specs.Job.{Job, types_at, types_of, version_at}
use Rattle.kt_world.specs.Refusals.{point_of}
use Rattle.kt_world.specs.Trees.{tree_engine, tree_step}
use Rattle.kt_world.specs.Typed.{AreArguments, IsThreadOf, IsTypedShared}
use Rattle.kt_world.specs.Waiting.{joined}
use Rattle.kt_world.specs.World.{Standing, Live, Waiter, Parked, Ended, Shared, Thread, World, outside_of, takes_turns, with_outside}
use Rattle.kt_world.proofs.GoodThreads.{AllFrom, IsGood, IsGoodAs, OfNumber, begun, from-get, from-map, from-push, from-set, replied, step-keeps}
use Rattle.kt_world.proofs.TypedShared.{LeavesTyped, effect-typed, migrated-typed, unlock-typed}

-- a world in which this version is in force
pub record IsGoodIn (job : Job) (p : Program) (w : World tree.Thread) : Type 0 where
  pub version_is : version_at job w.shared.version ≡ Some p
  pub shared : IsTypedShared p w.shared
  pub threads : AllFrom (IsGood w.shared.version (version_at job w.shared.version) p) 0 w.threads

-- ---- parameters

entry-one : (result : Option ℕ) (ts : List ℕ) (t : ℕ) → is_entry_head result ts t ≡ true → ts ≡ t ∷ []
entry-one None (u ∷ []) t is = ap (λ x. x ∷ []) (eqb-true u t is)
entry-one None [] t is = absurd cc
entry-one None (u ∷ x ∷ ts) t is = absurd cc
entry-one (Some r) ts t is = absurd cc

-- what a thread is made with
entry-arguments : (p : Program) (f : ℕ) (a : Value) → IsEntry p f a → AreArguments p f (a ∷ [])
entry-arguments p f a is =
    let one = entry-one is.function.result (head_of is.function).parameters is.parameter is.entry in
    record {
      function = is.function;
      function_is = is.function_is;
      values = subst (λ ts. AreIn p.types ts (a ∷ [])) (sym one) (inr is.value, tt);
    }

-- a number of a thread is an `int`
number-fits : (n : ℕ) → n < 65 → IsTrue (is_of ty.Int (Num (pos n)))
number-fits n less = and-true (nat_lt n (2 ^ 31)) ∙ lt-ltb n (2 ^ 31) (omega (arith, less))

-- ---- standings

-- what is good of a thread that takes turns is good of one that waits
up-good : (v : ℕ) (o : Option Program) (p : Program) (k : ℕ) (standing : Standing) (th : Thread tree.Thread) → takes_turns standing ≡ true → IsThreadOf p th → OfNumber p k th.entry
    → IsGoodAs v o p k standing th
up-good v o p k Live th is i n = (i, n)
up-good v o p k (Waiter m c) th is i n = absurd cc
up-good v o p k Parked th is i n = absurd cc
up-good v o p k Ended th is i n = absurd cc

waiting-good : (v : ℕ) (o : Option Program) (p : Program) (k : ℕ) (phase : Phase) (q : Value) (th : Thread tree.Thread) → IsThreadOf p th → OfNumber p k th.entry
    → IsGoodAs v o p k (waiting_in phase q) th
waiting-good v o p k Run (Ptr n c) th i m = (i, m)
waiting-good v o p k Run (Num z) th i m = (i, m)
waiting-good v o p k Run Null th i m = (i, m)
waiting-good v o p k Run Free th i m = (i, m)
waiting-good v o p k Run (Held x) th i m = (i, m)
waiting-good v o p k Run Undef th i m = (i, m)
waiting-good v o p k Asked q th i m = (i, m)
waiting-good v o p k Main q th i m = (i, m)
waiting-good v o p k Others q th i m = (i, m)

-- a waiter wakes
woken-good : (v : ℕ) (o : Option Program) (p : Program) (k : ℕ) (q : Value) (standing : Standing) (th : Thread tree.Thread) → waits_for q standing ≡ true → IsGoodAs v o p k standing th
    → IsThreadOf p (awake th) × OfNumber p k th.entry
woken-good v o p k (Ptr n c) (Waiter m d) th is h = (record { thread = h.0.thread; arguments = h.0.arguments }, h.1)
woken-good v o p k (Ptr n c) Live th is h = absurd cc
woken-good v o p k (Ptr n c) Parked th is h = absurd cc
woken-good v o p k (Ptr n c) Ended th is h = absurd cc
woken-good v o p k (Num z) standing th is h = absurd cc
woken-good v o p k Null standing th is h = absurd cc
woken-good v o p k Free standing th is h = absurd cc
woken-good v o p k (Held x) standing th is h = absurd cc
woken-good v o p k Undef standing th is h = absurd cc

module _ (v : ℕ) (o : Option Program) (p : Program) (q : Value) where
  one-woken : (k : ℕ) (th : Thread tree.Thread) → IsGood v o p k th → IsGood v o p k (if waits_for q th.standing then awake th else th)
  one-woken k th h = by (waits_for q th.standing) refl
    where
      by : (b : Bool) → waits_for q th.standing ≡ b → IsGood v o p k (if b then awake th else th)
      by true is = woken-good v o p k q th.standing th is h
      by false is = h

  first-woken : (k : ℕ) (threads : List (Thread tree.Thread)) → AllFrom (IsGood v o p) k threads → AllFrom (IsGood v o p) k (woken_first q threads)
  first-woken k [] h = tt
  first-woken k (th ∷ threads) h = by (waits_for q th.standing) refl (first-woken (suc k) threads h.1)
    where
      by : (b : Bool) → waits_for q th.standing ≡ b → AllFrom (IsGood v o p) (suc k) (woken_first q threads) → AllFrom (IsGood v o p) k (if b then awake th ∷ threads else th ∷ woken_first q threads)
      by true is rest = (woken-good v o p k q th.standing th is h.0, h.1)
      by false is rest = (h.0, rest)

  all-woken : (all : Bool) (threads : List (Thread tree.Thread)) → AllFrom (IsGood v o p) 0 threads → AllFrom (IsGood v o p) 0 (woken all q threads)
  all-woken true threads h = from-map (IsGood v o p) (IsGood v o p) _ one-woken 0 threads h
  all-woken false threads h = first-woken 0 threads h

-- what is shared, where only what has no type changes
pub untyped : (p : Program) (s r : Shared) → outside_of r ≡ outside_of s → r.kept ≡ s.kept → IsTypedShared p s → IsTypedShared p r
untyped p s r same kept h = record {
  outside = subst IsShared (sym same) h.outside;
  memory = subst (λ (x : outside.Shared). IsMemoryOf p.types x.memory) (sym same) h.memory;
  globals = subst (λ (x : outside.Shared). HasGlobals p.globals x.memory) (sym same) h.globals;
  kept = subst (AreKeptFor p.types p.globals) (sym kept) h.kept;
}

module _ (job : Job) (p : Program) (program : IsProgram p) where
  abbrev Good : World tree.Thread → Type 0
  Good w = IsGoodIn job p w

  -- with other memory, input, output, kept values, and threads
  changed : (w : World tree.Thread) → Good w → (s : Shared) (threads : List (Thread tree.Thread)) → s.version ≡ w.shared.version → IsTypedShared p s
      → AllFrom (IsGood w.shared.version (version_at job w.shared.version) p) 0 threads → Good (record { shared = s; threads = threads })
  changed w h s threads same typed good = record {
    version_is = ap (version_at job) same ∙ h.version_is;
    shared = typed;
    threads = subst (λ n. AllFrom (IsGood n (version_at job n) p) 0 threads) (sym same) good;
  }

  set-good : (w : World tree.Thread) → Good w → (t : ℕ) (th : Thread tree.Thread) → IsGood w.shared.version (version_at job w.shared.version) p t th → Good (with_thread w t th)
  set-good w h t th is =
      let P = IsGood w.shared.version (version_at job w.shared.version) p in
      changed w h w.shared (slice_set w.threads t th) refl h.shared (from-set P 0 w.threads t th h.threads (subst (λ k. P k th) (omega arith) is))

  end-good : (w : World tree.Thread) → Good w → (s : Shared) → s.version ≡ w.shared.version → outside_of s ≡ outside_of w.shared → s.kept ≡ w.shared.kept → Good (record w { shared = s })
  end-good w h s same outside kept = changed w h s w.threads same (untyped p w.shared s outside kept h.shared) h.threads

  -- the thread of that number goes on after a reply of its act's kind
  answered-good : (w : World tree.Thread) → Good w → (t : ℕ) (th : Thread tree.Thread) (r : Reply) → IsThreadOf p th → IsReplyTo (tree_step w.shared.version (version_at job w.shared.version) th.state) r
      → ((x : tree.Thread) → IsThread p x → IsGood w.shared.version (version_at job w.shared.version) p t (record th { state = x })) → Good (answered (tree_engine job) w t th r)
  answered-good w h t th r i k keeps = by r k
    where
      gone : (r : Reply) → IsReplyTo (tree_step w.shared.version (version_at job w.shared.version) th.state) r → Good (with_thread w t (gone_on (tree_engine job) w.shared.version th r))
      gone r k =
          set-good w h t (gone_on (tree_engine job) w.shared.version th r)
          (keeps (gone_on (tree_engine job) w.shared.version th r).state
          (replied w.shared.version (version_at job w.shared.version) p h.version_is program th.state r i.thread k))

      by : (r : Reply) → IsReplyTo (tree_step w.shared.version (version_at job w.shared.version) th.state) r → Good (answered (tree_engine job) w t th r)
      by Done k = gone Done k
      by (Got x) k = gone (Got x) k
      by (Trapped cause) k = end-good w h _ refl refl refl

  module _ (w : World tree.Thread) (h : Good w) (t : ℕ) (th : Thread tree.Thread) (there : slice_get w.threads t ≡ Some th) (live : takes_turns th.standing ≡ true) (i : IsThreadOf p th) (number : OfNumber p t th.entry) where
    abbrev v : ℕ
    v = w.shared.version

    abbrev o : Option Program
    o = version_at job v

    abbrev s : Step tree.Thread
    s = tree_step v o th.state

    still : (x : tree.Thread) → IsThread p x → IsGood v o p t (record th { state = x })
    still x k = up-good v o p t th.standing (record th { state = x }) live (record { thread = k; arguments = i.arguments }) number

    -- after a change of what is shared, or of other threads
    goes : (u : World tree.Thread) → Good u → u.shared.version ≡ v → (r : Reply) → IsReplyTo s r → Good (answered (tree_engine job) u t th r)
    goes u g same r k =
        answered-good u g t th r i (subst (λ n. IsReplyTo (tree_step n (version_at job n) th.state) r) (sym same) k)
        (subst (λ n. (x : tree.Thread) → IsThread p x → IsGood n (version_at job n) p t (record th { state = x })) (sym same) still)

    traps : (cause : Trap) → Good (answered (tree_engine job) w t th (Trapped cause))
    traps cause = end-good w h _ refl refl refl

    module _ (a : Act) (go : Reply → tree.Thread) (at : s ≡ Acts a go) (typed : IsTypedAct p a) where
      replies : (r : Reply) → IsReplyOf a r → IsReplyTo s r
      replies r k = subst (λ x. IsReplyTo x r) (sym at) k

      outcome-good : (x : Outcome) → LeavesTyped p w.shared x → IsOutcomeOf a x → Good (elsewhere (tree_engine job) w t th a) → Good (on_outcome (tree_engine job) w t th a x)
      outcome-good (Replies r x) left k other =
          let u = with_shared w (with_outside w.shared x) in
          goes u (changed w h (with_outside w.shared x) w.threads refl left h.threads) refl r (replies r k)
      outcome-good Waits left k other = h
      outcome-good Elsewhere left k other = other

    created-good : (f : ℕ) (a : Value) (go : Reply → tree.Thread) → s ≡ Acts (act.Create f a) go → IsEntry p f a → Good (created (tree_engine job) w t th f a)
    created-good f a go at is = by (nat_le 65 (length w.threads)) refl
      where
        new : Thread tree.Thread
        new = new_thread (tree_engine job) v f a

        got : Reply
        got = Got (Num (pos (length w.threads)))

        P : ℕ → Thread tree.Thread → Type 0
        P = IsGood v o p

        begins : IsThreadOf p new
        begins = record {
          thread = begun v o p h.version_is program f (a ∷ []) (record { mode = Normal; kept = [] }) (entry-arguments p f a is) (record { mode = tt; kept = tt });
          arguments = entry-arguments p f a is;
        }

        -- `main` is there
        numbered : (threads : List (Thread tree.Thread)) (n : ℕ) → slice_get threads n ≡ Some th → OfNumber p (0 + length threads) f
        numbered [] n here = absurd (none-some th here)
        numbered (x ∷ threads) n here =
            let more : suc (length threads) ≡ 0 + suc (length threads) = omega arith in subst (λ k. OfNumber p k f) more tt

        by : (b : Bool) → nat_le 65 (length w.threads) ≡ b → Good (if b then answered (tree_engine job) w t th (Trapped trap.Threads) else answered (tree_engine job) (with_new w new) t th got)
        by true few = traps trap.Threads
        by false few =
            let less = leb-false 65 (length w.threads) few in
            goes (with_new w new) (changed w h w.shared (w.threads ++ new ∷ []) refl h.shared (from-push P 0 w.threads new h.threads (begins, numbered w.threads t there))) refl got
            (subst (λ x. IsReplyTo x got) (sym at) (refl, number-fits (length w.threads) (omega (arith, less))))

    joins-good : (n : _) (go : Reply → tree.Thread) → s ≡ Acts (act.Join n) go → (x : Option (Thread tree.Thread)) → Good (joins (tree_engine job) w t th x)
    joins-good n go at None = traps trap.Thread
    joins-good n go at (Some other) = goes w h refl Done (subst (λ x. IsReplyTo x Done) (sym at) (refl, tt))

    waited-good : (q : Value) (go : Reply → tree.Thread) → s ≡ Acts (act.Wait q) go → (r : Result Memory Trap) → unlock w.shared.memory t q ≡ r → Good (waited (tree_engine job) w t th q r)
    waited-good q go at (Err cause) is = traps cause
    waited-good q go at (Ok m) is =
        let u = with_shared w (record w.shared { memory = m }) in
        let waiter = record th { standing = waiting_in w.shared.phase q } in
        answered-good u (changed w h (record w.shared { memory = m }) w.threads refl (unlock-typed p w.shared t q m is h.shared) h.threads) t waiter Done
        (record { thread = i.thread; arguments = i.arguments }) (subst (λ x. IsReplyTo x Done) (sym at) (refl, tt))
        (λ x k. waiting-good v o p t w.shared.phase q (record waiter { state = x }) (record { thread = k; arguments = i.arguments }) number)

    signalled-good : (q : Value) (all : Bool) (go : Reply → tree.Thread) → s ≡ Acts (act.Signal q all) go → (r : Result Memory Trap) → Good (signalled (tree_engine job) w t th q all r)
    signalled-good q all go at (Err cause) = traps cause
    signalled-good q all go at (Ok m) =
        goes (record w { threads = woken all q w.threads }) (changed w h w.shared (woken all q w.threads) refl h.shared (all-woken v o p q all w.threads h.threads)) refl Done
        (subst (λ x. IsReplyTo x Done) (sym at) (refl, tt))

    point-good : (q : ℕ) (go : Reply → tree.Thread) → s ≡ Acts (act.Point q) go → (mode : Mode) (phase : Phase) → Good (at_point (tree_engine job) w t th mode phase)
    point-good q go at Normal Asked =
        set-good w h t (record th { standing = Parked }) (record { thread = i.thread; arguments = i.arguments }, number, (q, subst (λ x. point_of x ≡ Some q) (sym at) refl))
    point-good q go at Normal Run = goes w h refl Done (subst (λ x. IsReplyTo x Done) (sym at) (refl, tt))
    point-good q go at Normal Main = goes w h refl Done (subst (λ x. IsReplyTo x Done) (sym at) (refl, tt))
    point-good q go at Normal Others = goes w h refl Done (subst (λ x. IsReplyTo x Done) (sym at) (refl, tt))
    point-good q go at (Updating n) phase = goes w h refl Done (subst (λ x. IsReplyTo x Done) (sym at) (refl, tt))

    migrated-good : (go : Reply → tree.Thread) → s ≡ Acts act.Automigrate go → (mode : Mode) → Good (answered (tree_engine job) (with_shared w (migrated mode w.shared)) t th Done)
    migrated-good go at mode =
        goes (with_shared w (migrated mode w.shared)) (changed w h (migrated mode w.shared) w.threads (same mode) (migrated-typed p w.shared h.shared mode) h.threads) (same mode) Done
        (subst (λ x. IsReplyTo x Done) (sym at) (refl, tt))
      where
        same : (mode : Mode) → (migrated mode w.shared).version ≡ v
        same Normal = refl
        same (Updating n) = refl

    elsewhere-good : (a : Act) (go : Reply → tree.Thread) → s ≡ Acts a go → IsTypedAct p a → Good (elsewhere (tree_engine job) w t th a)
    elsewhere-good (act.Create f x) go at typed = created-good f x go at typed
    elsewhere-good (act.Join n) go at typed = joins-good n go at (joined w.threads t n)
    elsewhere-good (act.Wait q) go at typed = waited-good q go at (unlock w.shared.memory t q) refl
    elsewhere-good (act.Signal q all) go at typed = signalled-good q all go at (signal w.shared.memory q)
    elsewhere-good (act.Point q) go at typed = point-good q go at th.state.restart.mode w.shared.phase
    elsewhere-good act.Automigrate go at typed = migrated-good go at th.state.restart.mode
    elsewhere-good _ go at typed = h

    ends-good : (a : Act) → Good (ends (tree_engine job) w t th a)
    ends-good act.ThreadEnd = set-good w h t _ refl
    ends-good (act.MainReturn n) = end-good w h _ refl refl refl
    ends-good _ = h

    effect-good : (types : Table) → types ≡ p.types → (x : Step tree.Thread) → s ≡ x → Keeps p x → Good (effect (tree_engine job) types w t th x)
    effect-good types same (Quiet x) at keeps = h
    effect-good types same (Acts a go) at keeps =
        subst (λ (y : Table). Good (effect (tree_engine job) y w t th (Acts a go))) (sym same)
        (outcome-good a go at keeps.0 (outside.effect p.types t a (outside_of w.shared)) (effect-typed p w.shared t a h.shared keeps.0)
        (effect-IsOutcomeOf p.types t a (outside_of w.shared) h.shared.outside) (elsewhere-good a go at keeps.0))
    effect-good types same (Traps cause) at keeps = end-good w h _ refl refl refl
    effect-good types same (Ends a) at keeps = ends-good a

  -- what a thread that takes turns is
  good-up : (v : ℕ) (o : Option Program) (k : ℕ) (standing : Standing) (th : Thread tree.Thread) → takes_turns standing ≡ true → IsGoodAs v o p k standing th → IsThreadOf p th × OfNumber p k th.entry
  good-up v o k Live th is h = h
  good-up v o k (Waiter n c) th is h = absurd cc
  good-up v o k Parked th is h = absurd cc
  good-up v o k Ended th is h = absurd cc

  -- an act of a thread that takes turns
  pub act-good : (w : World tree.Thread) → Good w → (t : ℕ) (th : Thread tree.Thread) → slice_get w.threads t ≡ Some th → takes_turns th.standing ≡ true
      → Good (effect (tree_engine job) (types_at job w.shared.version) w t th (tree_step w.shared.version (version_at job w.shared.version) th.state))
  act-good w h t th there live =
      let P = IsGood w.shared.version (version_at job w.shared.version) p in
      let is = subst (λ k. P k th) (omega arith) (from-get P 0 w.threads t th h.threads there) in
      let up = good-up w.shared.version (version_at job w.shared.version) t th.standing th live is in
      effect-good w h t th there live up.0 up.1 (types_at job w.shared.version) (ap types_of h.version_is) (tree_step w.shared.version (version_at job w.shared.version) th.state) refl
      (step-keeps w.shared.version (version_at job w.shared.version) p h.version_is program th.state up.0.thread)
