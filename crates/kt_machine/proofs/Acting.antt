-- What a machine's act does is what the world's does.
use Rattle.std.specs.Prelude.{◌≡◌, ℕ, true, false, IsTrue, List, [], ◌∷◌, Option, None, Some, Result, Ok, Err, OnOk, slice_get, refl}
use Rattle.std.proofs.Common.{sym, subst, ap, ◌∙◌}
use Rattle.kt_types.specs.declared.kinds.Ty.{Ty}
use Rattle.kt_types.specs.declared.kinds.Ty.TheVariants as ty
use Rattle.kt_types.specs.Table.{Table}
use Rattle.kt_mem.specs.declared.memory.Value.{Value}
use Rattle.kt_mem.specs.declared.memory.Value.TheVariants.{Num, Null, Ptr, Free, Held, Undef}
use Rattle.kt_mem.specs.declared.steps.Act.{Act}
use Rattle.kt_mem.specs.declared.steps.Act.TheVariants as act
use Rattle.kt_mem.specs.declared.steps.Reply.{Reply}
use Rattle.kt_mem.specs.declared.steps.Reply.TheVariants.{Done, Got, Trapped}
use Rattle.kt_mem.specs.declared.steps.Trap.{Trap}
use Rattle.kt_mem.specs.declared.thread.Mode.{Mode}
use Rattle.kt_mem.specs.declared.thread.Mode.TheVariants.{Normal, Updating}
use Rattle.kt_meaning.specs.Effects as plain
use Rattle.kt_meaning.specs.Effects.{Outcome, Replies, Waits, Elsewhere}
use Rattle.kt_meaning.specs.Laws.{IsShared, IsOutcomeOf, EffectsReply}
use Rattle.kt_meaning.specs.Requests.{IsReplyOf, Tells, given_type, takes_reply}
use Rattle.kt_meaning.specs.Steps.{Step, Quiet, Acts, Traps, Ends}
use Rattle.kt_meaning.specs.Values.{is_of}
use Rattle.kt_code.specs.Agreement.{IsReplyTo}
use Rattle.kt_code.specs.Settling.{head_of}
use Rattle.kt_code.specs.declared.private.Head.{Head}
use Rattle.kt_code.specs.declared.private.Head.TheVariants as head
use Rattle.kt_code.specs.declared.private.Private.{Private}
use Rattle.kt_mem.specs.Renaming.{Pairs, rename_value, renamed}
use Rattle.kt_exec.specs.Renaming.{IsOld, PrivateIn, rename_act, rename_reply}
use Rattle.kt_pair.specs.Pair.{Pair}
use Rattle.kt_lone.specs.Job.{Job, types_at}
use Rattle.kt_lone.specs.Turn.{answered, acted, effect, elsewhere, ends, migrated, on_outcome}
use Rattle.kt_lone.specs.World.{Engine, Shared, Thread, World, outside_of, with_outside}
use Rattle.kt_machine.specs.declared.machine.Machine.{Machine}
use Rattle.kt_machine.specs.Acts.{MayReply, elsewhere_at, outcome_at, own_step, step_of}
use Rattle.kt_machine.specs.ByNumber.{Grows, head_by, reply_by}
use Rattle.kt_machine.specs.Engine.{code_engine, code_step, pairs_of, standing_of, thread_of, without_ended, world_of, IsSettled}
use Rattle.kt_machine.specs.Outside.{Outside, pairs_in, shown}
use Rattle.kt_machine.specs.Shared.{shared_of}
use Rattle.kt_machine.proofs.Heads.{IsStepAt, stands-at}
use Rattle.kt_machine.proofs.Names.{private-among, private-grows}

-- ---- the last acts are done elsewhere

last-elsewhere : (types : Table) (a : Act) (s : plain.Shared) → takes_reply a ≡ false → plain.effect types 0 a s ≡ Elsewhere
last-elsewhere types act.ThreadEnd s h = refl
last-elsewhere types (act.MainReturn n) s h = refl
last-elsewhere types a s h = absurd cc

no-reply : {A : Type 0} (types : Table) (a : Act) (s o : plain.Shared) (r : Reply) → takes_reply a ≡ false → plain.effect types 0 a s ≡ Replies r o → A
no-reply types a s o r h e = absurd (let k = last-elsewhere types a s h in cc)

no-wait : {A : Type 0} (types : Table) (a : Act) (s : plain.Shared) → takes_reply a ≡ false → plain.effect types 0 a s ≡ Waits → A
no-wait types a s h e = absurd (let k = last-elsewhere types a s h in cc)

elsewhere-takes : (e : Engine Private) (w : World Private) (th : Thread Private) (a : Act) → takes_reply a ≡ true →
    elsewhere e w 0 th a ≡ elsewhere_at e w th (head.Act a)
elsewhere-takes e w th act.ThreadEnd h = absurd cc
elsewhere-takes e w th (act.MainReturn n) h = absurd cc
elsewhere-takes e w th a h = refl

elsewhere-last : (e : Engine Private) (w : World Private) (th : Thread Private) (a : Act) → takes_reply a ≡ false →
    ends w 0 th a ≡ elsewhere_at e w th (head.Act a)
elsewhere-last e w th act.ThreadEnd h = refl
elsewhere-last e w th (act.MainReturn n) h = refl
elsewhere-last e w th a h = absurd cc

-- ---- replies of the act's kind

-- a value is of a type by address as it is by heap number
is_of-same : (f : ℕ → ℕ) (t : Ty) (v : Value) → is_of t (rename_value f v) ≡ is_of t v
is_of-same f t (Num z) = refl
is_of-same f t Null = refl
is_of-same f ty.Char (Ptr n k) = refl
is_of-same f ty.Int (Ptr n k) = refl
is_of-same f ty.Long (Ptr n k) = refl
is_of-same f ty.Mutex (Ptr n k) = refl
is_of-same f (ty.Ptr u) (Ptr n k) = refl
is_of-same f (ty.Struct i) (Ptr n k) = refl
is_of-same f (ty.Array e n) (Ptr m k) = refl
is_of-same f t Free = refl
is_of-same f t (Held thread) = refl
is_of-same f t Undef = refl

own-takes : (f : ℕ → ℕ) (a : Act) → takes_reply (rename_act f a) ≡ takes_reply a
own-takes f act.ThreadEnd = refl
own-takes f (act.MainReturn n) = refl
own-takes f a = refl

own-given : (f : ℕ → ℕ) (a : Act) → given_type (rename_act f a) ≡ given_type a
own-given f (act.Load p t) = refl
own-given f (act.Allocate e n zeros) = refl
own-given f act.GetChar = refl
own-given f (act.Print ps) = refl
own-given f (act.Create g v) = refl
own-given f a = refl

own-tells : (f : ℕ → ℕ) (t : Option Ty) (v : Value) → Tells t (Got (rename_value f v)) → Tells t (Got v)
own-tells f None v h = absurd h
own-tells f (Some t) v h = subst IsTrue (is_of-same f t v) h

-- a reply is of the kind of an act where it is so by heap number, traps aside
abbrev Answers : Act → Reply → Type 0
Answers a Done = IsReplyOf a Done
Answers a (Got v) = IsReplyOf a (Got v)
Answers a (Trapped t) = Unit {0}

own-reply : (f g : ℕ → ℕ) (a : Act) (r : Reply) → IsReplyOf (rename_act f a) (rename_reply g r) → Answers a r
own-reply f g a Done h =
    (subst IsTrue (own-takes f a) h.0, subst (λ (t : Option Ty). Tells t Done) (own-given f a) h.1)
own-reply f g a (Got v) h =
    (subst IsTrue (own-takes f a) h.0, own-tells g (given_type a) v (subst (λ (t : Option Ty). Tells t (Got (rename_value g v))) (own-given f a) h.1))
own-reply f g a (Trapped t) h = tt

may-answer : (a b : Act) (go : Reply → Private) (r : Reply) → b ≡ a → Answers a r → MayReply (Acts b go) r
may-answer a b go Done e h = subst (λ (c : Act). IsReplyOf c Done) (sym e) h
may-answer a b go (Got v) e h = subst (λ (c : Act). IsReplyOf c (Got v)) (sym e) h
may-answer a b go (Trapped t) e h = tt

trap-may : (qs : Pairs) (s : Step Private) (t : Trap) (r : Reply) → Trapped t ≡ reply_by qs r → MayReply s r
trap-may qs s t Done e = absurd cc
trap-may qs s t (Got v) e = absurd cc
trap-may qs s t (Trapped u) e = tt

same-reply : (r u : Reply) (s o : plain.Shared) → Replies r s ≡ Replies u o → r ≡ u
same-reply r u s o e = cc

same-shared : (r u : Reply) (s o : plain.Shared) → Replies r s ≡ Replies u o → s ≡ o
same-shared r u s o e = cc

pub may-reply : (ps qs : Pairs) (h : Head) (st : Step Private) (types : Table) (s o : plain.Shared) (r : Reply) → IsStepAt h st → EffectsReply → IsShared s →
    outcome_at types (head_by ps h) s ≡ Replies (reply_by qs r) o → MayReply st r
may-reply ps qs (head.Act a) (Quiet x) types s o r k law shared e = absurd k
may-reply ps qs (head.Act a) (Acts b go) types s o r k law shared e =
    let by = rename_act (renamed ps) a in
    may-answer a b go r k.0
    (own-reply (renamed ps) (renamed qs) a r (subst (IsOutcomeOf by) e (law types 0 by s shared)))
may-reply ps qs (head.Act a) (Traps t) types s o r k law shared e = absurd k
may-reply ps qs (head.Act a) (Ends b) types s o r k law shared e =
    no-reply types (rename_act (renamed ps) a) s o (reply_by qs r) (own-takes (renamed ps) a ∙ k.1) e
may-reply ps qs (head.Trap t) (Quiet x) types s o r k law shared e = absurd k
may-reply ps qs (head.Trap t) (Acts b go) types s o r k law shared e = absurd k
may-reply ps qs (head.Trap t) (Traps u) types s o r k law shared e = trap-may qs (Traps u) t r (same-reply (Trapped t) (reply_by qs r) s o e)
may-reply ps qs (head.Trap t) (Ends b) types s o r k law shared e = absurd k

-- `done` answers acts that give nothing
pub may-go_on : (h : Head) (st : Step Private) (a : Act) → IsStepAt h st → h ≡ head.Act a → takes_reply a ≡ true → IsReplyOf a Done → IsReplyTo st Done
may-go_on h st a k is takes of = step-takes a st (subst (λ (h : Head). IsStepAt h st) is k) takes of
  where
    step-takes : (a : Act) (st : Step Private) → IsStepAt (head.Act a) st → takes_reply a ≡ true → IsReplyOf a Done → IsReplyTo st Done
    step-takes a (Quiet x) k takes of = absurd k
    step-takes a (Acts b go) k takes of = subst (λ (c : Act). IsReplyOf c Done) (sym k.0) of
    step-takes a (Traps t) k takes of = absurd k
    step-takes a (Ends b) k takes of = absurd (let h = k.1 in cc)

-- ---- effects

module _ (e : Engine Private) (types : Table) (s : Shared) (th : Thread Private) where
  abbrev here : World Private
  here = record { shared = s; threads = th ∷ [] }

  abbrev left : plain.Shared → World Private
  left o = record { shared = with_outside s o; threads = th ∷ [] }

  answered-alike : (o : plain.Shared) (r : Reply) → answered e here 0 th (with_outside s o) r ≡ answered e (left o) 0 th (with_outside s o) r
  answered-alike o Done = refl
  answered-alike o (Got v) = refl
  answered-alike o (Trapped t) = refl

  trap-ends : (u t : Trap) (r : Reply) (o : plain.Shared) → u ≡ t → Replies (Trapped t) (outside_of s) ≡ Replies r o →
      effect e types here 0 th (Traps u) ≡ answered e (left o) 0 th (with_outside s o) r
  trap-ends u t r o same is =
      ap (λ (t : Trap). effect e types here 0 th (Traps t)) same
      ∙ ap (λ (r : Reply). answered e here 0 th s r) (same-reply (Trapped t) r (outside_of s) o is)
      ∙ ap (λ (o : plain.Shared). answered e (left o) 0 th (with_outside s o) r) (same-shared (Trapped t) r (outside_of s) o is)

  effect-replies : (h : Head) (st : Step Private) (r : Reply) (o : plain.Shared) → IsStepAt h st → outcome_at types h (outside_of s) ≡ Replies r o →
      effect e types here 0 th st ≡ answered e (left o) 0 th (with_outside s o) r
  effect-replies (head.Act a) (Quiet x) r o k is = absurd k
  effect-replies (head.Act a) (Acts b go) r o k is =
      ap (λ (c : Act). on_outcome e here 0 th c (plain.effect types 0 c (outside_of s))) k.0 ∙ ap (on_outcome e here 0 th a) is ∙ answered-alike o r
  effect-replies (head.Act a) (Traps t) r o k is = absurd k
  effect-replies (head.Act a) (Ends b) r o k is = no-reply types a (outside_of s) o r k.1 is
  effect-replies (head.Trap t) (Quiet x) r o k is = absurd k
  effect-replies (head.Trap t) (Acts b go) r o k is = absurd k
  effect-replies (head.Trap t) (Traps u) r o k is = trap-ends u t r o k is
  effect-replies (head.Trap t) (Ends b) r o k is = absurd k

  effect-waits : (h : Head) (st : Step Private) → IsStepAt h st → outcome_at types h (outside_of s) ≡ Waits → effect e types here 0 th st ≡ here
  effect-waits (head.Act a) (Quiet x) k is = absurd k
  effect-waits (head.Act a) (Acts b go) k is =
      ap (λ (c : Act). on_outcome e here 0 th c (plain.effect types 0 c (outside_of s))) k.0 ∙ ap (on_outcome e here 0 th a) is
  effect-waits (head.Act a) (Traps t) k is = absurd k
  effect-waits (head.Act a) (Ends b) k is = no-wait types a (outside_of s) k.1 is
  effect-waits (head.Trap t) st k is = absurd cc

  effect-elsewhere : (h : Head) (st : Step Private) → IsStepAt h st → outcome_at types h (outside_of s) ≡ Elsewhere →
      effect e types here 0 th st ≡ elsewhere_at e here th h
  effect-elsewhere (head.Act a) (Quiet x) k is = absurd k
  effect-elsewhere (head.Act a) (Acts b go) k is =
      ap (λ (c : Act). on_outcome e here 0 th c (plain.effect types 0 c (outside_of s))) k.0 ∙ ap (on_outcome e here 0 th a) is
      ∙ elsewhere-takes e here th a k.1
  effect-elsewhere (head.Act a) (Traps t) k is = absurd k
  effect-elsewhere (head.Act a) (Ends b) k is = ap (ends here 0 th) k.0 ∙ elsewhere-last e here th a k.1
  effect-elsewhere (head.Trap t) st k is = absurd cc

-- ---- acts of a machine

pub on-ok : {A E P Q : Type 0} (r : Result A E) → (P → Q) → OnOk r P → OnOk r Q
on-ok (Ok u) f h = f h
on-ok (Err e) f h = tt

pub both-ok : {A E P Q R : Type 0} (r : Result A E) → (P → Q → R) → OnOk r P → OnOk r Q → OnOk r R
both-ok (Ok u) f h k = f h k
both-ok (Err e) f h k = tt

-- the names of threads and updates are no heap names
elsewhere-by : (ps : Pairs) (e : Engine Private) (w : World Private) (th : Thread Private) (h : Head) → elsewhere_at e w th (head_by ps h) ≡ elsewhere_at e w th h
elsewhere-by ps e w th (head.Act act.ThreadEnd) = refl
elsewhere-by ps e w th (head.Act (act.MainReturn n)) = refl
elsewhere-by ps e w th (head.Act (act.Create f v)) = refl
elsewhere-by ps e w th (head.Act (act.Join n)) = refl
elsewhere-by ps e w th (head.Act (act.Point p)) = refl
elsewhere-by ps e w th (head.Act act.Automigrate) = refl
elsewhere-by ps e w th (head.Act a) = refl
elsewhere-by ps e w th (head.Trap t) = refl

-- the machine after an outcome, before its reply
abbrev pub with_left : Machine → Outside → Machine
with_left m o = record m { shared = record m.shared { outside = o } }

pub settled-left : (codes : List Pair) (m mid : Machine) (o : Outside) → mid ≡ with_left m o → Grows (pairs_of m) (pairs_in o) → IsSettled codes m → IsSettled codes mid
settled-left codes m mid o keeps grows h =
    subst (IsSettled codes) (sym keeps)
    (record { stands = h.stands; parked = h.parked; names = private-among grows.given m.private h.names; ended = h.ended })

module _ (codes : List Pair) (job : Job) (m mid n : Machine) (types : Table) (same_types : types_at job m.shared.version ≡ types)
    (k : IsStepAt (head_by (pairs_of m) m.head) (step_of codes m)) (o : Outside) (keeps : mid ≡ with_left m o) (grows : Grows (pairs_of m) (pairs_in o))
    (names : PrivateIn (IsOld (pairs_of m)) m.private) where
  abbrev the_engine : Engine Private
  the_engine = code_engine codes

  thread-stays : thread_of (with_left m o) ≡ thread_of m
  thread-stays =
      ap (λ (x : Private). record { state = x; standing = standing_of m.standing }) (private-grows (pairs_of m) (pairs_in o) grows m.private names)

  acted-at : acted the_engine job (world_of m) 0 ≡ effect the_engine types (world_of m) 0 (thread_of m) (step_of codes m)
  acted-at = ap (λ (t : Table). effect the_engine t (world_of m) 0 (thread_of m) (step_of codes m)) same_types

  abbrev answered_with : Thread Private → Reply → World Private
  answered_with th r =
      answered the_engine (record { shared = with_outside (shared_of m.shared) (shown o); threads = th ∷ [] }) 0 th (with_outside (shared_of m.shared) (shown o)) r

  pub acted-replies : (r : Reply) → outcome_at types (head_by (pairs_of m) m.head) (shown m.shared.outside) ≡ Replies (reply_by (pairs_in o) r) (shown o) →
      world_of n ≡ answered the_engine (world_of mid) 0 (thread_of mid) (shared_of mid.shared) (reply_by (pairs_of mid) r) →
      world_of n ≡ acted the_engine job (world_of m) 0
  acted-replies r outcome is =
      is ∙ ap (λ (x : Machine). answered the_engine (world_of x) 0 (thread_of x) (shared_of x.shared) (reply_by (pairs_of x) r)) keeps
      ∙ ap (λ (th : Thread Private). answered_with th (reply_by (pairs_in o) r)) thread-stays
      ∙ sym (acted-at
      ∙ effect-replies the_engine types (shared_of m.shared) (thread_of m) (head_by (pairs_of m) m.head) (step_of codes m) (reply_by (pairs_in o) r) (shown o) k outcome)

  stays : shown o ≡ shown m.shared.outside → world_of (with_left m o) ≡ world_of m
  stays same =
      ap (λ (s : plain.Shared). record { shared = with_outside (shared_of m.shared) s; threads = thread_of (with_left m o) ∷ [] }) same
      ∙ ap (λ (th : Thread Private). record { shared = shared_of m.shared; threads = th ∷ [] }) thread-stays

  pub acted-waits : outcome_at types (head_by (pairs_of m) m.head) (shown m.shared.outside) ≡ Waits → shown o ≡ shown m.shared.outside →
      world_of mid ≡ acted the_engine job (world_of m) 0
  acted-waits outcome same =
      ap world_of keeps ∙ stays same
      ∙ sym (acted-at ∙ effect-waits the_engine types (shared_of m.shared) (thread_of m) (head_by (pairs_of m) m.head) (step_of codes m) k outcome)

  pub acted-elsewhere : outcome_at types (head_by (pairs_of m) m.head) (shown m.shared.outside) ≡ Elsewhere → shown o ≡ shown m.shared.outside →
      world_of n ≡ without_ended (elsewhere_at the_engine (world_of mid) (thread_of mid) mid.head) →
      world_of n ≡ without_ended (acted the_engine job (world_of m) 0)
  acted-elsewhere outcome same is =
      is ∙ ap (λ (x : Machine). without_ended (elsewhere_at the_engine (world_of x) (thread_of x) x.head)) keeps
      ∙ ap (λ (w : World Private). without_ended (elsewhere_at the_engine w (thread_of (with_left m o)) m.head)) (stays same)
      ∙ ap (λ (th : Thread Private). without_ended (elsewhere_at the_engine (world_of m) th m.head)) thread-stays
      ∙ ap without_ended
      (sym (acted-at ∙ effect-elsewhere the_engine types (shared_of m.shared) (thread_of m) (head_by (pairs_of m) m.head) (step_of codes m) k outcome
      ∙ elsewhere-by (pairs_of m) the_engine (world_of m) (thread_of m) m.head))

-- ---- automigrate

pub same-step : (codes : List Pair) (m n : Machine) → n.private ≡ m.private → n.shared.version ≡ m.shared.version → own_step codes n ≡ own_step codes m
same-step codes m n private version =
    ap (λ (x : Private). code_step (slice_get codes n.shared.version) x) private ∙ ap (λ v. code_step (slice_get codes v) m.private) version

migrated-version : (mode : Mode) (s : Shared) → (migrated mode s).version ≡ s.version
migrated-version Normal s = refl
migrated-version (Updating p) s = refl

pub automigrate-reply : (codes : List Pair) (m n : Machine) → n ≡ record m { shared = n.shared } →
    shared_of n.shared ≡ migrated m.private.mode (shared_of m.shared) → head_of (own_step codes m) ≡ Some m.head → m.head ≡ head.Act act.Automigrate →
    IsReplyTo (own_step codes n) Done
automigrate-reply codes m n keeps is stands at_act =
    subst (λ (s : Step Private). IsReplyTo s Done)
    (sym (same-step codes m n (ap (λ (x : Machine). x.private) keeps) (ap (λ (s : Shared). s.version) is ∙ migrated-version m.private.mode (shared_of m.shared))))
    (may-go_on m.head (own_step codes m) act.Automigrate (stands-at (slice_get codes m.shared.version) m.private m.head stands) at_act refl (refl, tt))
