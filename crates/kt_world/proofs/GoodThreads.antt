-- Threads of typed worlds: what is kept of them beside their types, and how they begin and go on.
use Rattle.std.specs.Prelude.{◌≡◌, ℕ, zero, suc, ◌+◌, ◌-◌, List, [], ◌∷◌, ◌++◌, codes, length, map, replicate, slice_get, slice_set, take, Option, Some, refl}
use Rattle.std.proofs.Common.{arith, inl, sym, subst}
use Rattle.std.proofs.lemmas.Option.{none-some, same_Some}
use Rattle.kt_types.specs.declared.kinds.FieldDecl.{FieldDecl}
use Rattle.kt_types.specs.Table.{Table}
use Rattle.kt_mem.specs.declared.memory.Value.{Value}
use Rattle.kt_mem.specs.declared.memory.Value.TheVariants.{Undef}
use Rattle.kt_mem.specs.declared.steps.Act.{Act}
use Rattle.kt_mem.specs.declared.steps.Act.TheVariants as act
use Rattle.kt_mem.specs.declared.steps.Reply.{Reply}
use Rattle.kt_mem.specs.declared.steps.Reply.TheVariants.{Done, Got, Trapped}
use Rattle.kt_tree.specs.Tree.{Function}
use Rattle.kt_tree.specs.Version.{IsFunction, IsProgram, Program}
use Rattle.kt_meaning.proofs.StepTypes.{Keeps}
use Rattle.kt_meaning.proofs.WorkTypes.{settle-IsThread, step-Keeps}
use Rattle.kt_meaning.specs.Laws.{IsReplyTo, numbered}
use Rattle.kt_meaning.specs.Requests.{IsReplyOf}
use Rattle.kt_meaning.specs.Steps.{Step, Quiet, Acts, Traps, Ends, after_reply}
use Rattle.kt_meaning.specs.Thread as tree
use Rattle.kt_meaning.specs.ThreadTypes.{IsRestart, IsThread, types_of}
use Rattle.kt_meaning.specs.Values.{AreIn}
use Rattle.xf_plan.proofs.TypedImages.{all-get}
use Rattle.kt_world.specs.Refusals.{point_of, point_of_act}
use Rattle.kt_world.specs.Trees.{entry_in, tree_entry, tree_settle, tree_step}
use Rattle.kt_world.specs.Typed.{AreArguments, IsThreadOf}
use Rattle.kt_world.specs.World.{Standing, Live, Waiter, Parked, Ended, Thread}

-- ---- what is kept

-- a settled thread stands at a point
abbrev pub IsAtPoint : Step tree.Thread → Type 0
IsAtPoint s = (p : ℕ) × (point_of s ≡ Some p)

-- the function in which `main` begins
pub record IsMainFunction (p : Program) (f : ℕ) : Type 0 where
  pub function : Function
  pub function_is : slice_get p.functions f ≡ Some function
  pub name : function.name ≡ codes "main"
  pub params : function.params ≡ 0

-- thread 0 began in `main`
abbrev pub OfNumber : Program → ℕ → ℕ → Type 0
OfNumber p zero f = IsMainFunction p f
OfNumber p (suc k) f = Unit {0}

-- a thread of that number, by its standing: typed, and at a point where it is parked; without a call where it has ended
abbrev pub IsGoodAs : ℕ → Option Program → Program → ℕ → Standing → Thread tree.Thread → Type 0
IsGoodAs v o p k Live th = IsThreadOf p th × OfNumber p k th.entry
IsGoodAs v o p k (Waiter n c) th = IsThreadOf p th × OfNumber p k th.entry
IsGoodAs v o p k Parked th = IsThreadOf p th × OfNumber p k th.entry × IsAtPoint (tree_step v o th.state)
IsGoodAs v o p k Ended th = th.state.frames ≡ []

abbrev pub IsGood : ℕ → Option Program → Program → ℕ → Thread tree.Thread → Type 0
IsGood v o p k th = IsGoodAs v o p k th.standing th

-- all of these threads are, which are counted from k
abbrev pub AllFrom : {X : Type 0} → (ℕ → X → Type 0) → ℕ → List X → Type 0
AllFrom P k [] = Unit {0}
AllFrom P k (x ∷ xs) = P k x × AllFrom P (suc k) xs

module _ {X : Type 0} (P : ℕ → X → Type 0) where
  pub from-get : (k : ℕ) (xs : List X) (n : ℕ) (x : X) → AllFrom P k xs → slice_get xs n ≡ Some x → P (k + n) x
  from-get k [] n x all at = absurd (none-some x at)
  from-get k (y ∷ xs) zero x all at = subst (λ i. P i x) (omega arith) (subst (P k) (same_Some y x at) all.0)
  from-get k (y ∷ xs) (suc n) x all at = subst (λ i. P i x) (omega arith) (from-get (suc k) xs n x all.1 at)

  pub from-set : (k : ℕ) (xs : List X) (n : ℕ) (x : X) → AllFrom P k xs → P (k + n) x → AllFrom P k (slice_set xs n x)
  from-set k [] n x all is = tt
  from-set k (y ∷ xs) zero x all is = (subst (λ i. P i x) (omega arith) is, all.1)
  from-set k (y ∷ xs) (suc n) x all is = (all.0, from-set (suc k) xs n x all.1 (subst (λ i. P i x) (omega arith) is))

  pub from-push : (k : ℕ) (xs : List X) (x : X) → AllFrom P k xs → P (k + length xs) x → AllFrom P k (xs ++ x ∷ [])
  from-push k [] x all is = (subst (λ i. P i x) (omega arith) is, tt)
  from-push k (y ∷ xs) x all is = (all.0, from-push (suc k) xs x all.1 (subst (λ i. P i x) (omega arith) is))

  pub from-map : (Q : ℕ → X → Type 0) (f : X → X) → ((k : ℕ) (x : X) → P k x → Q k (f x)) → (k : ℕ) (xs : List X) → AllFrom P k xs → AllFrom Q k (map f xs)
  from-map Q f each k [] all = tt
  from-map Q f each k (x ∷ xs) all = (each k x all.0, from-map Q f each (suc k) xs all.1)

-- ---- replies

point-takes : (a : Act) (p : ℕ) → point_of_act a ≡ Some p → IsReplyOf a Done
point-takes (act.Point q) p e = (refl, tt)
point-takes _ p e = absurd (none-some p e)

-- a thread at a point takes the plain reply
pub point-reply : (s : Step tree.Thread) → IsAtPoint s → IsReplyTo s Done
point-reply (Quiet x) at = absurd (none-some at.0 at.1)
point-reply (Acts a go) at = point-takes a at.0 at.1
point-reply (Traps t) at = absurd (none-some at.0 at.1)
point-reply (Ends a) at = absurd (none-some at.0 at.1)

after-typed : (p : Program) (x : tree.Thread) (a : Step tree.Thread) (r : Reply) → IsThread p x → Keeps p a → IsReplyTo a r → IsThread p (after_reply x a r)
after-typed p x (Quiet u) r i h k = i
after-typed p x (Acts a go) Done i h k = h.1 Done k.1
after-typed p x (Acts a go) (Got v) i h k = h.1 (Got v) k.1
after-typed p x (Acts a go) (Trapped e) i h k = i
after-typed p x (Traps e) r i h k = i
after-typed p x (Ends a) r i h k = i

-- ---- entries

undefined-in : (types : Table) (ls : List FieldDecl) (n : ℕ) → n ≡ length ls → AreIn types (types_of ls) (replicate n Undef)
undefined-in types [] zero same = tt
undefined-in types [] (suc n) same = absurd (omega (arith, same))
undefined-in types (l ∷ ls) zero same = absurd (omega (arith, same))
undefined-in types (l ∷ ls) (suc n) same = (inl refl, undefined-in types ls n (omega (arith, same)))

-- the locals at the entry of a function, where arguments may be undefined
entry-in : (types : Table) (ls : List FieldDecl) (n : ℕ) (vs : List Value) → AreIn types (types_of (take n ls)) vs → AreIn types (types_of ls) (vs ++ replicate (length ls - length vs) Undef)
entry-in types [] zero [] a = tt
entry-in types [] zero (v ∷ vs) a = absurd a
entry-in types [] (suc n) [] a = tt
entry-in types [] (suc n) (v ∷ vs) a = absurd a
entry-in types (l ∷ ls) zero [] a = undefined-in types (l ∷ ls) (length (l ∷ ls) - 0) (omega arith)
entry-in types (l ∷ ls) zero (v ∷ vs) a = absurd a
entry-in types (l ∷ ls) (suc n) [] a = absurd a
entry-in types (l ∷ ls) (suc n) (v ∷ vs) a =
    let same : length ls - length vs ≡ suc (length ls) - suc (length vs) = omega arith in
    (a.0, subst (λ k. AreIn types (types_of ls) (vs ++ replicate k Undef)) same (entry-in types ls n vs a.1))

-- a thread at the entry of a function
entered : (p : Program) → IsProgram p → (f : ℕ) (arguments : List Value) (r : tree.Restart) (is : AreArguments p f arguments) → IsRestart p r
    → IsThread p (tree.entry f is.function arguments r)
entered p h f arguments r is i = record {
  frames = (
    is.function,
    record { function = is.function_is; locals = entry-in p.types is.function.locals is.function.params arguments is.values },
    ((all-get (IsFunction p) p.functions f is.function h.functions is.function_is).body, tt),
    tt,
  );
  restart = i;
}

-- ---- threads of the version in force

module _ (v : ℕ) (o : Option Program) (p : Program) (at : o ≡ Some p) (program : IsProgram p) where
  pub step-keeps : (x : tree.Thread) → IsThread p x → Keeps p (tree_step v o x)
  step-keeps x i = subst (λ q. Keeps p (tree_step v q x)) (sym at) (step-Keeps (numbered p v) program x i)

  pub settled : (x : tree.Thread) → IsThread p x → IsThread p (tree_settle v o x)
  settled x i = subst (λ q. IsThread p (tree_settle v q x)) (sym at) (settle-IsThread (numbered p v) program x i)

  -- after a reply of the act's kind
  pub replied : (x : tree.Thread) (r : Reply) → IsThread p x → IsReplyTo (tree_step v o x) r → IsThread p (tree_settle v o (after_reply x (tree_step v o x) r))
  replied x r i k = settled (after_reply x (tree_step v o x) r) (after-typed p x (tree_step v o x) r i (step-keeps x i) k)

  -- from the entry of a function
  pub begun : (f : ℕ) (arguments : List Value) (r : tree.Restart) → AreArguments p f arguments → IsRestart p r → IsThread p (tree_settle v o (tree_entry o f arguments r))
  begun f arguments r is i =
      settled (tree_entry o f arguments r)
      (subst (λ q. IsThread p (tree_entry q f arguments r)) (sym at)
      (subst (λ q. IsThread p (entry_in f arguments r q)) (sym is.function_is) (entered p program f arguments r is i)))
