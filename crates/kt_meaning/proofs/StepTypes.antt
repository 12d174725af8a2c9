-- Each step of a thread of a version leaves a thread of that version, whatever reply of its kind an act gets; and each
-- value that an act stores or hands to a new thread is of its type.
use Rattle.std.proofs.Common.{◌≡◌, ℕ, zero, suc, pos, ◌+◌, ◌<◌, ◌⊎◌, inl, inr, ◌==◌, ◌&&◌, ◌∙◌, sym, ap, subst, true, false, Bool, cond, if◌then◌else◌, List, [], ◌∷◌, ◌++◌, length, map, slice_get, slice_set, Option, Some, None, Result, Ok, Err, refl, arith, codes}
use Rattle.std.proofs.lemmas.Bool.{and_parts, eqb-true, cases_order}
use Rattle.std.specs.Cmp.Lexicographic.{bytes_decides}
use Rattle.std.proofs.lemmas.Option.{none-some, same_Some}
use Rattle.kt_types.specs.declared.kinds.FieldDecl.{FieldDecl}
use Rattle.kt_types.specs.Table.{Table}
use Rattle.kt_mem.specs.declared.memory.Value.{Value}
use Rattle.kt_mem.specs.declared.memory.Value.TheVariants.{Num, Null, Ptr, Free, Held, Undef}
use Rattle.kt_mem.specs.declared.steps.Act.{Act}
use Rattle.kt_mem.specs.declared.steps.Act.TheVariants as act
use Rattle.kt_mem.specs.declared.steps.Reply.{Reply}
use Rattle.kt_mem.specs.declared.steps.Trap.{Trap}
use Rattle.kt_mem.specs.declared.steps.Trap.TheVariants as trap
use Rattle.kt_mem.specs.declared.thread.KeptLocal.{KeptLocal}
use Rattle.kt_mem.specs.declared.thread.Mode.TheVariants.{Normal}
use Rattle.kt_mem.specs.Values.{defined}
use Rattle.kt_tree.specs.Tree.{Function}
use Rattle.kt_tree.specs.Typed.{Kind, kind_of}
use Rattle.kt_tree.specs.Version.{Program, IsProgram, scope_of, outer_names, global_names, function_names}
use Rattle.kt_meaning.specs.Steps.{Step, Quiet, Acts, Traps, Ends}
use Rattle.kt_meaning.specs.Values.{IsAt, IsIn, AreIn, IsKind}
use Rattle.kt_meaning.proofs.OperationTypes.{HasScalars, truth-IsAt}
use Rattle.kt_meaning.specs.Requests.{Tells, given_type}
use Rattle.kt_meaning.specs.Thread.{Frame, Restart, Thread, Context, Work, at, defined_if, with_local, set_if_some, value_for, kept_value, is_updating, is_updating_from, context_after}
use Rattle.kt_meaning.specs.TreeSteps.{Version, function_at, last_value, last_step, return_to, return_step, is_main, end_value, returns_if, end_step}
use Rattle.kt_meaning.specs.ThreadTypes.{Stands, types_of, IsCall, AreBelow, AreKept, IsRestart, IsThread, IsTypedAct}

-- ---- locals

pub AreIn-get : (types : Table) (ts : List ℕ) (vs : List Value) (n t : ℕ) (v : Value) → AreIn types ts vs → slice_get ts n ≡ Some t →
    defined_if (slice_get vs n) ≡ Ok v → IsAt types t v
AreIn-get types [] vs n t v a h e = absurd (none-some t h)
AreIn-get types (u ∷ ts) [] n t v a h e = absurd a
AreIn-get types (u ∷ ts) (x ∷ vs) zero t v a h e = subst (λ k. IsAt types k v) (same_Some u t h) (by_case (a.0))
  where
    defined-same : (x : Value) → IsAt types u x → defined x ≡ Ok v → IsAt types u v
    defined-same Undef i e = absurd cc
    defined-same (Num z) i e = let same : Num z ≡ v = cc in subst (λ y. IsAt types u y) same i
    defined-same Null i e = let same : Null ≡ v = cc in subst (λ y. IsAt types u y) same i
    defined-same (Ptr n k) i e = let same : Ptr n k ≡ v = cc in subst (λ y. IsAt types u y) same i
    defined-same Free i e = let same : Free ≡ v = cc in subst (λ y. IsAt types u y) same i
    defined-same (Held k) i e = let same : Held k ≡ v = cc in subst (λ y. IsAt types u y) same i

    by_case : (x ≡ Undef) ⊎ IsAt types u x → IsAt types u v
    by_case (inl gone) = let no : ◌≡◌ {A = Result Value Trap} (Err trap.Uninit) (Ok v) = subst (λ y. defined y ≡ Ok v) gone e in absurd cc
    by_case (inr there) = defined-same x there e
AreIn-get types (u ∷ ts) (x ∷ vs) (suc n) t v a h e = AreIn-get types ts vs n t v (a.1) h e

pub AreIn-set : (types : Table) (ts : List ℕ) (vs : List Value) (n t : ℕ) (v : Value) → AreIn types ts vs → slice_get ts n ≡ Some t →
    IsIn types t v → AreIn types ts (slice_set vs n v)
AreIn-set types [] vs n t v a h i = absurd (none-some t h)
AreIn-set types (u ∷ ts) [] n t v a h i = absurd a
AreIn-set types (u ∷ ts) (x ∷ vs) zero t v a h i = (subst (λ k. IsIn types k v) (sym (same_Some u t h)) i, a.1)
AreIn-set types (u ∷ ts) (x ∷ vs) (suc n) t v a h i = (a.0, AreIn-set types ts vs n t v (a.1) h i)

-- ---- the thread goes on

-- all of a thread but the work of its first frame is the version's
pub record IsContext (p : Program) (x : Context) (f : Function) : Type 0 where
  pub call : IsCall p x.function x.locals f
  pub below : AreBelow p (kind_of f.result) x.below
  pub restart : IsRestart p x.restart

pub at-IsThread : (p : Program) (x : Context) (f : Function) (w : Work) → IsContext p x f → Stands (scope_of p f) f.result w → IsThread p (at x w)
at-IsThread p x f w c h = record { frames = (f, c.call, h, c.below); restart = c.restart }

pub set-IsContext : (p : Program) (x : Context) (f : Function) (n t : ℕ) (v : Value) → IsContext p x f → slice_get (types_of f.locals) n ≡ Some t →
    IsIn p.types t v → IsContext p (with_local x n v) f
set-IsContext p x f n t v c h i =
    record {
      call = record { function = c.call.function; locals = AreIn-set p.types (types_of f.locals) x.locals n t v c.call.locals h i };
      below = c.below;
      restart = c.restart;
    }

-- what comes after a step is a thread of the version
abbrev pub Keeps : Program → Step Thread → Type 0
Keeps p (Quiet t) = IsThread p t
Keeps p (Acts a go) = IsTypedAct p a × ((r : Reply) → Tells (given_type a) r → IsThread p (go r))
Keeps p (Traps t) = Unit {0}
Keeps p (Ends a) = Unit {0}

-- ---- what an act changes in the thread itself

pub get-map : {X Y : Type 0} (h : X → Y) (xs : List X) (n : ℕ) (x : X) → slice_get xs n ≡ Some x → slice_get (map h xs) n ≡ Some (h x)
get-map h [] n x e = absurd (none-some x e)
get-map h (y ∷ xs) zero x e = ap (λ z. Some (h z)) (same_Some y x e)
get-map h (y ∷ xs) (suc n) x e = get-map h xs n x e

pub get-map-none : {X Y : Type 0} (h : X → Y) (xs : List X) (n : ℕ) → slice_get xs n ≡ None → slice_get (map h xs) n ≡ None
get-map-none h [] n e = refl
get-map-none h (y ∷ xs) zero e = absurd (none-some y (sym e))
get-map-none h (y ∷ xs) (suc n) e = get-map-none h xs n e

-- a kept value is one for a local of the function
record IsFor (p : Program) (g n : ℕ) (v : Value) : Type 0 where
  function : Function
  local : FieldDecl
  function_is : slice_get p.functions g ≡ Some function
  local_is : slice_get function.locals n ≡ Some local
  value : IsIn p.types local.ty v

value_for-IsFor : (p : Program) (g n : ℕ) (kept : List KeptLocal) (v : Value) → AreKept p kept → value_for g n kept ≡ Some v → IsFor p g n v
value_for-IsFor p g n [] v a e = absurd (none-some v e)
value_for-IsFor p g n (k ∷ kept) v a e = by_test (value_for-IsFor p g n kept v (a.1)) ((k.function == g) && (k.local == n)) refl e
  where
    by_test : (value_for g n kept ≡ Some v → IsFor p g n v) → (b : Bool) → ((k.function == g) && (k.local == n)) ≡ b →
        cond b (Some k.value) (value_for g n kept) ≡ Some v → IsFor p g n v
    by_test later true t e =
        let parts = and_parts (k.function == g) (k.local == n) t in
        let h = a.0 in
        record {
          function = h.function;
          local = h.local;
          function_is = subst (λ m. slice_get p.functions m ≡ Some h.function) (eqb-true k.function g (parts.0)) h.function_is;
          local_is = subst (λ m. slice_get h.function.locals m ≡ Some h.local) (eqb-true k.local n (parts.1)) h.local_is;
          value = subst (λ x. IsIn p.types h.local.ty x) (same_Some k.value v e) h.value;
        }
    by_test later false t e = later e

kept_value-IsFor : (p : Program) (r : Restart) (g n : ℕ) (v : Value) → IsRestart p r → kept_value r g n ≡ Some v → IsFor p g n v
kept_value-IsFor p r g n v i e = by_test (is_updating r.mode) e
  where
    by_test : (b : Bool) → cond b (value_for g n r.kept) None ≡ Some v → IsFor p g n v
    by_test true e = value_for-IsFor p g n r.kept v i.kept e
    by_test false e = absurd (none-some v e)

migrated-AreIn : (p : Program) (x : Context) (f : Function) (n : ℕ) → IsContext p x f → (o : Option Value) → kept_value x.restart x.function n ≡ o →
    AreIn p.types (types_of f.locals) (set_if_some o n x.locals)
migrated-AreIn p x f n c None e = c.call.locals
migrated-AreIn p x f n c (Some v) e =
    let k = kept_value-IsFor p x.restart x.function n v c.restart e in
    let same : k.function ≡ f = same_Some k.function f (sym k.function_is ∙ c.call.function) in
    let there : slice_get f.locals n ≡ Some k.local = subst (λ g. slice_get g.locals n ≡ Some k.local) same k.local_is in
    AreIn-set p.types (types_of f.locals) x.locals n k.local.ty v c.call.locals (get-map (λ l. l.ty) f.locals n k.local there) k.value

restart-IsRestart : (p : Program) (b : Bool) (r : Restart) → IsRestart p r → IsRestart p (if b then record { mode = Normal; kept = [] } else r)
restart-IsRestart p true r i = record { mode = tt; kept = tt }
restart-IsRestart p false r i = i

-- an act that asks for a kept local asks for one of the function
abbrev pub IsOwn : ℕ → Act → Type 0
IsOwn f (act.MigrateLocal g n) = f ≡ g
IsOwn f _ = Unit {0}

pub context_after-IsContext : (p : Program) (x : Context) (f : Function) (a : Act) → IsContext p x f → IsOwn x.function a → IsContext p (context_after a x) f
context_after-IsContext p x f (act.Point n) c i =
    record { call = c.call; below = c.below; restart = restart-IsRestart p (is_updating_from n x.restart.mode) x.restart c.restart }
context_after-IsContext p x f (act.MigrateLocal g n) c i =
    record {
      call = record {
        function = c.call.function;
        locals = subst (λ h. AreIn p.types (types_of f.locals) (set_if_some (kept_value x.restart h n) n x.locals)) i
            (migrated-AreIn p x f n c (kept_value x.restart x.function n) refl);
      };
      below = c.below;
      restart = c.restart;
    }
context_after-IsContext p x f act.Tick c i = c
context_after-IsContext p x f (act.Load q t) c i = c
context_after-IsContext p x f (act.Store q t v) c i = c
context_after-IsContext p x f (act.Allocate e n zeros) c i = c
context_after-IsContext p x f (act.Release q) c i = c
context_after-IsContext p x f (act.Lock q) c i = c
context_after-IsContext p x f (act.Unlock q) c i = c
context_after-IsContext p x f (act.InitMutex q) c i = c
context_after-IsContext p x f act.GetChar c i = c
context_after-IsContext p x f (act.Wait q) c i = c
context_after-IsContext p x f (act.Signal q all) c i = c
context_after-IsContext p x f (act.Print ps) c i = c
context_after-IsContext p x f (act.Create g v) c i = c
context_after-IsContext p x f (act.Join n) c i = c
context_after-IsContext p x f act.Automigrate c i = c
context_after-IsContext p x f (act.UpdatingTest n) c i = c
context_after-IsContext p x f act.ThreadEnd c i = c
context_after-IsContext p x f (act.MainReturn n) c i = c

-- ---- functions

return_to-Keeps : (s : Version) (f : ℕ) (k : Kind) (below : List Frame) (r : Restart) (v : Value) → AreBelow s.program k below → IsRestart s.program r →
    IsKind s.program.types k v → Keeps s.program (return_to s f below r v)
return_to-Keeps s f k [] r v b i h = ends (function_at s f)
  where
    ends-value : (result : Option ℕ) (v : Value) → Keeps s.program (last_value result v)
    ends-value None v = tt
    ends-value (Some t) (Num n) = tt
    ends-value (Some t) Null = tt
    ends-value (Some t) (Ptr n o) = tt
    ends-value (Some t) Free = tt
    ends-value (Some t) (Held n) = tt
    ends-value (Some t) Undef = tt

    ends : (f : Option Function) → Keeps s.program (last_step f v)
    ends None = tt
    ends (Some f) = ends-value f.result v
return_to-Keeps s f k (g ∷ below) r v b i h = record { frames = (b.0, b.1, (b.2.0, b.2.1 v h, b.2.2), b.3); restart = i }

pub return-Keeps : (s : Version) (x : Context) (f : Function) (v : Value) → IsContext s.program x f → IsKind s.program.types (kind_of f.result) v →
    Keeps s.program (return_step s x v)
return-Keeps s x f v c h = return_to-Keeps s x.function (kind_of f.result) x.below x.restart v c.below c.restart h

-- the function named `main` gives an `int`
behind : (xs ys : List (List ℕ)) (n : ℕ) → slice_get (xs ++ ys) (length xs + n) ≡ slice_get ys n
behind [] ys n = let same : 0 + n ≡ n = omega arith in ap (slice_get ys) same
behind (x ∷ xs) ys n =
    let same : suc (length xs) + n ≡ suc (length xs + n) = omega arith in
    ap (slice_get (x ∷ xs ++ ys)) same ∙ behind xs ys n

name-at : (p : Program) (n : ℕ) (f : Function) → slice_get p.functions n ≡ Some f → slice_get (outer_names p) (length (global_names p) + n) ≡ Some f.name
name-at p n f e = behind (global_names p) (function_names p) n ∙ get-map (λ f. f.name) p.functions n f e

same-place : (p : Program) → IsProgram p → (n m : ℕ) (f g : Function) → slice_get p.functions n ≡ Some f → slice_get p.functions m ≡ Some g →
    f.name ≡ g.name → n ≡ m
same-place p h n m f g a b e = by_order (cases_order n m)
  where
    by_order : (n ≡ m) ⊎ ((n < m) ⊎ (m < n)) → n ≡ m
    by_order (inl same) = same
    by_order (inr (inl lt)) =
        absurd (h.distinct (length (global_names p) + n) (length (global_names p) + m) f.name g.name (omega (arith, lt)) (name-at p n f a) (name-at p m g b) e)
    by_order (inr (inr gt)) =
        absurd (h.distinct (length (global_names p) + m) (length (global_names p) + n) g.name f.name (omega (arith, gt)) (name-at p m g b) (name-at p n f a) (sym e))

main-result : (p : Program) → IsProgram p → (n : ℕ) (f : Function) → slice_get p.functions n ≡ Some f → is_main f ≡ true → f.result ≡ Some 1
main-result p h n f e m =
    let g : Function = h.main.1 in
    let named : f.name ≡ g.name = (bytes_decides f.name (codes "main")).0 m ∙ sym (h.main.3.0) in
    let place = same-place p h n (h.main.0) f g e (h.main.2) named in
    let same : f ≡ g = same_Some f g (sym e ∙ ap (slice_get p.functions) place ∙ h.main.2) in
    subst (λ (k : Function). k.result ≡ Some 1) (sym same) (h.main.3.1)

-- what the end of a body gives
pub end-Keeps : (s : Version) → IsProgram s.program → HasScalars s.program.types → (x : Context) (f : Function) → IsContext s.program x f →
    Keeps s.program (end_step s x (function_at s x.function))
end-Keeps s h scalars x f c =
    subst (λ o. Keeps s.program (end_step s x o)) (sym c.call.function) (by_test (is_main f) f.result refl refl)
  where
    by_test : (b : Bool) (r : Option ℕ) → is_main f ≡ b → f.result ≡ r → Keeps s.program (returns_if s x (end_value b r))
    by_test true r m e =
        return-Keeps s x f (Num (pos 0)) c
        (subst (λ r. IsKind s.program.types (kind_of r) (Num (pos 0))) (sym (main-result s.program h x.function f c.call.function m)) (truth-IsAt s.program.types scalars false))
    by_test false None m e = return-Keeps s x f Undef c (subst (λ r. IsKind s.program.types (kind_of r) Undef) (sym e) tt)
    by_test false (Some t) m e = tt
