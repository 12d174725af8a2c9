-- Acts on memory keep its literals; stores of mutexes.
use Rattle.std.proofs.Common.{◌≡◌, ℕ, zero, suc, ◌+◌, List, [], ◌∷◌, slice_get, Option, Some, None, Result, Ok, Err, IfErr, OnOk, OnErr, refl, sym, ◌∙◌, ap}
use Rattle.std.specs.List.{AllByRecursion}
use Rattle.kt_types.specs.declared.kinds.Ty.{Ty}
use Rattle.kt_types.specs.declared.kinds.Ty.TheVariants as ty
use Rattle.kt_mem.specs.declared.memory.Name.TheVariants.{Glob, Lit, Heap}
use Rattle.kt_mem.specs.declared.memory.Value.{Value}
use Rattle.kt_mem.specs.declared.memory.Value.TheVariants.{Num, Null, Ptr, Free, Held, Undef}
use Rattle.kt_mem.specs.declared.steps.Trap.{Trap}
use Rattle.kt_mem.specs.declared.steps.Trap.TheVariants as trap
use Rattle.kt_mem.specs.Memory.{Memory, Object, Cell, put, cell_value, value_in, value_at, and_then, written, with_value, unless_literal, store, release, released, without, made}
use Rattle.kt_meaning.specs.Effects.{Shared, Replies, leaves, with_memory}
use Rattle.kt_lone.specs.Update.{or_same, placed_one, placed_from}
use Rattle.kt_machine.specs.Outside.{HasCharLiterals, KeepsLiterals, left_by, done}

-- ---- literals

pub kept-HasCharLiterals : (old new : Memory) → KeepsLiterals old new → HasCharLiterals old → HasCharLiterals new
kept-HasCharLiterals old new kept h v i o e = h v i o (sym (kept v i) ∙ e)

ok-err : {A P : Type 0} (e : Trap) (m : A) → ◌≡◌ {A = Result A Trap} (Err e) (Ok m) → P
ok-err e m h = cc

same-ok : {A : Type 0} (m n : A) → ◌≡◌ {A = Result A Trap} (Ok m) (Ok n) → m ≡ n
same-ok m n h = cc

-- a store that is made leaves the literals
stored-literals : (m new : Memory) (p : Value) (t : Ty) (v : Value) (r : Result Value Trap) → written m p t (and_then r (λ old. unless_literal p v)) ≡ Ok new → KeepsLiterals m new
unfolding put
stored-literals m new p t v (Err e) h w i = ok-err e new h
stored-literals m new Null t v (Ok u) h w i = ap (λ (x : Memory). x.at (Lit w i)) (sym (same-ok m new h))
stored-literals m new (Num z) t v (Ok u) h w i = ap (λ (x : Memory). x.at (Lit w i)) (sym (same-ok m new h))
stored-literals m new Free t v (Ok u) h w i = ap (λ (x : Memory). x.at (Lit w i)) (sym (same-ok m new h))
stored-literals m new (Held k) t v (Ok u) h w i = ap (λ (x : Memory). x.at (Lit w i)) (sym (same-ok m new h))
stored-literals m new Undef t v (Ok u) h w i = ap (λ (x : Memory). x.at (Lit w i)) (sym (same-ok m new h))
stored-literals m new (Ptr (Glob g) k) t v (Ok u) h w i =
    ap (λ (x : Memory). x.at (Lit w i)) (sym (same-ok (with_value m (Ptr (Glob g) k) t v) new h))
stored-literals m new (Ptr (Heap a) k) t v (Ok u) h w i =
    ap (λ (x : Memory). x.at (Lit w i)) (sym (same-ok (with_value m (Ptr (Heap a) k) t v) new h))
stored-literals m new (Ptr (Lit x j) k) t v (Ok u) h w i = ok-err trap.Literal new h

pub store-literals : (m new : Memory) (p : Value) (t : Ty) (v : Value) → store m p t v ≡ Ok new → KeepsLiterals m new
store-literals m new p t v h = stored-literals m new p t v (value_at m p t) h

-- as do a release and an allocation
released-literals : (m new : Memory) (n : Value) (k : ℕ) (o : Option Object) → (a : ℕ) → released m (Heap a) k o ≡ Ok new → KeepsLiterals m new
unfolding put
released-literals m new n k None a h w i = ok-err trap.Dead new h
released-literals m new n zero (Some o) a h w i = ap (λ (x : Memory). x.at (Lit w i)) (sym (same-ok (without m a o) new h))
released-literals m new n (suc k) (Some o) a h w i = ok-err trap.Free new h

pub same-literals : (m new : Memory) → new ≡ m → KeepsLiterals m new
same-literals m new e w i = ap (λ (x : Memory). x.at (Lit w i)) e

of-glob : (m new : Memory) (g k : ℕ) (o : Option Object) → released m (Glob g) k o ≡ Ok new → KeepsLiterals m new
of-glob m new g k None h w i = ok-err trap.Dead new h
of-glob m new g k (Some o) h w i = ok-err trap.Free new h

of-lit : (m new : Memory) (x j k : ℕ) (o : Option Object) → released m (Lit x j) k o ≡ Ok new → KeepsLiterals m new
of-lit m new x j k None h w i = ok-err trap.Dead new h
of-lit m new x j k (Some o) h w i = ok-err trap.Free new h

pub release-literals : (m new : Memory) (p : Value) → release m p ≡ Ok new → KeepsLiterals m new
release-literals m new Null h = same-literals m new (sym (same-ok m new h))
release-literals m new (Ptr (Glob g) k) h = of-glob m new g k (m.at (Glob g)) h
release-literals m new (Ptr (Lit x j) k) h = of-lit m new x j k (m.at (Lit x j)) h
release-literals m new (Ptr (Heap a) k) h = released-literals m new Null k (m.at (Heap a)) a h
release-literals m new (Num z) h = ok-err trap.Dead new h
release-literals m new Free h = ok-err trap.Dead new h
release-literals m new (Held k) h = ok-err trap.Dead new h
release-literals m new Undef h = ok-err trap.Dead new h

placed_one-literals : (i : ℕ) (v : Option Value) (m : Memory) → KeepsLiterals m (placed_one i v m)
placed_one-literals i None m = same-literals m m refl
placed_one-literals i (Some v) m = by_answer (store m (Ptr (Glob i) 0) ty.Int v) refl
  where
    by_answer : (r : Result Memory Trap) → store m (Ptr (Glob i) 0) ty.Int v ≡ r → KeepsLiterals m (or_same m r)
    by_answer (Ok n) e = store-literals m n (Ptr (Glob i) 0) ty.Int v e
    by_answer (Err t) e = same-literals m m refl

placed_from-literals : (i : ℕ) (kept : List (Option Value)) (m : Memory) → KeepsLiterals m (placed_from i kept m)
placed_from-literals i [] m w j = refl
placed_from-literals i (v ∷ kept) m w j =
    placed_from-literals (i + 1) kept (placed_one i v m) w j ∙ placed_one-literals i v m w j

-- as do kept values that are placed
pub placed-literals : (i : ℕ) (kept : List (Option Value)) (m new : Memory) → new ≡ placed_from i kept m → KeepsLiterals m new
placed-literals i kept m new e w j = ap (λ (x : Memory). x.at (Lit w j)) e ∙ placed_from-literals i kept m w j

pub made-literals : (m new : Memory) (a : ℕ) (o : Object) → new ≡ made m a o → KeepsLiterals m new
unfolding put
made-literals m new a o e w i = ap (λ (x : Memory). x.at (Lit w i)) e

-- the clauses of an act that may leave another memory
pub answer-literals : {A : Type 0} (m new : Memory) (r : Result Memory Trap) (answer : Result A Trap) → ((n : Memory) → r ≡ Ok n → KeepsLiterals m n) → r ≡ left_by answer new → OnErr answer (new ≡ m) → KeepsLiterals m new
answer-literals m new r (Ok x) keeps left kept = keeps new left
answer-literals m new r (Err t) keeps left kept = same-literals m new kept

pub answer-left : {A : Type 0} (r : Result Memory Trap) (answer : Result A Trap) (new : Memory) → OnOk answer (r ≡ Ok new) → IfErr answer (λ t. r ≡ Err t) → r ≡ left_by answer new
answer-left r (Ok x) new made failed = made
answer-left r (Err t) new made failed = failed

-- and its reply
pub answer-leaves : {A : Type 0} (s : Shared) (r : Result Memory Trap) (answer : Result A Trap) (new : Memory) → r ≡ left_by answer new → OnErr answer (new ≡ s.memory) → leaves s r ≡ Replies (done answer) (with_memory s new)
answer-leaves s r (Ok x) new left kept = rw left refl
answer-leaves s r (Err t) new left kept = rw (left, kept) refl

-- ---- mutexes

cells-no-mutex : (cs : List Cell) (k : ℕ) → AllByRecursion (λ c. c.ty ≡ ty.Char) cs → cell_value (slice_get cs k) ty.Mutex ≡ Err trap.Bounds
cells-no-mutex [] k h = refl
cells-no-mutex (c ∷ cs) zero h = rw (h.0) refl
cells-no-mutex (c ∷ cs) (suc k) h = cells-no-mutex cs k (h.1)

-- no literal has a mutex
literal-no-mutex : (m : Memory) (x j k : ℕ) (u : Value) → HasCharLiterals m → value_at m (Ptr (Lit x j) k) ty.Mutex ≡ Ok u → ⊥
literal-no-mutex m x j k u h e = by_object (m.at (Lit x j)) refl e
  where
    by_object : (o : Option Object) → m.at (Lit x j) ≡ o → value_in o k ty.Mutex ≡ Ok u → ⊥
    by_object None i e = ok-err trap.Dead u e
    by_object (Some o) i e = ok-err trap.Bounds u (sym (cells-no-mutex o.cells k (h x j o i)) ∙ e)

-- so what a mutex becomes is stored
pub mutex-store : (m : Memory) (p v u : Value) → HasCharLiterals m → value_at m p ty.Mutex ≡ Ok u → store m p ty.Mutex v ≡ written m p ty.Mutex (Ok v)
mutex-store m (Ptr (Lit x j) k) v u h e = absurd (literal-no-mutex m x j k u h e)
mutex-store m (Ptr (Glob g) k) v u h e = rw e refl
mutex-store m (Ptr (Heap a) k) v u h e = rw e refl
mutex-store m Null v u h e = ok-err trap.Null u e
mutex-store m (Num z) v u h e = ok-err trap.Dead u e
mutex-store m Free v u h e = ok-err trap.Dead u e
mutex-store m (Held k) v u h e = ok-err trap.Dead u e
mutex-store m Undef v u h e = ok-err trap.Dead u e
