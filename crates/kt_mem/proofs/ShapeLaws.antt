-- What holds of each object, whatever act comes: its shape, and that it carries its heap number.
use Rattle.std.proofs.Common.{◌≡◌, ℕ, pos, negsuc, zero, suc, inl, inr, Bool, List, [], ◌∷◌, ◌++◌, map, Option, Some, None, Result, Ok, Err, refl, sym, ◌∙◌, ap, subst, arith}
use Rattle.std.specs.Option.{option_map}
use Rattle.std.specs.Result.{result_unwrap_or}
use Rattle.kt_types.specs.Layout.{repeated as types_repeated}
use Rattle.kt_types.specs.declared.kinds.Ty.{Ty}
use Rattle.kt_types.specs.declared.kinds.Ty.TheVariants as ty
use Rattle.kt_mem.specs.declared.memory.Name.{Name}
use Rattle.kt_mem.specs.declared.memory.Name.TheVariants.{Heap}
use Rattle.kt_mem.specs.declared.memory.Value.{Value}
use Rattle.kt_mem.specs.declared.memory.Value.TheVariants.{Num, Null, Ptr, Free, Held, Undef}
use Rattle.kt_mem.specs.declared.steps.Trap.{Trap}
use Rattle.kt_mem.specs.Memory.{Memory, Object, Cell, put, value_in, value_at, object_with, with_value, written, and_then, unless_literal, locked, unlocked, initialised, fresh_cell, repeated, fresh_object, made, without, release}
use Rattle.kt_mem.specs.Laws.{Effect, Stores, Allocates, Releases, Locks, Unlocks, Inits, effect_on, SameShape, AllocKeepsOthers, FollowsLayout, StaysShaped, StaysNumbered, NumbersAreBelow}
use Rattle.kt_mem.proofs.Names.{same_name, put-same, put-other, put-cases}
use Rattle.kt_mem.proofs.Changes.{written_ok, and_then_ok, alloc_ok, release_ok}
use Rattle.kt_mem.proofs.MemoryLaws.{same_shape-with, live_below}

pub alloc_keeps_others : AllocKeepsOthers
alloc_keeps_others m after place types (pos count) zeros n h ne =
    let a = alloc_ok m after place count types zeros h in
    rw a.1 (put-cases (λ x. x ≡ m.at n) m.at (Heap m.next) n (Some (fresh_object m.next place types count zeros)) (λ same. absurd (ne same)) (λ _. refl))
alloc_keeps_others m after place types (negsuc count) zeros n h ne = cc

pub numbers_are_below : NumbersAreBelow
numbers_are_below m a o i was = live_below m a o i was

-- ---- what holds of each object

abbrev AllObjects : (Name → Object → Type 0) → Memory → Type 0
AllObjects P m = (n : Name) (o : Object) → m.at n ≡ Some o → P n o

-- it is said of shape alone
abbrev KeepsShape : (Name → Object → Type 0) → Type 0
KeepsShape P = (n : Name) (o p : Object) → SameShape o p → P n o → P n p

some_is : (x : Option Object) (o p : Object) → x ≡ Some o → x ≡ Some p → o ≡ p
some_is x o p h k = cc

-- a value that is written
objects_wrote : (P : Name → Object → Type 0) → KeepsShape P → (m : Memory) (p : Value) (t : Ty) (old new : Value) → value_at m p t ≡ Ok old → AllObjects P m → AllObjects P (with_value m p t new)
objects_wrote P keeps m (Ptr q k) t old new h all n o now =
    elim (same_name n q) [ inl same ↦ by_object (m.at q) refl same | inr other ↦ all n o (sym (put-other m.at q n _ other) ∙ now) ]
  where
    by_object : (x : Option Object) → m.at q ≡ x → n ≡ q → P n o
    by_object None e same =
        let lost : value_in None k t ≡ Ok old = subst (λ (y : Option Object). value_in y k t ≡ Ok old) e h in
        let never : ⊥ = cc in
        absurd never
    by_object (Some x) e same =
        let c : Cell = record { ty = t; value = new } in
        let was : m.at n ≡ Some x = ap m.at same ∙ e in
        let held : value_in (Some x) k t ≡ Ok old = subst (λ (y : Option Object). value_in y k t ≡ Ok old) e h in
        let there : put m.at q (option_map (object_with k c) (m.at q)) n ≡ Some (object_with k c x) = rw (same, put-same m.at q (option_map (object_with k c) (m.at q)), e) in
        subst (λ (y : Object). P n y) (some_is _ (object_with k c x) o there now) (keeps n x (object_with k c x) (same_shape-with x k t old new held) (all n x was))
objects_wrote P keeps m (Num z) t old new h all n o now = all n o now
objects_wrote P keeps m Null t old new h all n o now = all n o now
objects_wrote P keeps m Free t old new h all n o now = all n o now
objects_wrote P keeps m (Held w) t old new h all n o now = all n o now
objects_wrote P keeps m Undef t old new h all n o now = all n o now

objects_written : (P : Name → Object → Type 0) → KeepsShape P → (m after : Memory) (p : Value) (t : Ty) (f : Value → Result Value Trap) → written m p t (and_then (value_at m p t) f) ≡ Ok after → AllObjects P m → AllObjects P after
objects_written P keeps m after p t f h all =
    let w = written_ok m after p t (and_then (value_at m p t) f) h in
    let a = and_then_ok (value_at m p t) f w.0 w.1 in
    subst (AllObjects P) (sym w.2) (objects_wrote P keeps m p t a.0 w.0 a.1 all)

-- a new object
objects_made : (P : Name → Object → Type 0) (m : Memory) (o : Object) → P (Heap m.next) o → AllObjects P m → AllObjects P (made m m.next o)
objects_made P m o new all n p now =
    elim (same_name n (Heap m.next)) [ inl same ↦ subst (λ (q : Name). P q p) (sym same) (subst (λ (x : Object). P (Heap m.next) x) (some_is _ o p (put-same m.at (Heap m.next) (Some o)) (subst (λ (q : Name). put m.at (Heap m.next) (Some o) q ≡ Some p) same now)) new) | inr other ↦ all n p (sym (put-other m.at (Heap m.next) n (Some o) other) ∙ now) ]

-- one object less
objects_without : (P : Name → Object → Type 0) (m : Memory) (a : ℕ) (o : Object) → AllObjects P m → AllObjects P (without m a o)
objects_without P m a o all n p now =
    elim (same_name n (Heap a)) [ inl same ↦ absurd (gone (subst (λ (q : Name). put m.at (Heap a) None q ≡ Some p) same now)) | inr other ↦ all n p (sym (put-other m.at (Heap a) n None other) ∙ now) ]
  where
    gone : put m.at (Heap a) None (Heap a) ≡ Some p → ⊥
    gone h = let none = put-same m.at (Heap a) None in cc

objects_released : (P : Name → Object → Type 0) (m after : Memory) (p : Value) → release m p ≡ Ok after → AllObjects P m → AllObjects P after
objects_released P m after (Ptr n k) h all =
    let r = release_ok m after n k h in subst (AllObjects P) (sym r.4) (objects_without P m r.0 r.1 all)
objects_released P m after Null h all = let same : m ≡ after = cc in subst (AllObjects P) same all
objects_released P m after (Num z) h all = let never : ⊥ = cc in absurd never
objects_released P m after Free h all = let never : ⊥ = cc in absurd never
objects_released P m after (Held w) h all = let never : ⊥ = cc in absurd never
objects_released P m after Undef h all = let never : ⊥ = cc in absurd never

-- what holds of each new object
abbrev HoldsOfNew : (Name → Object → Type 0) → Memory → Effect → Type 0
HoldsOfNew P m (Allocates place types (pos count) zeros) = P (Heap m.next) (fresh_object m.next place types count zeros)
HoldsOfNew P m _ = Unit {0}

-- one act
objects_after : (P : Name → Object → Type 0) → KeepsShape P → (m after : Memory) (e : Effect) → HoldsOfNew P m e → effect_on m e ≡ Ok after → AllObjects P m → AllObjects P after
objects_after P keeps m after (Stores p t new) fresh h all = objects_written P keeps m after p t (λ old. unless_literal p new) h all
objects_after P keeps m after (Allocates place types (pos count) zeros) fresh h all =
    let a = alloc_ok m after place count types zeros h in
    subst (AllObjects P) (sym a.1) (objects_made P m (fresh_object m.next place types count zeros) fresh all)
objects_after P keeps m after (Allocates place types (negsuc count) zeros) fresh h all =
    let never : ⊥ = cc in absurd never
objects_after P keeps m after (Releases p) fresh h all = objects_released P m after p h all
objects_after P keeps m after (Locks thread p) fresh h all = objects_written P keeps m after p ty.Mutex (locked thread) h all
objects_after P keeps m after (Unlocks thread p) fresh h all = objects_written P keeps m after p ty.Mutex (unlocked thread) h all
objects_after P keeps m after (Inits p) fresh h all = objects_written P keeps m after p ty.Mutex initialised h all

-- one act, also one that traps
objects_step : (P : Name → Object → Type 0) → KeepsShape P → (m : Memory) (e : Effect) → HoldsOfNew P m e → AllObjects P m → AllObjects P (result_unwrap_or (effect_on m e) m)
objects_step P keeps m e fresh all = by_answer (effect_on m e) refl
  where
    by_answer : (r : Result Memory Trap) → effect_on m e ≡ r → AllObjects P (result_unwrap_or r m)
    by_answer (Ok after) h = objects_after P keeps m after e fresh h all
    by_answer (Err t) h = all

-- ---- shapes

types-repeated : (count : ℕ) (zeros : Bool) (types : List Ty) → map (λ c. c.ty) (repeated count (map (fresh_cell zeros) types)) ≡ types_repeated count types
unfolding types_repeated
types-repeated zero zeros types = refl
types-repeated (suc n) zeros types =
    map_append (map (fresh_cell zeros) types) (repeated n (map (fresh_cell zeros) types)) ∙ rw (types_of types, types-repeated n zeros types)
  where
    map_append : (xs ys : List Cell) → map (λ c. c.ty) (xs ++ ys) ≡ map (λ c. c.ty) xs ++ map (λ c. c.ty) ys
    map_append [] ys = refl
    map_append (x ∷ xs) ys = ap (λ ts. x.ty ∷ ts) (map_append xs ys)

    types_of : (ts : List Ty) → map (λ c. c.ty) (map (fresh_cell zeros) ts) ≡ ts
    types_of [] = refl
    types_of (t ∷ ts) = ap (λ us. t ∷ us) (types_of ts)

abbrev HasShape : (ℕ → Option (List Ty)) → Name → Object → Type 0
HasShape layout n o = option_map (types_repeated o.count) (layout o.ty) ≡ Some (map (λ c. c.ty) o.cells)

keeps_shape : (layout : ℕ → Option (List Ty)) → KeepsShape (HasShape layout)
keeps_shape layout n o p same has = rw (same.ty, same.count, same.types) has

new_shape : (layout : ℕ → Option (List Ty)) (m : Memory) (e : Effect) → FollowsLayout layout e → HoldsOfNew (HasShape layout) m e
new_shape layout m (Allocates place types (pos count) zeros) follows =
    rw follows (ap Some (sym (types-repeated count zeros types)))
new_shape layout m (Allocates place types (negsuc count) zeros) follows = tt
new_shape layout m (Stores p t new) follows = tt
new_shape layout m (Releases p) follows = tt
new_shape layout m (Locks thread p) follows = tt
new_shape layout m (Unlocks thread p) follows = tt
new_shape layout m (Inits p) follows = tt

pub stays_shaped : StaysShaped
stays_shaped layout m [] follow shaped = shaped
stays_shaped layout m (e ∷ es) follow shaped =
    stays_shaped layout (result_unwrap_or (effect_on m e) m) es (λ k d h. follow (suc k) d (omega arith)) (objects_step (HasShape layout) (keeps_shape layout) m e (new_shape layout m e (follow 0 e (omega arith))) shaped)

-- ---- numbers

abbrev OwnNumber : Name → Object → Type 0
OwnNumber n o = (a : ℕ) → n ≡ Heap a → o.number ≡ a

keeps_number : KeepsShape OwnNumber
keeps_number n o p same own a is = same.number ∙ own a is

new_number : (m : Memory) (e : Effect) → HoldsOfNew OwnNumber m e
new_number m (Allocates place types (pos count) zeros) = λ a same. cc
new_number m (Allocates place types (negsuc count) zeros) = tt
new_number m (Stores p t new) = tt
new_number m (Releases p) = tt
new_number m (Locks thread p) = tt
new_number m (Unlocks thread p) = tt
new_number m (Inits p) = tt

pub stays_numbered : StaysNumbered
stays_numbered m [] own = own
stays_numbered m (e ∷ es) own =
    let each = objects_step OwnNumber keeps_number m e (new_number m e) (λ n o was a is. own a o (rw (← is) was)) in
    stays_numbered (result_unwrap_or (effect_on m e) m) es (λ a o was. each (Heap a) o was a refl)
