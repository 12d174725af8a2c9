-- The reply that an act gets is of its kind, and memory stays typed.
use Rattle.std.specs.Prelude.{IsTrue}
use Rattle.std.proofs.Common.{◌≡◌, ℕ, zero, suc, ℤ, pos, negsuc, ◌+◌, ◌*◌, ◌<◌, ◌^◌, ◌⊎◌, inl, inr, ◌==◌, ◌||◌, ◌∙◌, sym, ap, subst, true, false, Bool, cond, if◌then◌else◌, nat_lt, List, [], ◌∷◌, ◌++◌, length, drop, slice_get, Option, Some, None, Result, Ok, Err, refl, arith}
use Rattle.std.specs.List.{list_any, AllByRecursion}
use Rattle.std.proofs.lemmas.Bool.{false≢true, and_parts, eqb-true}
use Rattle.std.proofs.lemmas.Bool.Decides.{nat_tests}
use Rattle.kt_types.specs.declared.kinds.Ty.{Ty}
use Rattle.kt_types.specs.declared.kinds.Ty.TheVariants as ty
use Rattle.kt_types.specs.Table.{Table}
use Rattle.kt_types.specs.Layout.{cells}
use Rattle.kt_mem.specs.Memory.{Cell}
use Rattle.kt_mem.specs.declared.memory.Name.{Name}
use Rattle.kt_mem.specs.declared.memory.Name.TheVariants.{Glob, Lit, Heap}
use Rattle.kt_mem.specs.declared.memory.Value.{Value}
use Rattle.kt_mem.specs.declared.memory.Value.TheVariants.{Num, Null, Ptr, Free, Held, Undef}
use Rattle.kt_mem.specs.declared.steps.Act.{Act}
use Rattle.kt_mem.specs.declared.steps.Act.TheVariants as act
use Rattle.kt_mem.specs.declared.steps.Piece.{Piece}
use Rattle.kt_mem.specs.declared.steps.Piece.TheVariants as piece
use Rattle.kt_mem.specs.declared.steps.Reply.TheVariants.{Done, Got}
use Rattle.kt_mem.specs.declared.steps.Trap.{Trap}
use Rattle.kt_mem.specs.declared.steps.Trap.TheVariants as trap
use Rattle.kt_mem.specs.Values.{ty_eq, defined, int_eq}
use Rattle.kt_mem.specs.Memory.{Memory, Object, cell_value, value_in, value_at, and_then, load, written, unless_literal, store, locked, unlocked, initialised, lock, unlock, init_mutex, waits, alloc_fault, unless_fault, alloc, released, release}
use Rattle.kt_meaning.specs.Values.{is_of}
use Rattle.kt_meaning.proofs.OperationTypes.{and-true}
use Rattle.kt_meaning.proofs.RequestTypes.{small-int}
use Rattle.kt_meaning.specs.Requests.{byte_of, given_type, traps_of, is_text, print_traps, Among, Tells, takes_reply}
use Rattle.kt_meaning.specs.Laws.{IsTyped, IsShared, IsOutcomeOf}
use Rattle.kt_meaning.specs.Effects.{Shared, Replies, Waits, followed, text_with, text_of, text_in, text_at, and_rest, pieces_text, traps_with, reads, leaves, makes, next_byte, writes, effect}

-- ---- the traps of a place

abbrev place_traps : List Trap
place_traps = trap.Null ∷ trap.Dead ∷ trap.Bounds ∷ []

with-more : (e : Trap) (more : List Trap) → Among e place_traps → Among e (trap.Null ∷ trap.Dead ∷ trap.Bounds ∷ more)
with-more e more (inl h) = inl h
with-more e more (inr (inl h)) = inr (inl h)
with-more e more (inr (inr (inl h))) = inr (inr (inl h))
with-more e more (inr (inr (inr h))) = absurd h

-- an error is this one
same-err : {A : Type 0} (e f : Trap) → ◌≡◌ {A = Result A Trap} (Err e) (Err f) → f ≡ e
same-err e f h = cc

pub err-ok : {A : Type 0} (e : Trap) (v : A) → ◌≡◌ {A = Result A Trap} (Err e) (Ok v) → ⊥
err-ok e v h = cc

pub ok-err : {A : Type 0} (e : Trap) (v : A) → ◌≡◌ {A = Result A Trap} (Ok v) (Err e) → ⊥
ok-err e v h = cc

pub same-ok : {A : Type 0} (u v : A) → ◌≡◌ {A = Result A Trap} (Ok u) (Ok v) → u ≡ v
same-ok u v h = cc

cell-traps : (o : Option Cell) (t : Ty) (e : Trap) → cell_value o t ≡ Err e → Among e place_traps
cell-traps None t e h = inr (inr (inl (same-err trap.Bounds e h)))
cell-traps (Some c) t e h = by_test (ty_eq c.ty t) h
  where
    by_test : (b : Bool) → cond b (Ok c.value) (Err trap.Bounds) ≡ Err e → Among e place_traps
    by_test true h = absurd (ok-err e c.value h)
    by_test false h = inr (inr (inl (same-err trap.Bounds e h)))

object-traps : (o : Option Object) (k : ℕ) (t : Ty) (e : Trap) → value_in o k t ≡ Err e → Among e place_traps
object-traps None k t e h = inr (inl (same-err trap.Dead e h))
object-traps (Some o) k t e h = cell-traps (slice_get o.cells k) t e h

place-traps : (m : Memory) (p : Value) (t : Ty) (e : Trap) → value_at m p t ≡ Err e → Among e place_traps
place-traps m Null t e h = inl (same-err trap.Null e h)
place-traps m (Ptr n k) t e h = object-traps (m.at n) k t e h
place-traps m (Num z) t e h = inr (inl (same-err trap.Dead e h))
place-traps m Free t e h = inr (inl (same-err trap.Dead e h))
place-traps m (Held k) t e h = inr (inl (same-err trap.Dead e h))
place-traps m Undef t e h = inr (inl (same-err trap.Dead e h))

-- a trap at a place, or one of what comes behind it
behind-traps : (r : Result Value Trap) (f : Value → Result Value Trap) (e : Trap) (more : List Trap) → ((e : Trap) → r ≡ Err e → Among e place_traps) →
    ((v : Value) → f v ≡ Err e → Among e more) → and_then r f ≡ Err e → Among e (trap.Null ∷ trap.Dead ∷ trap.Bounds ∷ more)
behind-traps (Ok v) f e more a b h = inr (inr (inr (b v h)))
behind-traps (Err d) f e more a b h = with-more e more (a e h)

written-traps : (m : Memory) (p : Value) (t : Ty) (r : Result Value Trap) (e : Trap) → written m p t r ≡ Err e → r ≡ Err e
written-traps m p t (Ok v) e h = absurd (ok-err e _ h)
written-traps m p t (Err d) e h = cc

undefined-traps : (v : Value) (e : Trap) → defined v ≡ Err e → Among e (trap.Uninit ∷ [])
undefined-traps Undef e h = inl (same-err trap.Uninit e h)
undefined-traps (Num z) e h = absurd (ok-err e _ h)
undefined-traps Null e h = absurd (ok-err e _ h)
undefined-traps (Ptr n k) e h = absurd (ok-err e _ h)
undefined-traps Free e h = absurd (ok-err e _ h)
undefined-traps (Held k) e h = absurd (ok-err e _ h)

-- ---- loads and stores

same-type : (t u : Ty) → ty_eq t u ≡ true → t ≡ u
same-type ty.Char ty.Char h = refl
same-type ty.Int ty.Int h = refl
same-type ty.Long ty.Long h = refl
same-type ty.Mutex ty.Mutex h = refl
same-type (ty.Struct i) (ty.Struct j) h = ap ty.Struct (eqb-true i j h)
same-type (ty.Array i n) (ty.Array j m) h =
    let parts = and_parts (i == j) (n == m) h in
    λ k. ty.Array (eqb-true i j (parts.0) k) (eqb-true n m (parts.1) k)
same-type (ty.Ptr i) (ty.Ptr j) h = ap ty.Ptr (eqb-true i j h)
same-type _ _ h = absurd (false≢true h)

-- what a place holds is of the type at which it is read, or undefined
cell-typed : (o : Option Cell) (t : Ty) (v : Value) → ((c : Cell) → o ≡ Some c → (c.value ≡ Undef) ⊎ IsTrue (is_of c.ty c.value)) → cell_value o t ≡ Ok v →
    (v ≡ Undef) ⊎ IsTrue (is_of t v)
cell-typed None t v typed h = absurd (err-ok trap.Bounds v h)
cell-typed (Some c) t v typed h = by_test (ty_eq c.ty t) refl h
  where
    there : (u : Ty) → c.ty ≡ u → c.value ≡ v → (c.value ≡ Undef) ⊎ IsTrue (is_of c.ty c.value) → (v ≡ Undef) ⊎ IsTrue (is_of u v)
    there u e is (inl gone) = inl (sym is ∙ gone)
    there u e is (inr i) = inr (subst (λ x. is_of u x ≡ true) is (subst (λ k. is_of k c.value ≡ true) e i))

    by_test : (b : Bool) → ty_eq c.ty t ≡ b → cond b (Ok c.value) (Err trap.Bounds) ≡ Ok v → (v ≡ Undef) ⊎ IsTrue (is_of t v)
    by_test true e h = there t (same-type c.ty t e) (same-ok c.value v h) (typed c refl)
    by_test false e h = absurd (err-ok trap.Bounds v h)

value-typed : (m : Memory) (p : Value) (t : Ty) (v : Value) → IsTyped m → value_at m p t ≡ Ok v → (v ≡ Undef) ⊎ IsTrue (is_of t v)
value-typed m (Ptr n k) t v typed h = by_object (m.at n) refl h
  where
    by_object : (o : Option Object) → m.at n ≡ o → value_in o k t ≡ Ok v → (v ≡ Undef) ⊎ IsTrue (is_of t v)
    by_object None e h = absurd (err-ok trap.Dead v h)
    by_object (Some o) e h = cell-typed (slice_get o.cells k) t v (λ c i. typed n o k c e i) h
value-typed m Null t v typed h = absurd (err-ok trap.Null v h)
value-typed m (Num z) t v typed h = absurd (err-ok trap.Dead v h)
value-typed m Free t v typed h = absurd (err-ok trap.Dead v h)
value-typed m (Held k) t v typed h = absurd (err-ok trap.Dead v h)
value-typed m Undef t v typed h = absurd (err-ok trap.Dead v h)

defined-is : (u v : Value) → defined u ≡ Ok v → (u ≡ v) × (u ≡ Undef → ⊥)
defined-is Undef v h = absurd (err-ok trap.Uninit v h)
defined-is (Num z) v h = (same-ok (Num z) v h, λ e. absurd (ok-err trap.Uninit v (subst (λ x. ◌≡◌ {A = Result Value Trap} (Ok v) (defined x)) e (sym h))))
defined-is Null v h = (same-ok Null v h, λ e. absurd (ok-err trap.Uninit v (subst (λ x. ◌≡◌ {A = Result Value Trap} (Ok v) (defined x)) e (sym h))))
defined-is (Ptr n k) v h = (same-ok (Ptr n k) v h, λ e. absurd (ok-err trap.Uninit v (subst (λ x. ◌≡◌ {A = Result Value Trap} (Ok v) (defined x)) e (sym h))))
defined-is Free v h = (same-ok Free v h, λ e. absurd (ok-err trap.Uninit v (subst (λ x. ◌≡◌ {A = Result Value Trap} (Ok v) (defined x)) e (sym h))))
defined-is (Held k) v h = (same-ok (Held k) v h, λ e. absurd (ok-err trap.Uninit v (subst (λ x. ◌≡◌ {A = Result Value Trap} (Ok v) (defined x)) e (sym h))))

load-typed : (m : Memory) (p : Value) (t : Ty) (v : Value) → IsTyped m → load m p t ≡ Ok v → is_of t v ≡ true
load-typed m p t v typed h = by_value (value_at m p t) refl h
  where
    by_case : (u : Value) → (u ≡ v) × (u ≡ Undef → ⊥) → (u ≡ Undef) ⊎ IsTrue (is_of t u) → is_of t v ≡ true
    by_case u d (inl gone) = absurd (d.1 gone)
    by_case u d (inr i) = subst (λ x. is_of t x ≡ true) (d.0) i

    by_value : (r : Result Value Trap) → value_at m p t ≡ r → and_then r defined ≡ Ok v → is_of t v ≡ true
    by_value (Ok u) e h = by_case u (defined-is u v h) (value-typed m p t u typed e)
    by_value (Err d) e h = absurd (err-ok d v h)

reads-outcome : (s : Shared) (p : Value) (t : Ty) → IsShared s → IsOutcomeOf (act.Load p t) (reads s (load s.memory p t))
reads-outcome s p t i = by_answer (load s.memory p t) refl
  where
    by_answer : (r : Result Value Trap) → load s.memory p t ≡ r → IsOutcomeOf (act.Load p t) (reads s r)
    by_answer (Ok v) e = (refl, load-typed s.memory p t v i.memory e)
    by_answer (Err d) e = (refl, behind-traps (value_at s.memory p t) defined d (trap.Uninit ∷ []) (λ d h. place-traps s.memory p t d h) (λ v h. undefined-traps v d h) e)

-- an act that leaves a memory
leaves-outcome : (s : Shared) (a : Act) (r : Result Memory Trap) → takes_reply a ≡ true → given_type a ≡ None → ((e : Trap) → r ≡ Err e → Among e (traps_of a)) →
    IsOutcomeOf a (leaves s r)
leaves-outcome s a (Ok m) t g traps = (t, subst (λ o. Tells o Done) (sym g) tt)
leaves-outcome s a (Err e) t g traps = (t, traps e refl)

literal-traps : (p v : Value) (e : Trap) → unless_literal p v ≡ Err e → Among e (trap.Literal ∷ [])
literal-traps (Ptr (Lit i n) k) v e h = inl (same-err trap.Literal e h)
literal-traps (Ptr (Glob g) k) v e h = absurd (ok-err e v h)
literal-traps (Ptr (Heap a) k) v e h = absurd (ok-err e v h)
literal-traps Null v e h = absurd (ok-err e v h)
literal-traps (Num z) v e h = absurd (ok-err e v h)
literal-traps Free v e h = absurd (ok-err e v h)
literal-traps (Held k) v e h = absurd (ok-err e v h)
literal-traps Undef v e h = absurd (ok-err e v h)

-- ---- mutexes

locked-traps : (thread : ℕ) (v : Value) (e : Trap) → locked thread v ≡ Err e → Among e (trap.Uninit ∷ trap.Mutex ∷ [])
locked-traps thread Free e h = absurd (ok-err e _ h)
locked-traps thread (Held k) e h = by_test (k == thread) h
  where
    by_test : (b : Bool) → cond b (Err trap.Mutex) (Ok (Held k)) ≡ Err e → Among e (trap.Uninit ∷ trap.Mutex ∷ [])
    by_test true h = inr (inl (same-err trap.Mutex e h))
    by_test false h = absurd (ok-err e _ h)
locked-traps thread (Num z) e h = inl (same-err trap.Uninit e h)
locked-traps thread Null e h = inl (same-err trap.Uninit e h)
locked-traps thread (Ptr n k) e h = inl (same-err trap.Uninit e h)
locked-traps thread Undef e h = inl (same-err trap.Uninit e h)

unlocked-traps : (thread : ℕ) (v : Value) (e : Trap) → unlocked thread v ≡ Err e → Among e (trap.Uninit ∷ trap.Mutex ∷ [])
unlocked-traps thread (Held k) e h = by_test (k == thread) h
  where
    by_test : (b : Bool) → cond b (Ok Free) (Err trap.Mutex) ≡ Err e → Among e (trap.Uninit ∷ trap.Mutex ∷ [])
    by_test true h = absurd (ok-err e _ h)
    by_test false h = inr (inl (same-err trap.Mutex e h))
unlocked-traps thread Free e h = inr (inl (same-err trap.Mutex e h))
unlocked-traps thread (Num z) e h = inl (same-err trap.Uninit e h)
unlocked-traps thread Null e h = inl (same-err trap.Uninit e h)
unlocked-traps thread (Ptr n k) e h = inl (same-err trap.Uninit e h)
unlocked-traps thread Undef e h = inl (same-err trap.Uninit e h)

initialised-traps : (v : Value) (e : Trap) → initialised v ≡ Err e → Among e (trap.Mutex ∷ [])
initialised-traps (Held k) e h = inl (same-err trap.Mutex e h)
initialised-traps Free e h = absurd (ok-err e _ h)
initialised-traps (Num z) e h = absurd (ok-err e _ h)
initialised-traps Null e h = absurd (ok-err e _ h)
initialised-traps (Ptr n k) e h = absurd (ok-err e _ h)
initialised-traps Undef e h = absurd (ok-err e _ h)

-- an act that changes the cell at a place
change-traps : (m : Memory) (p : Value) (t : Ty) (f : Value → Result Value Trap) (more : List Trap) (e : Trap) → ((v : Value) → f v ≡ Err e → Among e more) →
    written m p t (and_then (value_at m p t) f) ≡ Err e → Among e (trap.Null ∷ trap.Dead ∷ trap.Bounds ∷ more)
change-traps m p t f more e k h =
    behind-traps (value_at m p t) f e more (λ d g. place-traps m p t d g) k (written-traps m p t (and_then (value_at m p t) f) e h)

-- ---- allocation and release

allocation-traps : (m : Memory) (w count : ℕ) (after : Memory) (e : Trap) → unless_fault (alloc_fault m w count) after ≡ Err e → Among e (trap.Size ∷ trap.Heap ∷ [])
allocation-traps m w count after e h = by_size (nat_lt count 1 || nat_lt 65536 (count * w)) (nat_lt 4194304 (m.live + count * w)) h
  where
    by_size : (b c : Bool) → unless_fault (cond b (Some trap.Size) (cond c (Some trap.Heap) None)) after ≡ Err e → Among e (trap.Size ∷ trap.Heap ∷ [])
    by_size true c h = inl (same-err trap.Size e h)
    by_size false true h = inr (inl (same-err trap.Heap e h))
    by_size false false h = absurd (ok-err e after h)

makes-outcome : (s : Shared) (types : List Ty) (e : ℕ) (n : ℤ) (zeros : Bool) → IsOutcomeOf (act.Allocate e n zeros) (makes s (alloc s.memory e types n zeros))
makes-outcome s types e (pos n) zeros = by_answer (alloc s.memory e types (pos n) zeros) refl
  where
    by_answer : (r : Result Memory Trap) → alloc s.memory e types (pos n) zeros ≡ r → IsOutcomeOf (act.Allocate e (pos n) zeros) (makes s r)
    by_answer (Ok m) h = (refl, refl)
    by_answer (Err d) h = (refl, allocation-traps s.memory (length types) n _ d h)
makes-outcome s types e (negsuc n) zeros = (refl, inl refl)

release-traps : (m : Memory) (p : Value) (e : Trap) → release m p ≡ Err e → Among e (trap.Dead ∷ trap.Free ∷ [])
release-traps m Null e h = absurd (ok-err e m h)
release-traps m (Ptr n k) e h = by_object n k (m.at n) h
  where
    by_object : (n : Name) (k : ℕ) (o : Option Object) → released m n k o ≡ Err e → Among e (trap.Dead ∷ trap.Free ∷ [])
    by_object n k None h = inl (same-err trap.Dead e h)
    by_object (Heap a) zero (Some o) h = absurd (ok-err e _ h)
    by_object (Heap a) (suc k) (Some o) h = inr (inl (same-err trap.Free e h))
    by_object (Glob g) k (Some o) h = inr (inl (same-err trap.Free e h))
    by_object (Lit i n) k (Some o) h = inr (inl (same-err trap.Free e h))
release-traps m (Num z) e h = inl (same-err trap.Dead e h)
release-traps m Free e h = inl (same-err trap.Dead e h)
release-traps m (Held k) e h = inl (same-err trap.Dead e h)
release-traps m Undef e h = inl (same-err trap.Dead e h)

-- ---- texts

abbrev text_traps : List Trap
text_traps = trap.Null ∷ trap.Dead ∷ trap.Bounds ∷ trap.Uninit ∷ []

followed-traps : (bytes : List ℕ) (r : Result (List ℕ) Trap) (e : Trap) → followed bytes r ≡ Err e → r ≡ Err e
followed-traps bytes (Ok rest) e h = absurd (ok-err e _ h)
followed-traps bytes (Err d) e h = cc

text-with-traps : (v : Value) (r : Result (List ℕ) Trap) (e : Trap) → (r ≡ Err e → Among e text_traps) → text_with v r ≡ Err e → Among e text_traps
text-with-traps (Num z) r e k h = by_test (int_eq z (pos 0)) h
  where
    by_test : (b : Bool) → cond b (Ok []) (followed (byte_of z ∷ []) r) ≡ Err e → Among e text_traps
    by_test true h = absurd (ok-err e _ h)
    by_test false h = k (followed-traps (byte_of z ∷ []) r e h)
text-with-traps Null r e k h = inr (inr (inr (inl (same-err trap.Uninit e h))))
text-with-traps (Ptr n o) r e k h = inr (inr (inr (inl (same-err trap.Uninit e h))))
text-with-traps Free r e k h = inr (inr (inr (inl (same-err trap.Uninit e h))))
text-with-traps (Held n) r e k h = inr (inr (inr (inl (same-err trap.Uninit e h))))
text-with-traps Undef r e k h = inr (inr (inr (inl (same-err trap.Uninit e h))))

text-of-traps : (cs : List Cell) (e : Trap) → text_of cs ≡ Err e → Among e text_traps
text-of-traps [] e h = inr (inr (inl (same-err trap.Bounds e h)))
text-of-traps (c ∷ cs) e h = by_test (λ g. text-of-traps cs e g) (ty_eq c.ty ty.Char) h
  where
    by_test : (text_of cs ≡ Err e → Among e text_traps) → (b : Bool) → cond b (text_with c.value (text_of cs)) (Err trap.Bounds) ≡ Err e → Among e text_traps
    by_test later true h = text-with-traps c.value (text_of cs) e later h
    by_test later false h = inr (inr (inl (same-err trap.Bounds e h)))

text-traps : (m : Memory) (p : Value) (e : Trap) → text_at m p ≡ Err e → Among e text_traps
text-traps m Null e h = inl (same-err trap.Null e h)
text-traps m (Ptr n k) e h = by_object (m.at n) h
  where
    by_object : (o : Option Object) → text_in o k ≡ Err e → Among e text_traps
    by_object None h = inr (inl (same-err trap.Dead e h))
    by_object (Some o) h = text-of-traps (drop k o.cells) e h
text-traps m (Num z) e h = inr (inl (same-err trap.Dead e h))
text-traps m Free e h = inr (inl (same-err trap.Dead e h))
text-traps m (Held k) e h = inr (inl (same-err trap.Dead e h))
text-traps m Undef e h = inr (inl (same-err trap.Dead e h))

with-output : (e : Trap) → Among e text_traps → Among e (print_traps true)
with-output e (inl h) = inl h
with-output e (inr (inl h)) = inr (inl h)
with-output e (inr (inr (inl h))) = inr (inr (inl h))
with-output e (inr (inr (inr (inl h)))) = inr (inr (inr (inl h)))
with-output e (inr (inr (inr (inr h)))) = absurd h

output-too : (b : Bool) (e : Trap) → Among e (print_traps b) → Among e (print_traps true)
output-too true e h = h
output-too false e (inl h) = inr (inr (inr (inr (inl h))))
output-too false e (inr h) = absurd h

output-among : (b : Bool) → Among trap.Output (print_traps b)
output-among true = inr (inr (inr (inr (inl refl))))
output-among false = inl refl

pieces-traps : (m : Memory) (ps : List Piece) (e : Trap) → pieces_text m ps ≡ Err e → Among e (print_traps (list_any is_text ps))
pieces-traps m [] e h = absurd (ok-err e _ h)
pieces-traps m (piece.Bytes bytes ∷ ps) e h = pieces-traps m ps e (followed-traps bytes (pieces_text m ps) e h)
pieces-traps m (piece.Number n ∷ ps) e h = pieces-traps m ps e (followed-traps _ (pieces_text m ps) e h)
pieces-traps m (piece.Byte b ∷ ps) e h = pieces-traps m ps e (followed-traps (b ∷ []) (pieces_text m ps) e h)
pieces-traps m (piece.TextAt p ∷ ps) e h = by_text (λ g. pieces-traps m ps e g) (text_at m p) refl h
  where
    by_text : (pieces_text m ps ≡ Err e → Among e (print_traps (list_any is_text ps))) → (r : Result (List ℕ) Trap) → text_at m p ≡ r →
        and_rest r (pieces_text m ps) ≡ Err e → Among e (print_traps true)
    by_text later (Ok bytes) t h = output-too (list_any is_text ps) e (later (followed-traps bytes (pieces_text m ps) e h))
    by_text later (Err d) t h = with-output e (text-traps m p e (t ∙ h))

writes-outcome : (s : Shared) (ps : List Piece) → IsShared s → IsOutcomeOf (act.Print ps) (writes s (pieces_text s.memory ps))
writes-outcome s ps i = by_text (pieces_text s.memory ps) refl
  where
    counted : (n : ℕ) → nat_lt 16777216 (length s.output + n) ≡ false → is_of ty.Int (Num (pos n)) ≡ true
    counted n h = let small : nat_lt n (2 ^ 31) ≡ true = grind (arith, nat_tests, h) in and-true (nat_lt n (2 ^ 31)) ∙ small

    by_length : (b : Bool) (bytes : List ℕ) → nat_lt 16777216 (length s.output + length bytes) ≡ b →
        IsOutcomeOf (act.Print ps) (cond b (traps_with trap.Output s) (Replies (Got (Num (pos (length bytes)))) (record s { output = s.output ++ bytes })))
    by_length true bytes h = (refl, output-among (list_any is_text ps))
    by_length false bytes h = (refl, counted (length bytes) h)

    by_text : (r : Result (List ℕ) Trap) → pieces_text s.memory ps ≡ r → IsOutcomeOf (act.Print ps) (writes s r)
    by_text (Ok bytes) e = by_length (nat_lt 16777216 (length s.output + length bytes)) bytes refl
    by_text (Err d) e = (refl, pieces-traps s.memory ps d e)

-- ---- input

byte-outcome : (s : Shared) (bytes : List ℕ) → AllByRecursion (λ b. b < 256) bytes → IsOutcomeOf act.GetChar (next_byte s bytes)
byte-outcome s [] i = (refl, refl)
byte-outcome s (b ∷ rest) i = (refl, small-int b (i.0))

lock-outcome : (s : Shared) (p : Value) (thread : ℕ) (b : Bool) → IsOutcomeOf (act.Lock p) (if b then Waits else leaves s (lock s.memory thread p))
lock-outcome s p thread true = tt
lock-outcome s p thread false =
    leaves-outcome s (act.Lock p) (lock s.memory thread p) refl refl
    (λ e h. change-traps s.memory p ty.Mutex (locked thread) (trap.Uninit ∷ trap.Mutex ∷ []) e (λ v g. locked-traps thread v e g) h)

-- the reply that an act gets is of its kind
pub effect-IsOutcomeOf : (types : Table) (thread : ℕ) (a : Act) (s : Shared) → IsShared s → IsOutcomeOf a (effect types thread a s)
effect-IsOutcomeOf types thread act.Tick s i = (refl, tt)
effect-IsOutcomeOf types thread (act.Load p t) s i = reads-outcome s p t i
effect-IsOutcomeOf types thread (act.Store p t v) s i =
    leaves-outcome s (act.Store p t v) (store s.memory p t v) refl refl
    (λ e h. change-traps s.memory p t (λ old. unless_literal p v) (trap.Literal ∷ []) e (λ old g. literal-traps p v e g) h)
effect-IsOutcomeOf types thread (act.Allocate e n zeros) s i = makes-outcome s (cells types e) e n zeros
effect-IsOutcomeOf types thread (act.Release p) s i = leaves-outcome s (act.Release p) (release s.memory p) refl refl (λ e h. release-traps s.memory p e h)
effect-IsOutcomeOf types thread (act.Lock p) s i = lock-outcome s p thread (waits s.memory thread p)
effect-IsOutcomeOf types thread (act.Unlock p) s i =
    leaves-outcome s (act.Unlock p) (unlock s.memory thread p) refl refl
    (λ e h. change-traps s.memory p ty.Mutex (unlocked thread) (trap.Uninit ∷ trap.Mutex ∷ []) e (λ v g. unlocked-traps thread v e g) h)
effect-IsOutcomeOf types thread (act.InitMutex p) s i =
    leaves-outcome s (act.InitMutex p) (init_mutex s.memory p) refl refl
    (λ e h. change-traps s.memory p ty.Mutex initialised (trap.Mutex ∷ []) e (λ v g. initialised-traps v e g) h)
effect-IsOutcomeOf types thread act.GetChar s i = byte-outcome s s.input i.input
effect-IsOutcomeOf types thread (act.Wait p) s i = tt
effect-IsOutcomeOf types thread (act.Signal p all) s i = tt
effect-IsOutcomeOf types thread (act.Print ps) s i = writes-outcome s ps i
effect-IsOutcomeOf types thread (act.Create f v) s i = tt
effect-IsOutcomeOf types thread (act.Join n) s i = tt
effect-IsOutcomeOf types thread (act.Point n) s i = tt
effect-IsOutcomeOf types thread (act.MigrateLocal f n) s i = (refl, tt)
effect-IsOutcomeOf types thread act.Automigrate s i = tt
effect-IsOutcomeOf types thread (act.UpdatingTest n) s i = (refl, tt)
effect-IsOutcomeOf types thread act.ThreadEnd s i = tt
effect-IsOutcomeOf types thread (act.MainReturn n) s i = tt
