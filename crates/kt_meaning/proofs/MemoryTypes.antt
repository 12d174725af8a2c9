-- Memory, input and output stay typed, whatever act of a thread of a version is done.
use Rattle.std.specs.Prelude.{IsTrue}
use Rattle.std.proofs.Common.{◌≡◌, ℕ, zero, suc, ℤ, pos, negsuc, ◌+◌, ◌<◌, ◌≤◌, ◌⊎◌, inl, inr, ◌==◌, subst, true, false, Bool, cond, if◌then◌else◌, nat_lt, List, [], ◌∷◌, ◌++◌, length, map, slice_get, slice_set, Option, option_map, Some, None, Result, Ok, Err, refl, arith}
use Rattle.std.specs.List.{AllByRecursion}
use Rattle.std.proofs.lemmas.Bool.Decides.{nat_tests}
use Rattle.std.proofs.lemmas.Option.{none-some, same_Some}
use Rattle.kt_types.specs.declared.kinds.Ty.{Ty}
use Rattle.kt_types.specs.declared.kinds.Ty.TheVariants as ty
use Rattle.kt_types.specs.Table.{Table}
use Rattle.kt_types.specs.Layout.{cells}
use Rattle.kt_mem.specs.Memory.{Cell}
use Rattle.kt_mem.specs.declared.memory.Name.{Name}
use Rattle.kt_mem.specs.declared.memory.Name.TheVariants.{Glob, Lit, Heap}
use Rattle.kt_mem.specs.declared.memory.Value.{Value}
use Rattle.kt_mem.specs.declared.memory.Value.TheVariants.{Num, Null, Ptr, Free, Held, Undef}
use Rattle.kt_mem.specs.declared.steps.Act.{Act}
use Rattle.kt_mem.specs.declared.steps.Act.TheVariants as act
use Rattle.kt_mem.specs.declared.steps.Reply.TheVariants.{Got}
use Rattle.kt_mem.specs.declared.steps.Trap.{Trap}
use Rattle.kt_mem.specs.declared.steps.Trap.TheVariants as trap
use Rattle.kt_mem.specs.Values.{name_eq}
use Rattle.kt_mem.specs.Memory.{Memory, Object, put, value_at, and_then, load, object_with, with_value, written, unless_literal, store, locked, unlocked, initialised, lock, unlock, init_mutex, waits, fresh_cell, repeated, fresh_object, made, alloc_fault, unless_fault, alloc, without, released, release}
use Rattle.kt_tree.specs.Version.{Program}
use Rattle.kt_meaning.specs.Values.{is_of}
use Rattle.kt_meaning.specs.ThreadTypes.{IsTypedAct}
use Rattle.kt_meaning.specs.Effects.{Shared, Replies, Waits, pieces_text, traps_with, reads, leaves, makes, next_byte, writes, effect}
use Rattle.kt_meaning.specs.Laws.{IsTyped, IsShared, LeavesShared}
use Rattle.kt_meaning.proofs.EffectTypes.{err-ok, same-ok}

-- a cell holds a value of its type, or the undefined one; and so does each of these
abbrev Holds : Cell → Type 0
Holds c = (c.value ≡ Undef) ⊎ IsTrue (is_of c.ty c.value)

abbrev AllHold : List Cell → Type 0
AllHold cs = (k : ℕ) (c : Cell) → slice_get cs k ≡ Some c → Holds c

none-hold : AllHold []
none-hold k c e = absurd (none-some c e)

more-hold : (c : Cell) (cs : List Cell) → Holds c → AllHold cs → AllHold (c ∷ cs)
more-hold c cs h a zero d e = subst Holds (same_Some c d e) h
more-hold c cs h a (suc k) d e = a k d e

rest-hold : (c : Cell) (cs : List Cell) → AllHold (c ∷ cs) → AllHold cs
rest-hold c cs a k d e = a (suc k) d e

both-hold : (cs ds : List Cell) → AllHold cs → AllHold ds → AllHold (cs ++ ds)
both-hold [] ds a b = b
both-hold (c ∷ cs) ds a b = more-hold c (cs ++ ds) (a 0 c refl) (both-hold cs ds (rest-hold c cs a) b)

set-hold : (cs : List Cell) (n : ℕ) (c : Cell) → AllHold cs → Holds c → AllHold (slice_set cs n c)
set-hold [] n c a h = none-hold
set-hold (d ∷ cs) zero c a h = more-hold c cs h (rest-hold d cs a)
set-hold (d ∷ cs) (suc n) c a h = more-hold d (slice_set cs n c) (a 0 d refl) (set-hold cs n c (rest-hold d cs a) h)

repeated-hold : (n : ℕ) (cs : List Cell) → AllHold cs → AllHold (repeated n cs)
repeated-hold zero cs a = none-hold
repeated-hold (suc n) cs a = both-hold cs (repeated n cs) a (repeated-hold n cs a)

fresh-holds : (zeros : Bool) (t : Ty) → Holds (fresh_cell zeros t)
fresh-holds false t = inl refl
fresh-holds true ty.Char = inr refl
fresh-holds true ty.Int = inr refl
fresh-holds true ty.Long = inr refl
fresh-holds true ty.Mutex = inr refl
fresh-holds true (ty.Ptr u) = inr refl
fresh-holds true (ty.Struct s) = inl refl
fresh-holds true (ty.Array e n) = inl refl

fresh-hold : (zeros : Bool) (types : List Ty) → AllHold (map (fresh_cell zeros) types)
fresh-hold zeros [] = none-hold
fresh-hold zeros (t ∷ types) = more-hold (fresh_cell zeros t) (map (fresh_cell zeros) types) (fresh-holds zeros t) (fresh-hold zeros types)

-- ---- objects under names

abbrev ObjectsHold : (Name → Option Object) → Type 0
ObjectsHold at = (n : Name) (o : Object) (k : ℕ) (c : Cell) → at n ≡ Some o → slice_get o.cells k ≡ Some c → Holds c

abbrev ObjectHolds : Option Object → Type 0
ObjectHolds o = (p : Object) → o ≡ Some p → AllHold p.cells

put-hold : (at : Name → Option Object) (n : Name) (o : Option Object) → ObjectsHold at → ObjectHolds o → ObjectsHold (put at n o)
unfolding put
put-hold at n o a h q p k c e g = by_test (name_eq q n) e
  where
    by_test : (b : Bool) → cond b o (at q) ≡ Some p → Holds c
    by_test true e = h p e k c g
    by_test false e = a q p k c e g

changed-holds : (o : Option Object) (k : ℕ) (c : Cell) → ObjectHolds o → Holds c → ObjectHolds (option_map (object_with k c) o)
changed-holds None k c a h p e = absurd (none-some p e)
changed-holds (Some o) k c a h p e = subst (λ (q : Object). AllHold q.cells) (same_Some (object_with k c o) p e) (set-hold o.cells k c (a o refl) h)

with_value-IsTyped : (m : Memory) (p : Value) (t : Ty) (v : Value) → IsTyped m → Holds (record { ty = t; value = v }) → IsTyped (with_value m p t v)
with_value-IsTyped m (Ptr n k) t v a h =
    put-hold m.at n (option_map (object_with k (record { ty = t; value = v })) (m.at n)) a
    (changed-holds (m.at n) k (record { ty = t; value = v }) (λ o e j c g. a n o j c e g) h)
with_value-IsTyped m Null t v a h = a
with_value-IsTyped m (Num z) t v a h = a
with_value-IsTyped m Free t v a h = a
with_value-IsTyped m (Held k) t v a h = a
with_value-IsTyped m Undef t v a h = a

-- ---- acts

written-IsTyped : (m : Memory) (p : Value) (t : Ty) (r : Result Value Trap) (after : Memory) → IsTyped m → ((v : Value) → r ≡ Ok v → IsTrue (is_of t v)) →
    written m p t r ≡ Ok after → IsTyped after
written-IsTyped m p t (Ok v) after a h e = subst IsTyped (same-ok (with_value m p t v) after e) (with_value-IsTyped m p t v a (inr (h v refl)))
written-IsTyped m p t (Err d) after a h e = absurd (err-ok d after e)

then-typed : (t : Ty) (r : Result Value Trap) (f : Value → Result Value Trap) → ((u v : Value) → f u ≡ Ok v → IsTrue (is_of t v)) → (v : Value) →
    and_then r f ≡ Ok v → IsTrue (is_of t v)
then-typed t (Ok u) f h v e = h u v e
then-typed t (Err d) f h v e = absurd (err-ok d v e)

change-IsTyped : (m : Memory) (p : Value) (t : Ty) (f : Value → Result Value Trap) (after : Memory) → IsTyped m →
    ((u v : Value) → f u ≡ Ok v → IsTrue (is_of t v)) → written m p t (and_then (value_at m p t) f) ≡ Ok after → IsTyped after
change-IsTyped m p t f after a h e =
    written-IsTyped m p t (and_then (value_at m p t) f) after a (λ v g. then-typed t (value_at m p t) f h v g) e

literal-same : (p new v : Value) → unless_literal p new ≡ Ok v → new ≡ v
literal-same (Ptr (Lit i n) k) new v h = absurd (err-ok trap.Literal v h)
literal-same (Ptr (Glob g) k) new v h = same-ok new v h
literal-same (Ptr (Heap n) k) new v h = same-ok new v h
literal-same Null new v h = same-ok new v h
literal-same (Num z) new v h = same-ok new v h
literal-same Free new v h = same-ok new v h
literal-same (Held k) new v h = same-ok new v h
literal-same Undef new v h = same-ok new v h

mutex-as : (u v : Value) → ◌≡◌ {A = Result Value Trap} (Ok u) (Ok v) → is_of ty.Mutex u ≡ true → IsTrue (is_of ty.Mutex v)
mutex-as u v e h = subst (λ x. is_of ty.Mutex x ≡ true) (same-ok u v e) h

locked-typed : (thread : ℕ) (u v : Value) → locked thread u ≡ Ok v → IsTrue (is_of ty.Mutex v)
locked-typed thread Free v h = mutex-as (Held thread) v h refl
locked-typed thread (Held k) v h = by_test (k == thread) h
  where
    by_test : (b : Bool) → cond b (Err trap.Mutex) (Ok (Held k)) ≡ Ok v → IsTrue (is_of ty.Mutex v)
    by_test true h = absurd (err-ok trap.Mutex v h)
    by_test false h = mutex-as (Held k) v h refl
locked-typed thread (Num z) v h = absurd (err-ok trap.Uninit v h)
locked-typed thread Null v h = absurd (err-ok trap.Uninit v h)
locked-typed thread (Ptr n k) v h = absurd (err-ok trap.Uninit v h)
locked-typed thread Undef v h = absurd (err-ok trap.Uninit v h)

unlocked-typed : (thread : ℕ) (u v : Value) → unlocked thread u ≡ Ok v → IsTrue (is_of ty.Mutex v)
unlocked-typed thread (Held k) v h = by_test (k == thread) h
  where
    by_test : (b : Bool) → cond b (Ok Free) (Err trap.Mutex) ≡ Ok v → IsTrue (is_of ty.Mutex v)
    by_test true h = mutex-as Free v h refl
    by_test false h = absurd (err-ok trap.Mutex v h)
unlocked-typed thread Free v h = absurd (err-ok trap.Mutex v h)
unlocked-typed thread (Num z) v h = absurd (err-ok trap.Uninit v h)
unlocked-typed thread Null v h = absurd (err-ok trap.Uninit v h)
unlocked-typed thread (Ptr n k) v h = absurd (err-ok trap.Uninit v h)
unlocked-typed thread Undef v h = absurd (err-ok trap.Uninit v h)

initialised-typed : (u v : Value) → initialised u ≡ Ok v → IsTrue (is_of ty.Mutex v)
initialised-typed (Held k) v h = absurd (err-ok trap.Mutex v h)
initialised-typed Free v h = mutex-as Free v h refl
initialised-typed (Num z) v h = mutex-as Free v h refl
initialised-typed Null v h = mutex-as Free v h refl
initialised-typed (Ptr n k) v h = mutex-as Free v h refl
initialised-typed Undef v h = mutex-as Free v h refl

fault-same : (f : Option Trap) (m after : Memory) → unless_fault f m ≡ Ok after → m ≡ after
fault-same None m after e = same-ok m after e
fault-same (Some d) m after e = absurd (err-ok d after e)

alloc-IsTyped : (m : Memory) (e : ℕ) (types : List Ty) (n : ℤ) (zeros : Bool) (after : Memory) → IsTyped m → alloc m e types n zeros ≡ Ok after → IsTyped after
alloc-IsTyped m e types (pos n) zeros after a h =
    subst IsTyped (fault-same (alloc_fault m (length types) n) (made m m.next (fresh_object m.next e types n zeros)) after h)
    (put-hold m.at (Heap m.next) (Some (fresh_object m.next e types n zeros)) a
    (λ p g. subst (λ (q : Object). AllHold q.cells) (same_Some (fresh_object m.next e types n zeros) p g)
    (repeated-hold n (map (fresh_cell zeros) types) (fresh-hold zeros types))))
alloc-IsTyped m e types (negsuc n) zeros after a h = absurd (err-ok trap.Size after h)

without-IsTyped : (m : Memory) (n : ℕ) (o : Object) → IsTyped m → IsTyped (without m n o)
without-IsTyped m n o a = put-hold m.at (Heap n) None a (λ p e. absurd (none-some p e))

release-IsTyped : (m : Memory) (p : Value) (after : Memory) → IsTyped m → release m p ≡ Ok after → IsTyped after
release-IsTyped m Null after a h = subst IsTyped (same-ok m after h) a
release-IsTyped m (Ptr n k) after a h = by_object n k (m.at n) h
  where
    by_object : (n : Name) (k : ℕ) (o : Option Object) → released m n k o ≡ Ok after → IsTyped after
    by_object n k None h = absurd (err-ok trap.Dead after h)
    by_object (Heap i) zero (Some o) h = subst IsTyped (same-ok (without m i o) after h) (without-IsTyped m i o a)
    by_object (Heap i) (suc k) (Some o) h = absurd (err-ok trap.Free after h)
    by_object (Glob g) k (Some o) h = absurd (err-ok trap.Free after h)
    by_object (Lit i g) k (Some o) h = absurd (err-ok trap.Free after h)
release-IsTyped m (Num z) after a h = absurd (err-ok trap.Dead after h)
release-IsTyped m Free after a h = absurd (err-ok trap.Dead after h)
release-IsTyped m (Held k) after a h = absurd (err-ok trap.Dead after h)
release-IsTyped m Undef after a h = absurd (err-ok trap.Dead after h)

-- ---- outcomes

with-memory : (s : Shared) (m : Memory) → IsShared s → IsTyped m → IsShared (record s { memory = m })
with-memory s m i h = record { memory = h; input = i.input; output = i.output }

reads-shared : (s : Shared) (r : Result Value Trap) → IsShared s → LeavesShared (reads s r)
reads-shared s (Ok v) i = i
reads-shared s (Err e) i = i

leaves-shared : (s : Shared) (r : Result Memory Trap) → IsShared s → ((m : Memory) → r ≡ Ok m → IsTyped m) → LeavesShared (leaves s r)
leaves-shared s (Ok m) i h = with-memory s m i (h m refl)
leaves-shared s (Err e) i h = i

makes-shared : (s : Shared) (r : Result Memory Trap) → IsShared s → ((m : Memory) → r ≡ Ok m → IsTyped m) → LeavesShared (makes s r)
makes-shared s (Ok m) i h = with-memory s m i (h m refl)
makes-shared s (Err e) i h = i

byte-shared : (s : Shared) (bytes : List ℕ) → IsShared s → AllByRecursion (λ b. b < 256) bytes → LeavesShared (next_byte s bytes)
byte-shared s [] i a = i
byte-shared s (b ∷ rest) i a = record { memory = i.memory; input = a.1; output = i.output }

length-both : (xs ys : List ℕ) → length (xs ++ ys) ≡ length xs + length ys
length-both [] ys = omega arith
length-both (x ∷ xs) ys = let later = length-both xs ys in omega (arith, later)

writes-shared : (s : Shared) (r : Result (List ℕ) Trap) → IsShared s → LeavesShared (writes s r)
writes-shared s (Err e) i = i
writes-shared s (Ok bytes) i = by_length (nat_lt 16777216 (length s.output + length bytes)) refl
  where
    by_length : (b : Bool) → nat_lt 16777216 (length s.output + length bytes) ≡ b →
        LeavesShared (cond b (traps_with trap.Output s) (Replies (Got (Num (pos (length bytes)))) (record s { output = s.output ++ bytes })))
    by_length true h = i
    by_length false h =
        let both = length-both s.output bytes in
        let small : length s.output + length bytes ≤ 16777216 = grind (arith, nat_tests, h) in
        record { memory = i.memory; input = i.input; output = omega (arith, both, small) }

lock-shared : (s : Shared) (p : Value) (thread : ℕ) (b : Bool) → IsShared s → LeavesShared (if b then Waits else leaves s (lock s.memory thread p))
lock-shared s p thread true i = tt
lock-shared s p thread false i =
    leaves-shared s (lock s.memory thread p) i (λ m h. change-IsTyped s.memory p ty.Mutex (locked thread) m i.memory (locked-typed thread) h)

-- memory, input and output stay typed
pub effect-LeavesShared : (program : Program) (types : Table) (thread : ℕ) (a : Act) (s : Shared) → IsTypedAct program a → IsShared s → LeavesShared (effect types thread a s)
effect-LeavesShared program types thread act.Tick s h i = i
effect-LeavesShared program types thread (act.Load p t) s h i = reads-shared s (load s.memory p t) i
effect-LeavesShared program types thread (act.Store p t v) s h i =
    leaves-shared s (store s.memory p t v) i
    (λ m g. change-IsTyped s.memory p t (λ old. unless_literal p v) m i.memory (λ old w e. subst (λ x. IsTrue (is_of t x)) (literal-same p v w e) h) g)
effect-LeavesShared program types thread (act.Allocate e n zeros) s h i =
    makes-shared s (alloc s.memory e (cells types e) n zeros) i (λ m g. alloc-IsTyped s.memory e (cells types e) n zeros m i.memory g)
effect-LeavesShared program types thread (act.Release p) s h i = leaves-shared s (release s.memory p) i (λ m g. release-IsTyped s.memory p m i.memory g)
effect-LeavesShared program types thread (act.Lock p) s h i = lock-shared s p thread (waits s.memory thread p) i
effect-LeavesShared program types thread (act.Unlock p) s h i =
    leaves-shared s (unlock s.memory thread p) i (λ m g. change-IsTyped s.memory p ty.Mutex (unlocked thread) m i.memory (unlocked-typed thread) g)
effect-LeavesShared program types thread (act.InitMutex p) s h i =
    leaves-shared s (init_mutex s.memory p) i (λ m g. change-IsTyped s.memory p ty.Mutex initialised m i.memory initialised-typed g)
effect-LeavesShared program types thread act.GetChar s h i = byte-shared s s.input i i.input
effect-LeavesShared program types thread (act.Wait p) s h i = tt
effect-LeavesShared program types thread (act.Signal p all) s h i = tt
effect-LeavesShared program types thread (act.Print ps) s h i = writes-shared s (pieces_text s.memory ps) i
effect-LeavesShared program types thread (act.Create f v) s h i = tt
effect-LeavesShared program types thread (act.Join n) s h i = tt
effect-LeavesShared program types thread (act.Point n) s h i = tt
effect-LeavesShared program types thread (act.MigrateLocal f n) s h i = i
effect-LeavesShared program types thread act.Automigrate s h i = tt
effect-LeavesShared program types thread (act.UpdatingTest n) s h i = i
effect-LeavesShared program types thread act.ThreadEnd s h i = tt
effect-LeavesShared program types thread (act.MainReturn n) s h i = tt
