-- Laws of arithmetic and of memory, in words that its definitions don't use.
use Rattle.std.specs.Prelude.{◌≡◌, ◌≢◌, ℕ, zero, suc, ℤ, pos, ◌+ℤ◌, ◌*ℤ◌, ◌+◌, ◌<◌, ◌≤◌, Bool, IsTrue, List, [], ◌∷◌, map, length, All, Option, None, Some, Result, Ok, Err}
use Rattle.std.specs.Option.{option_map}
use Rattle.std.specs.Result.{result_unwrap_or}
use Rattle.kt_types.specs.Layout.{repeated}
use Rattle.kt_types.specs.declared.kinds.Ty.{Ty}
use Rattle.kt_mem.specs.declared.memory.Name.{Name}
use Rattle.kt_mem.specs.declared.memory.Name.TheVariants.{Heap}
use Rattle.kt_mem.specs.declared.memory.Value.{Value}
use Rattle.kt_mem.specs.declared.memory.Value.TheVariants.{Num, Ptr}
use Rattle.kt_mem.specs.declared.steps.Trap.{Trap}
use Rattle.kt_mem.specs.declared.steps.Trap.TheVariants as trap
use Rattle.kt_mem.specs.Values.{defined}
use Rattle.kt_mem.specs.Arithmetic.{has_type, sum_of, difference_of, product_of, quotient_of, remainder_of, narrowed}
use Rattle.kt_mem.specs.Memory.{Memory, Object, no_objects, load, store, lock, unlock, init_mutex, alloc, fresh_object, release}

-- ---- arithmetic

-- `(a / b) * b + a % b` is `a` (6.5.5)
abbrev pub DividesExactly : Type 0
DividesExactly =
    (t : Ty) (x y q r : ℤ) → quotient_of t (Num x) (Num y) ≡ Ok (Num q) → remainder_of t (Num x) (Num y) ≡ Ok (Num r)
    → q *ℤ y +ℤ r ≡ x

-- a pointer stands at most 65,536 cells behind the start of its object
abbrev pub IsWithin : Value → Type 0
IsWithin (Ptr n k) = k ≤ 65536
IsWithin _ = Unit {0}

-- a result is of the type at which it was asked for
pub record AnswersHaveType (t : Ty) (a b v : Value) : Type 0 where
  pub sum : sum_of t a b ≡ Ok v → IsTrue (has_type t v)
  pub difference : IsWithin a → IsWithin b → difference_of t a b ≡ Ok v → IsTrue (has_type t v)
  pub product : product_of t a b ≡ Ok v → IsTrue (has_type t v)
  pub quotient : quotient_of t a b ≡ Ok v → IsTrue (has_type t v)
  pub remainder : remainder_of t a b ≡ Ok v → IsTrue (has_type t v)
  pub narrowed : narrowed t a ≡ Ok v → IsTrue (has_type t v)

abbrev pub ResultsHaveType : Type 0
ResultsHaveType = (t : Ty) (a b v : Value) → AnswersHaveType t a b v

-- ---- load and store

-- a load gives what was stored at the same place and type
abbrev pub LoadsWhatWasStored : Type 0
LoadsWhatWasStored =
    (m after : Memory) (p : Value) (t : Ty) (v : Value) → store m p t v ≡ Ok after → load after p t ≡ defined v

-- a store changes no load elsewhere
abbrev pub StoreKeepsOthers : Type 0
StoreKeepsOthers =
    (m after : Memory) (p q : Value) (t u : Ty) (v : Value) → store m p t v ≡ Ok after → p ≢ q
    → load after q u ≡ load m q u

-- ---- release

-- each use of a name is `dead`
pub record IsDead (m : Memory) (n : Name) : Type 0 where
  pub load : (k : ℕ) (t : Ty) → load m (Ptr n k) t ≡ Err trap.Dead
  pub store : (k : ℕ) (t : Ty) (v : Value) → store m (Ptr n k) t v ≡ Err trap.Dead
  pub release : (k : ℕ) → release m (Ptr n k) ≡ Err trap.Dead
  pub lock : (thread k : ℕ) → lock m thread (Ptr n k) ≡ Err trap.Dead
  pub unlock : (thread k : ℕ) → unlock m thread (Ptr n k) ≡ Err trap.Dead
  pub init_mutex : (k : ℕ) → init_mutex m (Ptr n k) ≡ Err trap.Dead

-- an object that was released is dead, and no other object changes
abbrev pub ReleaseEnds : Type 0
ReleaseEnds = (m after : Memory) (n : Name) (k : ℕ) → release m (Ptr n k) ≡ Ok after → IsDead after n

abbrev pub ReleaseKeepsOthers : Type 0
ReleaseKeepsOthers =
    (m after : Memory) (n q : Name) (k : ℕ) → release m (Ptr n k) ≡ Ok after → q ≢ n → after.at q ≡ m.at q

-- ---- whole runs

-- an act that changes memory
pub data Effect : Type 0 where
  Stores : Value → Ty → Value → Effect
  Allocates : ℕ → List Ty → ℤ → Bool → Effect
  Releases : Value → Effect
  Locks : ℕ → Value → Effect
  Unlocks : ℕ → Value → Effect
  Inits : Value → Effect

abbrev pub effect_on : Memory → Effect → Result Memory Trap
effect_on m (Stores p t v) = store m p t v
effect_on m (Allocates place types count zeros) = alloc m place types count zeros
effect_on m (Releases p) = release m p
effect_on m (Locks thread p) = lock m thread p
effect_on m (Unlocks thread p) = unlock m thread p
effect_on m (Inits p) = init_mutex m p

-- memory after some acts: one that traps leaves it as it is
abbrev pub memory_after : Memory → List Effect → Memory
memory_after m [] = m
memory_after m (e ∷ es) = memory_after (result_unwrap_or (effect_on m e) m) es

-- an allocation takes the next heap number, at which nothing lived, and makes it one more
abbrev pub AllocTakesNext : Type 0
AllocTakesNext =
    (m after : Memory) (place count : ℕ) (types : List Ty) (zeros : Bool) → alloc m place types (pos count) zeros ≡ Ok after
    → (after.next ≡ m.next + 1) × (after.at (Heap m.next) ≡ Some (fresh_object m.next place types count zeros))

-- and changes no other object
abbrev pub AllocKeepsOthers : Type 0
AllocKeepsOthers =
    (m after : Memory) (place : ℕ) (types : List Ty) (count : ℤ) (zeros : Bool) (n : Name) → alloc m place types count zeros ≡ Ok after
    → n ≢ Heap m.next → after.at n ≡ m.at n

-- a heap number never comes again: one that was given out, and whose object is gone, has none after any acts
abbrev pub NumbersNeverReturn : Type 0
NumbersNeverReturn =
    (m : Memory) (acts : List Effect) (a : ℕ) → a < m.next → m.at (Heap a) ≡ None
    → (a < (memory_after m acts).next) × ((memory_after m acts).at (Heap a) ≡ None)

-- the same object with other values
pub record SameShape (o p : Object) : Type 0 where
  pub number : p.number ≡ o.number
  pub ty : p.ty ≡ o.ty
  pub count : p.count ≡ o.count
  pub types : map (λ c. c.ty) p.cells ≡ map (λ c. c.ty) o.cells

-- ---- the count of live cells

-- the cells of an object, none where there is no object
abbrev pub cell_count : Option Object → ℕ
cell_count None = 0
cell_count (Some o) = length o.cells

-- the cells of the heap objects with numbers below this one
abbrev pub cells_below : (Name → Option Object) → ℕ → ℕ
cells_below at zero = 0
cells_below at (suc a) = cells_below at a + cell_count (at (Heap a))

-- heap objects have numbers below the next one, and the count of live cells is the sum of their cells
pub record IsCounted (m : Memory) : Type 0 where
  pub numbered : (a : ℕ) → m.next ≤ a → m.at (Heap a) ≡ None
  pub sum : m.live ≡ cells_below m.at m.next

-- a memory without objects is counted, and no act changes that
abbrev pub StartsCounted : Type 0
StartsCounted = (next : ℕ) → IsCounted (record { at = no_objects; next = next; live = 0 })

abbrev pub StaysCounted : Type 0
StaysCounted = (m : Memory) (acts : List Effect) → IsCounted m → IsCounted (memory_after m acts)

-- at most 4,194,304 heap cells live
abbrev pub StaysSmall : Type 0
StaysSmall = (m : Memory) (acts : List Effect) → m.live ≤ 4194304 → (memory_after m acts).live ≤ 4194304

-- an object keeps its heap number, its element type, its count and the types of its cells while it lives
abbrev pub ShapesStay : Type 0
ShapesStay =
    (m : Memory) (acts : List Effect) (n : Name) (o p : Object) → IsCounted m → m.at n ≡ Some o → (memory_after m acts).at n ≡ Some p
    → SameShape o p

-- ---- shapes

-- each object has the cells of its element type as often as its count says: `layout` has the cell types of each type's place
abbrev pub IsShaped : (ℕ → Option (List Ty)) → Memory → Type 0
IsShaped layout m = (n : Name) (o : Object) → m.at n ≡ Some o → option_map (repeated o.count) (layout o.ty) ≡ Some (map (λ c. c.ty) o.cells)

-- an allocation is of elements with the cells of their type
abbrev pub FollowsLayout : (ℕ → Option (List Ty)) → Effect → Type 0
FollowsLayout layout (Allocates place types count zeros) = layout place ≡ Some types
FollowsLayout layout _ = Unit {0}

-- no act changes that objects are shaped so
abbrev pub StaysShaped : Type 0
StaysShaped =
    (layout : ℕ → Option (List Ty)) (m : Memory) (acts : List Effect) → All (FollowsLayout layout) acts → IsShaped layout m → IsShaped layout (memory_after m acts)

-- each heap object carries its heap number
abbrev pub IsNumbered : Memory → Type 0
IsNumbered m = (a : ℕ) (o : Object) → m.at (Heap a) ≡ Some o → o.number ≡ a

abbrev pub StaysNumbered : Type 0
StaysNumbered = (m : Memory) (acts : List Effect) → IsNumbered m → IsNumbered (memory_after m acts)

-- where live cells are counted, a live heap object's number is below the next one
abbrev pub NumbersAreBelow : Type 0
NumbersAreBelow = (m : Memory) (a : ℕ) (o : Object) → IsCounted m → m.at (Heap a) ≡ Some o → a < m.next
