-- Memory: objects by name, and what the acts on it do (C 6.2.4, 7.22.3). Each act is a function to the new memory
-- or the value, or to the trap: the first that holds in the order of the tests.
use Rattle.std.specs.Prelude.{ℕ, ℤ, pos, negsuc, zero, suc, ◌+◌, ◌-◌, ◌*◌, nat_lt, Bool, false, not, ◌||◌, ◌==◌, List, [], ◌++◌, map, length, Option, None, Some, Result, Ok, Err, slice_get, slice_set, if◌then◌else◌}
use Rattle.std.specs.Option.{option_map}
use Rattle.kt_types.specs.declared.kinds.Ty.{Ty}
use Rattle.kt_types.specs.declared.kinds.Ty.TheVariants as ty
use Rattle.kt_mem.specs.declared.memory.Name.{Name}
use Rattle.kt_mem.specs.declared.memory.Name.TheVariants.{Lit, Heap}
use Rattle.kt_mem.specs.declared.memory.Value.{Value}
use Rattle.kt_mem.specs.declared.memory.Value.TheVariants.{Num, Null, Ptr, Free, Held, Undef}
use Rattle.kt_mem.specs.declared.steps.Trap.{Trap}
use Rattle.kt_mem.specs.declared.steps.Trap.TheVariants as trap
use Rattle.kt_mem.specs.Values.{name_eq, ty_eq, defined}

-- ---- objects and memories

-- a scalar cell: its type, which never changes, and what it holds
pub record Cell : Type 0 where
  pub ty : Ty
  pub value : Value

-- an object: its heap number (0 for any other object), its element type, its count of elements, its cells
pub record Object : Type 0 where
  pub number : ℕ
  pub ty : ℕ
  pub count : ℕ
  pub cells : List Cell

-- the object under each name, the next heap number, and how many cells the live heap objects have
pub record Memory : Type 0 where
  pub at : Name → Option Object
  pub next : ℕ
  pub live : ℕ

-- no object under any name
abbrev pub no_objects : Name → Option Object
no_objects n = None

-- a map with another object, or none, under one name
unfoldable pub put : (Name → Option Object) → Name → Option Object → Name → Option Object
put at n o q = if name_eq q n then o else at q

-- ---- the cell at a pointer

-- the value of a cell of this type, or the trap
abbrev pub cell_value : Option Cell → Ty → Result Value Trap
cell_value None t = Err trap.Bounds
cell_value (Some c) t = if ty_eq c.ty t then Ok c.value else Err trap.Bounds

abbrev pub value_in : Option Object → ℕ → Ty → Result Value Trap
value_in None k t = Err trap.Dead
value_in (Some o) k t = cell_value (slice_get o.cells k) t

-- what the cell at a pointer holds: `null`, `dead`, `bounds` (past the object, or a cell of another type)
abbrev pub value_at : Memory → Value → Ty → Result Value Trap
value_at m Null t = Err trap.Null
value_at m (Ptr n k) t = value_in (m.at n) k t
value_at m _ t = Err trap.Dead

-- ---- load and store

-- the next answer, of the value, unless there was a trap
abbrev pub and_then : Result Value Trap → (Value → Result Value Trap) → Result Value Trap
and_then (Ok v) f = f v
and_then (Err e) f = Err e

-- what a load gives: `null`, `dead`, `bounds`, `uninit`
abbrev pub load : Memory → Value → Ty → Result Value Trap
load m p t = and_then (value_at m p t) defined

-- an object with another cell at a place
abbrev pub object_with : ℕ → Cell → Object → Object
object_with k c o = record o { cells = slice_set o.cells k c }

-- a memory with this value in the cell of this type at a pointer
abbrev pub with_value : Memory → Value → Ty → Value → Memory
with_value m (Ptr n k) t v =
    record m { at = put m.at n (option_map (object_with k (record { ty = t; value = v })) (m.at n)) }
with_value m _ t v = m

-- the memory with an answer in the cell at a pointer, or the trap
abbrev pub written : Memory → Value → Ty → Result Value Trap → Result Memory Trap
written m p t (Ok v) = Ok (with_value m p t v)
written m p t (Err e) = Err e

-- a literal is not written
abbrev pub unless_literal : Value → Value → Result Value Trap
unless_literal (Ptr (Lit v i) k) new = Err trap.Literal
unless_literal p new = Ok new

-- the memory after a store: `null`, `dead`, `bounds`, `literal`
abbrev pub store : Memory → Value → Ty → Value → Result Memory Trap
store m p t new = written m p t (and_then (value_at m p t) (λ old. unless_literal p new))

-- ---- mutexes

-- what a lock by a thread leaves: where another thread holds the mutex it stays, and the thread waits
abbrev pub locked : ℕ → Value → Result Value Trap
locked thread Free = Ok (Held thread)
locked thread (Held holder) = if holder == thread then Err trap.Mutex else Ok (Held holder)
locked thread _ = Err trap.Uninit

abbrev pub unlocked : ℕ → Value → Result Value Trap
unlocked thread (Held holder) = if holder == thread then Ok Free else Err trap.Mutex
unlocked thread Free = Err trap.Mutex
unlocked thread _ = Err trap.Uninit

abbrev pub initialised : Value → Result Value Trap
initialised (Held holder) = Err trap.Mutex
initialised _ = Ok Free

-- a signal leaves the mutex as it is
abbrev pub signalled : Value → Result Value Trap
signalled Free = Ok Free
signalled (Held holder) = Ok (Held holder)
signalled _ = Err trap.Uninit

-- the memory after a lock, an unlock, an init and a signal: `null`, `dead`, `bounds`, `uninit` (not at an init), `mutex` (not at a
-- signal). A wait leaves what an unlock does.
abbrev pub lock : Memory → ℕ → Value → Result Memory Trap
lock m thread p = written m p ty.Mutex (and_then (value_at m p ty.Mutex) (locked thread))

abbrev pub unlock : Memory → ℕ → Value → Result Memory Trap
unlock m thread p = written m p ty.Mutex (and_then (value_at m p ty.Mutex) (unlocked thread))

abbrev pub init_mutex : Memory → Value → Result Memory Trap
init_mutex m p = written m p ty.Mutex (and_then (value_at m p ty.Mutex) initialised)

abbrev pub signal : Memory → Value → Result Memory Trap
signal m p = written m p ty.Mutex (and_then (value_at m p ty.Mutex) signalled)

-- a lock waits: another thread holds the mutex
abbrev pub held_by_other : ℕ → Result Value Trap → Bool
held_by_other thread (Ok (Held holder)) = not (holder == thread)
held_by_other thread _ = false

abbrev pub waits : Memory → ℕ → Value → Bool
waits m thread p = held_by_other thread (value_at m p ty.Mutex)

-- ---- allocation and release

-- zero, null or free: what a cell of the type holds where zeros are asked for
abbrev pub zero_value : Ty → Value
zero_value ty.Char = Num (pos 0)
zero_value ty.Int = Num (pos 0)
zero_value ty.Long = Num (pos 0)
zero_value ty.Mutex = Free
zero_value (ty.Ptr u) = Null
zero_value _ = Undef

-- a new cell: zero, or undefined
abbrev pub fresh_cell : Bool → Ty → Cell
fresh_cell zeros t = record { ty = t; value = if zeros then zero_value t else Undef }

-- a list, as often as the number says
abbrev pub repeated : ℕ → List Cell → List Cell
repeated zero cs = []
repeated (suc n) cs = cs ++ repeated n cs

-- a new heap object with its number: the element type, the cell types of one element, the count
abbrev pub fresh_object : ℕ → ℕ → List Ty → ℕ → Bool → Object
fresh_object number place types count zeros =
    record { number = number; ty = place; count = count; cells = repeated count (map (fresh_cell zeros) types) }

-- a memory with a new heap object
abbrev pub made : Memory → ℕ → Object → Memory
made m a o = record { at = put m.at (Heap a) (Some o); next = m.next + 1; live = m.live + length o.cells }

-- why an allocation of a count of elements of so many cells fails: `size`, a count below 1 or over 65,536 cells;
-- `heap`, over 4,194,304 live heap cells
abbrev pub alloc_fault : Memory → ℕ → ℕ → Option Trap
alloc_fault m width count =
    if nat_lt count 1 || nat_lt 65536 (count * width) then Some trap.Size
    else (if nat_lt 4194304 (m.live + count * width) then Some trap.Heap else None)

abbrev pub unless_fault : Option Trap → Memory → Result Memory Trap
unless_fault None m = Ok m
unless_fault (Some e) m = Err e

-- the memory after an allocation under the next heap number
abbrev pub alloc : Memory → ℕ → List Ty → ℤ → Bool → Result Memory Trap
alloc m place types (pos count) zeros =
    unless_fault (alloc_fault m (length types) count) (made m m.next (fresh_object m.next place types count zeros))
alloc m place types (negsuc count) zeros = Err trap.Size

-- the pointer that the allocation gives
abbrev pub next_pointer : Memory → Value
next_pointer m = Ptr (Heap m.next) 0

-- a memory without a heap object
abbrev pub without : Memory → ℕ → Object → Memory
without m a o = record m { at = put m.at (Heap a) None; live = m.live - length o.cells }

abbrev pub released : Memory → Name → ℕ → Option Object → Result Memory Trap
released m n k None = Err trap.Dead
released m (Heap a) zero (Some o) = Ok (without m a o)
released m n k (Some o) = Err trap.Free

-- the memory after a release: nothing happens to null; `dead`; `free`, where the pointer isn't to the start of a
-- heap object
abbrev pub release : Memory → Value → Result Memory Trap
release m Null = Ok m
release m (Ptr n k) = released m n k (m.at n)
release m _ = Err trap.Dead
