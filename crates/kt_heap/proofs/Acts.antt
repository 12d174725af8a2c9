-- The acts on a memory, by what is under the name.
use Rattle.std.proofs.Common.{◌≡◌, ℕ, zero, suc, ◌+◌, ◌*◌, ◌≤◌, Bool, true, false, ◌||◌, cond, nat_lt, List, map, length, Option, None, Some, IsSome, IfSome, Result, Ok, Err, IsOk, OnOk, OnErr, refl, sym, ap, arith, length-append}
use Rattle.std.proofs.lemmas.List.{length-map}
use Rattle.std.proofs.lemmas.Bool.Decides.{nat_tests}
use Rattle.std.specs.Option.{option_map, option_copied, is_some}
use Rattle.std.specs.Borrow.{Bor}
use Rattle.kt_types.specs.declared.kinds.Ty.{Ty}
use Rattle.kt_mem.specs.declared.memory.Name.{Name}
use Rattle.kt_mem.specs.declared.memory.Name.TheVariants.{Heap}
use Rattle.kt_mem.specs.declared.memory.Value.{Value}
use Rattle.kt_mem.specs.declared.memory.Value.TheVariants.{Ptr}
use Rattle.kt_mem.specs.declared.steps.Trap.{Trap}
use Rattle.kt_mem.specs.declared.steps.Trap.TheVariants as trap
use Rattle.kt_mem.specs.Memory.{Memory, Object, Cell, value_in, written, and_then, unless_literal, with_value, store, object_with, without, released, release, fresh_cell, repeated, alloc_fault}
use Rattle.kt_heap.specs.declared.object.Obj.{Obj}
use Rattle.kt_heap.specs.Objects.{shown, obj_with}

-- a store where the cell is there, and no literal's
pub store_ok : (m : Memory) (n : Name) (k : ℕ) (t : Ty) (v : Value) → unless_literal (Ptr n k) v ≡ Ok v → IsOk (value_in (m.at n) k t) → store m (Ptr n k) t v ≡ Ok (with_value m (Ptr n k) t v)
store_ok m n k t v free there = by_value (value_in (m.at n) k t) there
  where
    by_value : (r : Result Value Trap) → IsOk r → written m (Ptr n k) t (and_then r (λ old. unless_literal (Ptr n k) v)) ≡ Ok (with_value m (Ptr n k) t v)
    by_value (Ok old) h = rw free refl
    by_value (Err e) h = cc

-- a store that traps before it is seen what the name is
pub store_err : (m : Memory) (n : Name) (k : ℕ) (t : Ty) (v : Value) (e : Trap) → value_in (m.at n) k t ≡ Err e → store m (Ptr n k) t v ≡ Err e
store_err m n k t v e h = rw h refl

-- an object with another cell, as memory has it
pub shown-with : (k : ℕ) (c : Cell) (o : Option Obj) → option_map shown (option_map (obj_with k c) o) ≡ option_map (object_with k c) (option_map shown o)
shown-with k c None = refl
shown-with k c (Some o) = refl

-- a release at the start of a live heap object
pub release_ok : (m after : Memory) (a : ℕ) → IsSome (m.at (Heap a)) → IfSome (m.at (Heap a)) (λ o. after ≡ without m a o) → release m (Ptr (Heap a) 0) ≡ Ok after
release_ok m after a there freed = by_object (m.at (Heap a)) there freed
  where
    by_object : (o : Option Object) → IsSome o → IfSome o (λ x. after ≡ without m a x) → released m (Heap a) 0 o ≡ Ok after
    by_object None h k = cc
    by_object (Some x) h k = ap Ok (sym k)

-- ---- allocation

length-repeated : (n : ℕ) (cs : List Cell) → length (repeated n cs) ≡ n * length cs
length-repeated zero cs = omega arith
length-repeated (suc n) cs =
    omega (arith, length-append cs (repeated n cs), length-repeated n cs)

-- how many cells a new object has
pub length-fresh : (count : ℕ) (types : List Ty) (zeros : Bool) → length (repeated count (map (fresh_cell zeros) types)) ≡ count * length types
length-fresh count types zeros =
    rw (length-repeated count (map (fresh_cell zeros) types), length-map types (fresh_cell zeros)) refl

-- an allocation without a fault keeps the limit of live cells
pub no_fault : (m : Memory) (width count : ℕ) → alloc_fault m width count ≡ None → m.live + count * width ≤ 4194304
no_fault m width count h =
    room (nat_lt count 1 || nat_lt 65536 (count * width)) (nat_lt 4194304 (m.live + count * width)) (m.live + count * width) refl h
  where
    room : (b c : Bool) (n : ℕ) → nat_lt 4194304 n ≡ c → cond b (Some trap.Size) (cond c (Some trap.Heap) None) ≡ None → n ≤ 4194304
    room true c n e h = cc
    room false true n e h = cc
    room false false n e h = grind (arith, nat_tests)

-- nor has it more than 65,536 cells
pub no_size_fault : (m : Memory) (width count : ℕ) → alloc_fault m width count ≡ None → count * width ≤ 65536
no_size_fault m width count h =
    small (nat_lt count 1) (nat_lt 65536 (count * width)) (nat_lt 4194304 (m.live + count * width)) (count * width) refl h
  where
    small : (a b c : Bool) (n : ℕ) → nat_lt 65536 n ≡ b → cond (a || b) (Some trap.Size) (cond c (Some trap.Heap) None) ≡ None → n ≤ 65536
    small true b c n e h = cc
    small false true c n e h = cc
    small false false c n e h = grind (arith, nat_tests)

-- ---- a result, by cases

pub ok_or_err : {T E A B : Type 0} (P : Type 0) (r : Result T E) → OnOk r A → OnErr r B → (A → P) → (B → P) → P
ok_or_err P (Ok x) a b f g = f a
ok_or_err P (Err e) a b f g = g b

-- a look-up that found something
pub found_some : (r : Option (Bor Obj)) (q : Option Object) → option_map shown (option_copied r) ≡ q → is_some r ≡ true → IsSome q
found_some None q e h = cc
found_some (Some x) q e h = rw (← e) refl

pub on_ok_both : {T E A B P : Type 0} (r : Result T E) → (A → B → P) → OnOk r A → OnOk r B → OnOk r P
on_ok_both (Ok x) f a b = f a b
on_ok_both (Err e) f a b = tt

-- what holds of a result that is a success
pub ok_then : {T E P : Type 0} (r : Result T E) → IsOk r → OnOk r P → P
ok_then (Ok x) h p = p
ok_then (Err e) h p = let never : ⊥ = cc in absurd never
