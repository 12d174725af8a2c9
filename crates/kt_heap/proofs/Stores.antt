-- A store, and what is under the name after it.
use Rattle.std.proofs.Common.{◌≡◌, ℕ, ◌==◌, cond, List, Option, Ok, IsOk, refl, sym, ◌∙◌, ap}
use Rattle.std.specs.Option.{option_map}
use Rattle.kt_mem.specs.declared.memory.Name.{Name}
use Rattle.kt_mem.specs.declared.memory.Name.TheVariants.{Glob, Heap}
use Rattle.kt_mem.specs.declared.memory.Value.TheVariants.{Ptr}
use Rattle.kt_mem.specs.Memory.{Memory, Object, Cell, put, value_in, store, object_with}
use Rattle.kt_heap.specs.declared.object.Obj.{Obj}
use Rattle.kt_heap.specs.Objects.{shown, obj_with, held, object_in}
use Rattle.kt_heap.specs.Keyed.{Keyed, obj_at, IsPut}
use Rattle.kt_heap.specs.Heap.{State, memory}
use Rattle.kt_heap.proofs.Look.{memory_put, memory_glob}
use Rattle.kt_heap.proofs.Acts.{store_ok, shown-with}

-- a memory with a written cell, as the heap makes it
written : (m : Memory) (n : Name) (k : ℕ) (c : Cell) (o : Option Obj) → m.at n ≡ option_map shown o → record m { at = put m.at n (option_map shown (option_map (obj_with k c) o)) } ≡ record m { at = put m.at n (option_map (object_with k c) (m.at n)) }
written m n k c o e =
    ap (λ (q : Option Object). record m { at = put m.at n q }) (shown-with k c o ∙ ap (option_map (object_with k c)) (sym e))

-- a global's
pub stored_glob : (s : State) (ys : List (Option Obj)) (i k : ℕ) (c : Cell) → ((j : ℕ) → held ys j ≡ cond (j == i) (option_map (obj_with k c) (held s.globals i)) (held s.globals j)) → IsOk (value_in (object_in s.globals i) k c.ty) → store (memory s) (Ptr (Glob i) k) c.ty c.value ≡ Ok (memory (record s { globals = ys }))
unfolding memory
stored_glob s ys i k c e there =
    store_ok (memory s) (Glob i) k c.ty c.value refl there ∙ ap Ok (sym (memory_glob s ys i (option_map (obj_with k c) (held s.globals i)) e ∙ written (memory s) (Glob i) k c (held s.globals i) refl))

-- a heap object's
pub stored_heap : (s : State) (h : Keyed) (a k : ℕ) (c : Cell) → IsPut s.objects h a (option_map (obj_with k c) (obj_at s.objects a)) → IsOk (value_in (option_map shown (obj_at s.objects a)) k c.ty) → store (memory s) (Ptr (Heap a) k) c.ty c.value ≡ Ok (memory (record s { objects = h }))
unfolding memory
stored_heap s h a k c e there =
    store_ok (memory s) (Heap a) k c.ty c.value refl there ∙ ap Ok (sym (memory_put s h s.next s.used s.pairs a (option_map (obj_with k c) (obj_at s.objects a)) e ∙ written (memory s) (Heap a) k c (obj_at s.objects a) refl))
