-- The value at a pointer after another value was put into a cell.
use Rattle.std.proofs.Common.{◌≡◌, ◌≢◌, ℕ, zero, suc, List, [], ◌∷◌, Option, Some, None, Ok, refl, ap, subst}
use Rattle.std.specs.Prelude.{slice_get, slice_set}
use Rattle.std.specs.Option.{option_map}
use Rattle.kt_types.specs.declared.kinds.Ty.{Ty}
use Rattle.kt_mem.specs.declared.memory.Name.{Name}
use Rattle.kt_mem.specs.declared.memory.Value.{Value}
use Rattle.kt_mem.specs.declared.memory.Value.TheVariants.{Num, Null, Ptr, Free, Held, Undef}
use Rattle.kt_mem.specs.Memory.{Memory, Object, Cell, cell_value, value_in, value_at, object_with, with_value}
use Rattle.kt_mem.proofs.Names.{ty_eq-refl, put-same, put-cases}

-- ---- one list of cells

cell_value-set_same : (cs : List Cell) (k : ℕ) (t : Ty) (old new : Value) → cell_value (slice_get cs k) t ≡ Ok old → cell_value (slice_get (slice_set cs k (record { ty = t; value = new })) k) t ≡ Ok new
cell_value-set_same [] k t old new h = cc
cell_value-set_same (c ∷ cs) zero t old new h = rw (ty_eq-refl t)
cell_value-set_same (c ∷ cs) (suc k) t old new h = cell_value-set_same cs k t old new h

slice_get-set_other : (cs : List Cell) (k j : ℕ) (c : Cell) → j ≢ k → slice_get (slice_set cs k c) j ≡ slice_get cs j
slice_get-set_other [] k j c h = refl
slice_get-set_other (d ∷ cs) zero zero c h = absurd (h refl)
slice_get-set_other (d ∷ cs) zero (suc j) c h = refl
slice_get-set_other (d ∷ cs) (suc k) zero c h = refl
slice_get-set_other (d ∷ cs) (suc k) (suc j) c h = slice_get-set_other cs k j c (λ e. h (ap suc e))

-- ---- one object

value_in-set_same : (o : Option Object) (k : ℕ) (t : Ty) (old new : Value) → value_in o k t ≡ Ok old → value_in (option_map (object_with k (record { ty = t; value = new })) o) k t ≡ Ok new
value_in-set_same None k t old new h = cc
value_in-set_same (Some o) k t old new h = cell_value-set_same o.cells k t old new h

value_in-set_other : (o : Option Object) (k j : ℕ) (c : Cell) (u : Ty) → j ≢ k → value_in (option_map (object_with k c) o) j u ≡ value_in o j u
value_in-set_other None k j c u h = refl
value_in-set_other (Some o) k j c u h = ap (λ d. cell_value d u) (slice_get-set_other o.cells k j c h)

-- ---- a memory

pub value_at-with_same : (m : Memory) (p : Value) (t : Ty) (old new : Value) → value_at m p t ≡ Ok old → value_at (with_value m p t new) p t ≡ Ok new
value_at-with_same m (Ptr n k) t old new h =
    rw (put-same m.at n (option_map (object_with k (record { ty = t; value = new })) (m.at n))) (value_in-set_same (m.at n) k t old new h)
value_at-with_same m (Num z) t old new h = cc
value_at-with_same m Null t old new h = cc
value_at-with_same m Free t old new h = cc
value_at-with_same m (Held w) t old new h = cc
value_at-with_same m Undef t old new h = cc

pub value_at-with_other : (m : Memory) (p q : Value) (t u : Ty) (new : Value) → p ≢ q → value_at (with_value m p t new) q u ≡ value_at m q u
value_at-with_other m (Ptr n k) (Ptr o j) t u new h =
    let c : Cell = record { ty = t; value = new } in
    put-cases
    (λ x. value_in x j u ≡ value_in (m.at o) j u)
    m.at
    n
    o
    (option_map (object_with k c) (m.at n))
    (λ e. subst (λ (r : Name). value_in (option_map (object_with k c) (m.at r)) j u ≡ value_in (m.at o) j u) e (value_in-set_other (m.at o) k j c u (λ same. h (rw (e, same)))))
    (λ _. refl)
value_at-with_other m (Ptr n k) (Num z) t u new h = refl
value_at-with_other m (Ptr n k) Null t u new h = refl
value_at-with_other m (Ptr n k) Free t u new h = refl
value_at-with_other m (Ptr n k) (Held w) t u new h = refl
value_at-with_other m (Ptr n k) Undef t u new h = refl
value_at-with_other m (Num z) q t u new h = refl
value_at-with_other m Null q t u new h = refl
value_at-with_other m Free q t u new h = refl
value_at-with_other m (Held w) q t u new h = refl
value_at-with_other m Undef q t u new h = refl
