-- Values and objects by heap number, and the object under a name by heap number.
use Rattle.std.proofs.Common.{◌≡◌, ℕ, zero, suc, Bool, true, false, cond, List, [], ◌∷◌, ◌++◌, map, Option, None, Some, Ok, Err, refl, ◌∙◌, ap, subst}
use Rattle.std.specs.Prelude.{slice_get, slice_set}
use Rattle.std.specs.Option.{option_map}
use Rattle.std.proofs.lemmas.Option.{slice_get-map}
use Rattle.std.proofs.lemmas.List.{map-append}
use Rattle.kt_types.specs.declared.kinds.Ty.{Ty}
use Rattle.kt_types.specs.declared.kinds.Ty.TheVariants as ty
use Rattle.kt_mem.specs.declared.memory.Name.{Name}
use Rattle.kt_mem.specs.declared.memory.Name.TheVariants.{Glob, Lit, Heap}
use Rattle.kt_mem.specs.declared.memory.Value.{Value}
use Rattle.kt_mem.specs.declared.memory.Value.TheVariants.{Num, Null, Ptr, Free, Held, Undef}
use Rattle.kt_mem.specs.declared.steps.Trap.TheVariants as trap
use Rattle.kt_mem.specs.Values.{ty_eq, defined}
use Rattle.kt_mem.specs.Memory.{Memory, Object, Cell, cell_value, value_in, value_at, object_with, fresh_cell, repeated, fresh_object}
use Rattle.kt_heap.specs.Heap.{Paired, IsNew, IsPairing}
use Rattle.kt_mem.specs.Renaming.{Pairs, rename_name, rename_value, renamed}
use Rattle.kt_heap.specs.ByNumber.{cell_by_number, object_by_number, object_named, by_number, answer_by, WasGiven}
use Rattle.kt_heap.proofs.Pairs.{number_there, address_there, number_pushed}

-- a name that was given out
abbrev pub NameGiven : Pairs → Name → Type 0
NameGiven pairs (Heap a) = (n : ℕ) × Paired pairs a n
NameGiven pairs (Glob i) = Unit {0}
NameGiven pairs (Lit v i) = Unit {0}

pub name_given : (pairs : Pairs) (n : Name) (k : ℕ) → WasGiven pairs (Ptr n k) → NameGiven pairs n
name_given pairs (Heap a) k g = g
name_given pairs (Glob i) k g = tt
name_given pairs (Lit v i) k g = tt

-- ---- reading

-- the object under a name
pub object_there : (pairs : Pairs) (m : Memory) (at : Name → Option Object) (n : Name) → IsPairing pairs m → NameGiven pairs n → object_named pairs at (rename_name (renamed pairs) n) ≡ at n
object_there pairs m at (Glob i) kept g = refl
object_there pairs m at (Lit v i) kept g = refl
object_there pairs m at (Heap a) kept g =
    rw (number_there pairs m a g.0 kept g.1, address_there pairs m a g.0 kept g.1) refl

cell_value_by : (pairs : Pairs) (c : Option Cell) (t : Ty) → cell_value (option_map (cell_by_number pairs) c) t ≡ answer_by (rename_value (renamed pairs)) (cell_value c t)
cell_value_by pairs None t = refl
cell_value_by pairs (Some c) t = by_type (ty_eq c.ty t)
  where
    by_type : (b : Bool) → cond b (Ok (rename_value (renamed pairs) c.value)) (Err trap.Bounds) ≡ answer_by (rename_value (renamed pairs)) (cond b (Ok c.value) (Err trap.Bounds))
    by_type true = refl
    by_type false = refl

pub value_in_by : (pairs : Pairs) (o : Option Object) (k : ℕ) (t : Ty) → value_in (option_map (object_by_number pairs) o) k t ≡ answer_by (rename_value (renamed pairs)) (value_in o k t)
value_in_by pairs None k t = refl
value_in_by pairs (Some o) k t =
    ap (λ (c : Option Cell). cell_value c t) (slice_get-map (cell_by_number pairs) o.cells k) ∙ cell_value_by pairs (slice_get o.cells k) t

pub value_at_by : (pairs : Pairs) (m : Memory) (p : Value) (t : Ty) → IsPairing pairs m → WasGiven pairs p → value_at (by_number pairs m) (rename_value (renamed pairs) p) t ≡ answer_by (rename_value (renamed pairs)) (value_at m p t)
value_at_by pairs m (Ptr n k) t kept g =
    ap (λ (o : Option Object). value_in (option_map (object_by_number pairs) o) k t) (object_there pairs m m.at n kept (name_given pairs n k g)) ∙ value_in_by pairs (m.at n) k t
value_at_by pairs m Null t kept g = refl
value_at_by pairs m (Num z) t kept g = refl
value_at_by pairs m Free t kept g = refl
value_at_by pairs m (Held w) t kept g = refl
value_at_by pairs m Undef t kept g = refl

pub defined_by : (pairs : Pairs) (v : Value) → defined (rename_value (renamed pairs) v) ≡ answer_by (rename_value (renamed pairs)) (defined v)
defined_by pairs (Ptr n k) = refl
defined_by pairs Null = refl
defined_by pairs (Num z) = refl
defined_by pairs Free = refl
defined_by pairs (Held w) = refl
defined_by pairs Undef = refl

-- ---- writing

map_set : (f : Cell → Cell) (cs : List Cell) (k : ℕ) (c : Cell) → map f (slice_set cs k c) ≡ slice_set (map f cs) k (f c)
map_set f [] k c = refl
map_set f (x ∷ cs) zero c = refl
map_set f (x ∷ cs) (suc k) c = ap (λ ys. f x ∷ ys) (map_set f cs k c)

-- an object with another cell
pub object_with_by : (pairs : Pairs) (k : ℕ) (c : Cell) (o : Option Object) → option_map (object_by_number pairs) (option_map (object_with k c) o) ≡ option_map (object_with k (cell_by_number pairs c)) (option_map (object_by_number pairs) o)
object_with_by pairs k c None = refl
object_with_by pairs k c (Some o) =
    ap (λ (cs : List Cell). Some (record o { cells = cs })) (map_set (cell_by_number pairs) o.cells k c)

-- ---- a new object

fresh_cell_by : (pairs : Pairs) (zeros : Bool) (t : Ty) → cell_by_number pairs (fresh_cell zeros t) ≡ fresh_cell zeros t
fresh_cell_by pairs false t = refl
fresh_cell_by pairs true ty.Char = refl
fresh_cell_by pairs true ty.Int = refl
fresh_cell_by pairs true ty.Long = refl
fresh_cell_by pairs true ty.Mutex = refl
fresh_cell_by pairs true (ty.Struct s) = refl
fresh_cell_by pairs true (ty.Array e n) = refl
fresh_cell_by pairs true (ty.Ptr e) = refl

fresh_cells_by : (pairs : Pairs) (zeros : Bool) (types : List Ty) → map (cell_by_number pairs) (map (fresh_cell zeros) types) ≡ map (fresh_cell zeros) types
fresh_cells_by pairs zeros [] = refl
fresh_cells_by pairs zeros (t ∷ types) =
    rw (fresh_cell_by pairs zeros t, fresh_cells_by pairs zeros types) refl

repeated_by : (f : Cell → Cell) (count : ℕ) (cs : List Cell) → map f (repeated count cs) ≡ repeated count (map f cs)
repeated_by f zero cs = refl
repeated_by f (suc n) cs =
    map-append f cs (repeated n cs) ∙ ap (λ ys. map f cs ++ ys) (repeated_by f n cs)

-- holds no name
pub fresh_object_by : (pairs : Pairs) (number place count : ℕ) (types : List Ty) (zeros : Bool) → object_by_number pairs (fresh_object number place types count zeros) ≡ fresh_object number place types count zeros
fresh_object_by pairs number place count types zeros =
    ap (λ (cs : List Cell). record { number = number; ty = place; count = count; cells = cs }) (repeated_by (cell_by_number pairs) count (map (fresh_cell zeros) types) ∙ ap (repeated count) (fresh_cells_by pairs zeros types))

-- ---- one pair more

-- what was given out before has the number that it had
pub value_pushed : (pairs : Pairs) (a n : ℕ) (v : Value) → IsNew pairs a → WasGiven pairs v → rename_value (renamed (pairs ++ (a, n) ∷ [])) v ≡ rename_value (renamed pairs) v
value_pushed pairs a n (Ptr (Heap b) k) new g =
    ap (λ (c : ℕ). Ptr (Heap c) k) (number_pushed pairs a n b (λ e. new g.0 (subst (λ (x : ℕ). Paired pairs x g.0) e g.1)))
value_pushed pairs a n (Ptr (Glob i) k) new g = refl
value_pushed pairs a n (Ptr (Lit v i) k) new g = refl
value_pushed pairs a n Null new g = refl
value_pushed pairs a n (Num z) new g = refl
value_pushed pairs a n Free new g = refl
value_pushed pairs a n (Held w) new g = refl
value_pushed pairs a n Undef new g = refl

pub cells_pushed : (pairs : Pairs) (a n : ℕ) (cs : List Cell) → IsNew pairs a → ((k : ℕ) (c : Cell) → slice_get cs k ≡ Some c → WasGiven pairs c.value) → map (cell_by_number (pairs ++ (a, n) ∷ [])) cs ≡ map (cell_by_number pairs) cs
cells_pushed pairs a n [] new given = refl
cells_pushed pairs a n (c ∷ cs) new given =
    let first : cell_by_number (pairs ++ (a, n) ∷ []) c ≡ cell_by_number pairs c = ap (λ (v : Value). record c { value = v }) (value_pushed pairs a n c.value new (given 0 c refl)) in
    rw (first, cells_pushed pairs a n cs new (λ k x. given (suc k) x)) refl

-- an object all of whose values were given out before
pub object_pushed : (pairs : Pairs) (a n : ℕ) (o : Option Object) → IsNew pairs a → ((x : Object) (k : ℕ) (c : Cell) → o ≡ Some x → slice_get x.cells k ≡ Some c → WasGiven pairs c.value) → option_map (object_by_number (pairs ++ (a, n) ∷ [])) o ≡ option_map (object_by_number pairs) o
object_pushed pairs a n None new given = refl
object_pushed pairs a n (Some o) new given =
    ap (λ (cs : List Cell). Some (record o { cells = cs })) (cells_pushed pairs a n o.cells new (λ k c. given o k c refl))
