-- A longer table gives the same cells: what is complete stays so, with the cells that it has.
use Rattle.std.proofs.Common.{◌≡◌, ℕ, zero, suc, ◌≤◌, true, false, List, [], ◌∷◌, ◌++◌, length, length-append, if◌then◌else◌, ◌==◌, Option, None, Some, refl, sym, ap, subst, arith, slice_get, inl, inr}
use Rattle.std.specs.Option.{option_map}
use Rattle.std.proofs.lemmas.Bool.{eqb-true, cases_Bool}
use Rattle.std.proofs.lemmas.Option.{option_and_then_some, none-some}
use Rattle.kt_types.specs.Layout.{repeated, joined, type_cells, place_cells, struct_cells, layout}
use Rattle.kt_types.specs.Table.{Table, Definition, fields_by, fields_of, with_type, with_struct, with_definition}
use Rattle.kt_types.specs.declared.kinds.FieldDecl.{FieldDecl}
use Rattle.kt_types.specs.declared.kinds.Ty.{Ty}
use Rattle.kt_types.specs.declared.kinds.Ty.TheVariants.{Char, Int, Long, Mutex, Struct, Array, Ptr}

-- what f gives, g gives too
abbrev pub Grows : (ℕ → Option (List Ty)) → (ℕ → Option (List Ty)) → Type 0
Grows f g = (p : ℕ) (cs : List Ty) → f p ≡ Some cs → g p ≡ Some cs

-- each type of the first list stands at its place in the second
abbrev pub IsFront : List Ty → List Ty → Type 0
IsFront types more = (p : ℕ) (ty : Ty) → slice_get types p ≡ Some ty → slice_get more p ≡ Some ty

-- a value that a map gave comes from a value
pub option_map_some : {A B : Type 0} (f : A → B) (o : Option A) (y : B) → option_map f o ≡ Some y → (x : A) × (o ≡ Some x) × (f x ≡ y)
option_map_some f None y h = absurd (none-some y h)
option_map_some f (Some x) y h = (x, refl, cc)

-- the cells of a type grow with those of the structs and of the places
pub type-grows : (by by' at at' : ℕ → Option (List Ty)) → Grows by by' → Grows at at' → (ty : Ty) (cs : List Ty)
    → type_cells by at ty ≡ Some cs → type_cells by' at' ty ≡ Some cs
type-grows by by' at at' g h Char cs e = e
type-grows by by' at at' g h Int cs e = e
type-grows by by' at at' g h Long cs e = e
type-grows by by' at at' g h Mutex cs e = e
type-grows by by' at at' g h (Ptr q) cs e = e
type-grows by by' at at' g h (Struct s) cs e = g s cs e
type-grows by by' at at' g h (Array p n) cs e =
    let (x, is, same) = option_map_some (repeated n) (at p) cs e in
    rw (h p x is) (ap Some same)

pub joined-grows : (at at' : ℕ → Option (List Ty)) → Grows at at' → (fs : List FieldDecl) (cs : List Ty)
    → joined at fs ≡ Some cs → joined at' fs ≡ Some cs
joined-grows at at' g [] cs e = e
joined-grows at at' g (f ∷ fs) cs e =
    option_and_then_some _ (at f.ty) cs e (λ x is rest.
    let (y, more, same) = option_map_some (λ r. x ++ r) (joined at fs) cs rest in
    rw (g f.ty x is, joined-grows at at' g fs y more) (ap Some same))

pub place-grows : (by by' : ℕ → Option (List Ty)) (types more : List Ty) → Grows by by' → IsFront types more → (n m : ℕ) → n ≤ m
    → Grows (place_cells by types n) (place_cells by' more m)
unfolding place_cells
place-grows by by' types more g front zero m le p cs e = absurd (none-some cs e)
place-grows by by' types more g front (suc n) zero le p cs e = absurd (omega arith)
place-grows by by' types more g front (suc n) (suc m) le p cs e =
    option_and_then_some _ (slice_get types p) cs e (λ ty is has.
    rw (front p ty is) (type-grows by by' _ _ g (place-grows by by' types more g front n m (omega arith)) ty cs has))

pub struct-grows-types : (types more : List Ty) → IsFront types more → length types ≤ length more → (defs : List Definition)
    → Grows (struct_cells types defs) (struct_cells more defs)
unfolding struct_cells
struct-grows-types types more front le [] s cs e = absurd (none-some cs e)
struct-grows-types types more front le (d ∷ earlier) s cs e =
    let before = struct-grows-types types more front le earlier in
    elim (d.number == s) as (λ b. (if b then joined (place_cells (struct_cells types earlier) types (length types)) d.fields else struct_cells types earlier s) ≡ Some cs
    → (if b then joined (place_cells (struct_cells more earlier) more (length more)) d.fields else struct_cells more earlier s) ≡ Some cs) [
      | true ↦ λ h. joined-grows _ _ (place-grows _ _ types more before front (length types) (length more) le) d.fields cs h
      | false ↦ λ h. before s cs h
    ] e

-- a struct with cells is defined
pub struct_cells-defined : (types : List Ty) (defs : List Definition) (s : ℕ) (cs : List Ty)
    → struct_cells types defs s ≡ Some cs → fields_by defs s ≡ None → ⊥
unfolding struct_cells
struct_cells-defined types [] s cs e none = none-some cs e
struct_cells-defined types (d ∷ earlier) s cs e none =
    elim (d.number == s) as (λ b. (if b then joined (place_cells (struct_cells types earlier) types (length types)) d.fields else struct_cells types earlier s) ≡ Some cs
    → (if b then Some d.fields else fields_by earlier s) ≡ None → ⊥) [
      | true ↦ λ _ h. none-some _ (sym h)
      | false ↦ λ h g. struct_cells-defined types earlier s cs h g
    ] e none

pub struct-grows-defs : (types : List Ty) (d : Definition) (earlier : List Definition) → fields_by earlier d.number ≡ None
    → Grows (struct_cells types earlier) (struct_cells types (d ∷ earlier))
unfolding struct_cells
struct-grows-defs types d earlier new s cs e =
    elim (cases_Bool (d.number == s)) [
      | inl same ↦ absurd (struct_cells-defined types earlier d.number cs (subst (λ k. struct_cells types earlier k ≡ Some cs) (sym (eqb-true d.number s same)) e) new)
      | inr other ↦ rw other e
    ]

-- the same of whole layouts
pub front-push : (types : List Ty) (ty : Ty) → IsFront types (types ++ ty ∷ [])
front-push [] ty p x e = absurd (none-some x e)
front-push (t ∷ ts) ty zero x e = e
front-push (t ∷ ts) ty (suc p) x e = front-push ts ty p x e

pub layout-grows-type : (t : Table) (ty : Ty) → Grows (layout t) (layout (with_type t ty))
unfolding layout
layout-grows-type t ty =
    let front = front-push t.types ty in
    let le : length t.types ≤ length (t.types ++ ty ∷ []) = rw (length-append) (omega arith) in
    place-grows _ _ t.types (t.types ++ ty ∷ []) (struct-grows-types t.types (t.types ++ ty ∷ []) front le t.defined) front (length t.types) (length (t.types ++ ty ∷ [])) le

pub layout-grows-definition : (t : Table) (s : ℕ) (fields : List FieldDecl) → fields_of t s ≡ None
    → Grows (layout t) (layout (with_definition t s fields))
unfolding layout
layout-grows-definition t s fields new =
    place-grows _ _ t.types t.types (struct-grows-defs t.types (record { number = s; fields = fields }) t.defined new) (λ p ty e. e) (length t.types) (length t.types) (omega arith)

pub layout-with_struct : (t : Table) (name : List ℕ) (p : ℕ) → layout (with_struct t name) p ≡ layout t p
unfolding layout
layout-with_struct t name p = refl
