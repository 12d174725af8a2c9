-- Complete types: what is looked up is the layout.
use Rattle.std.proofs.Common.{◌≡◌, ℕ, zero, suc, ◌≤◌, true, false, List, [], ◌∷◌, length, Option, None, Some, is_some, IsSome, refl, sym, ap, ◌∙◌, arith, slice_get}
use Rattle.std.specs.Prelude.{MatchOption}
use Rattle.std.specs.Borrow.{Bor}
use Rattle.std.proofs.lemmas.Bool.{false≢true}
use Rattle.std.proofs.lemmas.Option.{none-some}
use Rattle.kt_types.proofs.Cells.{joined-complete, length-repeated}
use Rattle.kt_types.proofs.Growth.{struct_cells-defined}
use Rattle.kt_types.proofs.Laws.{layout-alone}
use Rattle.kt_types.specs.Kept.{IsCounted, IsLaidOut}
use Rattle.kt_types.specs.Layout.{IsComplete, cell_limit, joined, layout, place_cells, repeated, struct_cells}
use Rattle.kt_types.specs.Table.{Table, fields_of}
use Rattle.kt_types.specs.declared.kinds.FieldDecl.{FieldDecl}
use Rattle.kt_types.specs.declared.kinds.Ty.{Ty}
use Rattle.kt_types.specs.declared.kinds.Ty.TheVariants.{Char, Int, Long, Mutex, Struct, Array, Ptr}
use Rattle.kt_types.specs.declared.table.StructLayout.{StructLayout}

-- the value of an option that has one
pub value-of : {A : Type 0} (o : Option A) → IsSome o → (x : A) × (o ≡ Some x)
value-of None h = absurd (false≢true h)
value-of (Some x) h = (x, refl)

-- an option without one
pub none-of : {A : Type 0} (o : Option A) → (IsSome o → ⊥) → o ≡ None
none-of None h = refl
none-of (Some x) h = absurd (h refl)

pub some-of : {A : Type 0} (o : Option A) (x : A) → o ≡ Some x → IsSome o
some-of o x e = rw e refl

-- no place, no layout
place_cells-nowhere : (by : ℕ → Option (List Ty)) (types : List Ty) (n p : ℕ) → slice_get types p ≡ None → place_cells by types n p ≡ None
unfolding place_cells
place_cells-nowhere by types zero p none = refl
place_cells-nowhere by types (suc n) p none = rw none refl

pub layout-nowhere : (t : Table) (p : ℕ) → slice_get t.types p ≡ None → layout t p ≡ None
unfolding layout
layout-nowhere t p none = place_cells-nowhere _ t.types (length t.types) p none

-- a type that is no struct
abbrev pub IsNoStruct : Ty → Type 0
IsNoStruct (Struct s) = ⊥
IsNoStruct (Array e n) = Unit {0}
IsNoStruct (Ptr p) = Unit {0}
IsNoStruct Char = Unit {0}
IsNoStruct Int = Unit {0}
IsNoStruct Long = Unit {0}
IsNoStruct Mutex = Unit {0}

-- the count of a type that is no struct
pub counted-cells : (t : Table) (p : ℕ) (ty : Ty) (n : ℕ) → IsNoStruct ty → slice_get t.types p ≡ Some ty → IsCounted t p ty n
    → (cs : List Ty) × (layout t p ≡ Some cs) × (n ≡ length cs) × (1 ≤ n) × (n ≤ cell_limit)
counted-cells t p (Struct s) n simple at h = absurd simple
counted-cells t p (Array e k) n simple at h = (repeated k h.0, h.3, h.4 ∙ sym (length-repeated k h.0), h.5, h.6)
counted-cells t p (Ptr q) n simple at h = (Ptr q ∷ [], layout-alone t p (Ptr q) _ at (λ _. refl), h.1, omega (arith, h.1), omega (arith, h.1))
counted-cells t p Char n simple at h = (Char ∷ [], layout-alone t p Char _ at (λ _. refl), h, omega arith, omega arith)
counted-cells t p Int n simple at h = (Int ∷ [], layout-alone t p Int _ at (λ _. refl), h, omega arith, omega arith)
counted-cells t p Long n simple at h = (Long ∷ [], layout-alone t p Long _ at (λ _. refl), h, omega arith, omega arith)
counted-cells t p Mutex n simple at h = (Mutex ∷ [], layout-alone t p Mutex _ at (λ _. refl), h, omega arith, omega arith)

-- a struct has the cells of its definition
pub struct-layout : (t : Table) (p s : ℕ) (d : StructLayout) → slice_get t.types p ≡ Some (Struct s) → IsLaidOut t d → d.number ≡ s
    → (cs : List Ty) × (layout t p ≡ Some cs) × (joined (layout t) d.fields.items ≡ Some cs) × (d.cells ≡ length cs)
struct-layout t p s d at laid is = (
  laid.cells.0,
  layout-alone t p (Struct s) _ at (λ _. refl) ∙ ap (struct_cells t.types t.defined) (sym is) ∙ laid.cells.1,
  laid.cells.2,
  laid.cells.3,
)

-- and is incomplete without one
pub struct-undefined : (t : Table) (p s : ℕ) → slice_get t.types p ≡ Some (Struct s) → fields_of t s ≡ None → layout t p ≡ None
struct-undefined t p s at none =
    layout-alone t p (Struct s) _ at (λ _. refl)
    ∙ none-of _ (λ some. let (cs, e) = value-of _ some in struct_cells-defined t.types t.defined s cs e none)

-- a struct is complete where its definition is found
pub struct-complete : (t : Table) (p s : ℕ) (o : Option (Bor StructLayout)) → slice_get t.types p ≡ Some (Struct s)
    → MatchOption o (fields_of t s ≡ None) (λ d. IsLaidOut t d.now × (d.now.number ≡ s))
    → (is_some o ≡ true → IsComplete t p) × (IsComplete t p → is_some o ≡ true)
struct-complete t p s None at h =
    ((λ e. absurd (false≢true e)), (λ e. absurd (false≢true (ap is_some (sym (struct-undefined t p s at h)) ∙ e))))
struct-complete t p s (Some d) at h =
    let (cs, has, _, _) = struct-layout t p s d.now at h.0 h.1 in
    ((λ e. some-of _ cs has), (λ e. refl))

-- one incomplete field, no cells
pub joined-none : (at : ℕ → Option (List Ty)) (fs : List FieldDecl) (n : ℕ) (f : FieldDecl) → slice_get fs n ≡ Some f → at f.ty ≡ None → joined at fs ≡ None
joined-none at fs n f is none =
    none-of _ (λ some.
    let (cs, e) = value-of _ some in
    let (x, has) = joined-complete at fs cs e n f is in
    none-some x (sym none ∙ has))

-- a type that is found to be no struct
pub no-struct : (ty : Ty) → ((s : ℕ) → ty ≡ Struct s → ⊥) → IsNoStruct ty
no-struct (Struct s) other = other s refl
no-struct (Array e n) other = tt
no-struct (Ptr p) other = tt
no-struct Char other = tt
no-struct Int other = tt
no-struct Long other = tt
no-struct Mutex other = tt

-- a scalar type is its own cell
pub scalar-cells : (t : Table) (p : ℕ) (ty : Ty) → ((s : ℕ) → ty ≡ Struct s → ⊥) → ((e n : ℕ) → ty ≡ Array e n → ⊥) → slice_get t.types p ≡ Some ty
    → layout t p ≡ Some (ty ∷ [])
scalar-cells t p (Struct s) no_struct no_array at = absurd (no_struct s refl)
scalar-cells t p (Array e n) no_struct no_array at = absurd (no_array e n refl)
scalar-cells t p (Ptr q) no_struct no_array at = layout-alone t p (Ptr q) _ at (λ _. refl)
scalar-cells t p Char no_struct no_array at = layout-alone t p Char _ at (λ _. refl)
scalar-cells t p Int no_struct no_array at = layout-alone t p Int _ at (λ _. refl)
scalar-cells t p Long no_struct no_array at = layout-alone t p Long _ at (λ _. refl)
scalar-cells t p Mutex no_struct no_array at = layout-alone t p Mutex _ at (λ _. refl)

-- what is found to have no value is none
pub is_none : {A : Type 0} (o : Option A) → false ≡ is_some o → o ≡ None
is_none o e = none-of o (λ some. false≢true (e ∙ some))
