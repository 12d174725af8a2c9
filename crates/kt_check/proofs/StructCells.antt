-- How many cells a type has in the version's table: as many as typing counts.
use Rattle.std.proofs.Common.{◌≡◌, ℕ, zero, suc, ◌<◌, ◌==◌, Bool, true, false, List, [], ◌∷◌, ◌++◌, length, slice_get, Option, Some, None, refl, sym, ap, ◌∙◌, subst, arith}
use Rattle.std.specs.Option.{is_some, option_map}
use Rattle.std.proofs.lemmas.Option.{none-some, same_Some}
use Rattle.std.proofs.lemmas.Bool.Decides.{nat_tests, Decides-eqb}
use Rattle.kt_types.specs.declared.kinds.Ty.{Ty}
use Rattle.kt_types.specs.declared.kinds.Ty.TheVariants as ty
use Rattle.kt_types.specs.declared.kinds.FieldDecl.{FieldDecl}
use Rattle.kt_types.specs.Table.{Definition, fields_by}
use Rattle.kt_types.specs.Layout.{repeated, joined, type_cells, place_cells, struct_cells}
use Rattle.kt_types.proofs.Laws.{place-alone}
use Rattle.kt_names.specs.declared.ctype.Root.{Root}
use Rattle.kt_names.specs.declared.ctype.Root.TheVariants as root
use Rattle.kt_names.specs.declared.ctype.CType.{CType}
use Rattle.kt_names.specs.Types.{pointer_to, root_type, starred_place, place_in, place_of_type}
use Rattle.kt_names.specs.Environment.{Environment, FieldOf, Struct, struct_numbered, is_complete, cells_of}
use Rattle.kt_terms.proofs.Agrees.{HasStars, Has}
use Rattle.kt_check.proofs.TypePlaces.{IsIn, some-of}
use Rattle.kt_tree.specs.Kinds.{field_pointee_of}

-- the cells of a type, where `by` has those of structs
abbrev pub starred_cells : (ℕ → Option (List Ty)) → List Ty → Root → ℕ → Option (List Ty)
starred_cells by types r zero = type_cells by (λ p. None) (root_type r)
starred_cells by types r (suc n) = Some (ty.Ptr (starred_place types r n) ∷ [])

root-cells : (by at : ℕ → Option (List Ty)) (r : Root) → type_cells by at (root_type r) ≡ type_cells by (λ p. None) (root_type r)
root-cells by at root.Char = refl
root-cells by at root.Int = refl
root-cells by at root.Long = refl
root-cells by at root.Mutex = refl
root-cells by at (root.Struct s) = refl

-- they are those that the table has at the type's place
pub cells-at : (by : ℕ → Option (List Ty)) (types : List Ty) (m : ℕ) (r : Root) (n : ℕ) → 0 < m → HasStars types r n
    → place_cells by types m (starred_place types r n) ≡ starred_cells by types r n
cells-at by types m r zero up has = place-alone by types m (starred_place types r zero) (root_type r) (starred_cells by types r zero) up has (λ at. root-cells by at r)
cells-at by types m r (suc n) up has = place-alone by types m (starred_place types r (suc n)) (ty.Ptr (starred_place types r n)) (starred_cells by types r (suc n)) up has.0 (λ at. refl)

-- an array repeats those of its elements
pub array-cells-at : (by : ℕ → Option (List Ty)) (types : List Ty) (m : ℕ) (r : Root) (n count : ℕ) → 1 < m → HasStars types r n
    → IsIn types (ty.Array (starred_place types r n) count)
    → place_cells by types m (place_of_type types (ty.Array (starred_place types r n) count)) ≡ option_map (repeated count) (starred_cells by types r n)
unfolding place_cells
array-cells-at by types zero r n count up has is = absurd (omega arith)
array-cells-at by types (suc m) r n count up has is = rw is (ap (option_map (repeated count)) (cells-at by types m r n (omega arith) has))

-- ---- structs as typing and as the version has them

-- a field as the version has it is of this type, or an array of it; and a pointer to it has its place
abbrev pub IsLike : List Ty → FieldOf → FieldDecl → Type 0
IsLike types f d = (field_pointee_of (slice_get types d.ty) d.ty ≡ place_in types f.ty) × Has types (pointer_to f.ty)

abbrev pub AreLike : List Ty → List FieldOf → List FieldDecl → Type 0
AreLike types [] [] = Unit {0}
AreLike types (f ∷ fs) (d ∷ ds) = IsLike types f d × AreLike types fs ds
AreLike types (f ∷ fs) [] = ⊥
AreLike types [] (d ∷ ds) = ⊥

pub like-at : (types : List Ty) (fs : List FieldOf) (ds : List FieldDecl) → AreLike types fs ds → (i : ℕ) (f : FieldOf) → slice_get fs i ≡ Some f
    → (d : FieldDecl) × (slice_get ds i ≡ Some d) × IsLike types f d
like-at types [] [] like i f at = absurd (none-some f at)
like-at types [] (d ∷ ds) like i f at = absurd like
like-at types (g ∷ fs) [] like i f at = absurd like
like-at types (g ∷ fs) (d ∷ ds) like zero f at = (d, refl, subst (λ h. IsLike types h d) (same_Some g f at) like.0)
like-at types (g ∷ fs) (d ∷ ds) like (suc i) f at = like-at types fs ds like.1 i f at

-- a struct is defined by these fields, which have as many cells as typing counts
abbrev pub HasCells : List Ty → List Definition → List FieldDecl → ℕ → Type 0
HasCells types defs fields n = (cs : List Ty) × (joined (place_cells (struct_cells types defs) types (length types)) fields ≡ Some cs) × (length cs ≡ n)

-- the latest definition, with those before
abbrev pub IsSame : List Ty → List Struct → List Definition → Struct → Definition → Type 0
IsSame types structs defs s d = (s.number ≡ d.number) × (struct_numbered structs s.number ≡ None) × AreLike types s.fields d.fields × HasCells types defs d.fields s.cells

abbrev pub AreSame : List Ty → List Struct → List Definition → Type 0
AreSame types [] [] = Unit {0}
AreSame types (s ∷ structs) (d ∷ defs) = IsSame types structs defs s d × AreSame types structs defs
AreSame types (s ∷ structs) [] = ⊥
AreSame types [] (d ∷ defs) = ⊥

abbrev IsKnown : List Ty → List Definition → ℕ → Struct → Type 0
IsKnown types defs n s =
    (fields : List FieldDecl) × (fields_by defs n ≡ Some fields) × AreLike types s.fields fields × (cs : List Ty) × (struct_cells types defs n ≡ Some cs) × (length cs ≡ s.cells)

-- what typing has defined is defined in the version
pub same-found : (types : List Ty) (structs : List Struct) (defs : List Definition) → AreSame types structs defs → (n : ℕ) (s : Struct)
    → struct_numbered structs n ≡ Some s → IsKnown types defs n s
unfolding struct_cells
same-found types [] defs same n s e = absurd (none-some s e)
same-found types (r ∷ structs) [] same n s e = absurd same
same-found types (r ∷ structs) (d ∷ defs) same n s e = by (r.number == n) refl (same-found types structs defs same.1 n s)
  where
    by : (b : Bool) → (r.number == n) ≡ b → (struct_numbered structs n ≡ Some s → IsKnown types defs n s) → IsKnown types (d ∷ defs) n s
    by true t later =
        let number : (d.number == n) ≡ true = ap (λ k. k == n) (sym same.0.0) ∙ t in
        let is : r ≡ s = same_Some r s (rw t at e) in
        (d.fields, rw number refl, subst (λ x. AreLike types x.fields d.fields) is same.0.2, same.0.3.0, rw number same.0.3.1, same.0.3.2 ∙ ap (λ (x : Struct). x.cells) is)
    by false t later =
        let number : (d.number == n) ≡ false = ap (λ k. k == n) (sym same.0.0) ∙ t in
        let known = later (rw t at e) in
        (known.0, rw number known.1, known.2, known.3, rw number known.4, known.5)

-- what is found before is found later
pub found-later : (types : List Ty) (more structs : List Struct) (defs : List Definition) → AreSame types (more ++ structs) defs → (n : ℕ) (s : Struct)
    → struct_numbered structs n ≡ Some s → struct_numbered (more ++ structs) n ≡ Some s
found-later types [] structs defs same n s e = e
found-later types (r ∷ more) structs [] same n s e = absurd same
found-later types (r ∷ more) structs (d ∷ defs) same n s e = by (r.number == n) refl (found-later types more structs defs same.1 n s e)
  where
    by : (b : Bool) → (r.number == n) ≡ b → struct_numbered (more ++ structs) n ≡ Some s → struct_numbered (r ∷ (more ++ structs)) n ≡ Some s
    by true t later = absurd (none-some s (sym same.0.1 ∙ ap (struct_numbered (more ++ structs)) ((Decides-eqb r.number n).0 t) ∙ later))
    by false t later = rw t later

-- ---- complete types

pub starless : (n : ℕ) → (suc n == 0) ≡ false
starless n = grind (arith, nat_tests)

abbrev pub of : Root → ℕ → CType
of r n = record { root = r; stars = n }

-- how many cells a struct has, where it is found
abbrev cells_in : Option Struct → ℕ
cells_in o = elim o as (λ _. ℕ) [ None ↦ 1 | (Some d) ↦ d.cells ]

-- a type that is complete for typing has its cells, as many as typing counts
pub complete-cells : (types : List Ty) (env : Environment) (defs : List Definition) → AreSame types env.structs defs → (r : Root) (n : ℕ) → is_complete env (of r n) ≡ true
    → (cs : List Ty) × (starred_cells (struct_cells types defs) types r n ≡ Some cs) × (length cs ≡ cells_of env (of r n))
complete-cells types env defs same r (suc n) e = (ty.Ptr (starred_place types r n) ∷ [], refl, rw (cells_of, starless n) refl)
complete-cells types env defs same root.Char zero e = (ty.Char ∷ [], refl, refl)
complete-cells types env defs same root.Int zero e = (ty.Int ∷ [], refl, refl)
complete-cells types env defs same root.Long zero e = (ty.Long ∷ [], refl, refl)
complete-cells types env defs same root.Mutex zero e = (ty.Mutex ∷ [], refl, refl)
complete-cells types env defs same (root.Struct s) zero e =
    let (d, at) = some-of (struct_numbered env.structs s) e in
    let known = same-found types env.structs defs same s d at in
    (known.3, known.4, known.5 ∙ sym (ap cells_in at))

-- what is complete stays so, with as many cells
pub complete-later : (types : List Ty) (env later : Environment) (more : List Struct) (defs : List Definition) → later.structs ≡ more ++ env.structs → AreSame types later.structs defs
    → (r : Root) (n : ℕ) → is_complete env (of r n) ≡ true → (is_complete later (of r n) ≡ true) × (cells_of later (of r n) ≡ cells_of env (of r n))
complete-later types env later more defs is same r (suc n) e = (rw (starless n) refl, rw (cells_of, starless n) refl)
complete-later types env later more defs is same root.Char zero e = (refl, refl)
complete-later types env later more defs is same root.Int zero e = (refl, refl)
complete-later types env later more defs is same root.Long zero e = (refl, refl)
complete-later types env later more defs is same root.Mutex zero e = (refl, refl)
complete-later types env later more defs is same (root.Struct s) zero e =
    let (d, at) = some-of (struct_numbered env.structs s) e in
    let there : struct_numbered later.structs s ≡ Some d =
    ap (λ l. struct_numbered l s) is ∙ found-later types more env.structs defs (subst (λ l. AreSame types l defs) is same) s d at in
    (ap is_some there, ap cells_in there ∙ sym (ap cells_in at))
