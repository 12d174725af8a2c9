-- A copy of a table keeps what the table keeps.
use Rattle.std.proofs.Common.{◌≡◌, ℕ, zero, suc, List, [], ◌∷◌, map, slice_get, Option, None, Some, refl, sym, ap, ◌∙◌, subst}
use Rattle.std.specs.List.{AllZip}
use Rattle.indexmap.specs.IndexMap.{keys, values}
use Rattle.std.proofs.lemmas.Option.{none-some, same_Some}
use Rattle.kt_types.specs.Copies.{IsCopy}
use Rattle.kt_types.specs.Inside.{table_of, KeepsTable}
use Rattle.kt_types.specs.Kept.{IsKept, IsLaidOut, IsNumbered, definition_of}
use Rattle.kt_types.specs.Table.{Table}
use Rattle.kt_types.specs.declared.kinds.Ty.{Ty}
use Rattle.kt_types.specs.declared.table.StructLayout.{StructLayout}
use Rattle.kt_types.specs.declared.table.TypeTable.TheInside.{Inside}

-- what f makes of the elements is the same, where it is at each
pub same_map : {A B : Type 0} (f : A → B) (C : A → A → Type 0) → ((x y : A) → C x y → f y ≡ f x) → (xs ys : List A) → AllZip C xs ys → map f ys ≡ map f xs
same_map f C same [] [] all = refl
same_map f C same [] (y ∷ ys) all = absurd all
same_map f C same (x ∷ xs) [] all = absurd all
same_map f C same (x ∷ xs) (y ∷ ys) all = let first = same x y all.0 in let rest = same_map f C same xs ys all.1 in cc

-- the same for what g makes of what f makes
pub same_maps : {A B D : Type 0} (f : A → B) (g : B → D) (C : A → A → Type 0) → ((x y : A) → C x y → g (f y) ≡ g (f x)) → (xs ys : List A) → AllZip C xs ys
    → map g (map f ys) ≡ map g (map f xs)
same_maps f g C same [] [] all = refl
same_maps f g C same [] (y ∷ ys) all = absurd all
same_maps f g C same (x ∷ xs) [] all = absurd all
same_maps f g C same (x ∷ xs) (y ∷ ys) all = let first = same x y all.0 in let rest = same_maps f g C same xs ys all.1 in cc

-- the element at the place that the copy's stands for
pub at_copied : {A : Type 0} (C : A → A → Type 0) (xs ys : List A) → AllZip C xs ys → (n : ℕ) (y : A) → slice_get ys n ≡ Some y → (x : A) × (slice_get xs n ≡ Some x) × C x y
at_copied C [] [] all n y at = absurd (none-some y at)
at_copied C [] (z ∷ ys) all n y at = absurd all
at_copied C (x ∷ xs) [] all n y at = absurd all
at_copied C (x ∷ xs) (z ∷ ys) all zero y at = (x, refl, subst (C x) (same_Some _ _ at) all.0)
at_copied C (x ∷ xs) (z ∷ ys) all (suc n) y at = at_copied C xs ys all.1 n y at

pub of_copied : {A : Type 0} (C : A → A → Type 0) (xs ys : List A) → AllZip C xs ys → (n : ℕ) (x : A) → slice_get xs n ≡ Some x → (y : A) × (slice_get ys n ≡ Some y) × C x y
of_copied C [] [] all n x at = absurd (none-some x at)
of_copied C [] (z ∷ ys) all n x at = absurd all
of_copied C (z ∷ xs) [] all n x at = absurd all
of_copied C (x ∷ xs) (z ∷ ys) all zero y at = (z, refl, subst (λ w. C w z) (same_Some _ _ at) all.0)
of_copied C (x ∷ xs) (z ∷ ys) all (suc n) y at = of_copied C xs ys all.1 n y at

pub definitions-copied : (xs ys : List StructLayout) → AllZip IsCopy xs ys → map definition_of ys ≡ map definition_of xs
definitions-copied xs ys all = same_map definition_of IsCopy (λ x y c. let a = c.number in let b = c.fields in cc) xs ys all

laid_out : (t : Table) (a b : StructLayout) → IsCopy a b → IsLaidOut t a → IsLaidOut t b
laid_out t a b c k = record {
  known = rw (c.number, c.fields) k.known;
  cells = rw (c.number, c.fields, c.cells) k.cells;
  some_cells = rw c.cells k.some_cells;
  few_cells = rw c.cells k.few_cells;
  few_fields = rw (c.cells, c.fields) k.few_fields;
  starts = rw (c.fields, c.starts) k.starts;
  names = c.names ∙ k.names ∙ ap (map (λ f. f.name)) (sym c.fields);
}

numbered : (t : Table) (xs ys : List StructLayout) → AllZip IsCopy xs ys → (s : ℕ) (i : Option ℕ) → IsNumbered t xs s i → IsNumbered t ys s i
numbered t xs ys all s None h = h
numbered t xs ys all s (Some i) (d, at, is) = let (e, there, c) = of_copied IsCopy xs ys all i d at in (e, there, c.number ∙ is)

-- a table of fields whose layouts are copies, and the rest the same
pub table-copied : (a b : Inside) → b.types.entries ≡ a.types.entries → map (λ name. name.items) (keys b.structs) ≡ map (λ name. name.items) (keys a.structs)
    → AllZip IsCopy a.defined.items b.defined.items → table_of b ≡ table_of a
table-copied a b types structs defined =
    let layouts = definitions-copied a.defined.items b.defined.items defined in
    rw (types, structs, layouts) refl

-- the same, with copies of the layouts
pub keeps-copied : (t : Table) (counts : List (Ty × ℕ)) (places : List (Option ℕ)) (xs ys : List StructLayout) → AllZip IsCopy xs ys → IsKept t counts places xs
    → IsKept t counts places ys
keeps-copied t counts places xs ys all k = record {
  few_types = k.few_types;
  few_structs = k.few_structs;
  counted = k.counted;
  numbered = λ s i at. numbered t xs ys all s i (k.numbered s i at);
  laid_out = λ i d at. let (e, there, c) = at_copied IsCopy xs ys all i d at in laid_out t e d c (k.laid_out i e there);
  once = k.once;
  declared = k.declared;
}

-- the fields of a copy keep what belongs to their table
pub copy-keeps : (a b : Inside) → b.types.entries ≡ a.types.entries → map (λ name. name.items) (keys b.structs) ≡ map (λ name. name.items) (keys a.structs)
    → values b.structs ≡ values a.structs → AllZip IsCopy a.defined.items b.defined.items → KeepsTable a → KeepsTable b
copy-keeps a b types structs places defined k =
    let same = table-copied a b types structs defined in
    let kept = keeps-copied (table_of a) a.types.entries (values a.structs) a.defined.items b.defined.items defined k in
    subst (λ t. IsKept t b.types.entries (values b.structs) b.defined.items) (sym same)
    (subst (λ p. IsKept (table_of a) b.types.entries p b.defined.items) (sym places)
    (subst (λ e. IsKept (table_of a) e (values a.structs) b.defined.items) (sym types) kept))
