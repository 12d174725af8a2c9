-- The fields of a table after a struct is defined.
use Rattle.std.proofs.Common.{◌≡◌, ℕ, zero, suc, ◌<◌, ◌≤◌, List, [], ◌∷◌, ◌++◌, length, map, reverse, set, Option, None, Some, refl, sym, ap, ◌∙◌, subst, arith}
use Rattle.std.specs.Global.{Vec}
use Rattle.std.specs.Map.{keys_of, values_of}
use Rattle.std.proofs.lemmas.Bool.{eq-eqb}
use Rattle.std.proofs.lemmas.List.{map_push, reverse-append}
use Rattle.indexmap.specs.IndexMap.{keys, values, set_value_at}
use Rattle.kt_types.proofs.Cells.{before-grows, joined-length}
use Rattle.kt_types.proofs.Growth.{joined-grows, layout-grows-definition}
use Rattle.kt_types.proofs.Keeps.{keeps-definition}
use Rattle.kt_types.specs.Inside.{table_of, KeepsTable}
use Rattle.kt_types.specs.Kept.{definition_of, AreNames, AreStarts, IsKept, IsLaidOut}
use Rattle.kt_types.specs.Layout.{cells_before, cell_limit, joined, layout, struct_cells}
use Rattle.kt_types.specs.Table.{Table, fields_of, with_definition}
use Rattle.kt_types.specs.declared.kinds.FieldDecl.{FieldDecl}
use Rattle.kt_types.specs.declared.kinds.Ty.{Ty}
use Rattle.kt_types.specs.declared.table.StructLayout.{StructLayout}
use Rattle.kt_types.specs.declared.table.TypeTable.TheInside.{Inside}

keys_of-set_value_at : {K X : Type 0} (es : List (K × X)) (i : ℕ) (w : X) → keys_of (set_value_at es i w) ≡ keys_of es
keys_of-set_value_at [] i w = refl
keys_of-set_value_at (e ∷ es) zero w = refl
keys_of-set_value_at (e ∷ es) (suc i) w = ap (λ ks. e.0 ∷ ks) (keys_of-set_value_at es i w)

values_of-set_value_at : {K X : Type 0} (es : List (K × X)) (i : ℕ) (w : X) → values_of (set_value_at es i w) ≡ set (values_of es) i w
values_of-set_value_at [] i w = refl
values_of-set_value_at (e ∷ es) zero w = refl
values_of-set_value_at (e ∷ es) (suc i) w = ap (λ vs. e.1 ∷ vs) (values_of-set_value_at es i w)

-- the cells of a struct that is just defined
struct_cells-new : (t : Table) (s : ℕ) (fields : List FieldDecl) → struct_cells t.types (with_definition t s fields).defined s ≡ joined (layout t) fields
unfolding struct_cells layout
struct_cells-new t s fields = rw (eq-eqb s s refl) refl

-- what stands with a new definition
pub new-laid : (t : Table) (d : StructLayout) → fields_of t d.number ≡ None → (cs : List Ty) → joined (layout t) d.fields.items ≡ Some cs
    → AreStarts t d.fields.items d.starts.items → d.cells ≡ cells_before t d.fields.items (length d.fields.items) → d.cells ≤ cell_limit
    → length d.fields.items ≤ d.cells → 1 ≤ length d.fields.items → AreNames d.fields.items d.names
    → IsLaidOut (with_definition t d.number d.fields.items) d
new-laid t d new cs joins starts count few some first names =
    let u = with_definition t d.number d.fields.items in
    let grows = layout-grows-definition t d.number d.fields.items new in
    let same = before-grows t u grows d.fields.items cs joins in
    record {
      known = rw (eq-eqb d.number d.number refl) refl;
      cells = (cs, struct_cells-new t d.number d.fields.items ∙ joins, joined-grows _ _ grows d.fields.items cs joins, count ∙ sym (joined-length t d.fields.items cs joins));
      some_cells = omega arith;
      few_cells = few;
      few_fields = some;
      starts = record { len = starts.len; each = λ n lt. starts.each n lt ∙ ap Some (sym (same n)) };
      names = names;
    }

module _ (a : Inside) (t : Table) (view : table_of a ≡ t) (d : StructLayout) (entries : List (Vec ℕ × Option ℕ)) (defs : List StructLayout)
    (noted : entries ≡ set_value_at a.structs.entries d.number (Some (length a.defined.items))) (pushed : defs ≡ a.defined.items ++ d ∷ []) where
  names-stay : map (λ k. k.items) (keys_of entries) ≡ map (λ k. k.items) (keys a.structs)
  names-stay = ap (λ es. map (λ k. k.items) (keys_of es)) noted ∙ ap (map (λ k. k.items)) (keys_of-set_value_at a.structs.entries d.number _)

  latest : reverse (map definition_of defs) ≡ definition_of d ∷ reverse (map definition_of a.defined.items)
  latest = ap (λ ds. reverse (map definition_of ds)) pushed ∙ ap reverse (map_push definition_of a.defined.items d) ∙ reverse-append (map definition_of a.defined.items) (definition_of d ∷ [])

  pub definition-table : record (table_of a) { structs = map (λ k. k.items) (keys_of entries); defined = reverse (map definition_of defs) } ≡ with_definition t d.number d.fields.items
  definition-table =
      ap (λ ns. record (table_of a) { structs = ns; defined = reverse (map definition_of defs) }) names-stay
      ∙ ap (λ ds. record (table_of a) { defined = ds }) latest
      ∙ ap (λ u. with_definition u d.number d.fields.items) view

  pub definition-kept : KeepsTable a → d.number < length t.structs → fields_of t d.number ≡ None → IsLaidOut (with_definition t d.number d.fields.items) d
      → IsKept (record (table_of a) { structs = map (λ k. k.items) (keys_of entries); defined = reverse (map definition_of defs) }) a.types.entries (values_of entries) defs
  definition-kept kept within new laid =
      let now = keeps-definition (table_of a) a.types.entries (values a.structs) a.defined.items kept d
      (subst (λ u. d.number < length u.structs) (sym view) within)
      (subst (λ u. fields_of u d.number ≡ None) (sym view) new)
      (subst (λ u. IsLaidOut (with_definition u d.number d.fields.items) d) (sym view) laid) in
      let places : values_of entries ≡ set (values a.structs) d.number (Some (length a.defined.items)) = ap values_of noted ∙ values_of-set_value_at a.structs.entries d.number _ in
      subst (λ ns. IsKept (record (table_of a) { structs = ns; defined = reverse (map definition_of defs) }) a.types.entries (values_of entries) defs) (sym names-stay)
      (subst (λ ds. IsKept (record (table_of a) { defined = ds }) a.types.entries (values_of entries) defs) (sym latest)
      (subst (λ ps. IsKept (with_definition (table_of a) d.number d.fields.items) a.types.entries ps defs) (sym places)
      (subst (λ es. IsKept (with_definition (table_of a) d.number d.fields.items) a.types.entries (set (values a.structs) d.number (Some (length a.defined.items))) es) (sym pushed) now)))
