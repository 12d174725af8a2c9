-- The fields of a table after a type or a struct is added.
use Rattle.std.proofs.Common.{◌≡◌, ℕ, ◌<◌, List, [], ◌∷◌, ◌++◌, length, map, Option, None, Some, sym, ap, ◌∙◌, subst, arith, slice_get, inl, inr}
use Rattle.std.specs.Global.{Vec}
use Rattle.std.specs.Map.{keys_of, values_of}
use Rattle.std.proofs.lemmas.List.{map_push, length-map}
use Rattle.std.proofs.lemmas.Map.Entries.{length-keys_of, length-values_of}
use Rattle.indexmap.specs.IndexMap.{keys, values}
use Rattle.kt_types.proofs.Keeps.{keeps-type, keeps-struct, slice_get-push, slice_get-at_push}
use Rattle.kt_types.specs.Inside.{table_of, KeepsTable}
use Rattle.kt_types.specs.Kept.{IsCounted, IsKept}
use Rattle.kt_types.specs.Table.{Table, with_type, with_struct}
use Rattle.kt_types.specs.declared.kinds.Ty.{Ty}
use Rattle.kt_types.specs.declared.table.TypeTable.TheInside.{Inside}

module _ (a : Inside) (t : Table) (view : table_of a ≡ t) where
  module _ (ty : Ty) (n : ℕ) (entries : List (Ty × ℕ)) (e : entries ≡ a.types.entries ++ (ty, n) ∷ []) where
    type-keys : keys_of entries ≡ keys a.types ++ ty ∷ []
    type-keys = ap keys_of e ∙ map_push (λ c. c.0) a.types.entries (ty, n)

    pub type-table : record (table_of a) { types = keys_of entries } ≡ with_type t ty
    type-table = ap (λ ks. record (table_of a) { types = ks }) type-keys ∙ ap (λ u. with_type u ty) view

    pub type-kept : KeepsTable a → length t.types < 4294967295 → IsCounted (with_type t ty) (length t.types) ty n
        → IsKept (record (table_of a) { types = keys_of entries }) entries (values a.structs) a.defined.items
    type-kept kept room counted =
        let new = keeps-type (table_of a) a.types.entries (values a.structs) a.defined.items kept (sym (length-keys_of a.types.entries))
        (subst (λ u. length u.types < 4294967295) (sym view) room) ty n (subst (λ u. IsCounted (with_type u ty) (length u.types) ty n) (sym view) counted) in
        subst (λ ks. IsKept (record (table_of a) { types = ks }) entries (values a.structs) a.defined.items) (sym type-keys)
        (subst (λ es. IsKept (with_type (table_of a) ty) es (values a.structs) a.defined.items) (sym e) new)

    pub type-place : slice_get (keys_of entries) (length a.types.entries) ≡ Some ty
    type-place = ap (λ ks. slice_get ks (length a.types.entries)) type-keys ∙ ap (slice_get _) (sym (length-keys_of a.types.entries)) ∙ slice_get-at_push (keys a.types) ty

    pub type-only : ((q : ℕ) → slice_get (keys a.types) q ≡ Some ty → ⊥) → (q : ℕ) → slice_get (keys_of entries) q ≡ Some ty → q ≡ length a.types.entries
    type-only absent q at =
        elim (slice_get-push (keys a.types) ty q ty (ap (λ ks. slice_get ks q) (sym type-keys) ∙ at)) [
          | inl before ↦ absurd (absent q before)
          | inr last ↦ last.0 ∙ length-keys_of a.types.entries
        ]

  module _ (name : List ℕ) (key : Vec ℕ) (is : key.items ≡ name) (entries : List (Vec ℕ × Option ℕ)) (e : entries ≡ a.structs.entries ++ (key, None) ∷ []) where
    struct-names : map (λ k. k.items) (keys_of entries) ≡ map (λ k. k.items) (keys a.structs) ++ name ∷ []
    struct-names =
        ap (λ es. map (λ k. k.items) (keys_of es)) e ∙ ap (map (λ k. k.items)) (map_push (λ c. c.0) a.structs.entries (key, None))
        ∙ map_push (λ k. k.items) (keys a.structs) key ∙ ap (λ n. map (λ k. k.items) (keys a.structs) ++ n ∷ []) is

    pub struct-table : record (table_of a) { structs = map (λ k. k.items) (keys_of entries) } ≡ with_struct t name
    struct-table = ap (λ ns. record (table_of a) { structs = ns }) struct-names ∙ ap (λ u. with_struct u name) view

    pub struct-kept : KeepsTable a → length a.structs.entries < 4294967295
        → IsKept (record (table_of a) { structs = map (λ k. k.items) (keys_of entries) }) a.types.entries (values_of entries) a.defined.items
    struct-kept kept room =
        let names_len : length (map (λ k. k.items) (keys a.structs)) ≡ length a.structs.entries = length-map (keys a.structs) (λ k. k.items) ∙ length-keys_of a.structs.entries in
        let new = keeps-struct (table_of a) a.types.entries (values a.structs) a.defined.items kept (length-values_of a.structs.entries ∙ sym names_len)
        (omega (arith, names_len)) name in
        let places : values_of entries ≡ values a.structs ++ None ∷ [] = ap values_of e ∙ map_push (λ c. c.1) a.structs.entries (key, None) in
        subst (λ ns. IsKept (record (table_of a) { structs = ns }) a.types.entries (values_of entries) a.defined.items) (sym struct-names)
        (subst (λ ps. IsKept (with_struct (table_of a) name) a.types.entries ps a.defined.items) (sym places) new)

    pub struct-place : slice_get (map (λ k. k.items) (keys_of entries)) (length a.structs.entries) ≡ Some name
    struct-place =
        let names_len : length (map (λ k. k.items) (keys a.structs)) ≡ length a.structs.entries = length-map (keys a.structs) (λ k. k.items) ∙ length-keys_of a.structs.entries in
        ap (λ ns. slice_get ns (length a.structs.entries)) struct-names ∙ ap (slice_get _) (sym names_len) ∙ slice_get-at_push (map (λ k. k.items) (keys a.structs)) name

    pub struct-only : ((q : ℕ) → slice_get (map (λ k. k.items) (keys a.structs)) q ≡ Some name → ⊥)
        → (q : ℕ) → slice_get (map (λ k. k.items) (keys_of entries)) q ≡ Some name → q ≡ length a.structs.entries
    struct-only absent q at =
        let names_len : length (map (λ k. k.items) (keys a.structs)) ≡ length a.structs.entries = length-map (keys a.structs) (λ k. k.items) ∙ length-keys_of a.structs.entries in
        elim (slice_get-push (map (λ k. k.items) (keys a.structs)) name q name (ap (λ ns. slice_get ns q) (sym struct-names) ∙ at)) [
          | inl before ↦ absurd (absent q before)
          | inr last ↦ last.0 ∙ names_len
        ]
