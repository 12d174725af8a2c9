-- The look-up of a field by its name.
use Rattle.std.proofs.Common.{◌≡◌, ℕ, Bool, not, List, [], ◌∷◌, length, map, None, Some, refl, sym, ap, ◌∙◌, subst, slice_get, ◌==◌}
use Rattle.std.specs.Cmp.Lexicographic.{pointwise}
use Rattle.std.proofs.lemmas.List.{length-map}
use Rattle.std.specs.Global.{Vec}
use Rattle.std.specs.List.{position, prefix_len}
use Rattle.std.specs.Option.{option_and_then}
use Rattle.kt_types.specs.Kept.{IsLaidOut}
use Rattle.kt_types.specs.Layout.{cells_before, field_named}
use Rattle.kt_types.specs.Table.{Table, fields_of}
use Rattle.kt_types.specs.declared.kinds.FieldDecl.{FieldDecl}
use Rattle.kt_types.specs.declared.table.StructLayout.{StructLayout}

prefix_len-map : {X Y : Type 0} (f : X → Y) (q : Y → Bool) (xs : List X) → prefix_len (λ x. q (f x)) xs ≡ prefix_len q (map f xs)
prefix_len-map f q [] = refl
prefix_len-map f q (x ∷ xs) = rw (prefix_len-map f q xs) refl

position-map : {X Y : Type 0} (f : X → Y) (p : Y → Bool) (xs : List X) → position (λ x. p (f x)) xs ≡ position p (map f xs)
position-map f p xs = rw (prefix_len-map f (λ y. not (p y)) xs, length-map xs f) refl

-- the first name of the set that is this one stands where the first field of this name does
position-names : (keys : List (Vec ℕ)) (fields : List FieldDecl) (p : List ℕ → Bool) → map (λ x. x.items) keys ≡ map (λ f. f.name) fields
    → position (λ x. p x.items) keys ≡ position (λ f. p f.name) fields
position-names keys fields p same = position-map (λ x. x.items) p keys ∙ ap (position p) same ∙ sym (position-map (λ f. f.name) p fields)

module _ (t : Table) (s : ℕ) (d : StructLayout) (laid : IsLaidOut t d) (is : d.number ≡ s) (name : List ℕ) where
  known : fields_of t s ≡ Some d.fields.items
  known = subst (λ q. fields_of t q ≡ Some d.fields.items) is laid.known

  place : position (λ x. pointwise ◌==◌ name x.items) d.names.keys ≡ position (λ f. pointwise ◌==◌ name f.name) d.fields.items
  place = position-names d.names.keys d.fields.items (λ n. pointwise ◌==◌ name n) laid.names

  pub named-none : None ≡ position (λ x. pointwise ◌==◌ name x.items) d.names.keys → None ≡ option_and_then (λ fields. field_named t fields name) (fields_of t s)
  named-none e =
      let nowhere : position (λ f. pointwise ◌==◌ name f.name) d.fields.items ≡ None = sym (e ∙ place) in
      rw (known, nowhere) refl

  pub named-some : (i : ℕ) → Some i ≡ position (λ x. pointwise ◌==◌ name x.items) d.names.keys → (f : FieldDecl) → slice_get d.fields.items i ≡ Some f
      → (start : ℕ) → start ≡ cells_before t d.fields.items i
      → Some (record { index = i; cell = start; ty = f.ty; view = f.view }) ≡ option_and_then (λ fields. field_named t fields name) (fields_of t s)
  named-some i e f at start before =
      let here : position (λ f. pointwise ◌==◌ name f.name) d.fields.items ≡ Some i = sym (e ∙ place) in
      rw (known, here, at, before) refl

-- a set of the names of the fields has as many names as there are fields
pub names-len : (t : Table) (d : StructLayout) → IsLaidOut t d → length d.names.keys ≡ length d.fields.items
names-len t d laid = sym (length-map d.names.keys (λ x. x.items)) ∙ ap length laid.names ∙ length-map d.fields.items (λ f. f.name)
