-- The fields of a file's structs are fields of its version.
use Rattle.std.proofs.Common.{◌≡◌, ℕ, zero, suc, ◌≤◌, ◌==◌, ◌&&◌, not, Bool, true, false, List, [], ◌∷◌, map, slice_get, Option, Some, None, Ok, if◌then◌else◌, refl, sym, ap, ◌∙◌, subst, arith, true≢false, ◌⊎◌, inl, inr}
use Rattle.std.specs.Option.{is_some, option_map}
use Rattle.std.specs.List.{AllByRecursion, list_all}
use Rattle.std.specs.Str.{bytes_eq}
use Rattle.std.proofs.lemmas.Bool.{and_parts, and_from}
use Rattle.std.proofs.lemmas.Option.{none-some, same_Some, slice_get-map}
use Rattle.std.proofs.lemmas.Bool.Decides.{Decides-eqb}
use Rattle.kt_types.specs.declared.kinds.View.{View}
use Rattle.kt_types.specs.declared.kinds.View.TheVariants as view
use Rattle.kt_types.specs.declared.kinds.FieldDecl.{FieldDecl}
use Rattle.kt_types.specs.Table.{Definition, Table}
use Rattle.kt_tree.specs.Kinds.{is_integer_type, pointee_of}
use Rattle.kt_tree.specs.Names.{is_identifier}
use Rattle.kt_tree.specs.Version.{Program, AreFields, is_view, is_field_view, is_integer_field, viewed}
use Rattle.kt_lex.specs.declared.number.Number.{Number}
use Rattle.kt_grammar.specs.declared.tree.Base.{Base}
use Rattle.kt_grammar.specs.declared.tree.Base.TheVariants as base
use Rattle.kt_syntax.specs.declared.tree.Extent.{Extent}
use Rattle.kt_syntax.specs.declared.tree.Extent.TheVariants as extent
use Rattle.kt_syntax.specs.declared.tree.Pointer.{Pointer}
use Rattle.kt_names.specs.declared.ctype.Root.{Root}
use Rattle.kt_names.specs.declared.ctype.Root.TheVariants as root
use Rattle.kt_names.specs.Checked.{Checked}
use Rattle.kt_names.specs.Environment.{Outer, Global, Function}
use Rattle.kt_names.specs.Types.{root_of, starred_place}
use Rattle.kt_names.specs.Uses.{stars_of}
use Rattle.kt_names.specs.Tables.{plain_view, global_view, outer_view, extent_of, view_of}
use Rattle.kt_names.specs.Statements.{pointer_outside, extent_outside}
use Rattle.kt_check.specs.Files.{Frame, Sofar, OneField, outside, is_array_count, fields_in, pointer_inside, is_integer_base, is_count_field, count_field, extent_inside, outer_view_of, named_view, field_view, field_decl, program_of}
use Rattle.kt_check.proofs.AllNamed.{IsNamedDeclarator}
use Rattle.kt_terms.proofs.Agrees.{HasStars}
use Rattle.kt_check.proofs.TypePlaces.{found-at}
use Rattle.kt_check.proofs.Stars.{HasStar, star-parts, star-from, inside-star}
use Rattle.kt_check.proofs.ExternalTypes.{CountHas, array-has}
use Rattle.kt_check.proofs.FieldCells.{IsTyped, OneHas, counted_place}
use Rattle.kt_check.proofs.Made.{DefinitionMade}
use Rattle.kt_check.proofs.Ended.{Ended}
use Rattle.kt_check.proofs.ViewsFit.{view-fits, starred-some}

-- ---- what a field's view is about

starred-viewed : (t : Table) (r : Root) (n : ℕ) → HasStars t.types r n → viewed t (slice_get t.types (starred_place t.types r n)) ≡ slice_get t.types (starred_place t.types r n)
starred-viewed t root.Char zero has = ap (viewed t) has ∙ sym has
starred-viewed t root.Int zero has = ap (viewed t) has ∙ sym has
starred-viewed t root.Long zero has = ap (viewed t) has ∙ sym has
starred-viewed t root.Mutex zero has = ap (viewed t) has ∙ sym has
starred-viewed t (root.Struct s) zero has = ap (viewed t) has ∙ sym has
starred-viewed t r (suc n) has = ap (viewed t) has.0 ∙ sym has.0

counted-viewed : (t : Table) (r : Root) (n : ℕ) (c : Option Number) → HasStars t.types r n → CountHas t.types r n c → is_array_count c ≡ true
    → viewed t (slice_get t.types (counted_place t.types r n c)) ≡ slice_get t.types (starred_place t.types r n)
counted-viewed t r n None has is few = starred-viewed t r n has
counted-viewed t r n (Some c) has is few = ap (viewed t) (array-has t.types r n c is few)

-- ---- views that name no field

abbrev names_field : View → Bool
names_field view.One = false
names_field view.Whole = false
names_field (view.Global g) = false
names_field (view.Count n) = false
names_field (view.Field k) = true

no-field : (p : Program) (fields : List FieldDecl) (o : Option ℕ) (v : View) → names_field v ≡ false → is_field_view p fields o v ≡ is_view p o v
no-field p fields None view.One h = refl
no-field p fields None view.Whole h = refl
no-field p fields None (view.Global g) h = refl
no-field p fields None (view.Count n) h = refl
no-field p fields None (view.Field k) h = absurd (true≢false h)
no-field p fields (Some e) view.One h = refl
no-field p fields (Some e) view.Whole h = refl
no-field p fields (Some e) (view.Global g) h = refl
no-field p fields (Some e) (view.Count n) h = refl
no-field p fields (Some e) (view.Field k) h = absurd (true≢false h)

plain-no-field : (b : Base) (q : Option Pointer) → names_field (plain_view b q) ≡ false
plain-no-field base.Char None = refl
plain-no-field base.Char (Some q) = by (q.stars.count == 1)
  where
    by : (t : Bool) → names_field (if t then view.Whole else view.One) ≡ false
    by true = refl
    by false = refl
plain-no-field base.Int q = refl
plain-no-field base.Long q = refl
plain-no-field base.Mutex q = refl
plain-no-field (base.Struct w) q = refl

global-no-field : (o : Option Outer) → names_field (global_view o) ≡ false
global-no-field None = refl
global-no-field (Some (Global g t array)) = refl
global-no-field (Some (Function d)) = refl

outer-no-field : (outer : List ℕ → Option Outer) (b : Base) (q : Option Pointer) → names_field (view_of outer b q) ≡ false
outer-no-field outer b q = by (extent_of q)
  where
    by : (x : Option Extent) → names_field (elim x as (λ _. View) [ None ↦ plain_view b q | (Some e) ↦ outer_view outer e ]) ≡ false
    by None = plain-no-field b q
    by (Some (extent.Name n)) = global-no-field (outer n.word)
    by (Some (extent.Number at n)) = refl

same-view : (o : Option Outer) → outer_view_of o ≡ global_view o
same-view None = refl
same-view (Some (Global g t array)) = refl
same-view (Some (Function d)) = refl

-- ---- one field

module _ (f : Frame) (z s : Sofar) (end : Ended f z) (all : List OneField) where
  -- the view is one outside structs, or names a field
  abbrev IsOutside : OneField → Type 0
  IsOutside x = (field_view f all x ≡ view_of f.outer x.base x.declarator.pointer) × (pointer_outside (outside f s) x.declarator.pointer ≡ Ok tt)

  abbrev IsInside : OneField → Type 0
  IsInside x = (k : ℕ) × (n : List ℕ) × (q : Pointer) × (x.declarator.pointer ≡ Some q) × (field_view f all x ≡ view.Field k) × (count_field all n ≡ Some k)

  abbrev viewed_by : OneField → Option Extent → View
  viewed_by x e = elim e as (λ _. View) [
    | None ↦ plain_view x.base x.declarator.pointer
    | (Some e) ↦ elim e as (λ _. View) [ (extent.Name n) ↦ named_view f.outer all n | (extent.Number at n) ↦ view.Count n.value ]
  ]

  abbrev outer_by : OneField → Option Extent → View
  outer_by x e = elim e as (λ _. View) [ None ↦ plain_view x.base x.declarator.pointer | (Some e) ↦ outer_view f.outer e ]

  abbrev inside_by : Option Extent → Checked (Unit {0})
  inside_by e = elim e as (λ _. Checked (Unit {0})) [ None ↦ Ok tt | (Some e) ↦ extent_inside (outside f s) all e ]

  abbrev outside_by : Option Extent → Checked (Unit {0})
  outside_by e = elim e as (λ _. Checked (Unit {0})) [ None ↦ Ok tt | (Some e) ↦ extent_outside (outside f s) e ]

  inside-is : (q : Option Pointer) → pointer_inside (outside f s) all q ≡ Ok tt → inside_by (extent_of q) ≡ Ok tt
  inside-is None h = refl
  inside-is (Some q) h = (star-parts q.stars.count q.stars.at (inside_by q.extent) h).1

  outside-is : (q : Option Pointer) → HasStar q → outside_by (extent_of q) ≡ Ok tt → pointer_outside (outside f s) q ≡ Ok tt
  outside-is None star h = refl
  outside-is (Some q) star h = star-from q.stars.count q.stars.at (outside_by q.extent) star h

  by-extent : (x : OneField) (e : Option Extent) → inside_by e ≡ Ok tt
      → ((viewed_by x e ≡ outer_by x e) × (outside_by e ≡ Ok tt)) ⊎ ((k : ℕ) × (n : List ℕ) × (is_some e ≡ true) × (viewed_by x e ≡ view.Field k) × (count_field all n ≡ Some k))
  by-extent x None h = inl (refl, refl)
  by-extent x (Some (extent.Number at n)) h = inl (refl, h)
  by-extent x (Some (extent.Name n)) h = by (count_field all n.word) refl
    where
      by : (o : Option ℕ) → count_field all n.word ≡ o
          → ((named_view f.outer all n ≡ global_view (f.outer n.word)) × (extent_outside (outside f s) (extent.Name n) ≡ Ok tt))
          ⊎ ((k : ℕ) × (m : List ℕ) × (true ≡ true) × (named_view f.outer all n ≡ view.Field k) × (count_field all m ≡ Some k))
      by None e = inl (rw (named_view, e) (same-view (f.outer n.word)), sym (ap (λ o. if is_some o then Ok tt else extent_outside (outside f s) (extent.Name n)) e) ∙ h)
      by (Some k) e = inr (k, n.word, refl, rw (named_view, e) refl, e)

  has_pointer : (q : Option Pointer) → is_some (extent_of q) ≡ true → (p : Pointer) × (q ≡ Some p)
  has_pointer None h = absurd (true≢false (sym h))
  has_pointer (Some q) h = (q, refl)

  view-cases : (x : OneField) → IsTyped f s all x → IsOutside x ⊎ IsInside x
  view-cases x typed = elim (by-extent x (extent_of x.declarator.pointer) (inside-is x.declarator.pointer typed.inside)) [
    | inl h ↦ inl (h.0, outside-is x.declarator.pointer (inside-star (outside f s) all x.declarator.pointer typed.inside) h.1)
    | inr h ↦ let (q, is) = has_pointer x.declarator.pointer h.2 in inr (h.0, h.1, q, is, h.3, h.4)
  ]

  -- an integer field of the struct is an integer field of the version
  integer-type : (b : Base) → is_integer_base b ≡ true → HasStars f.types (root_of f.names b) 0 → is_integer_type (slice_get f.types (starred_place f.types (root_of f.names b) 0)) ≡ true
  integer-type base.Char h has = ap is_integer_type has
  integer-type base.Int h has = ap is_integer_type has
  integer-type base.Long h has = ap is_integer_type has
  integer-type base.Mutex h has = absurd (true≢false (sym h))
  integer-type (base.Struct n) h has = absurd (true≢false (sym h))

  count-integer : (x : OneField) → OneHas f x → is_count_field x ≡ true → is_integer_field (program_of f z) (Some (field_decl f all x)) ≡ true
  count-integer x has h =
      let parts = and_parts (is_integer_base x.base && (stars_of x.declarator.pointer == 0)) (not (is_some x.declarator.count)) h in
      let first = and_parts (is_integer_base x.base) (stars_of x.declarator.pointer == 0) parts.0 in
      let none = (Decides-eqb (stars_of x.declarator.pointer) 0).0 first.1 in
      let bare = no_count x.declarator.count parts.1 in
      let place : (field_decl f all x).ty ≡ starred_place f.types (root_of f.names x.base) 0 =
      ap (counted_place f.types (root_of f.names x.base) (stars_of x.declarator.pointer)) bare ∙ ap (starred_place f.types (root_of f.names x.base)) none in
      ap (λ k. is_integer_type (slice_get f.types k)) place ∙ integer-type x.base first.0 (subst (HasStars f.types (root_of f.names x.base)) none has.0.1)
    where
      no_count : (c : Option Number) → not (is_some c) ≡ true → c ≡ None
      no_count None e = refl
      no_count (Some c) e = absurd (true≢false (sym e))

  one-at : (xs : List OneField) → AllByRecursion (OneHas f) xs → (k : ℕ) (x : OneField) → slice_get xs k ≡ Some x → OneHas f x
  one-at [] h k x at = absurd (none-some x at)
  one-at (y ∷ xs) h zero x at = subst (OneHas f) (same_Some y x at) h.0
  one-at (y ∷ xs) h (suc k) x at = one-at xs h.1 k x at

  named-integer : AllByRecursion (OneHas f) all → (n : List ℕ) (k : ℕ) → count_field all n ≡ Some k → is_integer_field (program_of f z) (slice_get (map (field_decl f all) all) k) ≡ true
  named-integer has n k e =
      let (j, x, is, at, passes) = found-at (λ y. is_count_field y && bytes_eq y.declarator.name.word n) 0 all k e in
      let number : k ≡ j = omega (arith, is) in
      let there : slice_get (map (field_decl f all) all) k ≡ Some (field_decl f all x) =
      ap (slice_get (map (field_decl f all) all)) number ∙ slice_get-map (field_decl f all) all j ∙ ap (option_map (field_decl f all)) at in
      ap (is_integer_field (program_of f z)) there ∙ count-integer x (one-at all has j x at) (and_parts (is_count_field x) (bytes_eq x.declarator.name.word n) passes).0

  field-fits : AllByRecursion (OneHas f) all → (x : OneField) → OneHas f x → IsTyped f s all x
      → is_field_view (program_of f z) (map (field_decl f all) all) (pointee_of (viewed (program_of f z).types (slice_get f.types (field_decl f all x).ty))) (field_view f all x) ≡ true
  field-fits has x one typed =
      let star = inside-star (outside f s) all x.declarator.pointer typed.inside in
      let r = root_of f.names x.base in
      let n = stars_of x.declarator.pointer in
      let about = counted-viewed (program_of f z).types r n x.declarator.count one.0.1 one.1 typed.count in
      ap (λ o. is_field_view (program_of f z) (map (field_decl f all) all) (pointee_of o) (field_view f all x)) about
      ∙ elim (view-cases x typed) [
        | inl out ↦
            ap (is_field_view (program_of f z) (map (field_decl f all) all) (pointee_of (slice_get f.types (starred_place f.types r n)))) out.0
            ∙ no-field (program_of f z) (map (field_decl f all) all) (pointee_of (slice_get f.types (starred_place f.types r n))) (view_of f.outer x.base x.declarator.pointer) (outer-no-field f.outer x.base x.declarator.pointer)
            ∙ view-fits f z s end x.base x.declarator.pointer one.0.1 out.1
        | inr ins ↦
            ap (is_field_view (program_of f z) (map (field_decl f all) all) (pointee_of (slice_get f.types (starred_place f.types r n)))) ins.4
            ∙ inside-fits x.base x.declarator.pointer ins.2 ins.3 star one.0.1 ins.0 (named-integer has ins.1 ins.0 ins.5)
      ]
    where
      counted : (b : Base) (c k : ℕ) → 1 ≤ c → HasStars f.types (root_of f.names b) c → is_integer_field (program_of f z) (slice_get (map (field_decl f all) all) k) ≡ true
          → is_field_view (program_of f z) (map (field_decl f all) all) (pointee_of (slice_get f.types (starred_place f.types (root_of f.names b) c))) (view.Field k) ≡ true
      counted b zero k up has integer = absurd (omega arith)
      counted b (suc c) k up has integer =
          ap (λ o. is_field_view (program_of f z) (map (field_decl f all) all) o (view.Field k)) (starred-some f.types (root_of f.names b) c has) ∙ integer

      inside-fits : (b : Base) (q : Option Pointer) (p : Pointer) → q ≡ Some p → HasStar q → HasStars f.types (root_of f.names b) (stars_of q) → (k : ℕ)
          → is_integer_field (program_of f z) (slice_get (map (field_decl f all) all) k) ≡ true
          → is_field_view (program_of f z) (map (field_decl f all) all) (pointee_of (slice_get f.types (starred_place f.types (root_of f.names b) (stars_of q)))) (view.Field k) ≡ true
      inside-fits b None p is star has k integer = absurd (none-some p is)
      inside-fits b (Some q) p is star has k integer = counted b q.stars.count k star has integer

  fields-views : AllByRecursion (OneHas f) all → (xs : List OneField) → AllByRecursion (OneHas f) xs → AllByRecursion (IsTyped f s all) xs
      → list_all (λ d. is_field_view (program_of f z) (map (field_decl f all) all) (pointee_of (viewed (program_of f z).types (slice_get f.types d.ty))) d.view) (map (field_decl f all) xs) ≡ true
  fields-views has [] one typed = refl
  fields-views has (x ∷ xs) one typed = and_from _ _ (field-fits has x one.0 typed.0) (fields-views has xs one.1 typed.1)

  fields-names : (xs : List OneField) → AllByRecursion (λ x. IsNamedDeclarator x.declarator) xs → list_all is_identifier (map (λ (d : FieldDecl). d.name) (map (field_decl f all) xs)) ≡ true
  fields-names [] named = refl
  fields-names (x ∷ xs) named = and_from (is_identifier x.declarator.name.word) _ named.0 (fields-names xs named.1)

-- the fields of each definition are right
definition-fits : (f : Frame) (z : Sofar) → Ended f z → (d : Definition) → DefinitionMade f z d → AreFields (program_of f z) d
definition-fits f z end d (s, later, fs, is, typed, has, named) =
    subst (λ l. AreFields (program_of f z) (record d { fields = l })) is (record {
      names = fields-names f z s end (fields_in fs) (fields_in fs) named;
      views = fields-views f z s end (fields_in fs) has (fields_in fs) has typed;
    })

definitions-fit : (f : Frame) (z : Sofar) → Ended f z → (ds : List Definition) → AllByRecursion (DefinitionMade f z) ds → AllByRecursion (AreFields (program_of f z)) ds
definitions-fit f z end [] made = tt
definitions-fit f z end (d ∷ ds) made = (definition-fits f z end d made.0, definitions-fit f z end ds made.1)

pub all-fields-fit : (f : Frame) (z : Sofar) → Ended f z → AllByRecursion (AreFields (program_of f z)) z.defined
all-fields-fit f z end = definitions-fit f z end z.defined end.defined
