-- The table of types of a file can be made in its order: no type stands twice, and each names places before its own.
use Rattle.std.proofs.Common.{◌≡◌, ◌≢◌, ℕ, zero, suc, ◌<◌, Bool, true, false, List, [], ◌∷◌, ◌++◌, length, slice_get, Option, Some, None, if◌then◌else◌, nat_le, refl, sym, ap, ◌∙◌, subst, arith, true≢false, length-append, inl, inr}
use Rattle.std.specs.Option.{is_some}
use Rattle.std.specs.List.{position_from, AllByRecursion}
use Rattle.std.specs.Prelude.{flat_map}
use Rattle.std.proofs.lemmas.Option.{none-some, same_Some, slice_get_within}
use Rattle.kt_types.proofs.Keeps.{slice_get-push}
use Rattle.kt_types.specs.declared.kinds.Ty.{Ty}
use Rattle.kt_types.specs.declared.kinds.Ty.TheVariants as ty
use Rattle.kt_grammar.specs.declared.tree.Base.{Base}
use Rattle.kt_grammar.specs.declared.tree.Base.TheVariants as base
use Rattle.kt_lex.specs.declared.number.Number.{Number}
use Rattle.kt_syntax.specs.declared.tree.Declarator.{Declarator}
use Rattle.kt_syntax.specs.declared.tree.GlobalDeclarator.{GlobalDeclarator}
use Rattle.kt_syntax.specs.declared.tree.Fields.{Fields}
use Rattle.kt_syntax.specs.Tree.{External, StructMentioned, StructDefined, GlobalsDeclared, FunctionDeclared}
use Rattle.kt_names.specs.declared.ctype.Root.{Root}
use Rattle.kt_names.specs.declared.ctype.Root.TheVariants as root
use Rattle.kt_names.specs.Uses.{Use, Starred, Arrayed, stars_of, base_structs, use_structs, declared_structs, body_structs, structs_of, counted_uses, field_uses, fields_uses, global_uses, head_uses, body_uses, external_uses, uses_of}
use Rattle.kt_names.specs.Types.{has_by, same_type, place_of_type, with_type, root_type, root_of, starred_place, with_starred, with_use, with_uses, scalars}
use Rattle.kt_names.specs.Tables.{struct_names, types_of}
use Rattle.kt_check.proofs.TypePlaces.{found-at, found-some, same-type-self}
use Rattle.kt_check.proofs.FieldCells.{all-both}
use Rattle.kt_check.proofs.NameTables.{Found, found-below, names-found}
use Rattle.kt_check.proofs.GlobalsFit.{all-split, all-flat}
use Rattle.kt_check.proofs.ListFacts.{all-from}

-- ---- no type stands twice

abbrev pub AreApart : List Ty → Type 0
AreApart types = (i j : ℕ) (a b : Ty) → i < j → slice_get types i ≡ Some a → slice_get types j ≡ Some b → a ≢ b

apart-push : (types : List Ty) (t : Ty) → AreApart types → ((i : ℕ) (a : Ty) → slice_get types i ≡ Some a → a ≢ t) → AreApart (types ++ t ∷ [])
apart-push types t apart other i j a b lt first second =
    elim (slice_get-push types t j b second) [
      | inl before ↦ elim (slice_get-push types t i a first) [
        | inl here ↦ apart i j a b lt here before
        | inr last ↦ absurd (omega (arith, last.0, lt, slice_get_within types j b before))
      ]
      | inr end ↦ elim (slice_get-push types t i a first) [
        | inl here ↦ λ same. other i a here (same ∙ sym end.1)
        | inr last ↦ absurd (omega (arith, last.0, lt, end.0))
      ]
    ]

missing : (types : List Ty) (t : Ty) → has_by (same_type t) types ≡ false → (i : ℕ) (a : Ty) → slice_get types i ≡ Some a → a ≢ t
missing types t e i a at same =
    let (k, found) = found-some (same_type t) 0 types i a at (subst (λ u. same_type t u ≡ true) (sym same) (same-type-self t)) in
    true≢false (sym (ap is_some found) ∙ e)

-- ---- each type names places before its own

-- the type may stand at this place
abbrev pub IsBelow : List (List ℕ) → ℕ → Ty → Type 0
IsBelow names i ty.Char = Unit {0}
IsBelow names i ty.Int = Unit {0}
IsBelow names i ty.Long = Unit {0}
IsBelow names i ty.Mutex = Unit {0}
IsBelow names i (ty.Struct s) = s < length names
IsBelow names i (ty.Array e n) = e < i
IsBelow names i (ty.Ptr p) = p < i

pub record IsOrdered (names : List (List ℕ)) (types : List Ty) : Type 0 where
  pub some : 0 < length types
  pub apart : AreApart types
  pub below : (i : ℕ) (t : Ty) → slice_get types i ≡ Some t → IsBelow names i t

pub with-ordered : (names : List (List ℕ)) (types : List Ty) (t : Ty) → IsOrdered names types → IsBelow names (length types) t → IsOrdered names (with_type types t)
with-ordered names types t ordered new = by (has_by (same_type t) types) refl
  where
    same : has_by (same_type t) types ≡ true → types ≡ with_type types t
    same e = rw e refl

    more : has_by (same_type t) types ≡ false → types ++ t ∷ [] ≡ with_type types t
    more e = rw e refl

    pushed : has_by (same_type t) types ≡ false → IsOrdered names (types ++ t ∷ [])
    pushed e = record {
      some = subst (λ n. 0 < n) (sym (length-append types (t ∷ []))) (omega (arith, ordered.some));
      apart = apart-push types t ordered.apart (missing types t e);
      below = λ i u at. elim (slice_get-push types t i u at) [
        | inl here ↦ ordered.below i u here
        | inr last ↦ subst (IsBelow names i) last.1 (subst (λ k. IsBelow names k t) (sym last.0) new)
      ];
    }

    by : (b : Bool) → has_by (same_type t) types ≡ b → IsOrdered names (with_type types t)
    by true e = subst (IsOrdered names) (same e) ordered
    by false e = subst (IsOrdered names) (more e) (pushed e)

-- a place is always one of the table
place-within : (types : List Ty) (t : Ty) → 0 < length types → place_of_type types t < length types
place-within types t some = by (position_from (same_type t) 0 types) refl
  where
    by : (o : Option ℕ) → position_from (same_type t) 0 types ≡ o → place_of_type types t < length types
    by None e =
        let place : place_of_type types t ≡ 0 = ap (λ (o : Option ℕ). elim o as (λ _. ℕ) [ None ↦ 0 | (Some k) ↦ k ]) e in
        omega (arith, place, some)
    by (Some n) e =
        let place : place_of_type types t ≡ n = ap (λ (o : Option ℕ). elim o as (λ _. ℕ) [ None ↦ 0 | (Some k) ↦ k ]) e in
        let (k, u, is, at, same) = found-at (same_type t) 0 types n e in
        omega (arith, place, is, slice_get_within types k u at)

starred-within : (types : List Ty) (r : Root) (n : ℕ) → 0 < length types → starred_place types r n < length types
starred-within types r zero some = place-within types (root_type r) some
starred-within types r (suc n) some = place-within types (ty.Ptr (starred_place types r n)) some

abbrev pub RootNamed : List (List ℕ) → Root → Type 0
RootNamed names root.Char = Unit {0}
RootNamed names root.Int = Unit {0}
RootNamed names root.Long = Unit {0}
RootNamed names root.Mutex = Unit {0}
RootNamed names (root.Struct s) = s < length names

root-below : (names : List (List ℕ)) (i : ℕ) (r : Root) → RootNamed names r → IsBelow names i (root_type r)
root-below names i root.Char h = tt
root-below names i root.Int h = tt
root-below names i root.Long h = tt
root-below names i root.Mutex h = tt
root-below names i (root.Struct s) h = h

pub starred-ordered : (names : List (List ℕ)) (types : List Ty) (r : Root) (n : ℕ) → IsOrdered names types → RootNamed names r → IsOrdered names (with_starred types r n)
starred-ordered names types r zero ordered named = with-ordered names types (root_type r) ordered (root-below names (length types) r named)
starred-ordered names types r (suc n) ordered named =
    let before = starred-ordered names types r n ordered named in
    with-ordered names (with_starred types r n) (ty.Ptr (starred_place (with_starred types r n) r n)) before (starred-within (with_starred types r n) r n before.some)

abbrev pub UseNamed : List (List ℕ) → Use → Type 0
UseNamed names (Starred b n) = RootNamed names (root_of names b)
UseNamed names (Arrayed b n count) = RootNamed names (root_of names b)

pub use-ordered : (names : List (List ℕ)) (types : List Ty) (u : Use) → IsOrdered names types → UseNamed names u → IsOrdered names (with_use names types u)
use-ordered names types (Starred b n) ordered named = starred-ordered names types (root_of names b) n ordered named
use-ordered names types (Arrayed b n count) ordered named =
    with-ordered names types (ty.Array (starred_place types (root_of names b) n) count) ordered (starred-within types (root_of names b) n ordered.some)

pub uses-ordered : (names : List (List ℕ)) (types : List Ty) (us : List Use) → IsOrdered names types → AllByRecursion (UseNamed names) us → IsOrdered names (with_uses names types us)
uses-ordered names types [] ordered named = ordered
uses-ordered names types (u ∷ us) ordered named = uses-ordered names (with_use names types u) us (use-ordered names types u ordered named.0) named.1

-- ---- each struct that a file names has its number

module _ (names : List (List ℕ)) where
  abbrev pub AllFound : List (List ℕ) → Type 0
  AllFound ns = AllByRecursion (Found names) ns

  base-named : (b : Base) → AllFound (base_structs b) → RootNamed names (root_of names b)
  base-named base.Char h = tt
  base-named base.Int h = tt
  base-named base.Long h = tt
  base-named base.Mutex h = tt
  base-named (base.Struct n) h = found-below names n.word h.0

  use-named : (u : Use) → AllFound (use_structs u) → UseNamed names u
  use-named (Starred b n) h = base-named b h
  use-named (Arrayed b n count) h = base-named b h

  uses-named : (us : List Use) → AllFound (flat_map use_structs us) → AllByRecursion (UseNamed names) us
  uses-named [] h = tt
  uses-named (u ∷ us) h = let parts = all-split (Found names) (use_structs u) (flat_map use_structs us) h in (use-named u parts.0, uses-named us parts.1)

  counted-named : (b : Base) (n : ℕ) (c : Option Number) → RootNamed names (root_of names b) → AllByRecursion (UseNamed names) (counted_uses b n c)
  counted-named b n None h = (h, tt)
  counted-named b n (Some c) h = (h, by (nat_le c.value 65536))
    where
      by : (few : Bool) → AllByRecursion (UseNamed names) (if few then Arrayed b n c.value ∷ [] else [])
      by true = (h, tt)
      by false = tt

  fields-named : (b : Base) (ds : List Declarator) → RootNamed names (root_of names b) → AllByRecursion (UseNamed names) (flat_map (field_uses b) ds)
  fields-named b [] h = tt
  fields-named b (d ∷ ds) h = all-both (UseNamed names) (field_uses b d) (flat_map (field_uses b) ds) (counted-named b (stars_of d.pointer) d.count h) (fields-named b ds h)

  struct-named : (fs : List Fields) → AllFound (flat_map (λ f. base_structs f.base) fs) → AllByRecursion (UseNamed names) (flat_map fields_uses fs)
  struct-named [] h = tt
  struct-named (f ∷ fs) h =
      let parts = all-split (Found names) (base_structs f.base) (flat_map (λ g. base_structs g.base) fs) h in
      all-both (UseNamed names) (fields_uses f) (flat_map fields_uses fs) (fields-named f.base f.declarators (base-named f.base parts.0)) (struct-named fs parts.1)

  globals-named : (b : Base) (gs : List GlobalDeclarator) → RootNamed names (root_of names b) → AllByRecursion (UseNamed names) (flat_map (global_uses b) gs)
  globals-named b [] h = tt
  globals-named b (g ∷ gs) h = (h, globals-named b gs h)

  external-named : (x : External) → AllFound (declared_structs x) → AllFound (body_structs x) → AllByRecursion (UseNamed names) (external_uses x)
  external-named (StructMentioned n) h k = tt
  external-named (StructDefined n fs) h k = struct-named fs h.1
  external-named (GlobalsDeclared b gs) h k = globals-named b gs (base-named b h)
  external-named (FunctionDeclared f) h k = all-both (UseNamed names) (head_uses f) (body_uses f) (uses-named (head_uses f) h) (uses-named (body_uses f) k)

  externals-named : (xs : List External) → AllByRecursion (λ x. AllFound (declared_structs x)) xs → AllByRecursion (λ x. AllFound (body_structs x)) xs → AllByRecursion (UseNamed names) (uses_of xs)
  externals-named [] h k = tt
  externals-named (x ∷ xs) h k = all-both (UseNamed names) (external_uses x) (uses_of xs) (external-named x h.0 k.0) (externals-named xs h.1 k.1)

-- each use of a file names a struct that has its number
pub file-uses-named : (xs : List External) → AllByRecursion (UseNamed (struct_names xs)) (uses_of xs)
file-uses-named xs =
    let found = all-from (Found (struct_names xs)) (structs_of xs) (λ i n at. names-found [] (structs_of xs) i n at) in
    let parts = all-split (Found (struct_names xs)) (flat_map declared_structs xs) (flat_map body_structs xs) found in
    externals-named (struct_names xs) xs (all-flat (Found (struct_names xs)) declared_structs xs parts.0) (all-flat (Found (struct_names xs)) body_structs xs parts.1)

one-apart : AreApart (ty.Char ∷ [])
one-apart i zero a b lt first second = absurd (omega arith)
one-apart i (suc j) a b lt first second = absurd (none-some b second)

one-below : (names : List (List ℕ)) (i : ℕ) (t : Ty) → slice_get (ty.Char ∷ []) i ≡ Some t → IsBelow names i t
one-below names zero t at = subst (IsBelow names 0) (same_Some ty.Char t at) tt
one-below names (suc i) t at = absurd (none-some t at)

scalars-ordered : (names : List (List ℕ)) → IsOrdered names scalars
scalars-ordered names =
    let char : IsOrdered names (ty.Char ∷ []) = record { some = omega arith; apart = one-apart; below = one-below names } in
    let int = with-ordered names (ty.Char ∷ []) ty.Int char tt in
    let long = with-ordered names (ty.Char ∷ ty.Int ∷ []) ty.Long int tt in
    with-ordered names (ty.Char ∷ ty.Int ∷ ty.Long ∷ []) ty.Mutex long tt

-- the table of a file can be made in its order
pub types-ordered : (xs : List External) → IsOrdered (struct_names xs) (types_of xs)
types-ordered xs = uses-ordered (struct_names xs) scalars (uses_of xs) (scalars-ordered (struct_names xs)) (file-uses-named xs)
