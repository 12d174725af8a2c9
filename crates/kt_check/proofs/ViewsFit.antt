-- The views of declarations are views of the version.
use Rattle.std.proofs.Common.{◌≡◌, ℕ, zero, suc, ◌≤◌, ◌==◌, ◌&&◌, not, Bool, true, false, List, [], ◌∷◌, slice_get, Option, Some, None, Ok, if◌then◌else◌, refl, sym, ap, ◌∙◌, subst, arith, true≢false}
use Rattle.std.proofs.lemmas.Bool.{and_parts, and_from}
use Rattle.std.proofs.lemmas.Option.{none-some, same_Some}
use Rattle.std.proofs.lemmas.Bool.Decides.{nat_tests, Decides-eqb}
use Rattle.kt_types.specs.declared.kinds.Ty.{Ty}
use Rattle.kt_types.specs.declared.kinds.Ty.TheVariants as ty
use Rattle.kt_types.specs.declared.kinds.View.{View}
use Rattle.kt_types.specs.declared.kinds.View.TheVariants as view
use Rattle.kt_tree.specs.declared.global.GlobalDecl.{GlobalDecl}
use Rattle.kt_tree.specs.Kinds.{is_integer_type, pointee_of}
use Rattle.kt_tree.specs.Version.{Program, is_view, is_integer_global}
use Rattle.kt_grammar.specs.declared.tree.Base.{Base}
use Rattle.kt_grammar.specs.declared.tree.Base.TheVariants as base
use Rattle.kt_syntax.specs.declared.tree.Extent.{Extent}
use Rattle.kt_syntax.specs.declared.tree.Extent.TheVariants as extent
use Rattle.kt_syntax.specs.declared.tree.Pointer.{Pointer}
use Rattle.kt_names.specs.declared.ctype.Root.{Root}
use Rattle.kt_names.specs.declared.ctype.Root.TheVariants as root
use Rattle.kt_names.specs.Checked.{Checked}
use Rattle.kt_names.specs.Environment.{Outer, Global, Function}
use Rattle.kt_names.specs.Types.{is_integer, is_integer_root, root_of, root_type, starred_place, place_in, scalars}
use Rattle.kt_names.specs.Uses.{stars_of}
use Rattle.kt_names.specs.Tables.{OuterGlobal, globals_of, plain_view, global_view, outer_view, view_of}
use Rattle.kt_names.specs.Statements.{pointer_outside, extent_outside, is_count}
use Rattle.kt_check.specs.Files.{Frame, Sofar, outside, program_of}
use Rattle.kt_terms.proofs.Agrees.{HasStars}
use Rattle.kt_check.proofs.TypePlaces.{Extends}
use Rattle.kt_check.proofs.ExternalTypes.{GlobalHas, has-char, place-char}
use Rattle.kt_check.proofs.StructCells.{of, starless}
use Rattle.kt_check.proofs.Stars.{star-parts}
use Rattle.kt_check.proofs.FieldCells.{holds-true}
use Rattle.kt_check.proofs.Steps.{ItemHas, Item, AStruct, AGlobal, ARoutine, items_of, globals_among, globals-all}
use Rattle.kt_check.proofs.Ended.{Ended, global-parts, named-global}
use Rattle.std.specs.List.{AllByRecursion}

-- ---- the places of types that are no `char`

-- only `char` stands at the place 0
pub char-alone : (types : List Ty) → Extends scalars types → (t : Ty) (p : ℕ) → slice_get types p ≡ Some t → (t ≡ ty.Char → ⊥) → (p == 0) ≡ false
char-alone types ext t zero at other =
    let first : slice_get types 0 ≡ Some ty.Char = subst (λ k. slice_get types k ≡ Some ty.Char) (place-char types ext) (has-char types ext) in
    absurd (other (same_Some t ty.Char (sym at ∙ first)))
char-alone types ext t (suc p) at other = starless p

abbrev is_char : Ty → Bool
is_char ty.Char = true
is_char ty.Int = false
is_char ty.Long = false
is_char ty.Mutex = false
is_char (ty.Struct s) = false
is_char (ty.Array e n) = false
is_char (ty.Ptr e) = false

apart : (t : Ty) → is_char t ≡ false → t ≡ ty.Char → ⊥
apart t e h = true≢false (sym (ap is_char h) ∙ e)

-- a pointer's place is no place of `char`, nor is a base's that is another
pub starred-other : (types : List Ty) → Extends scalars types → (r : Root) (n : ℕ) → HasStars types r (suc n) → (starred_place types r (suc n) == 0) ≡ false
starred-other types ext r n has = char-alone types ext (ty.Ptr (starred_place types r n)) _ has.0 (apart _ refl)

pub root-other : (types : List Ty) → Extends scalars types → (r : Root) → HasStars types r 0 → is_char (root_type r) ≡ false → (starred_place types r 0 == 0) ≡ false
root-other types ext r has other = char-alone types ext (root_type r) _ has (apart _ other)

-- ---- what a plain pointer points to

pub starred-none : (types : List Ty) (r : Root) → HasStars types r 0 → pointee_of (slice_get types (starred_place types r 0)) ≡ None
starred-none types root.Char has = rw has refl
starred-none types root.Int has = rw has refl
starred-none types root.Long has = rw has refl
starred-none types root.Mutex has = rw has refl
starred-none types (root.Struct s) has = rw has refl

pub starred-some : (types : List Ty) (r : Root) (n : ℕ) → HasStars types r (suc n) → pointee_of (slice_get types (starred_place types r (suc n))) ≡ Some (starred_place types r n)
starred-some types r n has = rw has.0 refl

abbrev is_char_base : Base → Bool
is_char_base base.Char = true
is_char_base base.Int = false
is_char_base base.Long = false
is_char_base base.Mutex = false
is_char_base (base.Struct n) = false

-- the view of a plain pointer to this place
plain : (p : Program) (types : List Ty) → Extends scalars types → (names : List (List ℕ)) (b : Base) (n : ℕ) → HasStars types (root_of names b) (suc n)
    → is_view p (Some (starred_place types (root_of names b) n)) (if is_char_base b && (n == 0) then view.Whole else view.One) ≡ true
plain p types ext names base.Char zero has = (Decides-eqb _ 0).1 (place-char types ext)
plain p types ext names base.Char (suc n) has = rw (starless n, starred-other types ext root.Char n has.1) refl
plain p types ext names base.Int zero has = rw (root-other types ext root.Int has.1 refl) refl
plain p types ext names base.Int (suc n) has = rw (starred-other types ext root.Int n has.1) refl
plain p types ext names base.Long zero has = rw (root-other types ext root.Long has.1 refl) refl
plain p types ext names base.Long (suc n) has = rw (starred-other types ext root.Long n has.1) refl
plain p types ext names base.Mutex zero has = rw (root-other types ext root.Mutex has.1 refl) refl
plain p types ext names base.Mutex (suc n) has = rw (starred-other types ext root.Mutex n has.1) refl
plain p types ext names (base.Struct w) zero has = rw (root-other types ext (root_of names (base.Struct w)) has.1 refl) refl
plain p types ext names (base.Struct w) (suc n) has = rw (starred-other types ext (root_of names (base.Struct w)) n has.1) refl

plain-view : (b : Base) (q : Pointer) (n : ℕ) → q.stars.count ≡ suc n → plain_view b (Some q) ≡ (if is_char_base b && (n == 0) then view.Whole else view.One)
plain-view base.Char q zero e = rw e refl
plain-view base.Char q (suc n) e = rw e (ap (λ t. if t then view.Whole else view.One) (later n))
  where
    later : (n : ℕ) → (suc (suc n) == 1) ≡ (suc n == 0)
    later n = grind (arith, nat_tests)
plain-view base.Int q n e = refl
plain-view base.Long q n e = refl
plain-view base.Mutex q n e = refl
plain-view (base.Struct w) q n e = refl

-- ---- what a view names

integer-place : (types : List Ty) (r : Root) (n : ℕ) → HasStars types r n → is_integer (of r n) ≡ true → is_integer_type (slice_get types (starred_place types r n)) ≡ true
integer-place types root.Char zero has e = rw has refl
integer-place types root.Int zero has e = rw has refl
integer-place types root.Long zero has e = rw has refl
integer-place types root.Mutex zero has e = absurd (true≢false (sym e))
integer-place types (root.Struct s) zero has e = absurd (true≢false (sym e))
integer-place types r (suc n) has e = absurd (true≢false (sym e ∙ ap (λ t. t && is_integer_root r) (starless n)))

-- all globals have their types
globals-have : (f : Frame) (xs : List Item) → AllByRecursion (ItemHas f) xs → AllByRecursion (λ g. GlobalHas f.names g.base g.declarator f.types) (globals_among xs)
globals-have f [] h = tt
globals-have f (AStruct n fs ∷ xs) h = globals-have f xs h.1
globals-have f (AGlobal g ∷ xs) h = (h.0, globals-have f xs h.1)
globals-have f (ARoutine r ∷ xs) h = globals-have f xs h.1

pub all-at : {A : Type 0} (P : A → Type 0) (xs : List A) → AllByRecursion P xs → (i : ℕ) (x : A) → slice_get xs i ≡ Some x → P x
all-at P [] h i x at = absurd (none-some x at)
all-at P (y ∷ xs) h zero x at = subst P (same_Some y x at) h.0
all-at P (y ∷ xs) h (suc i) x at = all-at P xs h.1 i x at

pub globals-typed : (f : Frame) (z : Sofar) → Ended f z → AllByRecursion (λ g. GlobalHas f.names g.base g.declarator f.types) (globals_of f.externals)
globals-typed f z end = subst (AllByRecursion (λ h. GlobalHas f.names h.base h.declarator f.types)) (globals-all f.externals) (globals-have f (items_of f.externals) end.has)

pub global-has : (f : Frame) (z : Sofar) → Ended f z → (i : ℕ) (g : OuterGlobal) → slice_get (globals_of f.externals) i ≡ Some g → GlobalHas f.names g.base g.declarator f.types
global-has f z end i g at =
    all-at (λ h. GlobalHas f.names h.base h.declarator f.types) (globals_of f.externals) (globals-typed f z end) i g at

-- a global that may say how much a pointer points to is such a global of the version
count-global : (f : Frame) (z : Sofar) → Ended f z → (name : List ℕ) (e : ℕ) (o : Option Outer) → f.outer name ≡ o → is_count o ≡ true
    → is_view (program_of f z) (Some e) (global_view o) ≡ true
count-global f z end name e None is h = absurd (true≢false (sym h))
count-global f z end name e (Some (Function d)) is h = absurd (true≢false (sym h))
count-global f z end name e (Some (Global g t array)) is h =
    let (o, d, there, at, made, type, brackets, named) = named-global f z end name g t array is in
    let parts = global-parts f made.0 o d made.3 in
    let both = and_parts (not array) (is_integer t) h in
    let no_array : not d.array ≡ true = ap not (ap (λ (c : GlobalDecl). c.array) parts.made ∙ sym brackets) ∙ both.0 in
    let place : d.ty ≡ place_in f.types t = ap (λ (c : GlobalDecl). c.ty) parts.made ∙ ap (place_in f.types) (sym type) in
    let has = (global-has f z end g o there).1 in
    let integer : is_integer_type (slice_get f.types d.ty) ≡ true =
    ap (λ k. is_integer_type (slice_get f.types k)) (ap (λ (c : GlobalDecl). c.ty) parts.made)
    ∙ integer-place f.types (root_of f.names o.base) (stars_of o.declarator.declarator.pointer) has (ap is_integer (sym type) ∙ both.1) in
    ap (is_integer_global (program_of f z)) at ∙ and_from (not d.array) _ no_array integer

-- ---- views outside structs

extent-view : (f : Frame) (z s : Sofar) → Ended f z → (e : ℕ) (x : Extent) → extent_outside (outside f s) x ≡ Ok tt → is_view (program_of f z) (Some e) (outer_view f.outer x) ≡ true
extent-view f z s end e (extent.Name n) h = count-global f z end n.word e (f.outer n.word) refl (holds-true _ _ tt h)
extent-view f z s end e (extent.Number at n) h = holds-true _ _ tt h

abbrev extents_outside : Frame → Sofar → Option Extent → Checked (Unit {0})
extents_outside f s x = elim x as (λ _. Checked (Unit {0})) [ None ↦ Ok tt | (Some w) ↦ extent_outside (outside f s) w ]

pub view-fits : (f : Frame) (z s : Sofar) → Ended f z → (b : Base) (q : Option Pointer) → HasStars f.types (root_of f.names b) (stars_of q) → pointer_outside (outside f s) q ≡ Ok tt
    → is_view (program_of f z) (pointee_of (slice_get f.types (starred_place f.types (root_of f.names b) (stars_of q)))) (view_of f.outer b q) ≡ true
view-fits f z s end b None has h = rw (starred-none f.types (root_of f.names b) has) (none-view b)
  where
    none-view : (b : Base) → is_view (program_of f z) None (plain_view b None) ≡ true
    none-view base.Char = refl
    none-view base.Int = refl
    none-view base.Long = refl
    none-view base.Mutex = refl
    none-view (base.Struct n) = refl
view-fits f z s end b (Some q) has h = by q.stars.count refl q.extent refl (star-parts q.stars.count q.stars.at _ h).0 (star-parts q.stars.count q.stars.at _ h).1
  where
    by : (c : ℕ) → q.stars.count ≡ c → (x : Option Extent) → q.extent ≡ x → 1 ≤ q.stars.count → extents_outside f s q.extent ≡ Ok tt
        → is_view (program_of f z) (pointee_of (slice_get f.types (starred_place f.types (root_of f.names b) q.stars.count))) (view_of f.outer b (Some q)) ≡ true
    by zero e x is star there = absurd (omega (arith, e, star))
    by (suc n) e None is star there =
        let have = subst (HasStars f.types (root_of f.names b)) e has in
        let points : pointee_of (slice_get f.types (starred_place f.types (root_of f.names b) q.stars.count)) ≡ Some (starred_place f.types (root_of f.names b) n) =
        ap (λ c. pointee_of (slice_get f.types (starred_place f.types (root_of f.names b) c))) e ∙ starred-some f.types (root_of f.names b) n have in
        let viewed : view_of f.outer b (Some q) ≡ (if is_char_base b && (n == 0) then view.Whole else view.One) =
        ap (λ (x : Option Extent). elim x as (λ _. View) [ None ↦ plain_view b (Some q) | (Some y) ↦ outer_view f.outer y ]) is ∙ plain-view b q n e in
        ap (λ o. is_view (program_of f z) o (view_of f.outer b (Some q))) points ∙ ap (is_view (program_of f z) (Some (starred_place f.types (root_of f.names b) n))) viewed
        ∙ plain (program_of f z) f.types end.extends f.names b n have
    by (suc n) e (Some x) is star there =
        let have = subst (HasStars f.types (root_of f.names b)) e has in
        let points : pointee_of (slice_get f.types (starred_place f.types (root_of f.names b) q.stars.count)) ≡ Some (starred_place f.types (root_of f.names b) n) =
        ap (λ c. pointee_of (slice_get f.types (starred_place f.types (root_of f.names b) c))) e ∙ starred-some f.types (root_of f.names b) n have in
        let viewed : view_of f.outer b (Some q) ≡ outer_view f.outer x =
        ap (λ (y : Option Extent). elim y as (λ _. View) [ None ↦ plain_view b (Some q) | (Some w) ↦ outer_view f.outer w ]) is in
        let inside : extent_outside (outside f s) x ≡ Ok tt = sym (ap (extents_outside f s) is) ∙ there in
        ap (λ o. is_view (program_of f z) o (view_of f.outer b (Some q))) points ∙ ap (is_view (program_of f z) (Some (starred_place f.types (root_of f.names b) n))) viewed
        ∙ extent-view f z s end (starred_place f.types (root_of f.names b) n) x inside
