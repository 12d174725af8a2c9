-- The end of a run through a file, against its version: types, globals and views.
use Rattle.std.proofs.Common.{◌≡◌, ℕ, suc, ◌+◌, ◌*◌, ◌<◌, ◌≤◌, ◌&&◌, ◌||◌, not, nat_le, Bool, true, false, List, [], ◌∷◌, length, slice_get, Option, Some, None, Ok, refl, sym, ap, ◌∙◌, subst, arith, true≢false}
use Rattle.std.specs.Option.{option_map}
use Rattle.std.specs.List.{AllByRecursion}
use Rattle.std.specs.Str.{bytes_eq}
use Rattle.std.proofs.lemmas.Bool.{and_parts, leb-true}
use Rattle.std.proofs.lemmas.Option.{none-some, same_Some}
use Rattle.kt_types.specs.declared.kinds.Ty.{Ty}
use Rattle.kt_types.specs.Layout.{layout, struct_cells}
use Rattle.kt_tree.specs.declared.global.GlobalDecl.{GlobalDecl}
use Rattle.kt_syntax.specs.Tree.{External}
use Rattle.kt_names.specs.declared.ctype.Root.{Root}
use Rattle.kt_names.specs.declared.ctype.CType.{CType}
use Rattle.kt_names.specs.declared.fault.CheckFault.TheVariants.{Twice}
use Rattle.kt_names.specs.Checked.{holds}
use Rattle.kt_names.specs.Environment.{Outer, Global, Function, is_complete, cells_of}
use Rattle.kt_names.specs.Types.{starred_place, place_in, scalars}
use Rattle.kt_names.specs.Tables.{OuterGlobal, globals_of, functions_of, defined_of, global_type, global_name, is_array, global_from, function_named, outer_named, view_of, Written, Literal, Updates, Asks, written_of, literals_in, update_names}
use Rattle.kt_names.specs.Builtins.{point_number}
use Rattle.kt_names.specs.Statements.{pointer_outside, declarator_place}
use Rattle.kt_check.specs.Files.{Frame, Sofar, outside, outer_name, has_global, has_routine, is_array_count, count_of, initial_of, global, nothing_yet, program_of}
use Rattle.kt_terms.proofs.Agrees.{HasStars}
use Rattle.kt_check.proofs.TypePlaces.{Extends}
use Rattle.kt_check.proofs.StructCells.{AreSame, of, cells-at, complete-cells, complete-later}
use Rattle.kt_check.proofs.FieldCells.{then-parts, both-parts, holds-true, same-ok}
use Rattle.kt_check.proofs.Steps.{ItemHas, Steps, items_of}
use Rattle.kt_check.proofs.Made.{Later, Each, each-at, GlobalMade, RoutineMade, FunctionMade, DefinitionMade}

-- a string that the file writes has its number
abbrev pub IsNumbered : Frame → Written → Type 0
IsNumbered f (Literal at bytes) = f.literal at < length (literals_in (written_of f.externals))
IsNumbered f (Updates name) = point_number f.points name < length (update_names f.externals)
IsNumbered f (Asks name) = point_number f.points name < length f.points

-- what a run has made at its end
pub record Ended (f : Frame) (z : Sofar) : Type 0 where
  pub steps : Steps f nothing_yet (items_of f.externals) z
  pub extends : Extends scalars f.types
  pub same : AreSame f.types z.structs z.defined
  pub has : AllByRecursion (ItemHas f) (items_of f.externals)
  pub globals : Each (GlobalMade f z) (globals_of f.externals) z.globals
  pub routines : z.routines ≡ functions_of f.externals
  pub declared : AllByRecursion (RoutineMade f z) (functions_of f.externals)
  pub functions : Each (FunctionMade f z) (defined_of f.externals) z.functions
  pub defined : AllByRecursion (DefinitionMade f z) z.defined
  pub outer : f.outer ≡ outer_named f.names f.externals
  pub written : AllByRecursion (IsNumbered f) (written_of f.externals)

-- ---- the table has more than the scalars' four places

pub extends-long : (types : List Ty) → Extends scalars types → 3 < length types
extends-long types (rest, e) = subst (λ l. 3 < length l) (sym e) (omega arith)

-- ---- complete types

-- what is complete at a stage has its cells in the version
pub complete-layout : (f : Frame) (z s : Sofar) → Ended f z → Later s z → (r : Root) (n : ℕ) → HasStars f.types r n → is_complete (outside f s) (of r n) ≡ true
    → (cs : List Ty) × (layout (program_of f z).types (starred_place f.types r n) ≡ Some cs) × (length cs ≡ cells_of (outside f s) (of r n))
unfolding layout
complete-layout f z s end later r n has complete =
    let (still, count) = complete-later f.types (outside f s) (outside f z) later.structs.0 z.defined later.structs.1 end.same r n complete in
    let (cs, at, len) = complete-cells f.types (outside f z) z.defined end.same r n still in
    let long = extends-long f.types end.extends in
    (cs, cells-at (struct_cells f.types z.defined) f.types (length f.types) r n (omega (arith, long)) has ∙ at, len ∙ count)

-- ---- globals by their names

pub found-global : (names : List (List ℕ)) (n : ℕ) (gs : List OuterGlobal) (name : List ℕ) (g : ℕ) (t : CType) (array : Bool) → global_from names n gs name ≡ Some (Global g t array)
    → (k : ℕ) × (o : OuterGlobal) × (g ≡ n + k) × (slice_get gs k ≡ Some o) × (t ≡ global_type names o) × (array ≡ is_array o) × (bytes_eq (global_name o) name ≡ true)
found-global names n [] name g t array e = absurd (none-some _ e)
found-global names n (o ∷ gs) name g t array e = by (bytes_eq (global_name o) name) refl (found-global names (suc n) gs name g t array)
  where
    number : Outer → ℕ
    number (Global h u a) = h
    number (Function d) = 0

    ctype_in : Outer → CType
    ctype_in (Global h u a) = u
    ctype_in (Function d) = t

    brackets : Outer → Bool
    brackets (Global h u a) = a
    brackets (Function d) = false

    by : (b : Bool) → bytes_eq (global_name o) name ≡ b
        → (global_from names (suc n) gs name ≡ Some (Global g t array)
        → (k : ℕ) × (x : OuterGlobal) × (g ≡ suc n + k) × (slice_get gs k ≡ Some x) × (t ≡ global_type names x) × (array ≡ is_array x) × (bytes_eq (global_name x) name ≡ true))
        → (k : ℕ) × (x : OuterGlobal) × (g ≡ n + k) × (slice_get (o ∷ gs) k ≡ Some x) × (t ≡ global_type names x) × (array ≡ is_array x) × (bytes_eq (global_name x) name ≡ true)
    by true h later =
        let is = same_Some (Global n (global_type names o) (is_array o)) (Global g t array) (rw h at e) in
        (0, o, omega (arith, ap number is), refl, sym (ap ctype_in is), sym (ap brackets is), h)
    by false h later =
        let (k, x, at, there, type, brackets', named) = later (rw h at e) in
        (suc k, x, omega (arith, at), there, type, brackets', named)

outer-global : (names : List (List ℕ)) (xs : List External) (name : List ℕ) (o : Option Outer) (g : ℕ) (t : CType) (array : Bool)
    → global_from names 0 (globals_of xs) name ≡ o → outer_named names xs name ≡ Some (Global g t array) → o ≡ Some (Global g t array)
outer-global names xs name (Some x) g t array is e = ap Some (same_Some x (Global g t array) (sym (chosen is) ∙ e))
  where
    chosen : global_from names 0 (globals_of xs) name ≡ Some x → outer_named names xs name ≡ Some x
    chosen h = rw (outer_named, h) refl
outer-global names xs name None g t array is e = absurd (no_function (function_named names xs name) (sym (chosen is) ∙ e))
  where
    chosen : global_from names 0 (globals_of xs) name ≡ None → outer_named names xs name ≡ option_map Function (function_named names xs name)
    chosen h = rw (outer_named, h) refl

    is_function : Option Outer → Bool
    is_function (Some (Function d)) = true
    is_function (Some (Global h u a)) = false
    is_function None = true

    no_function : (d : Option _) → option_map Function d ≡ Some (Global g t array) → ⊥
    no_function None h = none-some _ h
    no_function (Some d) h = true≢false (ap is_function h)

-- a name of the file that is a global's is that of one of the version, of this type
pub named-global : (f : Frame) (z : Sofar) → Ended f z → (name : List ℕ) (g : ℕ) (t : CType) (array : Bool) → f.outer name ≡ Some (Global g t array)
    → (o : OuterGlobal) × (d : GlobalDecl) × (slice_get (globals_of f.externals) g ≡ Some o) × (slice_get z.globals g ≡ Some d) × GlobalMade f z o d
    × (t ≡ global_type f.names o) × (array ≡ is_array o) × (bytes_eq (global_name o) name ≡ true)
named-global f z end name g t array e =
    let there : outer_named f.names f.externals name ≡ Some (Global g t array) = ap (λ (h : List ℕ → Option Outer). h name) (sym end.outer) ∙ e in
    let from = outer-global f.names f.externals name (global_from f.names 0 (globals_of f.externals) name) g t array refl there in
    let (k, o, at, is, type, brackets, named) = found-global f.names 0 (globals_of f.externals) name g t array from in
    let number : g ≡ k = omega (arith, at) in
    let here : slice_get (globals_of f.externals) g ≡ Some o = ap (slice_get (globals_of f.externals)) number ∙ is in
    let (d, found, made) = each-at (GlobalMade f z) (globals_of f.externals) z.globals end.globals g o here in
    (o, d, here, found, made, type, brackets, named)

-- ---- a global's parts

pub record GlobalParts (f : Frame) (s : Sofar) (g : OuterGlobal) (d : GlobalDecl) : Type 0 where
  pub pointer : pointer_outside (outside f s) g.declarator.declarator.pointer ≡ Ok tt
  pub fresh : (has_global s (global_name g) || has_routine s (global_name g)) ≡ false
  pub count : is_array_count g.declarator.declarator.count ≡ true
  pub size : count_of g.declarator.declarator.count * cells_of (outside f s) (global_type f.names g) ≤ 65536
  pub total : s.cells + count_of g.declarator.declarator.count * cells_of (outside f s) (global_type f.names g) ≤ 1048576
  pub initial : initial_of f (global_type f.names g) (is_array g) (declarator_place g.declarator.declarator.pointer g.declarator.declarator.name) g.declarator.initial ≡ Ok d.init
  pub made : d ≡ record {
    name = global_name g;
    ty = place_in f.types (global_type f.names g);
    count = count_of g.declarator.declarator.count;
    array = is_array g;
    view = view_of f.outer g.base g.declarator.declarator.pointer;
    init = d.init;
  }

pub global-parts : (f : Frame) (s : Sofar) (g : OuterGlobal) (d : GlobalDecl) → global f s g.base g.declarator ≡ Ok d → GlobalParts f s g d
global-parts f s g d e =
    let (x, parts, is) = then-parts _ _ d e in
    let (pointer, p1) = both-parts (pointer_outside (outside f s) g.declarator.declarator.pointer) _ x parts in
    let (named, p2) = both-parts (outer_name g.declarator.declarator.name) _ x.1 p1 in
    let (new, p3) = both-parts (holds (not (has_global s (global_name g) || has_routine s (global_name g))) (Twice g.declarator.declarator.name.at)) _ x.1.1 p2 in
    let (sizes, initial) = both-parts _ (initial_of f (global_type f.names g) (is_array g) (declarator_place g.declarator.declarator.pointer g.declarator.declarator.name) g.declarator.initial) x.1.1.1 p3 in
    let made = same-ok _ d is in
    let init : x.1.1.1.1 ≡ d.init = ap (λ (c : GlobalDecl). c.init) made in
    let size = count_of g.declarator.declarator.count * cells_of (outside f s) (global_type f.names g) in
    let all = holds-true (is_array_count g.declarator.declarator.count && nat_le size 65536 && nat_le (s.cells + size) 1048576) _ x.1.1.1.0 sizes in
    let some = and_parts _ (nat_le (s.cells + size) 1048576) all in
    let one = and_parts (is_array_count g.declarator.declarator.count) (nat_le size 65536) some.0 in
    record {
      pointer = pointer;
      fresh = no (has_global s (global_name g) || has_routine s (global_name g)) (holds-true _ _ x.1.1.0 new);
      count = one.0;
      size = leb-true size 65536 one.1;
      total = leb-true (s.cells + size) 1048576 some.1;
      initial = initial ∙ ap Ok init;
      made = sym made ∙ ap (λ i. record {
        name = global_name g;
        ty = place_in f.types (global_type f.names g);
        count = count_of g.declarator.declarator.count;
        array = is_array g;
        view = view_of f.outer g.base g.declarator.declarator.pointer;
        init = i;
      }) init;
    }
  where
    no : (b : Bool) → not b ≡ true → b ≡ false
    no true h = absurd (true≢false (sym h))
    no false h = refl
