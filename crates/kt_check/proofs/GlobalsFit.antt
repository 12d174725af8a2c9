-- The globals of a file are globals of its version.
use Rattle.std.proofs.Common.{◌≡◌, ℕ, zero, suc, ◌+◌, ◌*◌, ◌≤◌, ◌==◌, nat_le, Bool, true, false, List, [], ◌∷◌, ◌++◌, length, map, slice_get, Option, Some, None, Ok, if◌then◌else◌, refl, sym, ap, ◌∙◌, subst, arith, true≢false, ℤ}
use Rattle.std.specs.Option.{is_some}
use Rattle.std.specs.List.{AllByRecursion}
use Rattle.std.specs.Prelude.{flat_map, unwrap_or}
use Rattle.std.proofs.lemmas.Bool.{and_parts, and_from, leb-true}
use Rattle.std.proofs.lemmas.Option.{none-some, same_Some}
use Rattle.std.proofs.lemmas.Bool.Decides.{Decides-eqb, Decides-ltb}
use Rattle.kt_types.specs.declared.kinds.Ty.TheVariants as ty
use Rattle.kt_types.specs.Table.{Table}
use Rattle.kt_types.specs.Layout.{layout, cells}
use Rattle.kt_tree.specs.declared.global.GlobalDecl.{GlobalDecl}
use Rattle.kt_tree.specs.declared.global.Init.{Init}
use Rattle.kt_tree.specs.declared.global.Init.TheVariants as init
use Rattle.kt_tree.specs.Kinds.{fits_in, pointee_of}
use Rattle.kt_tree.specs.Version.{IsGlobal, is_initial, is_view, global_cells}
use Rattle.kt_lex.specs.declared.number.Number.{Number}
use Rattle.kt_syntax.specs.declared.tree.Constant.{Constant}
use Rattle.kt_syntax.specs.declared.tree.Constant.TheVariants as written
use Rattle.kt_syntax.specs.Tree.{External, StructMentioned, StructDefined, GlobalsDeclared, FunctionDeclared, Routine}
use Rattle.kt_syntax.specs.declared.tree.GlobalDeclarator.{GlobalDeclarator}
use Rattle.kt_grammar.specs.declared.tree.Base.{Base}
use Rattle.kt_names.specs.declared.ctype.Root.{Root}
use Rattle.kt_names.specs.declared.ctype.Root.TheVariants as root
use Rattle.kt_names.specs.Environment.{cells_of, is_complete}
use Rattle.kt_names.specs.Types.{same_ctype, same_root, root_of, starred_place}
use Rattle.kt_names.specs.Uses.{stars_of, where_there}
use Rattle.kt_names.specs.Tables.{Literal, OuterGlobal, globals_of, functions_of, global_type, is_array, constant_written, external_written, view_of}
use Rattle.kt_check.specs.Files.{Frame, Sofar, outside, is_array_count, count_of, number_init, constant_number, root_init, mutex_init, pointer_init, is_zero, typed_init, initial_of, with_global, nothing_yet, program_of}
use Rattle.kt_terms.proofs.Agrees.{HasStars}
use Rattle.kt_check.proofs.ExternalTypes.{place-char}
use Rattle.kt_check.proofs.StructCells.{of, starless}
use Rattle.kt_check.proofs.FieldCells.{not-ok, same-ok, all-both}
use Rattle.kt_check.proofs.Steps.{Item, AStruct, AGlobal, ARoutine, Steps, ItemHas, items_of, one_global}
use Rattle.kt_check.proofs.Made.{Later, Each, GlobalMade, steps-later, struct-made, function-made}
use Rattle.kt_check.proofs.Ended.{Ended, IsNumbered, GlobalParts, global-parts, complete-layout}
use Rattle.kt_check.proofs.ViewsFit.{view-fits, globals-typed}

-- ---- what holds of each external declaration holds of its globals and functions

pub all-of-globals : (P : External → Type 0) (Q : OuterGlobal → Type 0) → ((b : Base) (gs : List GlobalDeclarator) → P (GlobalsDeclared b gs) → AllByRecursion (λ g. Q (one_global b g)) gs)
    → (xs : List External) → AllByRecursion P xs → AllByRecursion Q (globals_of xs)
all-of-globals P Q each [] h = tt
all-of-globals P Q each (StructMentioned n ∷ xs) h = all-of-globals P Q each xs h.1
all-of-globals P Q each (StructDefined n fs ∷ xs) h = all-of-globals P Q each xs h.1
all-of-globals P Q each (GlobalsDeclared b gs ∷ xs) h = all-both Q (map (one_global b) gs) (globals_of xs) (mapped gs (each b gs h.0)) (all-of-globals P Q each xs h.1)
  where
    mapped : (gs : List GlobalDeclarator) → AllByRecursion (λ g. Q (one_global b g)) gs → AllByRecursion Q (map (one_global b) gs)
    mapped [] k = tt
    mapped (g ∷ gs) k = (k.0, mapped gs k.1)
all-of-globals P Q each (FunctionDeclared r ∷ xs) h = all-of-globals P Q each xs h.1

pub all-of-functions : (P : External → Type 0) (Q : Routine → Type 0) → ((r : Routine) → P (FunctionDeclared r) → Q r)
    → (xs : List External) → AllByRecursion P xs → AllByRecursion Q (functions_of xs)
all-of-functions P Q each [] h = tt
all-of-functions P Q each (StructMentioned n ∷ xs) h = all-of-functions P Q each xs h.1
all-of-functions P Q each (StructDefined n fs ∷ xs) h = all-of-functions P Q each xs h.1
all-of-functions P Q each (GlobalsDeclared b gs ∷ xs) h = all-of-functions P Q each xs h.1
all-of-functions P Q each (FunctionDeclared r ∷ xs) h = (each r h.0, all-of-functions P Q each xs h.1)

pub all-split : {A : Type 0} (P : A → Type 0) (xs ys : List A) → AllByRecursion P (xs ++ ys) → AllByRecursion P xs × AllByRecursion P ys
all-split P [] ys h = (tt, h)
all-split P (x ∷ xs) ys h = let rest = all-split P xs ys h.1 in ((h.0, rest.0), rest.1)

pub all-flat : {A B : Type 0} (P : B → Type 0) (parts : A → List B) (xs : List A) → AllByRecursion P (flat_map parts xs) → AllByRecursion (λ x. AllByRecursion P (parts x)) xs
all-flat P parts [] h = tt
all-flat P parts (x ∷ xs) h = let both = all-split P (parts x) (flat_map parts xs) h in (both.0, all-flat P parts xs both.1)

-- ---- initial values

number-fits : (bits : ℕ) (n : Option ℤ) (i : Init) → number_init bits n ≡ Some i → (k : ℤ) × (init.Number k ≡ i) × (fits_in bits k ≡ true)
number-fits bits None i e = absurd (none-some i e)
number-fits bits (Some k) i e = by (fits_in bits k) refl
  where
    by : (b : Bool) → fits_in bits k ≡ b → (m : ℤ) × (init.Number m ≡ i) × (fits_in bits m ≡ true)
    by true h = (k, same_Some (init.Number k) i (rw h at e), h)
    by false h = absurd (none-some i (rw h at e))

mutex-is : (c : Constant) (i : Init) → mutex_init c ≡ Some i → init.Free ≡ i
mutex-is written.MutexInitializer i e = same_Some init.Free i e
mutex-is (written.Number n) i e = absurd (none-some i e)
mutex-is (written.Negative n) i e = absurd (none-some i e)
mutex-is (written.Character b) i e = absurd (none-some i e)
mutex-is (written.Text at bytes) i e = absurd (none-some i e)
mutex-is written.Null i e = absurd (none-some i e)
mutex-is written.Eof i e = absurd (none-some i e)

module _ (f : Frame) (z : Sofar) (end : Ended f z) where
  root-initial : (r : Root) (c : Constant) (i : Init) → HasStars f.types r 0 → root_init r c ≡ Some i
      → is_initial (program_of f z) (slice_get f.types (starred_place f.types r 0)) false i ≡ true
  root-initial root.Char c i has e =
      let (k, is, fits) = number-fits 7 (constant_number c) i e in
      ap (λ o. is_initial (program_of f z) o false i) has ∙ ap (is_initial (program_of f z) (Some ty.Char) false) (sym is) ∙ fits
  root-initial root.Int c i has e =
      let (k, is, fits) = number-fits 31 (constant_number c) i e in
      ap (λ o. is_initial (program_of f z) o false i) has ∙ ap (is_initial (program_of f z) (Some ty.Int) false) (sym is) ∙ fits
  root-initial root.Long c i has e =
      let (k, is, fits) = number-fits 63 (constant_number c) i e in
      ap (λ o. is_initial (program_of f z) o false i) has ∙ ap (is_initial (program_of f z) (Some ty.Long) false) (sym is) ∙ fits
  root-initial root.Mutex c i has e =
      ap (λ o. is_initial (program_of f z) o false i) has ∙ ap (is_initial (program_of f z) (Some ty.Mutex) false) (sym (mutex-is c i e))
  root-initial (root.Struct s) c i has e = absurd (none-some i e)

  null-initial : (e : ℕ) (i : Init) → init.Null ≡ i → is_initial (program_of f z) (Some (ty.Ptr e)) false i ≡ true
  null-initial e i is = ap (is_initial (program_of f z) (Some (ty.Ptr e)) false) (sym is)

  text-initial : (r : Root) (n at : ℕ) (bytes : List ℕ) (i : Init) → HasStars f.types r (suc n) → IsNumbered f (Literal at bytes)
      → pointer_init f (of r (suc n)) (written.Text at bytes) ≡ Some i → is_initial (program_of f z) (Some (ty.Ptr (starred_place f.types r n))) false i ≡ true
  text-initial r n at bytes i has numbered e = by (same_ctype (of r (suc n)) (of root.Char 1)) refl
    where
      same : (r : Root) (n : ℕ) → same_root r root.Char ≡ true → (suc n == 1) ≡ true → starred_place f.types r n ≡ 0
      same root.Char n h k = let none : n ≡ 0 = omega (arith, (Decides-eqb (suc n) 1).0 k) in ap (starred_place f.types root.Char) none ∙ place-char f.types end.extends
      same root.Int n h k = absurd (true≢false (sym h))
      same root.Long n h k = absurd (true≢false (sym h))
      same root.Mutex n h k = absurd (true≢false (sym h))
      same (root.Struct s) n h k = absurd (true≢false (sym h))

      by : (b : Bool) → same_ctype (of r (suc n)) (of root.Char 1) ≡ b → is_initial (program_of f z) (Some (ty.Ptr (starred_place f.types r n))) false i ≡ true
      by true h =
          let parts = and_parts (same_root r root.Char) (suc n == 1) h in
          let place = same r n parts.0 parts.1 in
          let is : init.Literal (f.literal at) ≡ i = same_Some (init.Literal (f.literal at)) i (rw h at e) in
          ap (is_initial (program_of f z) (Some (ty.Ptr (starred_place f.types r n))) false) (sym is)
          ∙ and_from (starred_place f.types r n == 0) _ ((Decides-eqb _ 0).1 place) ((Decides-ltb _ _).1 numbered)
      by false h = absurd (none-some i (rw h at e))

  pointer-initial : (r : Root) (n : ℕ) (c : Constant) (i : Init) → HasStars f.types r (suc n) → AllByRecursion (IsNumbered f) (constant_written c)
      → pointer_init f (of r (suc n)) c ≡ Some i → is_initial (program_of f z) (Some (ty.Ptr (starred_place f.types r n))) false i ≡ true
  pointer-initial r n written.Null i has numbered e = null-initial (starred_place f.types r n) i (same_Some init.Null i e)
  pointer-initial r n (written.Number k) i has numbered e = by (is_zero k) refl
    where
      by : (b : Bool) → is_zero k ≡ b → is_initial (program_of f z) (Some (ty.Ptr (starred_place f.types r n))) false i ≡ true
      by true h = null-initial (starred_place f.types r n) i (same_Some init.Null i (sym (ap (λ t. if t then Some init.Null else None) h) ∙ e))
      by false h = absurd (none-some i (sym (ap (λ t. if t then Some init.Null else None) h) ∙ e))
  pointer-initial r n (written.Text at bytes) i has numbered e = text-initial r n at bytes i has numbered.0 e
  pointer-initial r n (written.Negative k) i has numbered e = absurd (none-some i e)
  pointer-initial r n (written.Character b) i has numbered e = absurd (none-some i e)
  pointer-initial r n written.Eof i has numbered e = absurd (none-some i e)
  pointer-initial r n written.MutexInitializer i has numbered e = absurd (none-some i e)

  typed-initial : (r : Root) (n : ℕ) (c : Constant) (i : Init) → HasStars f.types r n → AllByRecursion (IsNumbered f) (constant_written c) → typed_init f (of r n) c ≡ Some i
      → is_initial (program_of f z) (slice_get f.types (starred_place f.types r n)) false i ≡ true
  typed-initial r zero c i has numbered e = root-initial r c i has e
  typed-initial r (suc n) c i has numbered e =
      let chosen : pointer_init f (of r (suc n)) c ≡ Some i = sym (ap (λ t. if t then root_init r c else pointer_init f (of r (suc n)) c) (starless n)) ∙ e in
      ap (λ o. is_initial (program_of f z) o false i) has.0 ∙ pointer-initial r n c i has numbered chosen

  pub initial-fits : (r : Root) (n : ℕ) (array : Bool) (at : ℕ) (o : Option Constant) (i : Init) → HasStars f.types r n → AllByRecursion (IsNumbered f) (where_there constant_written o)
      → initial_of f (of r n) array at o ≡ Ok i → is_initial (program_of f z) (slice_get f.types (starred_place f.types r n)) array i ≡ true
  initial-fits r n array at None i has numbered e = ap (is_initial (program_of f z) (slice_get f.types (starred_place f.types r n)) array) (sym (same-ok init.Zero i e))
  initial-fits r n true at (Some c) i has numbered e = absurd (not-ok _ i e)
  initial-fits r n false at (Some c) i has numbered e = by (typed_init f (of r n) c) refl
    where
      by : (o : Option Init) → typed_init f (of r n) c ≡ o → is_initial (program_of f z) (slice_get f.types (starred_place f.types r n)) false i ≡ true
      by None h = absurd (not-ok _ i (rw (initial_of, h) at e))
      by (Some j) h = typed-initial r n c i has numbered (h ∙ ap Some (same-ok j i (rw (initial_of, h) at e)))

  -- ---- globals

  count-some : (c : Option Number) → is_array_count c ≡ true → 1 ≤ count_of c
  count-some None e = omega arith
  count-some (Some n) e = let parts = and_parts (nat_le 1 n.value) (nat_le n.value 65536) e in leb-true 1 n.value parts.0

  count-single : (c : Option Number) → is_some c ≡ false → count_of c ≡ 1
  count-single None e = refl
  count-single (Some n) e = absurd (true≢false e)

  pub global-fits : (g : OuterGlobal) (d : GlobalDecl) → GlobalMade f z g d
      → HasStars f.types (root_of f.names g.base) (suc (stars_of g.declarator.declarator.pointer)) → AllByRecursion (IsNumbered f) (where_there constant_written g.declarator.initial)
      → IsGlobal (program_of f z) d
  global-fits g d (s, later, complete, typed) has numbered =
      let parts = global-parts f s g d typed in
      let r = root_of f.names g.base in
      let n = stars_of g.declarator.declarator.pointer in
      let place : d.ty ≡ starred_place f.types r n = ap (λ (c : GlobalDecl). c.ty) parts.made in
      let count : d.count ≡ count_of g.declarator.declarator.count = ap (λ (c : GlobalDecl). c.count) parts.made in
      let array : d.array ≡ is_array g = ap (λ (c : GlobalDecl). c.array) parts.made in
      let view : d.view ≡ view_of f.outer g.base g.declarator.declarator.pointer = ap (λ (c : GlobalDecl). c.view) parts.made in
      let (cs, at, len) = complete-layout f z s end later r n has.1 complete in
      let layout_is : layout (program_of f z).types d.ty ≡ Some cs = ap (layout (program_of f z).types) place ∙ at in
      let cells_are : cells (program_of f z).types d.ty ≡ cs = ap (λ o. unwrap_or o []) layout_is in
      record {
        complete = ap is_some layout_is;
        some = subst (λ k. 1 ≤ k) (sym count) (count-some g.declarator.declarator.count parts.count);
        within = subst (λ k. k ≤ 65536) (ap (λ k. count_of g.declarator.declarator.count * k) (sym (ap length cells_are ∙ len)) ∙ ap (λ k. k * length (cells (program_of f z).types d.ty)) (sym count)) parts.size;
        single = λ e. count ∙ count-single g.declarator.declarator.count (sym array ∙ e);
        initial =
            ap (λ p. is_initial (program_of f z) (slice_get f.types p) d.array d.init) place ∙ ap (λ a. is_initial (program_of f z) (slice_get f.types (starred_place f.types r n)) a d.init) array
            ∙ initial-fits r n (is_array g) _ g.declarator.initial d.init has.1 numbered parts.initial;
        view =
            ap (λ p. is_view (program_of f z) (pointee_of (slice_get f.types p)) d.view) place ∙ ap (is_view (program_of f z) (pointee_of (slice_get f.types (starred_place f.types r n)))) view
            ∙ view-fits f z s end g.base g.declarator.declarator.pointer has.1 parts.pointer;
      }

  globals-fit : (gs : List OuterGlobal) (ds : List GlobalDecl) → Each (GlobalMade f z) gs ds → AllByRecursion (λ g. HasStars f.types (root_of f.names g.base) (suc (stars_of g.declarator.declarator.pointer))) gs
      → AllByRecursion (λ g. AllByRecursion (IsNumbered f) (where_there constant_written g.declarator.initial)) gs → AllByRecursion (IsGlobal (program_of f z)) ds
  globals-fit [] [] each has numbered = tt
  globals-fit [] (d ∷ ds) each has numbered = absurd each
  globals-fit (g ∷ gs) [] each has numbered = absurd each
  globals-fit (g ∷ gs) (d ∷ ds) each has numbered = (global-fits g d each.0 has.0 numbered.0, globals-fit gs ds each.1 has.1 numbered.1)

  -- all globals are globals of the version
  pub all-globals-fit : AllByRecursion (IsGlobal (program_of f z)) z.globals
  all-globals-fit =
      globals-fit (globals_of f.externals) z.globals end.globals
      (globals-typed f z end)
      (all-of-globals (λ x. AllByRecursion (IsNumbered f) (external_written x)) (λ g. AllByRecursion (IsNumbered f) (where_there constant_written g.declarator.initial))
      (λ b gs h. all-flat (IsNumbered f) (λ g. where_there constant_written g.initial) gs h) f.externals (all-flat (IsNumbered f) external_written f.externals end.written))

  -- ---- the cells of all globals

  cells-push : (t : Table) (gs : List GlobalDecl) (d : GlobalDecl) → global_cells t (gs ++ d ∷ []) ≡ global_cells t gs + d.count * length (cells t d.ty)
  cells-push t [] d = omega arith
  cells-push t (g ∷ gs) d = ap (λ k. g.count * length (cells t g.ty) + k) (cells-push t gs d) ∙ (omega arith)

  abbrev Counts : Sofar → Type 0
  Counts s = (global_cells (program_of f z).types s.globals ≡ s.cells) × (s.cells ≤ 1048576)

  cells-step : (s t : Sofar) (g : OuterGlobal) (d : GlobalDecl) → GlobalMade f z g d → Later s z → GlobalParts f s g d → HasStars f.types (root_of f.names g.base) (stars_of g.declarator.declarator.pointer)
      → is_complete (outside f s) (global_type f.names g) ≡ true → Counts s → Counts (with_global f s g.base g.declarator d)
  cells-step s t g d made later parts has complete counts =
      let r = root_of f.names g.base in
      let n = stars_of g.declarator.declarator.pointer in
      let place : d.ty ≡ starred_place f.types r n = ap (λ (c : GlobalDecl). c.ty) parts.made in
      let count : d.count ≡ count_of g.declarator.declarator.count = ap (λ (c : GlobalDecl). c.count) parts.made in
      let (cs, at, len) = complete-layout f z s end later r n has complete in
      let cells_are : length (cells (program_of f z).types d.ty) ≡ cells_of (outside f s) (global_type f.names g) = ap (λ o. length (unwrap_or o [])) (ap (layout (program_of f z).types) place ∙ at) ∙ len in (
        cells-push (program_of f z).types s.globals d ∙ ap (λ k. k + d.count * length (cells (program_of f z).types d.ty)) counts.0 ∙ ap (λ k. s.cells + d.count * k) cells_are,
        subst (λ k. s.cells + k * cells_of (outside f s) (global_type f.names g) ≤ 1048576) (sym count) parts.total,
      )

  cells-run : (xs : List Item) (s : Sofar) → AllByRecursion (ItemHas f) xs → Steps f s xs z → Counts s → Counts z
  cells-run [] s has e counts = subst Counts e counts
  cells-run (AStruct n fs ∷ xs) s has (t, first, rest) counts =
      let (w, new, made, is) = struct-made f s t n fs first in
      cells-run xs t has.1 rest (subst Counts is counts)
  cells-run (AGlobal g ∷ xs) s has (t, first, rest) counts =
      let later = steps-later f (AGlobal g ∷ xs) s z (t, first, rest) in
      let next = cells-step s t g first.0 (s, later, first.1, first.2) later (global-parts f s g first.0 first.2) has.0.1 first.1 counts in
      cells-run xs t has.1 rest (subst Counts first.3 next)
  cells-run (ARoutine r ∷ xs) s has (t, first, rest) counts =
      let (x, parts, fs, made, is) = function-made f s t r first in
      cells-run xs t has.1 rest (subst Counts is counts)

  -- they are 1,048,576 at most
  pub all-cells-fit : global_cells (program_of f z).types z.globals ≤ 1048576
  all-cells-fit =
      let counts = cells-run (items_of f.externals) nothing_yet end.has end.steps (refl, omega arith) in
      subst (λ k. k ≤ 1048576) (sym counts.0) counts.1
