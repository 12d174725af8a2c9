-- What typing gives of a file is a version.
use Rattle.std.proofs.Common.{◌≡◌, ◌≢◌, ℕ, zero, suc, ◌<◌, ◌≤◌, ◌==◌, ◌&&◌, ◌||◌, Bool, true, false, List, [], ◌∷◌, length, slice_get, codes, Result, Some, Ok, Err, if◌then◌else◌, refl, sym, ap, ◌∙◌, subst, arith, true≢false, length-append, take, inl, inr}
use Rattle.std.specs.Option.{is_some, option_map}
use Rattle.std.specs.List.{AllByRecursion, list_all}
use Rattle.std.specs.Str.{bytes_eq}
use Rattle.std.proofs.lemmas.Bool.{and_parts, cases_order}
use Rattle.std.proofs.lemmas.Option.{none-some, same_Some}
use Rattle.std.proofs.lemmas.Slice.Eq.{bytes_eq-Decides}
use Rattle.std.proofs.lemmas.Bool.Decides.{Decides-eqb}
use Rattle.kt_tree.specs.Tree.{Function as Fun}
use Rattle.kt_tree.specs.Names.{is_identifier}
use Rattle.kt_tree.specs.Version.{Program, HasOnePlaces, IsProgram, IsMain}
use Rattle.kt_syntax.specs.Tree.{Tree, Routine, External}
use Rattle.kt_names.specs.declared.fault.CheckFault.{CheckFault}
use Rattle.kt_names.specs.declared.fault.CheckFault.TheVariants.{NoMain}
use Rattle.kt_names.specs.Checked.{Checked, first, fault}
use Rattle.kt_names.specs.Types.{place_in, scalars, int}
use Rattle.kt_names.specs.Uses.{structs_of}
use Rattle.kt_names.specs.Tables.{Written, Literal, Updates, Asks, struct_names, types_of, globals_of, functions_of, defined_in, defined_of, result_type, written_of, updates_in, asks_in, update_names, point_names}
use Rattle.kt_names.specs.Functions.{same_result}
use Rattle.kt_check.specs.Files.{Frame, Sofar, frame_of, nothing_yet, externals, is_main, has_main, program_of, typed_file, version_of}
use Rattle.kt_check.specs.Named.{AreNamed}
use Rattle.kt_check.proofs.AllNamed.{IsNamed, externals-all}
use Rattle.kt_check.proofs.ExternalTypes.{types-have, types-begin, place-int}
use Rattle.kt_check.proofs.FieldCells.{not-ok, same-ok, then-parts}
use Rattle.kt_check.proofs.NameTables.{names-grow, names-found, found-below, found-still, names-distinct, none-distinct, names-all, literal-below, update-in, ask-in}
use Rattle.kt_check.proofs.Steps.{items_of, externals-steps, globals-all, routines-all, items-have, items-named}
use Rattle.kt_check.proofs.Made.{Each, each-at, GlobalMade, RoutineMade, FunctionMade, globals-made, routines-made, functions-made, structs-same, definitions-made}
use Rattle.kt_check.proofs.Ended.{Ended, IsNumbered, extends-long}
use Rattle.kt_check.proofs.GlobalsFit.{all-globals-fit, all-cells-fit}
use Rattle.kt_check.proofs.FieldsFit.{all-fields-fit}
use Rattle.kt_check.proofs.OuterNames.{IsBody, function-body, outer-identified, outer-distinct}
use Rattle.kt_check.proofs.FunctionHeads.{same-result-is}
use Rattle.kt_check.proofs.PointWords.{IsPointWord, points-named}
use Rattle.kt_check.proofs.WordsFiles.{file-words}
use Rattle.kt_check.proofs.FunctionsFit.{all-functions-fit}
use Rattle.kt_check.proofs.ListFacts.{all-from}
use Rattle.kt_check.proofs.TypePlaces.{Extends}
use Rattle.kt_check.proofs.TypeOrder.{types-ordered}
use Rattle.kt_names.specs.Statements.{State}

-- ---- numbers of what is written

one-numbered : (xs : List External) (i : ℕ) (w : Written) → slice_get (written_of xs) i ≡ Some w → IsNumbered (frame_of xs) w
one-numbered xs i (Literal p bytes) at = literal-below (written_of xs) i p bytes at
one-numbered xs i (Updates n) at =
    let (k, there) = update-in (written_of xs) i n at in
    let found = names-found [] (updates_in (written_of xs)) k n there in
    let (rest, more) = names-grow (update_names xs) (asks_in (written_of xs)) in
    let still = found-still (update_names xs) (point_names xs) n rest more found in
    subst (λ m. m < length (update_names xs)) (sym still) (found-below (update_names xs) n found)
one-numbered xs i (Asks n) at =
    let (k, there) = ask-in (written_of xs) i n at in
    found-below (point_names xs) n (names-found (update_names xs) (asks_in (written_of xs)) k n there)

-- ---- the end of a run

pub ended : (xs : List External) (z : Sofar) → externals (frame_of xs) nothing_yet xs ≡ Ok z → AllByRecursion (IsNamed (struct_names xs)) xs → Ended (frame_of xs) z
ended xs z run named =
    let f = frame_of xs in
    let steps = externals-steps f xs nothing_yet z run in
    let extends = types-begin xs in
    let has = items-have f xs (types-have xs) in
    let long = extends-long f.types extends in
    let (gs, globals, each) = globals-made f (items_of xs) nothing_yet z steps in
    let (fs, functions, made) = functions-made f (items_of xs) nothing_yet z steps in
    let (routines, declared) = routines-made f (items_of xs) nothing_yet z steps in
    record {
      steps = steps;
      extends = extends;
      same = structs-same f (omega (arith, long)) (items_of xs) nothing_yet z has steps tt;
      has = has;
      globals = subst (Each (GlobalMade f z) (globals_of xs)) (sym globals) (subst (λ l. Each (GlobalMade f z) l gs) (globals-all xs) each);
      routines = routines ∙ routines-all xs;
      declared = subst (AllByRecursion (RoutineMade f z)) (routines-all xs) declared;
      functions = subst (Each (FunctionMade f z) (defined_of xs)) (sym functions) (subst (λ l. Each (FunctionMade f z) (defined_in l) fs) (routines-all xs) made);
      defined = definitions-made f (items_of xs) nothing_yet z has (items-named f xs named) steps tt;
      outer = refl;
      written = all-from (IsNumbered f) (written_of xs) (one-numbered xs);
    }

-- ---- `main`

main-in : (f : Frame) (rs : List Routine) → has_main f rs ≡ true → (i : ℕ) × (r : Routine) × (slice_get rs i ≡ Some r) × (is_main f r ≡ true)
main-in f [] e = absurd (true≢false (sym e))
main-in f (r ∷ rs) e = by (is_main f r) refl (main-in f rs)
  where
    by : (b : Bool) → is_main f r ≡ b → (has_main f rs ≡ true → (i : ℕ) × (q : Routine) × (slice_get rs i ≡ Some q) × (is_main f q ≡ true))
        → (i : ℕ) × (q : Routine) × (slice_get (r ∷ rs) i ≡ Some q) × (is_main f q ≡ true)
    by true h later = (0, r, refl, h)
    by false h later = let (i, q, at, is) = later (sym (ap (λ t. t || has_main f rs) h) ∙ e) in (suc i, q, at, is)

defined-has : (rs : List Routine) (i : ℕ) (r : Routine) → slice_get rs i ≡ Some r → is_some r.body ≡ true → (k : ℕ) × (slice_get (defined_in rs) k ≡ Some r)
defined-has [] i r at body = absurd (none-some r at)
defined-has (q ∷ rs) zero r at body =
    let here : is_some q.body ≡ true = ap (λ (p : Routine). is_some p.body) (same_Some q r at) ∙ body in
    (0, rw here at)
defined-has (q ∷ rs) (suc i) r at body = by (is_some q.body) refl (defined-has rs i r at body)
  where
    by : (b : Bool) → is_some q.body ≡ b → (k : ℕ) × (slice_get (defined_in rs) k ≡ Some r) → (k : ℕ) × (slice_get (defined_in (q ∷ rs)) k ≡ Some r)
    by true h later = (suc later.0, rw h later.1)
    by false h later = (later.0, rw h later.1)

abbrev MainParts : Frame → Routine → Type 0
MainParts f r = (is_some r.body ≡ true) × (r.name.word ≡ codes "main") × (result_type f.names r ≡ Some int) × (length r.parameters ≡ 0)

main-parts : (f : Frame) (r : Routine) → is_main f r ≡ true → MainParts f r
main-parts f r is =
    let p1 = and_parts (is_some r.body && bytes_eq r.name.word (codes "main") && same_result (result_type f.names r) (Some int)) (length r.parameters == 0) is in
    let p2 = and_parts (is_some r.body && bytes_eq r.name.word (codes "main")) (same_result (result_type f.names r) (Some int)) p1.0 in
    let p3 = and_parts (is_some r.body) (bytes_eq r.name.word (codes "main")) p2.0 in
    (p3.0, (bytes_eq-Decides r.name.word (codes "main")).0 p3.1, same-result-is (result_type f.names r) (Some int) p2.1, (Decides-eqb (length r.parameters) 0).0 p1.1)

main-is : (f : Frame) (s : Sofar) (r : Routine) (st : State) (d : Fun) → Extends scalars f.types → IsBody f s r st d → MainParts f r → IsMain d
main-is f s r st d extends body parts =
    let result : option_map (place_in f.types) (result_type f.names r) ≡ Some 1 = ap (option_map (place_in f.types)) parts.2 ∙ ap Some (place-int f.types extends) in
    subst IsMain body.made (parts.1, result, parts.3)

main-there : (f : Frame) (z : Sofar) → Ended f z → has_main f z.routines ≡ true → (n : ℕ) × (d : Fun) × (slice_get z.functions n ≡ Some d) × IsMain d
main-there f z end e =
    let (i, r, at, is) = main-in f z.routines e in
    let parts = main-parts f r is in
    let (k, there) = defined-has (functions_of f.externals) i r (ap (λ l. slice_get l i) (sym end.routines) ∙ at) parts.0 in
    let (d, found, made) = each-at (FunctionMade f z) (defined_of f.externals) z.functions end.functions k r there in
    (k, d, found, main-is f made.0 r made.2.1.1.1.1 d end.extends (function-body f z r d made) parts)

-- ---- names of points

points-distinct : (xs : List External) → (i j : ℕ) (a b : List ℕ) → i < j → slice_get (point_names xs) i ≡ Some a → slice_get (point_names xs) j ≡ Some b → a ≢ b
points-distinct xs = names-distinct (update_names xs) (asks_in (written_of xs)) (names-distinct [] (updates_in (written_of xs)) none-distinct)

updates-within : (xs : List External) → length (update_names xs) ≤ length (point_names xs)
updates-within xs =
    let (rest, more) = names-grow (update_names xs) (asks_in (written_of xs)) in
    subst (λ l. length (update_names xs) ≤ length l) (sym more) (subst (λ n. length (update_names xs) ≤ n) (sym (length-append (update_names xs) rest)) (omega arith))

-- ---- types

one-places : (xs : List External) → HasOnePlaces (record { types = types_of xs; structs = struct_names xs; defined = [] })
one-places xs i j u first second =
    let apart = (types-ordered xs).apart in
    elim (cases_order i j) [
      | inl same ↦ same
      | inr other ↦ elim other [ inl less ↦ absurd (apart i j u u less first second refl) | inr more ↦ absurd (apart j i u u more second first refl) ]
    ]

-- ---- versions

pub program-fits : (xs : List External) (z : Sofar) → Ended (frame_of xs) z → list_all is_identifier (struct_names xs) ≡ true → AllByRecursion (IsNamed (struct_names xs)) xs
    → AllByRecursion IsPointWord (written_of xs) → has_main (frame_of xs) z.routines ≡ true → IsProgram (program_of (frame_of xs) z)
program-fits xs z end structs named points main = record {
  scalars = ap (take 4) (types-begin xs).1;
  places = one-places xs;
  structs = structs;
  fields = all-fields-fit (frame_of xs) z end;
  names = outer-identified (frame_of xs) z end named;
  distinct = outer-distinct (frame_of xs) z end;
  globals = all-globals-fit (frame_of xs) z end;
  within = all-cells-fit (frame_of xs) z end;
  functions = all-functions-fit (frame_of xs) z end named;
  main = main-there (frame_of xs) z end main;
  point_names = points-named xs points;
  points = points-distinct xs;
  updates = updates-within xs;
}

first-ok : {A : Type 0} (c : Checked A) (x : A) → first c ≡ Ok x → c ≡ Ok x
first-ok {A} (Ok y) x e = ap Ok (ap (λ (r : Result A CheckFault). elim r as (λ _. A) [ (Ok z) ↦ z | (Err g) ↦ y ]) e)
first-ok {A} (Err fs) x e = absurd (true≢false (sym (ap (λ (r : Result A CheckFault). elim r as (λ _. Bool) [ (Ok z) ↦ true | (Err g) ↦ false ]) e)))

-- the run that a version comes from
pub version-run : (t : Tree) (p : Program) → version_of t ≡ Ok p
    → (z : Sofar) × (externals (frame_of t.externals) nothing_yet t.externals ≡ Ok z) × (has_main (frame_of t.externals) z.routines ≡ true) × (program_of (frame_of t.externals) z ≡ p)
version-run t p e =
    let f = frame_of t.externals in
    let (z, run, rest) = then-parts (externals f nothing_yet t.externals) (λ s. if has_main f s.routines then Ok (program_of f s) else fault (NoMain t.length)) p (first-ok (typed_file t) p e) in
    let ends = by z (has_main f z.routines) refl rest in
    (z, run, ends.0, ends.1)
  where
    by : (z : Sofar) (b : Bool) → has_main (frame_of t.externals) z.routines ≡ b
        → ◌≡◌ {A = Checked Program} (if has_main (frame_of t.externals) z.routines then Ok (program_of (frame_of t.externals) z) else fault (NoMain t.length)) (Ok p)
        → (has_main (frame_of t.externals) z.routines ≡ true) × (program_of (frame_of t.externals) z ≡ p)
    by z true h rest = (h, same-ok _ p (sym (ap (λ b. if b then Ok (program_of (frame_of t.externals) z) else fault (NoMain t.length)) h) ∙ rest))
    by z false h rest = absurd (not-ok _ p (sym (ap (λ b. if b then Ok (program_of (frame_of t.externals) z) else fault (NoMain t.length)) h) ∙ rest))

-- what typing gives of a file whose names are identifiers is a version
pub version-sound : (t : Tree) (p : Program) → version_of t ≡ Ok p → AreNamed t → IsProgram p
version-sound t p e named =
    let (z, run, main, is) = version-run t p e in
    let all = externals-all (struct_names t.externals) t.externals named.externals in
    subst IsProgram is
    (program-fits t.externals z (ended t.externals z run all) named.structs all (file-words (frame_of t.externals) t.externals nothing_yet z run) main)
