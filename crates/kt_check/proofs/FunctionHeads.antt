-- What the functions of a file take and give, in its version: as their first declarations say.
use Rattle.std.proofs.Common.{◌≡◌, ℕ, zero, suc, ◌<◌, ◌==◌, ◌&&◌, not, Bool, true, false, List, [], ◌∷◌, ◌++◌, length, map, take, slice_get, Option, Some, None, Ok, if◌then◌else◌, refl, sym, ap, ◌∙◌, subst, arith, true≢false, inl, inr}
use Rattle.std.specs.Option.{is_some, option_map}
use Rattle.std.specs.List.{AllByRecursion, list_any}
use Rattle.std.specs.Str.{bytes_eq}
use Rattle.std.proofs.lemmas.Bool.{and_parts, cases_order}
use Rattle.std.proofs.lemmas.Option.{none-some, same_Some, slice_get-map, slice_get_within}
use Rattle.std.proofs.lemmas.Slice.Eq.{bytes_eq-Decides}
use Rattle.std.proofs.lemmas.Bool.Decides.{Decides-eqb}
use Rattle.kt_types.proofs.Growth.{option_map_some}
use Rattle.kt_types.proofs.Keeps.{slice_get-push}
use Rattle.kt_types.specs.declared.kinds.FieldDecl.{FieldDecl}
use Rattle.kt_tree.specs.Kinds.{Head}
use Rattle.kt_tree.specs.Tree.{Function as Fun}
use Rattle.kt_tree.specs.Version.{head_of}
use Rattle.kt_grammar.specs.declared.tree.Base.{Base}
use Rattle.kt_syntax.specs.declared.tree.Parameter.{Parameter}
use Rattle.kt_syntax.specs.Tree.{Routine, External}
use Rattle.kt_names.specs.declared.fault.CheckFault.TheVariants.{Twice, BadType}
use Rattle.kt_names.specs.declared.ctype.Root.{Root}
use Rattle.kt_names.specs.declared.ctype.Root.TheVariants as root
use Rattle.kt_names.specs.declared.ctype.CType.{CType}
use Rattle.kt_names.specs.Checked.{Checked, holds, fault, and_then}
use Rattle.kt_names.specs.Environment.{Outer, Global, Function, Declared}
use Rattle.kt_names.specs.Types.{same_root, same_ctype, is_scalar, ctype, place_in}
use Rattle.kt_names.specs.Uses.{result_stars, result_uses, head_uses, body_uses}
use Rattle.kt_names.specs.Tables.{OuterGlobal, globals_of, functions_of, defined_in, defined_of, first_by, result_type, parameter_types, function_named, global_from, global_name, global_type, is_array, outer_named, parameter_local, view_of, declared_type}
use Rattle.kt_names.specs.Statements.{base_for}
use Rattle.kt_names.specs.Functions.{stars_place, result_fault, same_types, same_result, same_function, is_defined, is_other_type, agrees, parameters, no_state, body_in, is_noted}
use Rattle.kt_check.specs.Files.{Frame, Sofar, outside, outer_name, has_global, nothing_yet}
use Rattle.kt_terms.proofs.Agrees.{HasUse, Holds, ResultHolds}
use Rattle.kt_check.proofs.TypePlaces.{found-at}
use Rattle.kt_check.proofs.FieldCells.{not-ok, then-parts, both-parts, holds-true}
use Rattle.kt_check.proofs.Steps.{Item, AStruct, AGlobal, ARoutine, Steps, ItemHas, items_of, routines_among, routines-all}
use Rattle.kt_check.proofs.Made.{each-at, FunctionMade, FunctionParts, RoutineMade, function_parts, struct-made, function-made}
use Rattle.kt_check.proofs.Ended.{Ended}
use Rattle.kt_check.proofs.ViewsFit.{all-at}
use Rattle.kt_check.proofs.OuterNames.{function-body}
use Rattle.kt_check.proofs.LocalTypes.{LocalsHave, parameters-have, routine-parts}
use Rattle.kt_check.proofs.LocalViews.{IsHeld, parameters-held}
use Rattle.kt_check.proofs.ListFacts.{not-any, is-false, is-true}

-- ---- declarations of one function are of one type

same-root-is : (r q : Root) → same_root r q ≡ true → r ≡ q
same-root-is root.Char root.Char e = refl
same-root-is root.Int root.Int e = refl
same-root-is root.Long root.Long e = refl
same-root-is root.Mutex root.Mutex e = refl
same-root-is (root.Struct s) (root.Struct r) e = ap root.Struct ((Decides-eqb s r).0 e)
same-root-is _ _ e = absurd (true≢false (sym e))

same-ctype-is : (a b : CType) → same_ctype a b ≡ true → a ≡ b
same-ctype-is a b e =
    let parts = and_parts (same_root a.root b.root) (a.stars == b.stars) e in
    let one = same-root-is a.root b.root parts.0 in
    let two = (Decides-eqb a.stars b.stars).0 parts.1 in
    λ i. record { root = one i; stars = two i }

same-types-are : (as' bs : List CType) → same_types as' bs ≡ true → as' ≡ bs
same-types-are [] [] e = refl
same-types-are (a ∷ as') [] e = absurd (true≢false (sym e))
same-types-are [] (b ∷ bs) e = absurd (true≢false (sym e))
same-types-are (a ∷ as') (b ∷ bs) e =
    let parts = and_parts (same_ctype a b) (same_types as' bs) e in
    ap (λ x. x ∷ as') (same-ctype-is a b parts.0) ∙ ap (λ l. b ∷ l) (same-types-are as' bs parts.1)

pub same-result-is : (a b : Option CType) → same_result a b ≡ true → a ≡ b
same-result-is None None e = refl
same-result-is (Some a) (Some b) e = ap Some (same-ctype-is a b e)
same-result-is None (Some b) e = absurd (true≢false (sym e))
same-result-is (Some a) None e = absurd (true≢false (sym e))

abbrev IsOneType : List (List ℕ) → Routine → Routine → Type 0
IsOneType names a b = (result_type names a ≡ result_type names b) × (parameter_types names a ≡ parameter_types names b)

one-type : (names : List (List ℕ)) (a b : Routine) → same_function names a b ≡ true → IsOneType names a b
one-type names a b e =
    let parts = and_parts (same_result (result_type names a) (result_type names b)) (same_types (parameter_types names a) (parameter_types names b)) e in
    (same-result-is _ _ parts.0, same-types-are _ _ parts.1)

abbrev Agreed : List (List ℕ) → List Routine → Type 0
Agreed names rs = (i j : ℕ) (a b : Routine) → i < j → slice_get rs i ≡ Some a → slice_get rs j ≡ Some b → bytes_eq a.name.word b.name.word ≡ true → IsOneType names a b

agrees-all : (names : List (List ℕ)) (r : Routine) (earlier : List Routine) (u : Unit {0}) → agrees names r earlier ≡ Ok u → list_any (is_other_type names r) earlier ≡ false
agrees-all names r earlier u e = by (is_some r.body && is_defined earlier r.name.word) refl
  where
    by : (b : Bool) → (is_some r.body && is_defined earlier r.name.word) ≡ b → list_any (is_other_type names r) earlier ≡ false
    by true h = absurd (not-ok _ u (sym (ap (λ t. if t then fault (Twice r.name.at) else holds (not (list_any (is_other_type names r) earlier)) (BadType r.name.at)) h) ∙ e))
    by false h = is-false _ (holds-true _ _ u (sym (ap (λ t. if t then fault (Twice r.name.at) else holds (not (list_any (is_other_type names r) earlier)) (BadType r.name.at)) h) ∙ e))

agreed-push : (names : List (List ℕ)) (rs : List Routine) (r : Routine) (u : Unit {0}) → agrees names r rs ≡ Ok u → Agreed names rs → Agreed names (rs ++ r ∷ [])
agreed-push names rs r u e before i j a b lt first second same =
    elim (slice_get-push rs r j b second) [
      | inl inner ↦ elim (slice_get-push rs r i a first) [
        | inl near ↦ before i j a b lt near inner same
        | inr far ↦ absurd (omega (arith, far.0, lt, slice_get_within rs j b inner))
      ]
      | inr last ↦ elim (slice_get-push rs r i a first) [
        | inl near ↦
            let other = not-any (is_other_type names r) rs (agrees-all names r rs u e) i a near in
            let named : bytes_eq a.name.word r.name.word ≡ true = ap (λ (q : Routine). bytes_eq a.name.word q.name.word) last.1 ∙ same in
            let like : same_function names a r ≡ true = is-true (same_function names a r) (sym (ap (λ t. t && not (same_function names a r)) named) ∙ other) in
            subst (IsOneType names a) last.1 (one-type names a r like)
        | inr far ↦ absurd (omega (arith, far.0, lt, last.0))
      ]
    ]

parts-agree : (f : Frame) (s : Sofar) (r : Routine) (x : FunctionParts) → function_parts f s r ≡ Ok x → agrees f.names r s.routines ≡ Ok x.1.1.1.0
parts-agree f s r x parts =
    let (p0, p1) = both-parts (result_fault (outside f s) r) _ x parts in
    let (p2, p3) = both-parts (outer_name r.name) _ x.1 p1 in
    let (p4, p5) = both-parts (holds (not (has_global s r.name.word)) (Twice r.name.at)) _ x.1.1 p3 in
    (both-parts (agrees f.names r s.routines) (parameters (body_in (outside f s) r (is_noted r.body)) no_state r.parameters) x.1.1.1 p5).0

pub parts-parameters : (f : Frame) (s : Sofar) (r : Routine) (x : FunctionParts) → function_parts f s r ≡ Ok x → parameters (body_in (outside f s) r (is_noted r.body)) no_state r.parameters ≡ Ok x.1.1.1.1
parts-parameters f s r x parts =
    let (p0, p1) = both-parts (result_fault (outside f s) r) _ x parts in
    let (p2, p3) = both-parts (outer_name r.name) _ x.1 p1 in
    let (p4, p5) = both-parts (holds (not (has_global s r.name.word)) (Twice r.name.at)) _ x.1.1 p3 in
    (both-parts (agrees f.names r s.routines) (parameters (body_in (outside f s) r (is_noted r.body)) no_state r.parameters) x.1.1.1 p5).1

parts-result : (f : Frame) (s : Sofar) (r : Routine) (x : FunctionParts) → function_parts f s r ≡ Ok x → result_fault (outside f s) r ≡ Ok x.0
parts-result f s r x parts = (both-parts (result_fault (outside f s) r) _ x parts).0

agreed-run : (f : Frame) (xs : List Item) (s z : Sofar) → Steps f s xs z → Agreed f.names s.routines → Agreed f.names z.routines
agreed-run f [] s z e before = subst (λ (t : Sofar). Agreed f.names t.routines) e before
agreed-run f (AStruct n fs ∷ xs) s z (t, first, rest) before =
    let (w, new, made, is) = struct-made f s t n fs first in
    agreed-run f xs t z rest (subst (λ (u : Sofar). Agreed f.names u.routines) is before)
agreed-run f (AGlobal g ∷ xs) s z (t, first, rest) before = agreed-run f xs t z rest (subst (λ (u : Sofar). Agreed f.names u.routines) first.3 before)
agreed-run f (ARoutine r ∷ xs) s z (t, first, rest) before =
    let (x, parts, fs, made, is) = function-made f s t r first in
    agreed-run f xs t z rest (subst (λ (u : Sofar). Agreed f.names u.routines) is (agreed-push f.names s.routines r x.1.1.1.0 (parts-agree f s r x parts) before))

-- ---- the function of a name

first-in : {A : Type 0} (test : A → Bool) (xs : List A) (x : A) → first_by test xs ≡ Some x → (i : ℕ) × (slice_get xs i ≡ Some x) × (test x ≡ true)
first-in test [] x e = absurd (none-some x e)
first-in test (y ∷ xs) x e = by (test y) refl (first-in test xs x)
  where
    by : (b : Bool) → test y ≡ b → (first_by test xs ≡ Some x → (i : ℕ) × (slice_get xs i ≡ Some x) × (test x ≡ true)) → (i : ℕ) × (slice_get (y ∷ xs) i ≡ Some x) × (test x ≡ true)
    by true h later = let is = same_Some y x (rw h at e) in (0, ap Some is, ap test (sym is) ∙ h)
    by false h later = let (i, at, passes) = later (rw h at e) in (suc i, at, passes)

pub defined-in : (rs : List Routine) (k : ℕ) (r : Routine) → slice_get (defined_in rs) k ≡ Some r → (i : ℕ) × (slice_get rs i ≡ Some r)
defined-in [] k r e = absurd (none-some r e)
defined-in (q ∷ rs) k r e = by (is_some q.body) refl k e (defined-in rs)
  where
    by : (b : Bool) → is_some q.body ≡ b → (k : ℕ) → slice_get (defined_in (q ∷ rs)) k ≡ Some r → ((k : ℕ) (r : Routine) → slice_get (defined_in rs) k ≡ Some r → (i : ℕ) × (slice_get rs i ≡ Some r))
        → (i : ℕ) × (slice_get (q ∷ rs) i ≡ Some r)
    by true h zero e later = (0, rw h at e)
    by true h (suc k) e later = let (i, at) = later k r (rw h at e) in (suc i, at)
    by false h k e later = let (i, at) = later k r (rw h at e) in (suc i, at)

abbrev is_global : Outer → Bool
is_global (Global g t a) = true
is_global (Function d) = false

global-alone : (names : List (List ℕ)) (n : ℕ) (gs : List OuterGlobal) (name : List ℕ) (o : Outer) → global_from names n gs name ≡ Some o → is_global o ≡ true
global-alone names n [] name o e = absurd (none-some o e)
global-alone names n (g ∷ gs) name o e = by (bytes_eq (global_name g) name) refl (global-alone names (suc n) gs name o)
  where
    by : (b : Bool) → bytes_eq (global_name g) name ≡ b → (global_from names (suc n) gs name ≡ Some o → is_global o ≡ true) → is_global o ≡ true
    by true h later = ap is_global (sym (same_Some (Global n (global_type names g) (is_array g)) o (rw h at e)))
    by false h later = later (rw h at e)

function-alone : (names : List (List ℕ)) (xs : List External) (name : List ℕ) (o : Option Outer) (d : Declared) → global_from names 0 (globals_of xs) name ≡ o → outer_named names xs name ≡ Some (Function d)
    → function_named names xs name ≡ Some d
function-alone names xs name (Some o) d is e =
    let same : o ≡ Function d = same_Some o (Function d) (sym (chosen is) ∙ e) in
    absurd (true≢false (sym (global-alone names 0 (globals_of xs) name o is) ∙ ap is_global same))
  where
    chosen : global_from names 0 (globals_of xs) name ≡ Some o → outer_named names xs name ≡ Some o
    chosen h = rw (outer_named, h) refl
function-alone names xs name None d is e =
    let (c, at, same) = option_map_some Function (function_named names xs name) (Function d) (sym (chosen is) ∙ e) in
    at ∙ ap (λ o. declared_in o) same
  where
    chosen : global_from names 0 (globals_of xs) name ≡ None → outer_named names xs name ≡ option_map Function (function_named names xs name)
    chosen h = rw (outer_named, h) refl

    declared_in : Outer → Option Declared
    declared_in (Function c) = Some c
    declared_in (Global g t a) = None

-- ---- heads

heads : (f : Frame) (ps : List Parameter) (rest : List _)
    → map (λ (l : FieldDecl). l.ty) (take (length ps) (map (λ l. record { name = l.name; ty = place_in f.types l.ty; view = view_of f.outer l.base l.pointer }) (map (parameter_local f.names) ps ++ rest)))
    ≡ map (place_in f.types) (map (λ p. declared_type f.names p.base p.pointer) ps)
heads f [] rest = refl
heads f (p ∷ ps) rest = ap (λ l. place_in f.types (declared_type f.names p.base p.pointer) ∷ l) (heads f ps rest)

-- what a function of these types takes and gives
abbrev pub head_by : Frame → List CType → Option CType → Head
head_by f ps r = record { parameters = map (place_in f.types) ps; result = option_map (place_in f.types) r }

head-same : (f : Frame) (a b : Routine) → parameter_types f.names b ≡ parameter_types f.names a → result_type f.names b ≡ result_type f.names a
    → head_by f (parameter_types f.names a) (result_type f.names a) ≡ head_by f (parameter_types f.names b) (result_type f.names b)
head-same f a b params results = let p = sym params in let r = sym results in λ i. head_by f (p i) (r i)

-- the types of parameters, and of a result
parameters-hold : (f : Frame) (s : Sofar) (r : Routine) (ps : List Parameter) → LocalsHave f.names f.types (map (parameter_local f.names) ps) → AllByRecursion (IsHeld (body_in (outside f s) r (is_noted r.body))) ps
    → AllByRecursion (Holds f.types) (map (λ p. declared_type f.names p.base p.pointer) ps)
parameters-hold f s r [] has held = tt
parameters-hold f s r (p ∷ ps) has held = ((has.0, held.0.0), parameters-hold f s r ps has.1 held.1)

result-holds : (f : Frame) (s : Sofar) (r : Routine) (o : Option Base) (u : Unit {0}) → r.result ≡ o → result_fault (outside f s) r ≡ Ok u → AllByRecursion (HasUse f.names f.types) (result_uses o (result_stars r.stars))
    → ResultHolds f.types (option_map (λ b. ctype f.names b (result_stars r.stars)) o)
result-holds f s r None u is e has = tt
result-holds f s r (Some b) u is e has =
    let inside : and_then (base_for (outside f s) b (result_stars r.stars ∷ [])) (λ x. holds (is_scalar (ctype f.names b (result_stars r.stars))) (BadType (stars_place r.stars r.name))) ≡ Ok u =
    sym (ap (λ (o : Option Base). elim o as (λ _. Checked (Unit {0})) [
      | None ↦ holds (not (is_some r.stars)) (BadType (stars_place r.stars r.name))
      | (Some b) ↦ and_then (base_for (outside f s) b (result_stars r.stars ∷ [])) (λ x. holds (is_scalar (ctype f.names b (result_stars r.stars))) (BadType (stars_place r.stars r.name)))
    ]) is) ∙ e in
    let (x, based, scalar) = then-parts (base_for (outside f s) b (result_stars r.stars ∷ [])) _ u inside in
    (has.0, holds-true _ _ u scalar)

routines-have : (f : Frame) (xs : List Item) → AllByRecursion (ItemHas f) xs → AllByRecursion (λ r. AllByRecursion (HasUse f.names f.types) (head_uses r ++ body_uses r)) (routines_among xs)
routines-have f [] h = tt
routines-have f (AStruct n fs ∷ xs) h = routines-have f xs h.1
routines-have f (AGlobal g ∷ xs) h = routines-have f xs h.1
routines-have f (ARoutine r ∷ xs) h = (h.0, routines-have f xs h.1)

module _ (f : Frame) (z : Sofar) (end : Ended f z) where
  pub routines-typed : AllByRecursion (λ r. AllByRecursion (HasUse f.names f.types) (head_uses r ++ body_uses r)) (functions_of f.externals)
  routines-typed =
      subst (AllByRecursion (λ r. AllByRecursion (HasUse f.names f.types) (head_uses r ++ body_uses r))) (routines-all f.externals) (routines-have f (items_of f.externals) end.has)

  -- what is known of a declaration's types
  pub routine-holds : (i : ℕ) (r : Routine) → slice_get (functions_of f.externals) i ≡ Some r → AllByRecursion (Holds f.types) (parameter_types f.names r) × ResultHolds f.types (result_type f.names r)
  routine-holds i r at =
      let has = all-at (λ q. AllByRecursion (HasUse f.names f.types) (head_uses q ++ body_uses q)) (functions_of f.externals) routines-typed i r at in
      let (s, later, x, parts) = all-at (RoutineMade f z) (functions_of f.externals) end.declared i r at in
      let (results, params, bodies) = routine-parts f.names f.types r has in (
        parameters-hold f s r r.parameters (parameters-have f.names f.types r.parameters params) (parameters-held (body_in (outside f s) r (is_noted r.body)) r.parameters no_state x.1.1.1.1 (parts-parameters f s r x parts)),
        result-holds f s r r.result x.0 refl (parts-result f s r x parts) results,
      )

  agreed : Agreed f.names (functions_of f.externals)
  agreed = subst (Agreed f.names) end.routines (agreed-run f (items_of f.externals) nothing_yet z end.steps (λ i j a b lt first second same. absurd (none-some a first)))

  one-name : (i j : ℕ) (a b : Routine) → slice_get (functions_of f.externals) i ≡ Some a → slice_get (functions_of f.externals) j ≡ Some b → a.name.word ≡ b.name.word → IsOneType f.names a b
  one-name i j a b first second same = elim (cases_order i j) [
    | inl eq ↦ let is : a ≡ b = same_Some a b (sym first ∙ ap (slice_get (functions_of f.externals)) eq ∙ second) in (ap (result_type f.names) is, ap (parameter_types f.names) is)
    | inr rest ↦ elim rest [
      | inl lt ↦ agreed i j a b lt first second ((bytes_eq-Decides a.name.word b.name.word).1 same)
      | inr gt ↦ let back = agreed j i b a gt second first ((bytes_eq-Decides b.name.word a.name.word).1 (sym same)) in (sym back.0, sym back.1)
    ]
  ]

  made-head : (r : Routine) (d : Fun) → FunctionMade f z r d → head_of d ≡ head_by f (parameter_types f.names r) (result_type f.names r)
  made-head r d made =
      let body = function-body f z r d made in
      ap head_of (sym body.made) ∙ ap (λ l. record { parameters = l; result = option_map (place_in f.types) (result_type f.names r) }) (heads f r.parameters _)

  -- a function that is defined is one of the version, of the types of its first declaration
  pub named-function : (name : List ℕ) (d : Declared) (k : ℕ) → f.outer name ≡ Some (Function d) → d.number ≡ Some k
      → (slice_get (map head_of z.functions) k ≡ Some (head_by f d.parameters d.result))
      × AllByRecursion (Holds f.types) d.parameters × ResultHolds f.types d.result
  named-function name d k e number =
      let there : outer_named f.names f.externals name ≡ Some (Function d) = ap (λ (h : List ℕ → Option Outer). h name) (sym end.outer) ∙ e in
      let named = function-alone f.names f.externals name (global_from f.names 0 (globals_of f.externals) name) d refl there in
      let (r0, first, is) = option_map_some _ (first_by (λ (q : Routine). bytes_eq q.name.word name) (functions_of f.externals)) d named in
      let (i, at, passes) = first-in (λ (q : Routine). bytes_eq q.name.word name) (functions_of f.externals) r0 first in
      let (j, r1, place, def, same) = found-at (λ (q : Routine). bytes_eq q.name.word name) 0 (defined_of f.externals) k (ap (λ (c : Declared). c.number) is ∙ number) in
      let (i1, at1) = defined-in (functions_of f.externals) j r1 def in
      let word : r0.name.word ≡ r1.name.word = (bytes_eq-Decides r0.name.word name).0 passes ∙ sym ((bytes_eq-Decides r1.name.word name).0 same) in
      let (results, params) = one-name i i1 r0 r1 at at1 word in
      let (hold, result) = routine-holds i r0 at in
      let index : k ≡ j = omega (arith, place) in
      let (fn, found, made) = each-at (FunctionMade f z) (defined_of f.externals) z.functions end.functions j r1 def in
      let declared : head_by f (parameter_types f.names r1) (result_type f.names r1) ≡ head_by f d.parameters d.result = head-same f r1 r0 params results ∙ ap (λ (c : Declared). head_by f c.parameters c.result) is in (
        ap (slice_get (map head_of z.functions)) index ∙ slice_get-map head_of z.functions j ∙ ap (option_map head_of) found ∙ ap Some (made-head r1 fn made ∙ declared),
        subst (λ (c : Declared). AllByRecursion (Holds f.types) c.parameters) is hold,
        subst (λ (c : Declared). ResultHolds f.types c.result) is result,
      )
