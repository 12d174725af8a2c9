-- The names of a file's globals and functions: identifiers, of which none stands twice.
use Rattle.std.proofs.Common.{◌≡◌, ◌≢◌, ℕ, ◌+◌, ◌-◌, ◌≤◌, ◌&&◌, not, Bool, true, false, List, [], ◌∷◌, ◌++◌, length, map, slice_get, Option, Some, None, Ok, Err, refl, sym, ap, ◌∙◌, subst, arith, true≢false, append-nil, inl, inr}
use Rattle.std.specs.Option.{is_some, option_map}
use Rattle.std.specs.List.{AllByRecursion, list_all}
use Rattle.std.specs.Str.{bytes_eq}
use Rattle.std.proofs.lemmas.Bool.{and_parts, and_from, or_parts, cases_lt}
use Rattle.std.proofs.lemmas.List.{map_push}
use Rattle.std.proofs.lemmas.Option.{none-some, same_Some, slice_get-map}
use Rattle.std.proofs.lemmas.Slice.Eq.{bytes_eq-Decides}
use Rattle.kt_types.proofs.Cells.{slice_get-append_left, slice_get-append_right}
use Rattle.kt_types.proofs.Keeps.{slice_get-push, slice_get-at_push, slice_get-before_push}
use Rattle.kt_tree.specs.declared.global.GlobalDecl.{GlobalDecl}
use Rattle.kt_tree.specs.Tree.{Function, Statements, Compound}
use Rattle.kt_tree.specs.Names.{is_identifier}
use Rattle.kt_tree.specs.Version.{AreDistinct, AreIdentifiers, outer_names}
use Rattle.kt_syntax.specs.Tree.{Definition as Body, Routine}
use Rattle.kt_names.specs.declared.fault.CheckFault.TheVariants.{Twice}
use Rattle.kt_names.specs.Checked.{Checked, holds, fault}
use Rattle.kt_names.specs.Tables.{OuterGlobal, global_name, globals_of, functions_of, defined_in, defined_of}
use Rattle.kt_names.specs.Statements.{State, entries}
use Rattle.kt_names.specs.Functions.{agrees, is_defined, result_fault, parameters, no_state, body_in, is_noted, defined_function, typed_function}
use Rattle.kt_check.specs.Files.{Frame, Sofar, outside, outer_name, has_global, has_routine, with_global, nothing_yet, program_of}
use Rattle.kt_check.proofs.AllNamed.{IsNamed, IsNamedDeclarator, IsNamedRoutine}
use Rattle.kt_check.proofs.FieldCells.{not-ok, same-ok, both-parts, holds-true}
use Rattle.kt_check.proofs.NameTables.{distinct-push, none-distinct}
use Rattle.kt_check.proofs.Steps.{Item, AStruct, AGlobal, ARoutine, Steps, items_of}
use Rattle.kt_check.proofs.Made.{Each, GlobalMade, FunctionMade, FunctionParts, function_parts, with_function, body-function, struct-made, function-made}
use Rattle.kt_check.proofs.Ended.{Ended, GlobalParts, global-parts}
use Rattle.kt_check.proofs.GlobalsFit.{all-of-globals, all-of-functions}
use Rattle.kt_check.proofs.ListFacts.{not-any, is-false}

-- ---- what is defined

-- a definition that gives a function has a body, and the function is that body, typed
pub record IsBody (f : Frame) (s : Sofar) (r : Routine) (st : State) (d : Function) : Type 0 where
  pub body : Body
  pub is : r.body ≡ Some body
  pub typed : Statements × ℕ
  pub entered : entries (body_in (outside f s) r body.noted) false st body.entries ≡ Ok typed
  pub made : typed_function (outside f s) r body.noted (Compound typed.0) ≡ d

pub body-of : (f : Frame) (s : Sofar) (r : Routine) (st : State) (o : Option Body) (d : Function) → r.body ≡ o → defined_function (outside f s) r st o ≡ Ok (d ∷ []) → IsBody f s r st d
body-of f s r st None d is e = absurd (none-some d (ap (λ c. first_in c) e))
  where
    first_in : Checked (List Function) → Option Function
    first_in (Ok []) = None
    first_in (Ok (x ∷ xs)) = Some x
    first_in (Err g) = None
body-of f s r st (Some b) d is e =
    let (x, typed, made) = body-function f s r st b (d ∷ []) e in
    record { body = b; is = is; typed = x; entered = typed; made = same_Some _ d (ap (λ l. slice_get l 0) made) }

pub function-body : (f : Frame) (z : Sofar) (r : Routine) (d : Function) (m : FunctionMade f z r d) → IsBody f m.0 r m.2.1.1.1.1 d
function-body f z r d (s, later, x, parts, e) = body-of f s r x.1.1.1.1 r.body d refl e

-- ---- identifiers

all-joined : {A : Type 0} (test : A → Bool) (xs ys : List A) → list_all test xs ≡ true → list_all test ys ≡ true → list_all test (xs ++ ys) ≡ true
all-joined test [] ys h k = k
all-joined test (x ∷ xs) ys h k = let parts = and_parts (test x) (list_all test xs) h in and_from (test x) _ parts.0 (all-joined test xs ys parts.1 k)

pub all-defined : (P : Routine → Type 0) (rs : List Routine) → AllByRecursion P rs → AllByRecursion P (defined_in rs)
all-defined P [] h = tt
all-defined P (r ∷ rs) h = by (is_some r.body) refl (all-defined P rs h.1)
  where
    by : (b : Bool) → is_some r.body ≡ b → AllByRecursion P (defined_in rs) → AllByRecursion P (defined_in (r ∷ rs))
    by true e rest = rw e (h.0, rest)
    by false e rest = rw e rest

module _ (f : Frame) (z : Sofar) (end : Ended f z) where
  globals-identified : (gs : List OuterGlobal) (ds : List GlobalDecl) → Each (GlobalMade f z) gs ds → AllByRecursion (λ g. IsNamedDeclarator g.declarator.declarator) gs
      → list_all is_identifier (map (λ (d : GlobalDecl). d.name) ds) ≡ true
  globals-identified [] [] each named = refl
  globals-identified [] (d ∷ ds) each named = absurd each
  globals-identified (g ∷ gs) [] each named = absurd each
  globals-identified (g ∷ gs) (d ∷ ds) each named =
      let parts = global-parts f each.0.0 g d each.0.3 in
      and_from (is_identifier d.name) _ (ap (λ (c : GlobalDecl). is_identifier c.name) parts.made ∙ named.0) (globals-identified gs ds each.1 named.1)

  functions-identified : (rs : List Routine) (ds : List Function) → Each (FunctionMade f z) rs ds → AllByRecursion (IsNamedRoutine f.names) rs
      → list_all is_identifier (map (λ (d : Function). d.name) ds) ≡ true
  functions-identified [] [] each named = refl
  functions-identified [] (d ∷ ds) each named = absurd each
  functions-identified (r ∷ rs) [] each named = absurd each
  functions-identified (r ∷ rs) (d ∷ ds) each named =
      let body = function-body f z r d each.0 in
      and_from (is_identifier d.name) _ (ap (λ (c : Function). is_identifier c.name) (sym body.made) ∙ named.0.0) (functions-identified rs ds each.1 named.1)

  pub outer-identified : AllByRecursion (IsNamed f.names) f.externals → AreIdentifiers (outer_names (program_of f z))
  outer-identified named =
      all-joined is_identifier (map (λ (d : GlobalDecl). d.name) z.globals) (map (λ (d : Function). d.name) z.functions)
      (globals-identified (globals_of f.externals) z.globals end.globals
      (all-of-globals (IsNamed f.names) (λ g. IsNamedDeclarator g.declarator.declarator) (λ b gs h. h) f.externals named))
      (functions-identified (defined_of f.externals) z.functions end.functions
      (all-defined (IsNamedRoutine f.names) (functions_of f.externals) (all-of-functions (IsNamed f.names) (IsNamedRoutine f.names) (λ r h. h) f.externals named)))

-- ---- none stands twice

other-name : (a b : List ℕ) → bytes_eq a b ≡ false → a ≢ b
other-name a b e same = true≢false (sym ((bytes_eq-Decides a b).1 same) ∙ e)

abbrev global_names : Sofar → List (List ℕ)
global_names s = map (λ (d : GlobalDecl). d.name) s.globals

abbrev function_names : Sofar → List (List ℕ)
function_names s = map (λ (d : Function). d.name) s.functions

record Apart (s : Sofar) : Type 0 where
  globals : AreDistinct (global_names s)
  functions : AreDistinct (function_names s)
  apart : (i j : ℕ) (a b : List ℕ) → slice_get (global_names s) i ≡ Some a → slice_get (function_names s) j ≡ Some b → a ≢ b
  routed : (j : ℕ) (b : List ℕ) → slice_get (function_names s) j ≡ Some b → (k : ℕ) × (r : Routine) × (slice_get s.routines k ≡ Some r) × (is_some r.body ≡ true) × (r.name.word ≡ b)

-- a new global
apart-global : (f : Frame) (s : Sofar) (g : OuterGlobal) (d : GlobalDecl) → Apart s → GlobalParts f s g d → Apart (with_global f s g.base g.declarator d)
apart-global f s g d before parts =
    let name : d.name ≡ global_name g = ap (λ (c : GlobalDecl). c.name) parts.made in
    let fresh = or_parts (has_global s (global_name g)) (has_routine s (global_name g)) parts.fresh in
    let pushed : map (λ (c : GlobalDecl). c.name) (s.globals ++ d ∷ []) ≡ global_names s ++ d.name ∷ [] = map_push (λ (c : GlobalDecl). c.name) s.globals d in
    record {
      globals = subst AreDistinct (sym pushed) (distinct-push (global_names s) d.name before.globals
          (λ i a at. λ same. other-name a (global_name g) (not-any (λ m. bytes_eq m (global_name g)) (global_names s) fresh.0 i a at) (same ∙ name)));
      functions = before.functions;
      apart = λ i j a b first second. elim (slice_get-push (global_names s) d.name i a (ap (λ l. slice_get l i) (sym pushed) ∙ first)) [
        | inl here ↦ before.apart i j a b here second
        | inr last ↦ λ same.
            let (k, r, at, body, named) = before.routed j b second in
            let word : slice_get (map (λ (q : Routine). q.name.word) s.routines) k ≡ Some r.name.word = slice_get-map (λ (q : Routine). q.name.word) s.routines k ∙ ap (option_map (λ (q : Routine). q.name.word)) at in
            other-name r.name.word (global_name g) (not-any (λ m. bytes_eq m (global_name g)) (map (λ (q : Routine). q.name.word) s.routines) fresh.1 k r.name.word word)
            (named ∙ sym same ∙ sym last.1 ∙ name)
      ];
      routed = before.routed;
    }

-- a declaration of a function
apart-declared : (s : Sofar) (r : Routine) → Apart s → Apart (with_function s r [])
apart-declared s r before =
    let same : map (λ (c : Function). c.name) (s.functions ++ []) ≡ function_names s = ap (map (λ (c : Function). c.name)) (append-nil s.functions) in
    record {
      globals = before.globals;
      functions = subst AreDistinct (sym same) before.functions;
      apart = λ i j a b first second. before.apart i j a b first (ap (λ l. slice_get l j) (sym same) ∙ second);
      routed = λ j b at.
          let (k, q, there, body, named) = before.routed j b (ap (λ l. slice_get l j) (sym same) ∙ at) in
          (k, q, slice_get-before_push s.routines r k q there, body, named);
    }

-- and a definition
apart-defined : (s : Sofar) (r : Routine) (d : Function) → d.name ≡ r.name.word → is_some r.body ≡ true → has_global s r.name.word ≡ false → is_defined s.routines r.name.word ≡ false
    → Apart s → Apart (with_function s r (d ∷ []))
apart-defined s r d name body no_global no_function before =
    let pushed : map (λ (c : Function). c.name) (s.functions ++ d ∷ []) ≡ function_names s ++ d.name ∷ [] = map_push (λ (c : Function). c.name) s.functions d in
    record {
      globals = before.globals;
      functions = subst AreDistinct (sym pushed) (distinct-push (function_names s) d.name before.functions (λ j b at. λ same.
          let (k, q, there, has, named) = before.routed j b at in
          true≢false (sym (and_from (is_some q.body) (bytes_eq q.name.word r.name.word) has ((bytes_eq-Decides q.name.word r.name.word).1 (named ∙ same ∙ name)))
          ∙ not-any (λ c. is_some c.body && bytes_eq c.name.word r.name.word) s.routines no_function k q there)));
      apart = λ i j a b first second. elim (slice_get-push (function_names s) d.name j b (ap (λ l. slice_get l j) (sym pushed) ∙ second)) [
        | inl here ↦ before.apart i j a b first here
        | inr last ↦ λ same. other-name a r.name.word (not-any (λ m. bytes_eq m r.name.word) (global_names s) no_global i a first) (same ∙ sym last.1 ∙ name)
      ];
      routed = λ j b at. elim (slice_get-push (function_names s) d.name j b (ap (λ l. slice_get l j) (sym pushed) ∙ at)) [
        | inl here ↦
            let (k, q, there, has, named) = before.routed j b here in
            (k, q, slice_get-before_push s.routines r k q there, has, named)
        | inr last ↦ (length s.routines, r, slice_get-at_push s.routines r, body, sym name ∙ last.1)
      ];
    }

agrees-fresh : (names : List (List ℕ)) (r : Routine) (earlier : List Routine) (u : Unit {0}) → is_some r.body ≡ true → agrees names r earlier ≡ Ok u → is_defined earlier r.name.word ≡ false
agrees-fresh names r earlier u body e = by (is_defined earlier r.name.word) refl
  where
    by : (b : Bool) → is_defined earlier r.name.word ≡ b → is_defined earlier r.name.word ≡ false
    by true h = absurd (not-ok _ u (sym (chosen (body, h)) ∙ e))
      where
        chosen : (is_some r.body ≡ true) × (is_defined earlier r.name.word ≡ true) → agrees names r earlier ≡ fault (Twice r.name.at)
        chosen (p, q) = rw (p, q) refl
    by false h = h

apart-function : (f : Frame) (s : Sofar) (r : Routine) (x : FunctionParts) (fs : List Function) → function_parts f s r ≡ Ok x → defined_function (outside f s) r x.1.1.1.1 r.body ≡ Ok fs
    → Apart s → Apart (with_function s r fs)
apart-function f s r x fs parts made before = by r.body refl
  where
    by : (o : Option Body) → r.body ≡ o → Apart (with_function s r fs)
    by None is = subst (λ l. Apart (with_function s r l)) (none (sym (ap (defined_function (outside f s) r x.1.1.1.1) is) ∙ made)) (apart-declared s r before)
      where
        none : defined_function (outside f s) r x.1.1.1.1 None ≡ Ok fs → [] ≡ fs
        none e = same-ok [] fs e
    by (Some b) is =
        let (y, typed, one) = body-function f s r x.1.1.1.1 b fs (sym (ap (defined_function (outside f s) r x.1.1.1.1) is) ∙ made) in
        let (p0, p1) = both-parts (result_fault (outside f s) r) _ x parts in
        let (p2, p3) = both-parts (outer_name r.name) _ x.1 p1 in
        let (new, p4) = both-parts (holds (not (has_global s r.name.word)) (Twice r.name.at)) _ x.1.1 p3 in
        let (agree, p5) = both-parts (agrees f.names r s.routines) (parameters (body_in (outside f s) r (is_noted r.body)) no_state r.parameters) x.1.1.1 p4 in
        subst (λ l. Apart (with_function s r l)) one
        (apart-defined s r (typed_function (outside f s) r b.noted (Compound y.0)) refl (ap is_some is) (is-false _ (holds-true _ _ x.1.1.0 new))
        (agrees-fresh f.names r s.routines x.1.1.1.0 (ap is_some is) agree) before)

apart-run : (f : Frame) (xs : List Item) (s z : Sofar) → Steps f s xs z → Apart s → Apart z
apart-run f [] s z e before = subst Apart e before
apart-run f (AStruct n fs ∷ xs) s z (t, first, rest) before =
    let (w, new, made, is) = struct-made f s t n fs first in
    apart-run f xs t z rest (subst Apart is (record { globals = before.globals; functions = before.functions; apart = before.apart; routed = before.routed }))
apart-run f (AGlobal g ∷ xs) s z (t, first, rest) before =
    apart-run f xs t z rest (subst Apart first.3 (apart-global f s g first.0 before (global-parts f s g first.0 first.2)))
apart-run f (ARoutine r ∷ xs) s z (t, first, rest) before =
    let (x, parts, fs, made, is) = function-made f s t r first in
    apart-run f xs t z rest (subst Apart is (apart-function f s r x fs parts made before))

joined-distinct : (xs ys : List (List ℕ)) → AreDistinct xs → AreDistinct ys → ((i j : ℕ) (a b : List ℕ) → slice_get xs i ≡ Some a → slice_get ys j ≡ Some b → a ≢ b) → AreDistinct (xs ++ ys)
joined-distinct xs ys dx dy apart i j a b lt first second = elim (cases_lt j (length xs)) [
  | inl inner ↦
      dx i j a b lt (sym (slice_get-append_left xs ys i (omega (arith, lt, inner))) ∙ first) (sym (slice_get-append_left xs ys j inner) ∙ second)
  | inr outer ↦
      let behind : slice_get ys (j - length xs) ≡ Some b = sym (right j outer) ∙ second in
      elim (cases_lt i (length xs)) [
        | inl near ↦ apart i (j - length xs) a b (sym (slice_get-append_left xs ys i near) ∙ first) behind
        | inr far ↦ dy (i - length xs) (j - length xs) a b (omega (arith, lt, far, outer)) (sym (right i far) ∙ first) behind
      ]
]
  where
    right : (k : ℕ) → length xs ≤ k → slice_get (xs ++ ys) k ≡ slice_get ys (k - length xs)
    right k le =
        let split : k ≡ length xs + (k - length xs) = omega arith in
        ap (slice_get (xs ++ ys)) split ∙ slice_get-append_right xs ys (k - length xs)

pub outer-distinct : (f : Frame) (z : Sofar) → Ended f z → AreDistinct (outer_names (program_of f z))
outer-distinct f z end =
    let apart = apart-run f (items_of f.externals) nothing_yet z end.steps (record {
      globals = none-distinct;
      functions = none-distinct;
      apart = λ i j a b first second. absurd (none-some a first);
      routed = λ j b at. absurd (none-some b at);
    }) in
    joined-distinct (global_names z) (function_names z) apart.globals apart.functions apart.apart
