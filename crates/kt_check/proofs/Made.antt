-- What a run through a file makes: each global, function and definition from its declaration, at a stage that is part of the end.
use Rattle.std.proofs.Common.{◌≡◌, ℕ, zero, suc, ◌<◌, not, Bool, true, false, List, [], ◌∷◌, ◌++◌, length, map, slice_get, Option, Some, None, Ok, refl, sym, ap, ◌∙◌, subst, arith, append_assoc, append-nil, true≢false}
use Rattle.std.specs.Option.{is_some}
use Rattle.std.specs.List.{AllByRecursion}
use Rattle.std.proofs.lemmas.Option.{none-some, same_Some}
use Rattle.kt_types.specs.Table.{Definition}
use Rattle.kt_tree.specs.declared.global.GlobalDecl.{GlobalDecl}
use Rattle.kt_tree.specs.Tree.{Function, Statements, Compound}
use Rattle.kt_grammar.specs.declared.tree.Name.{Name}
use Rattle.kt_syntax.specs.declared.tree.Fields.{Fields}
use Rattle.kt_syntax.specs.Tree.{Definition as Body, Routine}
use Rattle.kt_names.specs.Checked.{Checked, both, holds}
use Rattle.kt_names.specs.declared.fault.CheckFault.TheVariants.{Twice}
use Rattle.kt_names.specs.Environment.{Struct, struct_numbered, is_complete}
use Rattle.kt_names.specs.Types.{number_of_struct}
use Rattle.kt_names.specs.Tables.{OuterGlobal, defined_in, global_type}
use Rattle.kt_names.specs.Statements.{State, entries}
use Rattle.kt_names.specs.Functions.{result_fault, agrees, parameters, no_state, body_in, is_noted, defined_function, typed_function}
use Rattle.kt_check.specs.Files.{Frame, Sofar, Within, no_field, outside, outer_name, has_global, fields_in, fields_from, field_info, field_decl, global, with_global, function, with_struct, struct}
use Rattle.kt_check.proofs.AllNamed.{IsNamedDeclarator}
use Rattle.kt_check.proofs.StructCells.{AreSame}
use Rattle.kt_check.proofs.FieldCells.{then-parts, both-parts, holds-true, same-ok, IsTyped, OneHas, from-typed, fields-have, fields-cells, fields-like}
use Rattle.kt_check.proofs.Steps.{Item, AStruct, AGlobal, ARoutine, Step, Steps, ItemHas, ItemNamed, globals_among, routines_among}

-- what was declared at one stage is part of what is declared at the other
pub record Later (s z : Sofar) : Type 0 where
  pub structs : (more : List Struct) × (z.structs ≡ more ++ s.structs)
  pub globals : (more : List GlobalDecl) × (z.globals ≡ s.globals ++ more)
  pub routines : (more : List Routine) × (z.routines ≡ s.routines ++ more)
  pub functions : (more : List Function) × (z.functions ≡ s.functions ++ more)

front-on : {A : Type 0} (a b c r q : List A) → b ≡ a ++ r → c ≡ b ++ q → c ≡ a ++ (r ++ q)
front-on a b c r q e f = f ∙ ap (λ l. l ++ q) e ∙ append_assoc a r q

back-on : {A : Type 0} (a b c r q : List A) → b ≡ r ++ a → c ≡ q ++ b → c ≡ (q ++ r) ++ a
back-on a b c r q e f = f ∙ ap (λ l. q ++ l) e ∙ sym (append_assoc q r a)

pub later-self : (s : Sofar) → Later s s
later-self s = record { structs = ([], refl); globals = ([], sym (append-nil s.globals)); routines = ([], sym (append-nil s.routines)); functions = ([], sym (append-nil s.functions)) }

pub later-on : (s t z : Sofar) → Later s t → Later t z → Later s z
later-on s t z a b = record {
  structs = (b.structs.0 ++ a.structs.0, back-on s.structs t.structs z.structs a.structs.0 b.structs.0 a.structs.1 b.structs.1);
  globals = (a.globals.0 ++ b.globals.0, front-on s.globals t.globals z.globals a.globals.0 b.globals.0 a.globals.1 b.globals.1);
  routines = (a.routines.0 ++ b.routines.0, front-on s.routines t.routines z.routines a.routines.0 b.routines.0 a.routines.1 b.routines.1);
  functions = (a.functions.0 ++ b.functions.0, front-on s.functions t.functions z.functions a.functions.0 b.functions.0 a.functions.1 b.functions.1);
}

later-is : (s t z : Sofar) → Later s t → t ≡ z → Later s z
later-is s t z h e = subst (Later s) e h

-- ---- one step

-- the parts of a function's declaration that are judged
abbrev pub FunctionParts : Type 0
FunctionParts = Unit {0} × (Unit {0} × (Unit {0} × (Unit {0} × State)))

abbrev pub function_parts : Frame → Sofar → Routine → Checked FunctionParts
function_parts f s r =
    both (result_fault (outside f s) r)
    (both (outer_name r.name)
    (both (holds (not (has_global s r.name.word)) (Twice r.name.at))
    (both (agrees f.names r s.routines) (parameters (body_in (outside f s) r (is_noted r.body)) no_state r.parameters))))

abbrev pub with_function : Sofar → Routine → List Function → Sofar
with_function s r fs = record s { routines = s.routines ++ r ∷ []; functions = s.functions ++ fs }

module _ (f : Frame) where
  pub function-made : (s t : Sofar) (r : Routine) → function f s r ≡ Ok t
      → (x : FunctionParts) × (function_parts f s r ≡ Ok x) × (fs : List Function) × (defined_function (outside f s) r x.1.1.1.1 r.body ≡ Ok fs) × (with_function s r fs ≡ t)
  function-made s t r e =
      let (x, parts, rest) = then-parts (function_parts f s r) _ t e in
      let (fs, made, is) = then-parts (defined_function (outside f s) r x.1.1.1.1 r.body) _ t rest in
      (x, parts, fs, made, same-ok _ t is)

  pub struct-made : (s t : Sofar) (n : Name) (fs : List Fields) → struct f s n fs ≡ Ok t
      → (w : Within) × (struct_numbered s.structs (number_of_struct f.names n.word) ≡ None) × (fields_from f s (fields_in fs) no_field fs ≡ Ok w) × (with_struct f s n (fields_in fs) w.cells ≡ t)
  struct-made s t n fs e =
      let (x, parts, is) = then-parts _ _ t e in
      let (new, made) = both-parts _ (fields_from f s (fields_in fs) no_field fs) x parts in
      (x.1, absent (struct_numbered s.structs (number_of_struct f.names n.word)) (holds-true _ _ x.0 new), made, same-ok _ t is)
    where
      absent : (o : Option Struct) → not (is_some o) ≡ true → o ≡ None
      absent None h = refl
      absent (Some d) h = absurd (true≢false (sym h))

  step-later : (s : Sofar) (x : Item) (t : Sofar) → Step f s x t → Later s t
  step-later s (AStruct n fs) t e =
      let (w, new, made, is) = struct-made s t n fs e in
      later-is s (with_struct f s n (fields_in fs) w.cells) t (record {
        structs = (record { number = number_of_struct f.names n.word; fields = map (field_info f) (fields_in fs); cells = w.cells } ∷ [], refl);
        globals = ([], sym (append-nil s.globals));
        routines = ([], sym (append-nil s.routines));
        functions = ([], sym (append-nil s.functions));
      }) is
  step-later s (AGlobal g) t e =
      later-is s (with_global f s g.base g.declarator e.0) t (record {
        structs = ([], refl);
        globals = (e.0 ∷ [], refl);
        routines = ([], sym (append-nil s.routines));
        functions = ([], sym (append-nil s.functions));
      }) e.3
  step-later s (ARoutine r) t e =
      let (x, parts, fs, made, is) = function-made s t r e in
      later-is s (with_function s r fs) t (record {
        structs = ([], refl);
        globals = ([], sym (append-nil s.globals));
        routines = (r ∷ [], refl);
        functions = (fs, refl);
      }) is

  pub steps-later : (xs : List Item) (s z : Sofar) → Steps f s xs z → Later s z
  steps-later [] s z e = later-is s s z (later-self s) e
  steps-later (x ∷ xs) s z (t, first, rest) = later-on s t z (step-later s x t first) (steps-later xs t z rest)

  -- ---- globals, functions

  -- the global was typed as this at some stage
  abbrev pub GlobalMade : Sofar → OuterGlobal → GlobalDecl → Type 0
  GlobalMade z g d = (s : Sofar) × Later s z × (is_complete (outside f s) (global_type f.names g) ≡ true) × (global f s g.base g.declarator ≡ Ok d)

  abbrev pub RoutineMade : Sofar → Routine → Type 0
  RoutineMade z r = (s : Sofar) × Later s z × (x : FunctionParts) × (function_parts f s r ≡ Ok x)

  abbrev pub FunctionMade : Sofar → Routine → Function → Type 0
  FunctionMade z r d = (s : Sofar) × Later s z × (x : FunctionParts) × (function_parts f s r ≡ Ok x) × (defined_function (outside f s) r x.1.1.1.1 r.body ≡ Ok (d ∷ []))

-- each of the one list goes with the one at its place in the other
abbrev pub Each : {A B : Type 0} → (A → B → Type 0) → List A → List B → Type 0
Each P [] [] = Unit {0}
Each P (x ∷ xs) (y ∷ ys) = P x y × Each P xs ys
Each P (x ∷ xs) [] = ⊥
Each P [] (y ∷ ys) = ⊥

pub each-at : {A B : Type 0} (P : A → B → Type 0) (xs : List A) (ys : List B) → Each P xs ys → (i : ℕ) (x : A) → slice_get xs i ≡ Some x
    → (y : B) × (slice_get ys i ≡ Some y) × P x y
each-at P [] [] e i x at = absurd (none-some x at)
each-at P [] (y ∷ ys) e i x at = absurd e
each-at P (w ∷ xs) [] e i x at = absurd e
each-at P (w ∷ xs) (y ∷ ys) e zero x at = (y, refl, subst (λ v. P v y) (same_Some w x at) e.0)
each-at P (w ∷ xs) (y ∷ ys) e (suc i) x at = each-at P xs ys e.1 i x at

pub each-back : {A B : Type 0} (P : A → B → Type 0) (xs : List A) (ys : List B) → Each P xs ys → (i : ℕ) (y : B) → slice_get ys i ≡ Some y
    → (x : A) × (slice_get xs i ≡ Some x) × P x y
each-back P [] [] e i y at = absurd (none-some y at)
each-back P [] (v ∷ ys) e i y at = absurd e
each-back P (x ∷ xs) [] e i y at = absurd e
each-back P (x ∷ xs) (v ∷ ys) e zero y at = (x, refl, subst (P x) (same_Some v y at) e.0)
each-back P (x ∷ xs) (v ∷ ys) e (suc i) y at = each-back P xs ys e.1 i y at

module _ (f : Frame) where
  pub globals-made : (xs : List Item) (s z : Sofar) → Steps f s xs z → (gs : List GlobalDecl) × (z.globals ≡ s.globals ++ gs) × Each (GlobalMade f z) (globals_among xs) gs
  globals-made [] s z e = ([], ap (λ (t : Sofar). t.globals) (sym e) ∙ sym (append-nil s.globals), tt)
  globals-made (AStruct n fs ∷ xs) s z (t, first, rest) =
      let (w, new, made, is) = struct-made f s t n fs first in
      let (gs, all, each) = globals-made xs t z rest in
      (gs, all ∙ ap (λ (u : Sofar). u.globals ++ gs) (sym is), each)
  globals-made (AGlobal g ∷ xs) s z (t, first, rest) =
      let (gs, all, each) = globals-made xs t z rest in (
        first.0 ∷ gs,
        all ∙ ap (λ (u : Sofar). u.globals ++ gs) (sym first.3) ∙ append_assoc s.globals (first.0 ∷ []) gs,
        ((s, steps-later f (AGlobal g ∷ xs) s z (t, first, rest), first.1, first.2), each),
      )
  globals-made (ARoutine r ∷ xs) s z (t, first, rest) =
      let (x, parts, fs, made, is) = function-made f s t r first in
      let (gs, all, each) = globals-made xs t z rest in
      (gs, all ∙ ap (λ (u : Sofar). u.globals ++ gs) (sym is), each)

  pub routines-made : (xs : List Item) (s z : Sofar) → Steps f s xs z → (z.routines ≡ s.routines ++ routines_among xs) × AllByRecursion (RoutineMade f z) (routines_among xs)
  routines-made [] s z e = (ap (λ (t : Sofar). t.routines) (sym e) ∙ sym (append-nil s.routines), tt)
  routines-made (AStruct n fs ∷ xs) s z (t, first, rest) =
      let (w, new, made, is) = struct-made f s t n fs first in
      let (all, each) = routines-made xs t z rest in
      (all ∙ ap (λ (u : Sofar). u.routines ++ routines_among xs) (sym is), each)
  routines-made (AGlobal g ∷ xs) s z (t, first, rest) =
      let (all, each) = routines-made xs t z rest in
      (all ∙ ap (λ (u : Sofar). u.routines ++ routines_among xs) (sym first.3), each)
  routines-made (ARoutine r ∷ xs) s z (t, first, rest) =
      let (x, parts, fs, made, is) = function-made f s t r first in
      let (all, each) = routines-made xs t z rest in (
        all ∙ ap (λ (u : Sofar). u.routines ++ routines_among xs) (sym is) ∙ append_assoc s.routines (r ∷ []) (routines_among xs),
        ((s, steps-later f (ARoutine r ∷ xs) s z (t, first, rest), x, parts), each),
      )

  -- a body is typed to one function
  pub body-function : (s : Sofar) (r : Routine) (st : State) (b : Body) (fs : List Function) → defined_function (outside f s) r st (Some b) ≡ Ok fs
      → (x : Statements × ℕ) × (entries (body_in (outside f s) r b.noted) false st b.entries ≡ Ok x) × (typed_function (outside f s) r b.noted (Compound x.0) ∷ [] ≡ fs)
  body-function s r st b fs e =
      let (x, typed, is) = then-parts (entries (body_in (outside f s) r b.noted) false st b.entries) (λ x. Ok (typed_function (outside f s) r b.noted (Compound x.0) ∷ [])) fs e in
      (x, typed, same-ok _ fs is)

  -- a definition gives one function, a declaration none
  one-function : (s : Sofar) (r : Routine) (st : State) (b : Option Body) (fs : List Function) → defined_function (outside f s) r st b ≡ Ok fs
      → (is_some b ≡ true → (d : Function) × (fs ≡ d ∷ [])) × (is_some b ≡ false → fs ≡ [])
  one-function s r st None fs e = ((λ h. absurd (true≢false (sym h))), (λ h. sym (same-ok [] fs e)))
  one-function s r st (Some b) fs e =
      let (x, typed, is) = body-function s r st b fs e in
      ((λ h. (typed_function (outside f s) r b.noted (Compound x.0), sym is)), (λ h. absurd (true≢false h)))

  pub functions-made : (xs : List Item) (s z : Sofar) → Steps f s xs z → (fs : List Function) × (z.functions ≡ s.functions ++ fs) × Each (FunctionMade f z) (defined_in (routines_among xs)) fs
  functions-made [] s z e = ([], ap (λ (t : Sofar). t.functions) (sym e) ∙ sym (append-nil s.functions), tt)
  functions-made (AStruct n fs ∷ xs) s z (t, first, rest) =
      let (w, new, made, is) = struct-made f s t n fs first in
      let (gs, all, each) = functions-made xs t z rest in
      (gs, all ∙ ap (λ (u : Sofar). u.functions ++ gs) (sym is), each)
  functions-made (AGlobal g ∷ xs) s z (t, first, rest) =
      let (gs, all, each) = functions-made xs t z rest in
      (gs, all ∙ ap (λ (u : Sofar). u.functions ++ gs) (sym first.3), each)
  functions-made (ARoutine r ∷ xs) s z (t, first, rest) = by (is_some r.body) refl (functions-made xs t z rest)
    where
      by : (b : Bool) → is_some r.body ≡ b → (fs : List Function) × (z.functions ≡ t.functions ++ fs) × Each (FunctionMade f z) (defined_in (routines_among xs)) fs
          → (fs : List Function) × (z.functions ≡ s.functions ++ fs) × Each (FunctionMade f z) (defined_in (r ∷ routines_among xs)) fs
      by true h (gs, all, each) =
          let (x, parts, fs, made, is) = function-made f s t r first in
          let (d, one) = (one-function s r x.1.1.1.1 r.body fs made).0 h in (
            d ∷ gs,
            all ∙ ap (λ (u : Sofar). u.functions ++ gs) (sym is) ∙ ap (λ l. (s.functions ++ l) ++ gs) one ∙ append_assoc s.functions (d ∷ []) gs,
            rw h ((s, steps-later f (ARoutine r ∷ xs) s z (t, first, rest), x, parts, made ∙ ap Ok one), each),
          )
      by false h (gs, all, each) =
          let (x, parts, fs, made, is) = function-made f s t r first in
          let none = (one-function s r x.1.1.1.1 r.body fs made).1 h in
          (gs, all ∙ ap (λ (u : Sofar). u.functions ++ gs) (sym is) ∙ ap (λ l. (s.functions ++ l) ++ gs) none ∙ ap (λ l. l ++ gs) (append-nil s.functions), rw h each)

  -- ---- structs

  -- the structs of typing are those of the version, whatever was typed
  pub structs-same : (long : 1 < length f.types) (xs : List Item) (s z : Sofar) → AllByRecursion (ItemHas f) xs → Steps f s xs z → AreSame f.types s.structs s.defined → AreSame f.types z.structs z.defined
  structs-same long [] s z has e same = subst (λ (t : Sofar). AreSame f.types t.structs t.defined) e same
  structs-same long (AStruct n fs ∷ xs) s z has (t, first, rest) same =
      let (w, new, made, is) = struct-made f s t n fs first in
      let typed = from-typed f s (fields_in fs) fs no_field w made in
      let have = fields-have f fs has.0 in
      let (cs, joins, count) = fields-cells f s (fields_in fs) same long (fields_in fs) have typed.0 in
      let total : length cs ≡ w.cells = count ∙ sym (typed.1 ∙ (omega arith)) in
      structs-same long xs t z has.1 rest
      (subst (λ (u : Sofar). AreSame f.types u.structs u.defined) is ((refl, new, fields-like f s (fields_in fs) (fields_in fs) have typed.0, (cs, joins, total)), same))
  structs-same long (AGlobal g ∷ xs) s z has (t, first, rest) same =
      structs-same long xs t z has.1 rest (subst (λ (u : Sofar). AreSame f.types u.structs u.defined) first.3 same)
  structs-same long (ARoutine r ∷ xs) s z has (t, first, rest) same =
      let (x, parts, fs, made, is) = function-made f s t r first in
      structs-same long xs t z has.1 rest (subst (λ (u : Sofar). AreSame f.types u.structs u.defined) is same)

  -- the definition was typed at some stage
  abbrev pub DefinitionMade : Sofar → Definition → Type 0
  DefinitionMade z d =
      (s : Sofar) × Later s z × (fs : List Fields) × (map (field_decl f (fields_in fs)) (fields_in fs) ≡ d.fields)
      × AllByRecursion (IsTyped f s (fields_in fs)) (fields_in fs) × AllByRecursion (OneHas f) (fields_in fs) × AllByRecursion (λ x. IsNamedDeclarator x.declarator) (fields_in fs)

  made-later : (s z : Sofar) → Later s z → (ds : List Definition) → AllByRecursion (DefinitionMade s) ds → AllByRecursion (DefinitionMade z) ds
  made-later s z later [] h = tt
  made-later s z later (d ∷ ds) h = ((h.0.0, later-on h.0.0 s z h.0.1 later, h.0.2, h.0.3, h.0.4, h.0.5, h.0.6), made-later s z later ds h.1)

  pub definitions-made : (xs : List Item) (s z : Sofar) → AllByRecursion (ItemHas f) xs → AllByRecursion (ItemNamed f) xs → Steps f s xs z → AllByRecursion (DefinitionMade s) s.defined → AllByRecursion (DefinitionMade z) z.defined
  definitions-made [] s z has named e made = subst (λ (t : Sofar). AllByRecursion (DefinitionMade t) t.defined) e made
  definitions-made (AStruct n fs ∷ xs) s z has named (t, first, rest) before =
      let (w, new, made, is) = struct-made f s t n fs first in
      let typed = from-typed f s (fields_in fs) fs no_field w made in
      let later = step-later f s (AStruct n fs) t first in
      let all : AllByRecursion (DefinitionMade t) (with_struct f s n (fields_in fs) w.cells).defined = ((s, later, fs, refl, typed.0, fields-have f fs has.0, named.0), made-later s t later s.defined before) in
      definitions-made xs t z has.1 named.1 rest (subst (λ (u : Sofar). AllByRecursion (DefinitionMade t) u.defined) is all)
  definitions-made (AGlobal g ∷ xs) s z has named (t, first, rest) before =
      definitions-made xs t z has.1 named.1 rest
      (subst (λ (u : Sofar). AllByRecursion (DefinitionMade t) u.defined) first.3 (made-later s t (step-later f s (AGlobal g) t first) s.defined before))
  definitions-made (ARoutine r ∷ xs) s z has named (t, first, rest) before =
      let (x, parts, fs, made, is) = function-made f s t r first in
      definitions-made xs t z has.1 named.1 rest
      (subst (λ (u : Sofar). AllByRecursion (DefinitionMade t) u.defined) is (made-later s t (step-later f s (ARoutine r) t first) s.defined before))
