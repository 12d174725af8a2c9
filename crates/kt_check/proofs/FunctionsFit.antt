-- The functions of a file are functions of its version.
use Rattle.std.proofs.Common.{◌≡◌, ℕ, suc, ◌==◌, Bool, true, false, List, [], ◌∷◌, ◌++◌, map, slice_get, Option, Some, None, Ok, if◌then◌else◌, refl, sym, ap, ◌∙◌, subst}
use Rattle.std.specs.Option.{is_some, option_map, option_and_then}
use Rattle.std.specs.List.{AllByRecursion, list_all}
use Rattle.std.proofs.lemmas.Bool.{and_from}
use Rattle.std.proofs.lemmas.List.{length-map}
use Rattle.std.proofs.lemmas.Option.{none-some, slice_get-map}
use Rattle.kt_types.proofs.Growth.{option_map_some}
use Rattle.kt_types.specs.declared.kinds.FieldDecl.{FieldDecl}
use Rattle.kt_tree.specs.declared.global.GlobalDecl.{GlobalDecl}
use Rattle.kt_tree.specs.Kinds.{Scope, pointee_of}
use Rattle.kt_tree.specs.Names.{is_identifier}
use Rattle.kt_tree.specs.Tree.{Function as Fun, Compound, Statement}
use Rattle.kt_tree.specs.Version.{IsFunction, scope_of, is_view}
use Rattle.kt_syntax.specs.declared.tree.Extent.{Extent}
use Rattle.kt_syntax.specs.declared.tree.Extent.TheVariants as extent
use Rattle.kt_syntax.specs.declared.tree.Pointer.{Pointer}
use Rattle.kt_syntax.specs.Tree.{Routine}
use Rattle.kt_names.specs.declared.ctype.CType.{CType}
use Rattle.kt_names.specs.declared.fault.CheckFault.TheVariants.{BadType}
use Rattle.kt_names.specs.Checked.{Checked, fault}
use Rattle.kt_names.specs.Environment.{Environment, Global, FieldOf, Struct, struct_numbered}
use Rattle.kt_names.specs.Types.{place_in, pointer_to}
use Rattle.kt_names.specs.Uses.{head_uses, body_uses, where_there}
use Rattle.kt_names.specs.Tables.{Written, Literal, Updates, Asks, DeclaredLocal, declared_type, functions_of, defined_of, locals_of, block_locals, parameter_local, external_written, block_written, view_of}
use Rattle.kt_names.specs.Statements.{State, extent_outside, pointer_outside}
use Rattle.kt_names.specs.Functions.{parameters, no_state, body_in, is_noted, typed_function}
use Rattle.kt_check.specs.Files.{Frame, Sofar, outside, program_of}
use Rattle.kt_check.proofs.AllNamed.{IsNamed, IsNamedLocal, IsNamedRoutine}
use Rattle.kt_terms.proofs.Agrees.{Agrees, Has, HasUse, HasNumber, IsField}
use Rattle.kt_check.proofs.StructCells.{AreSame, found-later, same-found, like-at}
use Rattle.kt_check.proofs.FieldCells.{all-both}
use Rattle.kt_check.proofs.Made.{Later, Each, FunctionMade}
use Rattle.kt_check.proofs.Ended.{Ended, IsNumbered, complete-layout, named-global, global-parts}
use Rattle.kt_check.proofs.ViewsFit.{view-fits, global-has, all-at}
use Rattle.kt_check.proofs.GlobalsFit.{all-of-functions, all-flat}
use Rattle.kt_check.proofs.OuterNames.{IsBody, function-body, all-defined}
use Rattle.kt_check.proofs.LocalTypes.{LocalsHave, locals-have, routine-parts}
use Rattle.kt_check.proofs.LocalViews.{IsBound, body-bound, parameters-held, parameters-bound}
use Rattle.kt_check.proofs.LocalForms.{all-locals}
use Rattle.kt_check.proofs.FunctionHeads.{defined-in, named-function, routines-typed, routine-holds, parts-parameters}
use Rattle.kt_check.proofs.SoundFunctions.{FunctionFits, IsReady, function-fits}

all-weaker : {A : Type 0} (P Q : A → Type 0) → ((x : A) → P x → Q x) → (xs : List A) → AllByRecursion P xs → AllByRecursion Q xs
all-weaker P Q weaker [] h = tt
all-weaker P Q weaker (x ∷ xs) h = (weaker x h.0, all-weaker P Q weaker xs h.1)

pointer-body : (env : Environment) (r : Routine) (noted : Bool) (q : Option Pointer) → pointer_outside (body_in env r noted).environment q ≡ pointer_outside env q
pointer-body env r noted None = refl
pointer-body env r noted (Some p) = ap (λ c. if p.stars.count == 0 then fault (BadType p.stars.at) else c) (by p.extent)
  where
    same : (x : Extent) → extent_outside (body_in env r noted).environment x ≡ extent_outside env x
    same (extent.Name n) = refl
    same (extent.Number at n) = refl

    by : (x : Option Extent) → (elim x as (λ _. Checked (Unit {0})) [ None ↦ Ok tt | (Some e) ↦ extent_outside (body_in env r noted).environment e ]) ≡ (elim x as (λ _. Checked (Unit {0})) [ None ↦ Ok tt | (Some e) ↦ extent_outside env e ])
    by None = refl
    by (Some x) = same x

module _ (f : Frame) (z : Sofar) (end : Ended f z) where
  abbrev decl : DeclaredLocal → FieldDecl
  decl l = record { name = l.name; ty = place_in f.types l.ty; view = view_of f.outer l.base l.pointer }

  -- ---- what the body of a function may name is what the version has

  module _ (s : Sofar) (later : Later s z) (i : ℕ) (r : Routine) (at : slice_get (functions_of f.externals) i ≡ Some r) (noted : Bool) (same : noted ≡ is_noted r.body) (body : Statement) where
    abbrev env : Environment
    env = (body_in (outside f s) r (is_noted r.body)).environment

    abbrev fun : Fun
    fun = typed_function (outside f s) r noted body

    abbrev scope : Scope
    scope = scope_of (program_of f z) fun

    has : AllByRecursion (HasUse f.names f.types) (head_uses r ++ body_uses r)
    has = all-at (λ q. AllByRecursion (HasUse f.names f.types) (head_uses q ++ body_uses q)) (functions_of f.externals) (routines-typed f z end) i r at

    fields-agree : (n : ℕ) (d : Struct) → struct_numbered s.structs n ≡ Some d → (k : ℕ) (g : FieldOf) → slice_get d.fields k ≡ Some g → IsField scope (place_in f.types) n k g
    fields-agree n d e k g there =
        let all : AreSame f.types (later.structs.0 ++ s.structs) z.defined = subst (λ l. AreSame f.types l z.defined) later.structs.1 end.same in
        let known = same-found f.types (later.structs.0 ++ s.structs) z.defined all n d (found-later f.types later.structs.0 s.structs z.defined all n d e) in
        let (fd, found, like) = like-at f.types d.fields known.0 known.2 k g there in
        (fd, ap (option_and_then (λ (l : List FieldDecl). slice_get l k)) known.1 ∙ found, like.0, like.1)

    globals-agree : (name : List ℕ) (g : ℕ) (t : CType) (array : Bool) → f.outer name ≡ Some (Global g t array) → (slice_get scope.globals g ≡ Some (place_in f.types t)) × Has f.types (pointer_to t)
    globals-agree name g t array e =
        let (o, d, there, found, made, type, brackets, named) = named-global f z end name g t array e in
        let parts = global-parts f made.0 o d made.3 in
        let place : d.ty ≡ place_in f.types t = ap (λ (c : GlobalDecl). c.ty) parts.made ∙ ap (place_in f.types) (sym type) in (
          slice_get-map (λ (c : GlobalDecl). c.ty) z.globals g ∙ ap (option_map (λ (c : GlobalDecl). c.ty)) found ∙ ap Some place,
          subst (λ u. Has f.types (pointer_to u)) (sym type) (global-has f z end g o there),
        )

    locals-agree : (x : ℕ) (t : CType) → slice_get env.locals x ≡ Some t → (slice_get scope.locals x ≡ Some (place_in f.types t)) × Has f.types t
    locals-agree x t e =
        let ls = locals_of f.names r in
        let (l, there, is) = option_map_some (λ (l : DeclaredLocal). l.ty) (slice_get ls x) t (sym (slice_get-map (λ (l : DeclaredLocal). l.ty) ls x) ∙ e) in (
          slice_get-map (λ (c : FieldDecl). c.ty) (map decl ls) x ∙ ap (option_map (λ (c : FieldDecl). c.ty)) (slice_get-map decl ls x ∙ ap (option_map decl) there) ∙ ap (λ u. Some (place_in f.types u)) is,
          subst (Has f.types) is (all-at (λ (l : DeclaredLocal). Has f.types l.ty) ls (locals-have f.names f.types r has) x l there),
        )

    body-agrees : Agrees env scope
    body-agrees = record {
      place = refl;
      scalars = end.extends;
      complete = λ t has e. let (cs, there, count) = complete-layout f z s end later t.root t.stars has e in ap is_some there;
      fields = fields-agree;
      globals = globals-agree;
      functions = λ name d k e number. named-function f z end name d k e number;
      locals = locals-agree;
      count = length-map (map decl (locals_of f.names r)) (λ (c : FieldDecl). c.ty) ∙ length-map (locals_of f.names r) decl ∙ sym (length-map (locals_of f.names r) (λ (l : DeclaredLocal). l.ty));
      visible = λ n x e. absurd (none-some x e);
      noted = same;
    }

    number-agrees : (w : Written) → IsNumbered f w → HasNumber env scope w
    number-agrees (Literal p bytes) h = h
    number-agrees (Updates n) h = h
    number-agrees (Asks n) h = h

    pub body-ready : IsReady (outside f s) scope r
    body-ready =
        let (params, result) = routine-holds f z end i r at in
        let parts = routine-parts f.names f.types r has in
        let numbered = all-at (λ q. AllByRecursion (IsNumbered f) (where_there (λ b. block_written b.entries) q.body)) (functions_of f.externals)
        (all-of-functions (λ x. AllByRecursion (IsNumbered f) (external_written x)) (λ q. AllByRecursion (IsNumbered f) (where_there (λ b. block_written b.entries) q.body)) (λ q h. h) f.externals (all-flat (IsNumbered f) external_written f.externals end.written)) i r at in (
          body-agrees,
          result,
          record {
            uses = parts.2;
            written = all-weaker (IsNumbered f) (HasNumber env scope) number-agrees (where_there (λ b. block_written b.entries) r.body) numbered;
          },
        )

  -- ---- names and views of locals

  locals-named : (ls : List DeclaredLocal) → AllByRecursion IsNamedLocal ls → list_all is_identifier (map (λ (c : FieldDecl). c.name) (map decl ls)) ≡ true
  locals-named [] h = refl
  locals-named (l ∷ ls) h = and_from (is_identifier l.name) _ h.0 (locals-named ls h.1)

  locals-viewed : (s : Sofar) (ls : List DeclaredLocal) → LocalsHave f.names f.types ls → AllByRecursion (λ (l : DeclaredLocal). l.ty ≡ declared_type f.names l.base l.pointer) ls
      → AllByRecursion (λ (l : DeclaredLocal). pointer_outside (outside f s) l.pointer ≡ Ok tt) ls
      → list_all (λ (c : FieldDecl). is_view (program_of f z) (pointee_of (slice_get f.types c.ty)) c.view) (map decl ls) ≡ true
  locals-viewed s [] have formed bound = refl
  locals-viewed s (l ∷ ls) have formed bound =
      and_from _ _
      (ap (λ t. is_view (program_of f z) (pointee_of (slice_get f.types (place_in f.types t))) (view_of f.outer l.base l.pointer)) formed.0
      ∙ view-fits f z s end l.base l.pointer (subst (Has f.types) formed.0 have.0) bound.0)
      (locals-viewed s ls have.1 formed.1 bound.1)

  -- ---- functions

  abbrev Bound : Sofar → DeclaredLocal → Type 0
  Bound s l = pointer_outside (outside f s) l.pointer ≡ Ok tt

  locals-bound : (s : Sofar) (r : Routine) (st : State) (d : Fun) → parameters (body_in (outside f s) r (is_noted r.body)) no_state r.parameters ≡ Ok st → IsBody f s r st d → AllByRecursion (Bound s) (locals_of f.names r)
  locals-bound s r st d params body =
      let first = all-weaker (IsBound (body_in (outside f s) r (is_noted r.body))) (Bound s) (λ l h. sym (pointer-body (outside f s) r (is_noted r.body) l.pointer) ∙ h) (map (parameter_local f.names) r.parameters)
      (parameters-bound (body_in (outside f s) r (is_noted r.body)) r.parameters (parameters-held (body_in (outside f s) r (is_noted r.body)) r.parameters no_state st params)) in
      let rest = all-weaker (IsBound (body_in (outside f s) r body.body.noted)) (Bound s) (λ l h. sym (pointer-body (outside f s) r body.body.noted l.pointer) ∙ h) (block_locals f.names body.body.entries)
      (body-bound (body_in (outside f s) r body.body.noted) body.body.entries false st body.typed body.entered) in
      all-both (Bound s) (map (parameter_local f.names) r.parameters) (where_there (λ b. block_locals f.names b.entries) r.body) first
      (subst (λ o. AllByRecursion (Bound s) (where_there (λ b. block_locals f.names b.entries) o)) (sym body.is) rest)

  function-is : (i : ℕ) (r : Routine) (d : Fun) → slice_get (functions_of f.externals) i ≡ Some r → IsNamedRoutine f.names r → FunctionMade f z r d → IsFunction (program_of f z) d
  function-is i r d at named (s, later, x, parts, made) =
      let body = function-body f z r d (s, later, x, parts, made) in
      let params = parts-parameters f s r x parts in
      let ready = body-ready s later i r at body.body.noted (sym (ap is_noted body.is)) (Compound body.typed.0) in
      let fun0 = typed_function (outside f s) r body.body.noted (Compound body.typed.0) in
      let all = function-fits (outside f s) (scope_of (program_of f z) fun0) r x.1.1.1.1 (d ∷ []) ready params made in
      let fits = subst (FunctionFits (scope_of (program_of f z) fun0)) (sym body.made) all.0 in
      let have = locals-have f.names f.types r (all-at (λ q. AllByRecursion (HasUse f.names f.types) (head_uses q ++ body_uses q)) (functions_of f.externals) (routines-typed f z end) i r at) in
      let formed = all-locals f.names (λ (l : DeclaredLocal). l.ty ≡ declared_type f.names l.base l.pointer) (λ n b q. refl) r in
      subst (IsFunction (program_of f z)) body.made (record {
        parameters = fits.parameters;
        locals = fits.locals;
        views = locals-viewed s (locals_of f.names r) have formed (locals-bound s r x.1.1.1.1 d params body);
        names = locals-named (locals_of f.names r) named.1;
        distinct = fits.distinct;
        result = fits.result;
        body = fits.body;
      })

  functions-are : (rs : List Routine) (ds : List Fun) → Each (FunctionMade f z) rs ds → ((k : ℕ) (r : Routine) → slice_get rs k ≡ Some r → (i : ℕ) × (slice_get (functions_of f.externals) i ≡ Some r)) → AllByRecursion (IsNamedRoutine f.names) rs
      → AllByRecursion (IsFunction (program_of f z)) ds
  functions-are [] [] each among named = tt
  functions-are [] (d ∷ ds) each among named = absurd each
  functions-are (r ∷ rs) [] each among named = absurd each
  functions-are (r ∷ rs) (d ∷ ds) each among named =
      let (i, at) = among 0 r refl in
      (function-is i r d at named.0 each.0, functions-are rs ds each.1 (λ k q there. among (suc k) q there) named.1)

  -- all functions are functions of the version
  pub all-functions-fit : AllByRecursion (IsNamed f.names) f.externals → AllByRecursion (IsFunction (program_of f z)) z.functions
  all-functions-fit named =
      functions-are (defined_of f.externals) z.functions end.functions (λ k r at. defined-in (functions_of f.externals) k r at)
      (all-defined (IsNamedRoutine f.names) (functions_of f.externals) (all-of-functions (IsNamed f.names) (IsNamedRoutine f.names) (λ r h. h) f.externals named))
