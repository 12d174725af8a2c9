-- Functions: what typing gives of a function is a function of a version.
use Rattle.std.proofs.Common.{◌≡◌, ℕ, zero, suc, ◌+◌, ◌<◌, ◌≤◌, true, false, List, [], ◌∷◌, ◌++◌, map, take, length, slice_get, Option, Some, None, Ok, refl, sym, ap, ◌∙◌, subst, arith, add-zero, zero-add}
use Rattle.std.proofs.lemmas.Bool.{and_from, or_left, or_right, true≢false}
use Rattle.std.proofs.lemmas.Option.{none-some, slice_get-map}
use Rattle.std.proofs.lemmas.List.{length-append, length-map}
use Rattle.std.proofs.lemmas.Slice.Eq.{bytes_eq-Decides}
use Rattle.std.specs.Option.{option_map}
use Rattle.std.specs.List.{AllByRecursion, list_all}
use Rattle.std.specs.Str.{bytes_eq}
use Rattle.kt_grammar.specs.declared.tree.Base.{Base}
use Rattle.kt_grammar.specs.declared.tree.Name.{Name}
use Rattle.kt_syntax.specs.declared.tree.Stars.{Stars}
use Rattle.kt_syntax.specs.declared.tree.Parameter.{Parameter}
use Rattle.kt_syntax.specs.Tree.{Definition, Routine}
use Rattle.kt_types.specs.declared.kinds.FieldDecl.{FieldDecl}
use Rattle.kt_tree.specs.Kinds as kinds
use Rattle.kt_tree.specs.Kinds.{Scope}
use Rattle.kt_tree.specs.Typed.{fits}
use Rattle.kt_tree.specs.Tree.{Function, Compound}
use Rattle.kt_tree.specs.Version.{AreDistinct, is_result_type}
use Rattle.kt_names.specs.declared.ctype.CType.{CType}
use Rattle.kt_names.specs.Checked.{both}
use Rattle.kt_names.specs.Environment.{Environment}
use Rattle.kt_names.specs.Types.{is_scalar}
use Rattle.kt_names.specs.Uses.{where_there, stars_of, body_uses}
use Rattle.kt_names.specs.Tables.{DeclaredLocal, parameter_local, block_locals, block_written, result_type, view_of}
use Rattle.kt_names.specs.Statements.{Body, State, base_for, held, pointer_outside, new_name, contains, declared, entries}
use Rattle.kt_names.specs.Functions.{parameters, no_state, body_in, is_noted, typed_function, defined_function}
use Rattle.kt_terms.proofs.Agrees.{Agrees, ResultHolds, Known}
use Rattle.kt_terms.proofs.Gives.{Gives, given, afterwards, pair, weaken, when-held, anything, same-ok}
use Rattle.kt_terms.proofs.SoundTypes.{scalar-there}
use Rattle.kt_check.proofs.SoundStatements.{Each, after, each-first, each-second, each-both, Stands, IsNew, Sees, IsBlock, sees-more, name-sound, entries-sound}

-- what typing answers for of a function in a scope
pub record FunctionFits (s : Scope) (f : Function) : Type 0 where
  pub parameters : f.params ≤ length f.locals
  pub locals : list_all (λ l. kinds.is_scalar s l.ty) f.locals ≡ true
  pub distinct : f.noted ≡ true → AreDistinct (map (λ l. l.name) f.locals)
  pub result : is_result_type s f.result ≡ true
  pub body : fits s f.result false f.body ≡ true

-- ---- each local at its number

each-at : (P : ℕ → DeclaredLocal → Type 0) (n : ℕ) (ls : List DeclaredLocal) (i : ℕ) (l : DeclaredLocal) → slice_get ls i ≡ Some l → Each P n ls → P (n + i) l
each-at P n [] i l at h = absurd (none-some l at)
each-at P n (x ∷ ls) zero l at h = let same : x ≡ l = cc in rw add-zero (subst (P n) same h.0)
each-at P n (x ∷ ls) (suc i) l at h =
    let number : suc n + i ≡ n + suc i = omega arith in
    subst (λ k. P k l) number (each-at P (suc n) ls i l at h.1)

stands-from : (all : List CType) (n : ℕ) (ls : List DeclaredLocal) → ((i : ℕ) (l : DeclaredLocal) → slice_get ls i ≡ Some l → slice_get all (n + i) ≡ Some l.ty)
    → Each (λ k l. slice_get all k ≡ Some l.ty) n ls
stands-from all n [] h = tt
stands-from all n (x ∷ ls) h = (
  subst (λ k. slice_get all k ≡ Some x.ty) (add-zero n) (h 0 x refl),
  stands-from all (suc n) ls (λ i l at. let number : n + suc i ≡ suc n + i = omega arith in subst (λ k. slice_get all k ≡ Some l.ty) number (h (suc i) l at)),
)

stands-all : (ls : List DeclaredLocal) → Each (λ k l. slice_get (map (λ l. l.ty) ls) k ≡ Some l.ty) 0 ls
stands-all ls =
    stands-from (map (λ l. l.ty) ls) 0 ls
    (λ i l at. subst (λ k. slice_get (map (λ l. l.ty) ls) k ≡ Some l.ty) (sym (zero-add i)) (slice_get-map (λ l. l.ty) ls i ∙ ap (λ o. option_map (λ (l : DeclaredLocal). l.ty) o) at))

-- ---- names that differ

contains-at : (names : List (List ℕ)) (i j : ℕ) (a : List ℕ) → i < j → slice_get names i ≡ Some a → contains (take j names) a ≡ true
contains-at [] i j a lt at = absurd (none-some a at)
contains-at (x ∷ names) zero zero a lt at = absurd (omega arith)
contains-at (x ∷ names) zero (suc j) a lt at = let same : x ≡ a = cc in or_left (bytes_eq x a) (contains (take j names) a) ((bytes_eq-Decides x a).1 same)
contains-at (x ∷ names) (suc i) zero a lt at = absurd (omega arith)
contains-at (x ∷ names) (suc i) (suc j) a lt at = or_right (bytes_eq x a) (contains (take j names) a) (contains-at names i j a (omega arith) at)

name-of : (o : Option DeclaredLocal) (b : List ℕ) → option_map (λ l. l.name) o ≡ Some b → (l : DeclaredLocal) × (o ≡ Some l) × (l.name ≡ b)
name-of None b e = absurd cc
name-of (Some l) b e = (l, refl, cc)

distinct-from : (ls : List DeclaredLocal) → ((i : ℕ) (l : DeclaredLocal) → slice_get ls i ≡ Some l → contains (take i (map (λ l. l.name) ls)) l.name ≡ false) → AreDistinct (map (λ l. l.name) ls)
distinct-from ls h i j a b lt first second same =
    let (l, at, named) = name-of (slice_get ls j) b (sym (slice_get-map (λ l. l.name) ls j) ∙ second) in
    let here : a ≡ l.name = same ∙ sym named in
    true≢false (sym (subst (λ n. contains (take j (map (λ l. l.name) ls)) n ≡ true) here (contains-at (map (λ l. l.name) ls) i j a lt first)) ∙ h j l at)

-- ---- parameters

module _ (body : Body) (s : Scope) (agrees : Agrees body.environment s) (gives : ResultHolds s.types.types body.result) where
  abbrev AfterParameters : ℕ → List Parameter → State → Type 0
  AfterParameters n ps z =
      Sees body s agrees gives z × (z.next ≡ after n (map (parameter_local body.environment.names) ps)) × Each (IsNew body s agrees gives) n (map (parameter_local body.environment.names) ps)

  parameters-sound : (st : State) (ps : List Parameter) → Sees body s agrees gives st → Each (Stands body s agrees gives) st.next (map (parameter_local body.environment.names) ps)
      → Gives (AfterParameters st.next ps) (parameters body st ps)
  parameters-sound st [] sees at = given (AfterParameters st.next []) st (sees, refl, tt)
  parameters-sound st (p ∷ rest) sees at =
      let l = parameter_local body.environment.names p in
      let New : Unit {0} → Type 0 = λ _. body.environment.noted ≡ true → contains (take st.next body.names) p.name.word ≡ false in
      let P = AfterParameters st.next (p ∷ rest) in
      afterwards (λ _. Unit {0}) P (base_for body.environment p.base (stars_of p.pointer ∷ [])) _ (anything _)
      (λ y u. afterwards (λ x. (is_scalar l.ty ≡ true) × (Unit {0} × New x.1.1)) P
      (both (held body.environment p.base p.pointer p.name) (both (pointer_outside body.environment p.pointer) (new_name body st p.name))) (λ x. parameters body (declared st p.name.word) rest)
      (pair (λ _. is_scalar l.ty ≡ true) (λ x. Unit {0} × New x.1) _ _ (when-held (is_scalar l.ty) _) (pair (λ _. Unit {0}) New _ _ (anything _) (name-sound body s agrees gives st p.name)))
      (λ x h. weaken P (AfterParameters (suc st.next) rest) (parameters body (declared st p.name.word) rest)
      (parameters-sound (declared st p.name.word) rest (sees-more body s agrees gives st p.name.word l.ty sees at.0 h.0) at.1)
      (λ z g. (g.0, g.1, ((h.0, h.1.1), g.2)))))

-- ---- functions

module _ (env : Environment) where
  abbrev declared_local : DeclaredLocal → FieldDecl
  declared_local l = record { name = l.name; ty = env.place l.ty; view = view_of env.outer l.base l.pointer }

  same-names : (ls : List DeclaredLocal) → map (λ l. l.name) ls ≡ map (λ l. l.name) (map declared_local ls)
  same-names [] = refl
  same-names (l ∷ ls) = ap (λ ns. l.name ∷ ns) (same-names ls)

module _ (env : Environment) (s : Scope) (result : Option Base) (stars : Option Stars) (name : Name) (ps : List Parameter) (b : Definition) where
  abbrev routine : Routine
  routine = record { result = result; stars = stars; name = name; parameters = ps; body = Some b }

  abbrev the_body : Body
  the_body = body_in env routine b.noted

  abbrev firsts : List DeclaredLocal
  firsts = map (parameter_local env.names) ps

  abbrev others : List DeclaredLocal
  others = block_locals env.names b.entries

  module _ (agrees : Agrees the_body.environment s) (gives : ResultHolds s.types.types (result_type env.names routine)) where
    all-scalar : (n : ℕ) (ls : List DeclaredLocal) → Each (Stands the_body s agrees gives) n ls → Each (IsNew the_body s agrees gives) n ls → list_all (λ l. kinds.is_scalar s l.ty) (map (declared_local env) ls) ≡ true
    all-scalar n [] h k = refl
    all-scalar n (l ∷ ls) h k =
        let (there, has) = agrees.locals n l.ty h.0 in
        and_from (kinds.is_scalar s (env.place l.ty)) _ (scalar-there the_body.environment s agrees l.ty (has, k.0.0)) (all-scalar (suc n) ls h.1 k.1)

    result-fits : (t : Option CType) → ResultHolds s.types.types t → is_result_type s (option_map env.place t) ≡ true
    result-fits None h = refl
    result-fits (Some t) h = scalar-there the_body.environment s agrees t h

    typed-fits : (x : _) → Each (Stands the_body s agrees gives) 0 (firsts ++ others) → Each (IsNew the_body s agrees gives) 0 (firsts ++ others)
        → fits s (option_map env.place (result_type env.names routine)) false (Compound x) ≡ true → FunctionFits s (typed_function env routine b.noted (Compound x))
    typed-fits x stands new fit =
        let long : length (map (declared_local env) (firsts ++ others)) ≡ length ps + length others =
        length-map (firsts ++ others) (declared_local env) ∙ length-append firsts others ∙ ap (λ n. n + length others) (length-map ps (parameter_local env.names)) in
        record {
          parameters = omega arith;
          locals = all-scalar 0 (firsts ++ others) stands new;
          distinct = λ noted. subst AreDistinct (same-names env (firsts ++ others))
              (distinct-from (firsts ++ others) (λ i l at. let h = each-at (IsNew the_body s agrees gives) 0 (firsts ++ others) i l at new in rw zero-add at (h.1 noted)));
          result = result-fits (result_type env.names routine) gives;
          body = fit;
        }

    -- a body behind its parameters
    defined-fits : (st : State) → parameters the_body no_state ps ≡ Ok st
        → Known the_body.environment s (body_uses routine) (block_written b.entries) → Gives (AllByRecursion (FunctionFits s)) (defined_function env routine st (Some b))
    defined-fits st e known =
        let stands : Each (Stands the_body s agrees gives) 0 (firsts ++ others) = stands-all (firsts ++ others) in
        let (sees, next, new) = (parameters-sound the_body s agrees gives no_state ps (λ n x h. absurd (none-some x h)) (each-first (Stands the_body s agrees gives) 0 firsts others stands)).gives st e in
        let behind : Each (Stands the_body s agrees gives) st.next others =
        subst (λ n. Each (Stands the_body s agrees gives) n others) (sym next) (each-second (Stands the_body s agrees gives) 0 firsts others stands) in
        afterwards (IsBlock the_body s agrees gives false st.next others) (AllByRecursion (FunctionFits s)) (entries the_body false st b.entries) (λ x. Ok (typed_function env routine b.noted (Compound x.0) ∷ []))
        (entries-sound the_body s agrees gives b.entries false st sees behind known)
        (λ x g. given (AllByRecursion (FunctionFits s)) _
        (typed-fits x.0 stands (each-both (IsNew the_body s agrees gives) 0 firsts others new (subst (λ n. Each (IsNew the_body s agrees gives) n others) next g.2)) g.0, tt))

-- what typing gives of a function fits into the scope of its body
module _ (env : Environment) (s : Scope) where
  -- the body of a function and what is known of it
  abbrev pub IsReady : Routine → Type 0
  IsReady r =
      Agrees (body_in env r (is_noted r.body)).environment s
      × ResultHolds s.types.types (result_type env.names r)
      × Known (body_in env r (is_noted r.body)).environment s (body_uses r) (where_there (λ b. block_written b.entries) r.body)

  function-by : (result : Option Base) (stars : Option Stars) (name : Name) (ps : List Parameter) (o : Option Definition) (st : State) (fs : List Function)
      → IsReady (record { result = result; stars = stars; name = name; parameters = ps; body = o })
      → parameters (body_in env (record { result = result; stars = stars; name = name; parameters = ps; body = o }) (is_noted o)) no_state ps ≡ Ok st
      → defined_function env (record { result = result; stars = stars; name = name; parameters = ps; body = o }) st o ≡ Ok fs → AllByRecursion (FunctionFits s) fs
  function-by result stars name ps None st fs ready e is =
      let same : [] ≡ fs = same-ok [] fs is in
      subst (AllByRecursion (FunctionFits s)) same tt
  function-by result stars name ps (Some b) st fs ready e is = (defined-fits env s result stars name ps b ready.0 ready.1 st e ready.2).gives fs is

  pub function-fits : (r : Routine) (st : State) (fs : List Function) → IsReady r → parameters (body_in env r (is_noted r.body)) no_state r.parameters ≡ Ok st
      → defined_function env r st r.body ≡ Ok fs → AllByRecursion (FunctionFits s) fs
  function-fits r st fs ready e is = function-by r.result r.stars r.name r.parameters r.body st fs ready e is
