-- Functions: what their bodies need, their parameters one after the other, and their bodies.
use Rattle.std.proofs.Common.{◌≡◌, ℕ, ◌+◌, ◌<◌, Bool, true, false, List, [], ◌∷◌, length, map, drop, get_or, Option, None, Some, Result, Ok, Err, IfOk, IfErr, inl, inr, refl, sym, ap, subst, ◌∙◌, drop-cons, add-one}
use Rattle.std.specs.Option.{option_map}
use Rattle.std.proofs.lemmas.Simd.{map-map}
use Rattle.kt_syntax.specs.declared.tree.Parameter.{Parameter}
use Rattle.kt_syntax.specs.Tree.{Routine, Definition}
use Rattle.kt_types.specs.declared.kinds.FieldDecl.{FieldDecl}
use Rattle.kt_tree.specs.declared.stmt.Stmt.{Stmt}
use Rattle.kt_tree.specs.Tree.{Function, Statement, Statements, Compound, statements_of, function_of}
use Rattle.kt_tree.specs.declared.function.Fun.{Fun}
use Rattle.kt_names.specs.declared.ctype.CType.{CType}
use Rattle.kt_names.specs.declared.fault.CheckFault.{CheckFault}
use Rattle.kt_names.specs.declared.fault.CheckFault.TheVariants.{NoMemory}
use Rattle.kt_names.specs.declared.info.FunctionInfo.{FunctionInfo}
use Rattle.kt_names.specs.declared.info.LocalInfo.{LocalInfo}
use Rattle.kt_names.specs.Checked.{Checked, and_then, first}
use Rattle.kt_names.specs.Judges.{Fails, Judges}
use Rattle.kt_names.specs.Environment.{Environment}
use Rattle.kt_names.specs.Uses.{stars_of}
use Rattle.kt_names.specs.Tables.{DeclaredLocal, locals_of, result_type, view_of}
use Rattle.kt_names.specs.Statements.{Body, State, base_for, declared, entries}
use Rattle.kt_names.specs.Functions.{parameters, body_in, is_noted, typed_function, defined_function}
use Rattle.kt_names.specs.Scopes.{body_by, declared_as, local_names, local_field, typed_by, parameter_parts, parameter_in}
use Rattle.kt_names.proofs.Parts.{fails}
use Rattle.kt_check.proofs.Entries.{regroup}

-- ---- what is known of a function

module _ (env : Environment) (i : FunctionInfo) (r : Routine) (noted : Bool) (listed : map declared_as i.locals.items ≡ locals_of env.names r) (n : i.noted ≡ noted) (t : i.result ≡ result_type env.names r) where
  types-are : i.types.items ≡ map (λ l. l.ty) i.locals.items → i.types.items ≡ map (λ l. l.ty) (locals_of env.names r)
  types-are e = e ∙ sym (map-map (λ (l : DeclaredLocal). l.ty) declared_as i.locals.items) ∙ ap (λ (ls : List DeclaredLocal). map (λ l. l.ty) ls) listed

  names-are : local_names i.locals.items ≡ map (λ l. l.name) (locals_of env.names r)
  names-are = sym (map-map (λ (l : DeclaredLocal). l.name) declared_as i.locals.items) ∙ ap (λ (ls : List DeclaredLocal). map (λ l. l.name) ls) listed

  pub body-is : i.types.items ≡ map (λ l. l.ty) i.locals.items → body_by env i ≡ body_in env r noted
  body-is e = rw (types-are e, names-are, n, t) refl

  fields-are : map (λ l. local_field env (declared_as l)) i.locals.items ≡ map (local_field env) (locals_of env.names r)
  fields-are = sym (map-map (local_field env) declared_as i.locals.items) ∙ ap (λ (ls : List DeclaredLocal). map (local_field env) ls) listed

  pub typed-is : (s : Statement) → typed_by env r i s ≡ typed_function env r noted s
  typed-is s = rw (fields-are, n, t) refl

-- ---- parameters

module _ (body : Body) (w : Checked State) (s : State) (p : Parameter) (ps rest : List Parameter) (stands : w ≡ parameters body s ps) (is : ps ≡ p ∷ rest) where
  abbrev next : State → Checked State
  next t = parameters body t rest

  in-two : w ≡ and_then (parameter_in body s p) next
  in-two =
      stands ∙ ap (parameters body s) is
      ∙ sym (regroup (base_for body.environment p.base (stars_of p.pointer ∷ [])) (λ (y : Unit {0}). parameter_parts body s p) (λ y x. declared s p.name.word) next)

  pub parameter-next : (t : State) → parameter_in body s p ≡ Ok t → w ≡ parameters body t rest
  parameter-next t e = in-two ∙ ap (λ (c : Checked State). and_then c next) e

  pub parameter-fails : (f : CheckFault) → Fails f (parameter_in body s p) → Fails f w
  parameter-fails f e = subst (Fails f) (sym in-two) (fails (parameter_in body s p) next f e)

pub rest-is : (ps : List Parameter) (i : ℕ) (p : Parameter) → i < length ps → p ≡ get_or ps i p → drop i ps ≡ p ∷ drop (i + 1) ps
rest-is ps i p within is = rw (drop-cons ps i p within, ← is, add-one) refl

-- the parameters of a body that is the same
pub parameters-are : (b c : Body) (s t : State) (ps qs : List Parameter) → b ≡ c → s ≡ t → qs ≡ ps → parameters b s qs ≡ parameters c t ps
parameters-are b c s t ps qs i j k = rw (i, j, k) refl

-- ---- bodies

abbrev pub first_of : Statements × ℕ → Checked Statements
first_of x = Ok x.0

-- the statements of a body alone
pub statements-alone : (n : ℕ) (r : Result (List Stmt) CheckFault) (c : Checked (Statements × ℕ)) → Judges {Y = Statements × ℕ} (λ ss. (statements_of ss, n)) r c → Judges {Y = Statements} statements_of r (and_then c first_of)
statements-alone n (Ok ss) c h = ap (λ (d : Checked (Statements × ℕ)). and_then d first_of) h
statements-alone n (Err f) c h = fails c first_of f h

abbrev alone : {A B : Type 0} → (A → B) → A → Checked B
alone g x = Ok (g x)

-- what follows the entries of a body, in two steps
two-steps : {A B C : Type 0} (c : Checked A) (g : A → B) (h : B → C) → and_then (and_then c (alone g)) (alone h) ≡ and_then c (alone (λ x. h (g x)))
two-steps (Ok x) g h = refl
two-steps (Err f) g h = refl

module _ (env : Environment) (r : Routine) (s : State) where
  abbrev function_with : Bool → Statements × ℕ → Function
  function_with noted x = typed_function env r noted (Compound x.0)

  -- the function that a definition gives
  abbrev pub given : Bool → Definition → Checked Function
  given noted b = and_then (entries (body_in env r noted) false s b.entries) (alone (function_with noted))

  module _ (noted : Bool) (b : Definition) (i : FunctionInfo) (body : body_by env i ≡ body_in env r noted) where
    abbrev typed_entries : Body → Checked Statements
    typed_entries q = and_then (entries q false s b.entries) first_of

    in-steps : given noted b ≡ and_then (typed_entries (body_by env i)) (alone (λ (ss : Statements). typed_function env r noted (Compound ss)))
    in-steps =
        sym (two-steps (entries (body_in env r noted) false s b.entries) (λ (x : Statements × ℕ). x.0) (λ (ss : Statements). typed_function env r noted (Compound ss)))
        ∙ ap (λ (q : Body). and_then (typed_entries q) (alone (λ (ss : Statements). typed_function env r noted (Compound ss)))) (sym body)

    pub given-is : (ss : Statements) (g : Function) → typed_entries (body_by env i) ≡ Ok ss → g ≡ typed_function env r noted (Compound ss) → given noted b ≡ Ok g
    given-is ss g e h = in-steps ∙ ap (λ (c : Checked Statements). and_then c (alone (λ (t : Statements). typed_function env r noted (Compound t)))) e ∙ ap (λ (x : Function). Ok x) (sym h)

    pub given-fails : (f : CheckFault) → Fails f (typed_entries (body_by env i)) → Fails f (given noted b)
    given-fails f e = subst (Fails f) (sym in-steps) (fails (typed_entries (body_by env i)) (alone (λ (t : Statements). typed_function env r noted (Compound t))) f e)

    pub given-made : (g : Result Fun CheckFault) (ss : List Stmt) → typed_entries (body_by env i) ≡ Ok (statements_of ss) → ((w : Statement) → typed_by env r i w ≡ typed_function env r noted w)
        → IfOk g (λ x. function_of x ≡ typed_by env r i (Compound (statements_of ss))) → IfErr g (λ f. f ≡ NoMemory) → Judges function_of g (given noted b)
    given-made (Ok x) ss e typed h k = given-is (statements_of ss) (function_of x) e (h ∙ typed (Compound (statements_of ss)))
    given-made (Err f) ss e typed h k = inl k
