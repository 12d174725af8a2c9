-- The types of a function's locals have their places in the table.
use Rattle.std.proofs.Common.{ℕ, List, [], ◌∷◌, ◌++◌, map, Option, Some, None}
use Rattle.std.specs.List.{AllByRecursion}
use Rattle.std.specs.Prelude.{flat_map}
use Rattle.kt_types.specs.declared.kinds.Ty.{Ty}
use Rattle.kt_grammar.specs.declared.tree.Base.{Base}
use Rattle.kt_syntax.specs.declared.tree.Parameter.{Parameter}
use Rattle.kt_syntax.specs.Tree.{Local, Declaration, Start, NoStart, Declares, Evaluates, Statement, Declared, Compound, Empty, Evaluated, Returned, Broken, Continued, Conditional, Alternative, Looped, Repeated, Counted, Statements, Nothing, More, Definition, Routine}
use Rattle.kt_names.specs.Types.{root_of}
use Rattle.kt_names.specs.Uses.{Use, stars_of, result_stars, where_there, term_uses, local_uses, declaration_uses, start_uses, statement_uses, statements_uses, parameter_uses, result_uses, head_uses, body_uses}
use Rattle.kt_names.specs.Tables.{DeclaredLocal, parameter_local, locals_in, start_locals, statement_locals, block_locals, locals_of}
use Rattle.kt_terms.proofs.Agrees.{Has, HasUse}
use Rattle.kt_check.proofs.FieldCells.{all-both}
use Rattle.kt_check.proofs.GlobalsFit.{all-split}

module _ (names : List (List ℕ)) (types : List Ty) where
  abbrev pub HasAll : List Use → Type 0
  HasAll us = AllByRecursion (HasUse names types) us

  abbrev pub LocalsHave : List DeclaredLocal → Type 0
  LocalsHave ls = AllByRecursion (λ (l : DeclaredLocal). Has types l.ty) ls

  declared-have : (b : Base) (ls : List Local) → HasAll (flat_map (local_uses b) ls)
      → LocalsHave (map (λ l. record { name = l.name.word; ty = record { root = root_of names b; stars = stars_of l.pointer }; base = b; pointer = l.pointer }) ls)
  declared-have b [] h = tt
  declared-have b (l ∷ ls) h = let parts = all-split (HasUse names types) (local_uses b l) (flat_map (local_uses b) ls) h in (parts.0.0, declared-have b ls parts.1)

  declaration-have : (x : Declaration) → HasAll (declaration_uses x) → LocalsHave (locals_in names x)
  declaration-have x h = declared-have x.base x.locals h

  start-have : (x : Start) → HasAll (start_uses x) → LocalsHave (start_locals names x)
  start-have NoStart h = tt
  start-have (Declares x) h = declaration-have x h
  start-have (Evaluates e) h = tt

  first : (us vs : List Use) → HasAll (us ++ vs) → HasAll us
  first us vs h = (all-split (HasUse names types) us vs h).0

  second : (us vs : List Use) → HasAll (us ++ vs) → HasAll vs
  second us vs h = (all-split (HasUse names types) us vs h).1

  mutual
    statement-have : (s : Statement) → HasAll (statement_uses s) → LocalsHave (statement_locals names s)
    statement-have (Declared x) h = declaration-have x h
    statement-have (Compound b) h = block-have b h
    statement-have Empty h = tt
    statement-have (Evaluated e) h = tt
    statement-have (Returned at e) h = tt
    statement-have (Broken at) h = tt
    statement-have (Continued at) h = tt
    statement-have (Conditional c s) h = statement-have s (second (term_uses c) (statement_uses s) h)
    statement-have (Alternative c s t) h =
        let rest = second (term_uses c) (statement_uses s ++ statement_uses t) h in
        all-both (λ (l : DeclaredLocal). Has types l.ty) (statement_locals names s) (statement_locals names t) (statement-have s (first (statement_uses s) (statement_uses t) rest)) (statement-have t (second (statement_uses s) (statement_uses t) rest))
    statement-have (Looped c s) h = statement-have s (second (term_uses c) (statement_uses s) h)
    statement-have (Repeated s c) h = statement-have s (first (statement_uses s) (term_uses c) h)
    statement-have (Counted start test step s) h =
        let rest = second (start_uses start) (where_there term_uses test ++ (where_there term_uses step ++ statement_uses s)) h in
        let more = second (where_there term_uses test) (where_there term_uses step ++ statement_uses s) rest in
        all-both (λ (l : DeclaredLocal). Has types l.ty) (start_locals names start) (statement_locals names s)
        (start-have start (first (start_uses start) (where_there term_uses test ++ (where_there term_uses step ++ statement_uses s)) h))
        (statement-have s (second (where_there term_uses step) (statement_uses s) more))

    block-have : (b : Statements) → HasAll (statements_uses b) → LocalsHave (block_locals names b)
    block-have Nothing h = tt
    block-have (More s rest) h =
        all-both (λ (l : DeclaredLocal). Has types l.ty) (statement_locals names s) (block_locals names rest)
        (statement-have s (first (statement_uses s) (statements_uses rest) h)) (block-have rest (second (statement_uses s) (statements_uses rest) h))

  pub parameters-have : (ps : List Parameter) → HasAll (flat_map parameter_uses ps) → LocalsHave (map (parameter_local names) ps)
  parameters-have [] h = tt
  parameters-have (p ∷ ps) h = (h.0, parameters-have ps h.1)

  body-have : (b : Option Definition) → HasAll (where_there (λ d. statements_uses d.entries) b) → LocalsHave (where_there (λ d. block_locals names d.entries) b)
  body-have None h = tt
  body-have (Some b) h = block-have b.entries h

  -- what a function's head and body name
  pub routine-parts : (r : Routine) → HasAll (head_uses r ++ body_uses r) → HasAll (result_uses r.result (result_stars r.stars)) × HasAll (flat_map parameter_uses r.parameters) × HasAll (body_uses r)
  routine-parts r h =
      let head = first (head_uses r) (body_uses r) h in (
        first (result_uses r.result (result_stars r.stars)) (flat_map parameter_uses r.parameters) head,
        second (result_uses r.result (result_stars r.stars)) (flat_map parameter_uses r.parameters) head,
        second (head_uses r) (body_uses r) h,
      )

  -- all locals of a function
  pub locals-have : (r : Routine) → HasAll (head_uses r ++ body_uses r) → LocalsHave (locals_of names r)
  locals-have r h =
      let parts = routine-parts r h in
      all-both (λ (l : DeclaredLocal). Has types l.ty) (map (parameter_local names) r.parameters) (where_there (λ d. block_locals names d.entries) r.body)
      (parameters-have r.parameters parts.1) (body-have r.body parts.2)
