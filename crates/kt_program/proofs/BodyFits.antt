-- What comes of the body of a function fits into that function.
use Rattle.std.proofs.Common.{◌≡◌, ℕ, suc, ◌+◌, ◌≤◌, true, false, List, [], ◌∷◌, ◌++◌, map, length, Some, None, refl, sym, ap, ◌∙◌, subst, arith, length-append}
use Rattle.kt_syntax.specs.declared.tree.Parameter.{Parameter}
use Rattle.kt_syntax.specs.Tree.{Declaration, Start, NoStart, Declares, Evaluates, Statement, Declared, Compound, Empty, Evaluated, Returned, Broken, Continued, Conditional, Alternative, Looped, Repeated, Counted, Statements, Nothing, More, Definition as Block, Routine, External}
use Rattle.kt_types.specs.Table.{Definition}
use Rattle.kt_tree.specs.Kinds.{is_pointer}
use Rattle.kt_typing.specs.Sound.{IsRight}
use Rattle.kt_program.specs.Functions.{nowhere, body_of, behind_parameters, body_judged}
use Rattle.kt_program.specs.Gathered.{locals_in as declared_in, start_locals as declared_at_start, statement_locals, block_locals, parameter_local, locals_of, is_noted}
use Rattle.kt_program.specs.Made.{block}
use Rattle.kt_program.specs.Mentioned.{where_there}
use Rattle.kt_program.specs.Outside.{Whole, whole}
use Rattle.kt_program.specs.Scopes.{Body, Place, declared}
use Rattle.kt_program.specs.Statements.{start_locals, locals_in, locals_among, entries}
use Rattle.kt_program.specs.Types.{place_in}
use Rattle.kt_program.proofs.FileRight.{file-right}
use Rattle.kt_program.proofs.Fits.{entries-fit}
use Rattle.kt_program.proofs.FitsParts.{Gives, Fit, held-gives, block-fits}

mapped-length : {A B : Type 0} (f : A → B) (xs : List A) → length (map f xs) ≡ length xs
mapped-length f [] = refl
mapped-length f (x ∷ xs) = ap suc (mapped-length f xs)

-- ---- how many locals a body has

joined-count : {A : Type 0} (xs ys : List A) (m n : ℕ) → length xs ≡ m → length ys ≡ n → length (xs ++ ys) ≡ m + n
joined-count xs ys m n a b = length-append xs ys ∙ ap (λ k. k + length ys) a ∙ ap (λ k. m + k) b

module _ (structs : List (List ℕ)) where
  declared-count : (d : Declaration) → length (declared_in structs d) ≡ length d.locals
  declared-count d = mapped-length _ d.locals

  start-count : (a : Start) → length (declared_at_start structs a) ≡ start_locals a
  start-count NoStart = refl
  start-count (Declares d) = declared-count d
  start-count (Evaluates e) = refl

  mutual
    statement-count : (a : Statement) → length (statement_locals structs a) ≡ locals_in a
    statement-count (Declared d) = declared-count d
    statement-count (Compound es) = block-count es
    statement-count Empty = refl
    statement-count (Evaluated e) = refl
    statement-count (Returned at e) = refl
    statement-count (Broken at) = refl
    statement-count (Continued at) = refl
    statement-count (Conditional c a) = statement-count a
    statement-count (Alternative c a b) =
        joined-count (statement_locals structs a) (statement_locals structs b) (locals_in a) (locals_in b) (statement-count a) (statement-count b)
    statement-count (Looped c a) = statement-count a
    statement-count (Repeated a c) = statement-count a
    statement-count (Counted first test step a) =
        joined-count (declared_at_start structs first) (statement_locals structs a) (start_locals first) (locals_in a) (start-count first) (statement-count a)

    block-count : (es : Statements) → length (block_locals structs es) ≡ locals_among es
    block-count Nothing = refl
    block-count (More a rest) =
        joined-count (statement_locals structs a) (block_locals structs rest) (locals_in a) (locals_among rest) (statement-count a) (block-count rest)

-- ---- behind the parameters

next-behind : (a k d : ℕ) → d ≡ suc a + k → d ≡ a + suc k
next-behind a k d h = omega (arith, h)

parameters-next : (ps : List Parameter) (p : Place) → (behind_parameters p ps).next ≡ p.next + length ps
parameters-next [] p = omega arith
parameters-next (x ∷ rest) p =
    next-behind p.next (length rest) (behind_parameters (declared p x.name.word) rest).next (parameters-next rest (declared p x.name.word))

parameters-loop : (ps : List Parameter) (p : Place) → (behind_parameters p ps).in_loop ≡ p.in_loop
parameters-loop [] p = refl
parameters-loop (x ∷ rest) p = parameters-loop rest (declared p x.name.word)

enough : (next ps among n : ℕ) → next ≡ 0 + ps → n ≡ ps + among → next + among ≤ n
enough next ps among n a b = omega (arith, a, b)

module _ (xs : List External) (defined : List Definition) (r : Routine) (text : is_pointer (body_of (whole xs) defined r).environment.scope (body_of (whole xs) defined r).environment.text ≡ true) where
  abbrev w : Whole
  w = whole xs

  abbrev body : Body
  body = body_of w defined r

  right : IsRight body.environment
  right = file-right xs defined (map (λ l. place_in w.types l.ty) (locals_of w.structs r)) (is_noted r.body) text

  has-all : (b : Block) → r.body ≡ Some b → length body.environment.scope.locals ≡ length r.parameters + locals_among b.entries
  has-all b same =
      mapped-length (λ l. place_in w.types l.ty) (locals_of w.structs r)
      ∙ subst (λ o. length (map (parameter_local w.structs) r.parameters ++ where_there (λ c. block_locals w.structs c.entries) o) ≡ length r.parameters + locals_among b.entries) (sym same)
      (joined-count (map (parameter_local w.structs) r.parameters) (block_locals w.structs b.entries) (length r.parameters) (locals_among b.entries)
      (mapped-length (parameter_local w.structs) r.parameters) (block-count w.structs b.entries))

  pub body-fits : (b : Block) → r.body ≡ Some b → Gives (Fit body.environment.scope body.result false) (body_judged body r.parameters (Some b))
  body-fits b same =
      held-gives (Fit body.environment.scope body.result false) None (entries body (behind_parameters nowhere r.parameters) b.entries) block
      (λ none ms are. block-fits body.environment.scope body.result false ms
      (entries-fit body right b.entries false (behind_parameters nowhere r.parameters) (parameters-loop r.parameters nowhere)
      (enough (behind_parameters nowhere r.parameters).next (length r.parameters) (locals_among b.entries) (length body.environment.scope.locals)
      (parameters-next r.parameters nowhere) (has-all b same)) ms are))
