-- Instructions that are put from the last to the first: what stands there after each form of expression.
use Rattle.std.proofs.Common.{◌≡◌, ℕ, suc, ◌+◌, ◌==◌, Bool, List, [], ◌∷◌, ◌++◌, length, reverse, slice_get, Option, refl, sym, ap, ◌∙◌, arith, append_assoc, length-append}
use Rattle.std.proofs.lemmas.List.{reverse-append, length-reverse}
use Rattle.kt_types.specs.Table.{Table}
use Rattle.kt_tree.specs.declared.expr.Expr.{Expr}
use Rattle.kt_tree.specs.declared.expr.Operation.{Operation}
use Rattle.kt_tree.specs.declared.expr.Request.{Request}
use Rattle.kt_tree.specs.Tree.{Expression, Operated, Requested, Modified, Called, Expressions, expression_of, expressions_of}
use Rattle.kt_tree.specs.Version.{Program}
use Rattle.kt_code.specs.declared.instr.Instr.{Instr}
use Rattle.kt_code.specs.declared.instr.Instr.TheVariants as instr
use Rattle.kt_genexpr.specs.Emitting.{code_in, codes_in}
use Rattle.kt_genexpr.specs.ExpressionCode.{type_at, count, locals_of, operation_code, request_code, kept_code, conversion_code, storing_code}

-- those of one list, and then those of another that stands in front of it
pub in-front : (a b old mid new : List Instr) → mid ≡ old ++ reverse b → new ≡ mid ++ reverse a → new ≡ old ++ reverse (a ++ b)
in-front a b old mid new h k =
    k ∙ ap (λ m. m ++ reverse a) h ∙ append_assoc old (reverse b) (reverse a) ∙ ap (λ r. old ++ r) (sym (reverse-append a b))

-- how many there are then
pub put-length : (a old new : List Instr) → new ≡ old ++ reverse a → length new ≡ length old + length a
put-length a old new h = ap length h ∙ length-append old (reverse a) ∙ ap (λ n. length old + n) (length-reverse a)

-- one instruction behind a list
pub last-put : (a : List Instr) (i : Instr) (old mid new : List Instr) → mid ≡ old ++ i ∷ [] → new ≡ mid ++ reverse a → new ≡ old ++ reverse (a ++ i ∷ [])
last-put a i old mid new h k = in-front a (i ∷ []) old mid new h k

-- the operand of a jump, and in front of it the jump
jump-put : (jump : ℕ → Instr) (a b old mid new : List Instr) (from to k n : ℕ) → mid ≡ old ++ reverse (a ++ b) → new ≡ mid ++ jump k ∷ [] → from + k ≡ to → to ≡ length mid →
    from + n ≡ length old + length (a ++ b) → new ≡ old ++ reverse (jump n ∷ (a ++ b))
jump-put jump a b old mid new from to k n h i d e l =
    let long = put-length (a ++ b) old mid h in
    let same : k ≡ n = omega arith in
    in-front (jump k ∷ []) (a ++ b) old mid new h i ∙ ap (λ m. old ++ reverse (jump m ∷ (a ++ b))) same

-- `&&` and `||`
pub logical-put : (jump : ℕ → Instr) (a b old ends right jumps new : List Instr) (from to k : ℕ) →
    ends ≡ old ++ instr.Truth ∷ [] → right ≡ ends ++ reverse b → jumps ≡ right ++ jump k ∷ [] → new ≡ jumps ++ reverse a →
    from ≡ length old → to ≡ length right → from + k ≡ to → new ≡ old ++ reverse (a ++ (jump (suc (length b)) ∷ (b ++ instr.Truth ∷ [])))
logical-put jump a b old ends right jumps new from to k h i j l f t d =
    let end = instr.Truth ∷ [] in
    let one = length-append b end in
    let behind = jump-put jump b end old right jumps from to k (suc (length b)) (in-front b end old ends right h i) j d t (omega arith) in
    in-front a (jump (suc (length b)) ∷ (b ++ end)) old jumps new behind l

-- `?:`
pub choice-put : (test a b old second skips first tests new : List Instr) (from other to k m : ℕ) →
    second ≡ old ++ reverse b → skips ≡ second ++ instr.Skip k ∷ [] → first ≡ skips ++ reverse a → tests ≡ first ++ instr.SkipIfZero m ∷ [] → new ≡ tests ++ reverse test →
    from ≡ length old → other ≡ length second → to ≡ length first → from + k ≡ other → other + m ≡ to →
    new ≡ old ++ reverse (test ++ (instr.SkipIfZero (suc (length a)) ∷ (a ++ (instr.Skip (length b) ∷ b))))
choice-put test a b old second skips first tests new from other to k m h i j l n f o t d e =
    let long = put-length b old second h in
    let skipped : k ≡ length b = omega arith in
    let skip = in-front (instr.Skip k ∷ []) b old second skips h i ∙ ap (λ x. old ++ reverse (instr.Skip x ∷ b)) skipped in
    let end = instr.Skip (length b) ∷ b in
    let both = length-append a end in
    let behind = jump-put (λ x. instr.SkipIfZero x) a end old first tests other to m (suc (length a)) (in-front a end old skips first skip j) l e t (omega arith) in
    in-front test (instr.SkipIfZero (suc (length a)) ∷ (a ++ end)) old tests new behind n

-- ---- forms of expressions

module _ (p : Program) where
  -- the expression is of this form
  pub as-form : (x : Expr) (e : Expression) (old new : List Instr) → expression_of x ≡ e → new ≡ old ++ reverse (code_in p e) → new ≡ old ++ reverse (code_in p (expression_of x))
  as-form x e old new is h = h ∙ ap (λ y. old ++ reverse (code_in p y)) (sym is)

  pub operated-put : (op : Operation) (t : ℕ) (es : Expressions) (types : Table) (i : Instr) (old mid new : List Instr) → types ≡ p.types → i ≡ operation_code types op t →
      mid ≡ old ++ i ∷ [] → new ≡ mid ++ reverse (codes_in p es) → new ≡ old ++ reverse (code_in p (Operated op t es))
  operated-put op t es types i old mid new table is h k =
      let this : i ≡ operation_code p.types op t = is ∙ ap (λ u. operation_code u op t) table in
      last-put (codes_in p es) (operation_code p.types op t) old mid new (h ∙ ap (λ j. old ++ j ∷ []) this) k

  pub requested-put : (r : Request) (t : Option ℕ) (es : Expressions) (types : Table) (i : Instr) (old mid new : List Instr) → types ≡ p.types → i ≡ request_code types r t →
      mid ≡ old ++ i ∷ [] → new ≡ mid ++ reverse (codes_in p es) → new ≡ old ++ reverse (code_in p (Requested r t es))
  requested-put r t es types i old mid new table is h k =
      let this : i ≡ request_code p.types r t = is ∙ ap (λ u. request_code u r t) table in
      last-put (codes_in p es) (request_code p.types r t) old mid new (h ∙ ap (λ j. old ++ j ∷ []) this) k

  -- there are as many operands as expressions
  counted : (es : List Expr) → count (expressions_of es) ≡ length es
  counted [] = refl
  counted (e ∷ es) = ap suc (counted es)

  pub called-put : (g n : ℕ) (es : List Expr) (i : Instr) (old mid new : List Instr) → n ≡ length es → i ≡ instr.Call g n (locals_of (slice_get p.functions g)) →
      mid ≡ old ++ i ∷ [] → new ≡ mid ++ reverse (codes_in p (expressions_of es)) → new ≡ old ++ reverse (code_in p (Called g (expressions_of es)))
  called-put g n es i old mid new long is h k =
      let this = is ∙ ap (λ m. instr.Call g m (locals_of (slice_get p.functions g))) (long ∙ sym (counted es)) in
      last-put (codes_in p (expressions_of es)) (instr.Call g (count (expressions_of es)) (locals_of (slice_get p.functions g))) old mid new (h ∙ ap (λ j. old ++ j ∷ []) this) k

  pub modified-put : (op : Operation) (own t : ℕ) (keeps : Bool) (a e : Expression) (types : Table) (i : Instr) (old stores operates operand loads new : List Instr) →
      types ≡ p.types → i ≡ operation_code types op own →
      stores ≡ old ++ reverse (conversion_code (own == t) (type_at p.types t) ++ storing_code keeps (type_at p.types t) ∷ []) → operates ≡ stores ++ i ∷ [] →
      operand ≡ operates ++ reverse (code_in p e) → loads ≡ operand ++ reverse (instr.Fetch (type_at p.types t) ∷ kept_code keeps) → new ≡ loads ++ reverse (code_in p a) →
      new ≡ old ++ reverse (code_in p (Modified op own t keeps a e))
  modified-put op own t keeps a e types i old stores operates operand loads new table is h j k l m =
      let this : i ≡ operation_code p.types op own = is ∙ ap (λ u. operation_code u op own) table in
      let stored = conversion_code (own == t) (type_at p.types t) ++ storing_code keeps (type_at p.types t) ∷ [] in
      let operated = operation_code p.types op own ∷ stored in
      let load = instr.Fetch (type_at p.types t) ∷ kept_code keeps in
      let first = in-front (operation_code p.types op own ∷ []) stored old stores operates h (j ∙ ap (λ x. stores ++ x ∷ []) this) in
      let second = in-front (code_in p e) operated old operates operand first k in
      let third = in-front load (code_in p e ++ operated) old operand loads second l in
      in-front (code_in p a) (load ++ (code_in p e ++ operated)) old loads new third m
