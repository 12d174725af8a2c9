-- The code of a typed expression does what the expression does, by induction on the tree.
use Rattle.std.proofs.Common.{◌≡◌, ℕ, suc, ◌+◌, ◌≤◌, ◌==◌, Bool, true, List, [], ◌∷◌, ◌++◌, length, slice_get, Option, Some, refl, sym, ap, ◌∙◌, subst, arith, length-append}
use Rattle.kt_tree.specs.declared.expr.Operation.{Operation}
use Rattle.kt_tree.specs.declared.expr.Request.{Request}
use Rattle.kt_tree.specs.Kinds.{Scope, is_scalar, is_operation, is_request}
use Rattle.kt_tree.specs.Tree.{Expression, Constant', LocalRead, LocalSet, LocalSwapped, Operated, Requested, Modified, Both, Either, Chosen, Called, Expressions, NoMore, More, Function}
use Rattle.kt_tree.specs.Typed.{Kind, Of, kind, types, value_type}
use Rattle.kt_tree.specs.Version.{Program, IsProgram, scope_of}
use Rattle.kt_meaning.specs.Laws.{numbered}
use Rattle.kt_meaning.specs.TreeSteps.{Version}
use Rattle.kt_code.specs.Code.{Code}
use Rattle.kt_code.specs.declared.instr.Instr.{Instr}
use Rattle.kt_code.specs.declared.instr.Instr.TheVariants as instr
use Rattle.kt_genexpr.specs.ExpressionCode.{type_at, count, locals_of, operation_code, request_code, kept_code, conversion_code, storing_code, expression_code, expressions_code}
use Rattle.kt_genexpr.specs.Generates.{HasAt, DoesExpr, DoesCallsUnder, ExpressionsDo, CodesGenerate}
use Rattle.kt_genexpr.proofs.Forms.{Does, DoesAll, does-constant, does-read, does-set, does-swap, does-both, does-either, does-choice, does-none, does-more, does-operated, does-requested, does-called}
use Rattle.kt_genexpr.proofs.Modifying.{does-modified}
use Rattle.kt_genexpr.proofs.OperationCode.{scalar-there, there-is, operation-does}
use Rattle.kt_genexpr.proofs.Places.{has-front, has-back}
use Rattle.kt_genexpr.proofs.RequestCode.{request-does}
use Rattle.kt_genexpr.proofs.Typing.{value-kind, set-value, logical-values, choice-values, modified-values, operation-values, request-values, call-values, called-function, more-values, types-count}

module _ (s : Version) (program : IsProgram s.program) (c : Code) (f : Function) where
  abbrev scope : Scope
  scope = scope_of s.program f

  abbrev code : Expression → List Instr
  code e = expression_code s.program.types s.program.functions e

  abbrev codes : Expressions → List Instr
  codes es = expressions_code s.program.types s.program.functions es

  -- to a place that is given otherwise
  to-place : (n : ℕ) (e : Expression) (p q r : ℕ) → q ≡ r → Does s c n e p q → Does s c n e p r
  to-place n e p q r h d = subst (λ i. Does s c n e p i) h d

  to-place-all : (n : ℕ) (es : Expressions) (p q r : ℕ) → q ≡ r → DoesAll s c n es p q → DoesAll s c n es p r
  to-place-all n es p q r h d = subst (λ i. DoesAll s c n es p i) h d

  module _ (n : ℕ) (calls : DoesCallsUnder s c n) where
    -- wherever its code stands, code does the expression
    abbrev Coded : Expression → Type 0
    Coded e = (p : ℕ) → HasAt c.instrs p (code e) → Does s c n e p (p + length (code e))

    abbrev CodedAll : Expressions → Type 0
    CodedAll es = (p : ℕ) → HasAt c.instrs p (codes es) → DoesAll s c n es p (p + length (codes es))

    -- ---- each form

    set-coded : (i : ℕ) (e : Expression) → Coded e → Coded (LocalSet i e)
    set-coded i e d p h =
        let last = instr.Set i ∷ [] in
        let long = length-append (code e) last in
        to-place n (LocalSet i e) p (suc (p + length (code e))) _ (omega arith)
        (does-set s c i e n p (p + length (code e)) (d p (has-front c.instrs p (code e) last h)) (has-back c.instrs p (code e) last h).0)

    swap-coded : (i : ℕ) (e : Expression) → Coded e → Coded (LocalSwapped i e)
    swap-coded i e d p h =
        let last = instr.Swap i ∷ [] in
        let long = length-append (code e) last in
        to-place n (LocalSwapped i e) p (suc (p + length (code e))) _ (omega arith)
        (does-swap s c i e n p (p + length (code e)) (d p (has-front c.instrs p (code e) last h)) (has-back c.instrs p (code e) last h).0)

    operated-coded : (op : Operation) (t : ℕ) (es : Expressions) (ts : List ℕ) → is_operation scope op t ts ≡ true → length ts ≡ count es → CodedAll es → Coded (Operated op t es)
    operated-coded op t es ts typed counted d p h =
        let last = operation_code s.program.types op t ∷ [] in
        let long = length-append (codes es) last in
        to-place n (Operated op t es) p (suc (p + length (codes es))) _ (omega arith)
        (does-operated s c op t es n p (p + length (codes es)) (d p (has-front c.instrs p (codes es) last h)) (has-back c.instrs p (codes es) last h).0
        (λ x us rest k. operation-does scope c.entries x us rest program.scalars op t ts typed (k ∙ sym counted)))

    requested-coded : (r : Request) (t : Option ℕ) (es : Expressions) (ts : List ℕ) → is_request scope r t ts ≡ true → length ts ≡ count es → CodedAll es → Coded (Requested r t es)
    requested-coded r t es ts typed counted d p h =
        let last = request_code s.program.types r t ∷ [] in
        let long = length-append (codes es) last in
        to-place n (Requested r t es) p (suc (p + length (codes es))) _ (omega arith)
        (does-requested s c r t es n p (p + length (codes es)) (d p (has-front c.instrs p (codes es) last h)) (has-back c.instrs p (codes es) last h).0
        (λ x us rest k. request-does scope c.entries x rest r t ts us typed (k ∙ sym counted)))

    called-coded : (g : ℕ) (callee : Function) (es : Expressions) → slice_get s.program.functions g ≡ Some callee → CodedAll es → Coded (Called g es)
    called-coded g callee es is d p h =
        let last = instr.Call g (count es) (locals_of (slice_get s.program.functions g)) ∷ [] in
        let long = length-append (codes es) last in
        let there = (has-back c.instrs p (codes es) last h).0 in
        to-place n (Called g es) p (suc (p + length (codes es))) _ (omega arith)
        (does-called s c g callee es n p (p + length (codes es)) (d p (has-front c.instrs p (codes es) last h))
        (there ∙ ap (λ o. Some (instr.Call g (count es) (locals_of o))) is) is (calls g callee is))

    both-coded : (a b : Expression) → Coded a → Coded b → Coded (Both a b)
    both-coded a b da db p h =
        let q = p + length (code a) in
        let k = suc (length (code b)) in
        let last = instr.Truth ∷ [] in
        let rest = instr.And k ∷ (code b ++ last) in
        let long = length-append (code a) rest in
        let long' = length-append (code b) last in
        let behind = has-back c.instrs p (code a) rest h in
        to-place n (Both a b) p (suc (suc q + length (code b))) _ (omega arith)
        (does-both s c a b n k p q (suc q + length (code b)) (da p (has-front c.instrs p (code a) rest h)) behind.0
        (db (suc q) (has-front c.instrs (suc q) (code b) last behind.1)) (has-back c.instrs (suc q) (code b) last behind.1).0 (omega arith))

    either-coded : (a b : Expression) → Coded a → Coded b → Coded (Either a b)
    either-coded a b da db p h =
        let q = p + length (code a) in
        let k = suc (length (code b)) in
        let last = instr.Truth ∷ [] in
        let rest = instr.Or k ∷ (code b ++ last) in
        let long = length-append (code a) rest in
        let long' = length-append (code b) last in
        let behind = has-back c.instrs p (code a) rest h in
        to-place n (Either a b) p (suc (suc q + length (code b))) _ (omega arith)
        (does-either s c a b n k p q (suc q + length (code b)) (da p (has-front c.instrs p (code a) rest h)) behind.0
        (db (suc q) (has-front c.instrs (suc q) (code b) last behind.1)) (has-back c.instrs (suc q) (code b) last behind.1).0 (omega arith))

    choice-coded : (test a b : Expression) (t : ℕ) → Coded test → Coded a → Coded b → Coded (Chosen test t a b)
    choice-coded test a b t dt da db p h =
        let q = p + length (code test) in
        let k = suc (length (code a)) in
        let r = suc q + length (code a) in
        let last = instr.Skip (length (code b)) ∷ code b in
        let rest = instr.SkipIfZero k ∷ (code a ++ last) in
        let long = length-append (code test) rest in
        let long' = length-append (code a) last in
        let behind = has-back c.instrs p (code test) rest h in
        let end = has-back c.instrs (suc q) (code a) last behind.1 in
        to-place n (Chosen test t a b) p (suc r + length (code b)) _ (omega arith)
        (does-choice s c test a b t n k (length (code b)) p q r (suc r + length (code b)) (dt p (has-front c.instrs p (code test) rest h)) behind.0
        (da (suc q) (has-front c.instrs (suc q) (code a) last behind.1)) end.0 (db (suc r) end.1) (omega arith) refl)

    modified-coded : (op : Operation) (own t operand : ℕ) (old : Bool) (a e : Expression) → is_scalar scope t ≡ true → is_operation scope op own (t ∷ operand ∷ []) ≡ true →
        Coded a → Coded e → Coded (Modified op own t old a e)
    modified-coded op own t operand old a e scalar takes da de p h =
        let u = type_at s.program.types t in
        let q = p + length (code a) in
        let conversion = conversion_code (own == t) u in
        let stored = conversion ++ storing_code old u ∷ [] in
        let last = operation_code s.program.types op own ∷ stored in
        let kept = kept_code old in
        let middle = kept ++ (code e ++ last) in
        let rest = instr.Fetch u ∷ middle in
        let long = length-append (code a) rest in
        let long' = length-append kept (code e ++ last) in
        let long'' = length-append (code e) last in
        let long3 = length-append conversion (storing_code old u ∷ []) in
        let behind = has-back c.instrs p (code a) rest h in
        let operands = has-back c.instrs (suc q) kept (code e ++ last) behind.1 in
        let at = suc q + length kept in
        to-place n (Modified op own t old a e) p (suc (suc (at + length (code e)) + length conversion)) _ (omega arith)
        (does-modified s c op own t old (there-is (slice_get s.program.types.types t) (scalar-there scope t scalar)) a e (code e) n p q
        (da p (has-front c.instrs p (code a) rest h)) behind (de at (has-front c.instrs at (code e) last operands))
        (λ x before v more. operation-does scope c.entries x (v ∷ before ∷ []) more program.scalars op own (t ∷ operand ∷ []) takes refl))

    more-coded : (e : Expression) (es : Expressions) → Coded e → CodedAll es → CodedAll (More e es)
    more-coded e es d ds p h =
        let q = p + length (code e) in
        let long = length-append (code e) (codes es) in
        to-place-all n (More e es) p (q + length (codes es)) _ (omega arith)
        (does-more s c e es n p q (q + length (codes es)) (d p (has-front c.instrs p (code e) (codes es) h)) (ds q (has-back c.instrs p (code e) (codes es) h)))

    -- ---- all of them

    mutual
      expression-does : (e : Expression) (k : Kind) → kind scope e ≡ Some k → Coded e
      expression-does (Constant' v t) k typed p h = to-place n (Constant' v t) p (suc p) _ (omega arith) (does-constant s c v t n p h.0)
      expression-does (LocalRead i) k typed p h = to-place n (LocalRead i) p (suc p) _ (omega arith) (does-read s c i n p h.0)
      expression-does (LocalSet i e) k typed p h =
          let v = set-value _ _ k typed in set-coded i e (expression-does e (Of v.0) (value-kind (kind scope e) v.0 v.1)) p h
      expression-does (LocalSwapped i e) k typed p h =
          let v = set-value _ _ k typed in swap-coded i e (expression-does e (Of v.0) (value-kind (kind scope e) v.0 v.1)) p h
      expression-does (Operated op t es) k typed p h =
          let taken = operation-values scope t (is_operation scope op t) (types scope es) k typed in
          operated-coded op t es taken.operands taken.taken (types-count scope es taken.operands taken.are) (expressions-do es taken.operands taken.are) p h
      expression-does (Requested r t es) k typed p h =
          let taken = request-values t (is_request scope r t) (types scope es) k typed in
          requested-coded r t es taken.operands taken.taken (types-count scope es taken.operands taken.are) (expressions-do es taken.operands taken.are) p h
      expression-does (Modified op own t old a e) k typed p h =
          let v = modified-values scope own t (is_operation scope op own) (value_type (kind scope a)) (value_type (kind scope e)) k typed in
          modified-coded op own t v.operand old a e v.scalar v.takes_them
          (expression-does a (Of v.pointer) (value-kind (kind scope a) v.pointer v.pointer_is))
          (expression-does e (Of v.operand) (value-kind (kind scope e) v.operand v.operand_is)) p h
      expression-does (Both a b) k typed p h =
          let v = logical-values scope (value_type (kind scope a)) (value_type (kind scope b)) k typed in
          both-coded a b (expression-does a (Of v.0.0) (value-kind (kind scope a) v.0.0 v.0.1)) (expression-does b (Of v.1.0) (value-kind (kind scope b) v.1.0 v.1.1)) p h
      expression-does (Either a b) k typed p h =
          let v = logical-values scope (value_type (kind scope a)) (value_type (kind scope b)) k typed in
          either-coded a b (expression-does a (Of v.0.0) (value-kind (kind scope a) v.0.0 v.0.1)) (expression-does b (Of v.1.0) (value-kind (kind scope b) v.1.0 v.1.1)) p h
      expression-does (Chosen test t a b) k typed p h =
          let v = choice-values scope t (value_type (kind scope test)) (value_type (kind scope a)) (value_type (kind scope b)) k typed in
          choice-coded test a b t
          (expression-does test (Of v.0.0) (value-kind (kind scope test) v.0.0 v.0.1))
          (expression-does a (Of v.1.0) (value-kind (kind scope a) v.1.0 v.1.1))
          (expression-does b (Of v.2.0) (value-kind (kind scope b) v.2.0 v.2.1)) p h
      expression-does (Called g es) k typed p h =
          let v = call-values (slice_get scope.functions g) (types scope es) k typed in
          let callee = called-function s.program f g v.head v.is in
          called-coded g callee.0 es callee.1 (expressions-do es v.operands v.are) p h

      expressions-do : (es : Expressions) (ts : List ℕ) → types scope es ≡ Some ts → CodedAll es
      expressions-do NoMore ts typed p h = to-place-all n NoMore p p _ (omega arith) (does-none s c n p)
      expressions-do (More e es) ts typed p h =
          let v = more-values (value_type (kind scope e)) (types scope es) ts typed in
          more-coded e es (expression-does e (Of v.first) (value-kind (kind scope e) v.first v.first_is)) (expressions-do es v.rest v.rest_is) p h

-- the code of a typed expression does what the expression does
pub expressions-do-it : (s : Version) → IsProgram s.program → (c : Code) → ExpressionsDo s c
expressions-do-it s program c f e k typed p h n calls =
    let le : n ≤ n = omega arith in
    expression-does s program c f n calls e k typed p h n le

pub codes-generate : (p : Program) → IsProgram p → CodesGenerate p
codes-generate p program f e k old typed =
    let code = expression_code p.types p.functions e in
    let long = length-append old code in
    record {
      added = code;
      is = refl;
      does = λ number c n stands calls.
          subst (λ to. DoesExpr (numbered p number) c n e (length old) to) (sym long)
          (expressions-do-it (numbered p number) program c f e k typed (length old) stands n calls);
    }
