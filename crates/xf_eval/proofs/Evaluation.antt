-- Expressions and bodies, as the code runs them.
use Rattle.std.specs.Prelude.{◌≡◌, ℕ, List, [], ◌∷◌, Option, None, Some, Result, Ok, Err, refl}
use Rattle.std.proofs.Common.{sym, ap, ◌∙◌}
use Rattle.kt_types.specs.Table.{Table}
use Rattle.kt_mem.specs.declared.memory.Value.{Value}
use Rattle.kt_mem.specs.declared.steps.Trap.{Trap}
use Rattle.kt_tree.specs.declared.expr.Expr.{Expr}
use Rattle.kt_tree.specs.declared.expr.Operation.{Operation}
use Rattle.kt_tree.specs.declared.expr.Operation.TheVariants as operation
use Rattle.kt_tree.specs.declared.expr.Request.{Request}
use Rattle.kt_tree.specs.declared.expr.Request.TheVariants as request
use Rattle.kt_tree.specs.Tree.{Expression, Expressions, expression_of, expressions_of}
use Rattle.kt_meaning.specs.Operations.{apply_operation}
use Rattle.xf_plan.specs.RuleCode.{Reading, next, evaluate, evaluate_all, requested}
use Rattle.xf_eval.specs.declared.operands.Operands.{Operands}
use Rattle.xf_eval.specs.declared.operands.Operands.TheVariants.{Empty, More}
use Rattle.xf_eval.specs.Operands.{with_one, with_all, gathered, list_of}

-- ---- operands

-- three and more are one
more-all : (vs : List Value) → with_all More vs ≡ More
more-all [] = refl
more-all (v ∷ vs) = more-all vs

applied-many : (types : Table) (op : Operation) (t : ℕ) (a b c : Value) (vs : List Value) →
    apply_operation types op t (list_of More) ≡ apply_operation types op t (a ∷ b ∷ c ∷ vs)
applied-many types operation.Add t a b c vs = refl
applied-many types operation.Subtract t a b c vs = refl
applied-many types operation.Multiply t a b c vs = refl
applied-many types operation.Divide t a b c vs = refl
applied-many types operation.Remainder t a b c vs = refl
applied-many types operation.Less t a b c vs = refl
applied-many types operation.Greater t a b c vs = refl
applied-many types operation.LessEqual t a b c vs = refl
applied-many types operation.GreaterEqual t a b c vs = refl
applied-many types operation.Equal t a b c vs = refl
applied-many types operation.NotEqual t a b c vs = refl
applied-many types operation.Not t a b c vs = refl
applied-many types operation.Convert t a b c vs = refl
applied-many types (operation.ElementAfter e) t a b c vs = refl
applied-many types (operation.ElementBefore e) t a b c vs = refl
applied-many types (operation.ElementsBetween e) t a b c vs = refl
applied-many types (operation.Field n i) t a b c vs = refl

applied : (types : Table) (op : Operation) (t : ℕ) (vs : List Value) →
    apply_operation types op t (list_of (with_all Empty vs)) ≡ apply_operation types op t vs
applied types op t [] = refl
applied types op t (a ∷ []) = refl
applied types op t (a ∷ b ∷ []) = refl
applied types op t (a ∷ b ∷ c ∷ vs) =
    ap (λ os. apply_operation types op t (list_of os)) (more-all vs) ∙ applied-many types op t a b c vs

loaded-many : (r : Reading) (t : Option ℕ) (a b c : Value) (vs : List Value) →
    requested r request.Load t (list_of More) ≡ requested r request.Load t (a ∷ b ∷ c ∷ vs)
loaded-many r None a b c vs = refl
loaded-many r (Some t) a b c vs = refl

asked : (r : Reading) (q : Request) (t : Option ℕ) (vs : List Value) → requested r q t (list_of (with_all Empty vs)) ≡ requested r q t vs
asked r q t [] = refl
asked r q t (a ∷ []) = refl
asked r q t (a ∷ b ∷ []) = refl
asked r q t (a ∷ b ∷ c ∷ vs) = ap (λ os. requested r q t (list_of os)) (more-all vs) ∙ many q
  where
    many : (q : Request) → requested r q t (list_of More) ≡ requested r q t (a ∷ b ∷ c ∷ vs)
    many request.Load = loaded-many r t a b c vs
    many _ = refl

-- what is done with operands, once all have their values
pub with-operands : (f : List Value → Result Value Trap) (all : Result (List Value) Trap) (os : Operands) →
    ((vs : List Value) → f (list_of (with_all Empty vs)) ≡ f vs) → Ok os ≡ gathered Empty all → f (list_of os) ≡ next all f
with-operands f (Ok vs) os h e = let same : os ≡ with_all Empty vs = cc in ap (λ o. f (list_of o)) same ∙ h vs
with-operands f (Err t) os h e = let never : ⊥ = cc in absurd never

pub without-operands : (f : List Value → Result Value Trap) (all : Result (List Value) Trap) (t : Trap) → Err t ≡ gathered Empty all → Err t ≡ next all f
without-operands f (Ok vs) t e = let never : ⊥ = cc in absurd never
without-operands f (Err u) t e = let same : t ≡ u = cc in ap (λ x. Err x) same

pub operated : (r : Reading) (op : Operation) (t : ℕ) (es : Expressions) (os : Operands) → Ok os ≡ gathered Empty (evaluate_all r es) →
    apply_operation r.types op t (list_of os) ≡ next (evaluate_all r es) (apply_operation r.types op t)
operated r op t es os e = with-operands (apply_operation r.types op t) (evaluate_all r es) os (applied r.types op t) e

pub asked-of : (r : Reading) (q : Request) (t : Option ℕ) (es : Expressions) (os : Operands) → Ok os ≡ gathered Empty (evaluate_all r es) →
    requested r q t (list_of os) ≡ next (evaluate_all r es) (requested r q t)
asked-of r q t es os e = with-operands (requested r q t) (evaluate_all r es) os (asked r q t) e

-- one operand more
pub gather-more : (r : Reading) (os : Operands) (e : Expr) (es : List Expr) (v : Value) → Ok v ≡ evaluate r (expression_of e) →
    gathered (with_one os v) (evaluate_all r (expressions_of es)) ≡ gathered os (evaluate_all r (expressions_of (e ∷ es)))
gather-more r os e es v h = rw (← h) (by (evaluate_all r (expressions_of es)))
  where
    by : (all : Result (List Value) Trap) → gathered (with_one os v) all ≡ gathered os (next all (λ vs. Ok (v ∷ vs)))
    by (Ok vs) = refl
    by (Err t) = refl

pub gather-trapped : (r : Reading) (os : Operands) (e : Expr) (es : List Expr) (t : Trap) → Err t ≡ evaluate r (expression_of e) →
    Err t ≡ gathered os (evaluate_all r (expressions_of (e ∷ es)))
gather-trapped r os e es t h = rw (← h) refl

-- ---- expressions by their form

pub as-form : (r : Reading) (e : Expr) (x : Expression) (v : Result Value Trap) → expression_of e ≡ x → v ≡ evaluate r x → v ≡ evaluate r (expression_of e)
as-form r e x v is h = h ∙ ap (evaluate r) (sym is)
