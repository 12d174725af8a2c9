-- `malloc` by how its argument is written.
use Rattle.std.proofs.Common.{◌≡◌, ℕ, Bool, true, false, List, [], ◌∷◌, length, map, get_or, Option, Some, None, Result, true≢false, refl, sym, ap, ◌∙◌, subst, arith}
use denote.Hole.Carrier.{hidden}
use Rattle.kt_grammar.specs.declared.operator.BinaryOperator.{BinaryOperator}
use Rattle.kt_grammar.specs.declared.operator.BinaryOperator.TheVariants as binary
use Rattle.kt_grammar.specs.declared.tree.Expr.TheBlock.{hidden-the_row-Expr-1}
use Rattle.kt_grammar.specs.declared.tree.Expr.{Expr, Call', Paren', Transform', Index', Field', Arrow', Step', Prefix', Cast', Binary', Choice', Assign', end_of-Expr, more_of-Expr}
use Rattle.kt_grammar.specs.declared.tree.Expr.TheVariants as expr
use Rattle.kt_grammar.specs.Tree.{Term, Called, SizeOf, Operated, Terms, Nothing, More, term_of, terms_of}
use Rattle.kt_names.specs.declared.builtin.Builtin.TheVariants as builtin
use Rattle.kt_names.specs.declared.fault.CheckFault.TheVariants.{BadType}
use Rattle.kt_grammar.specs.declared.tree.Name.{Name}
use Rattle.kt_names.specs.declared.builtin.Builtin.{Builtin}
use Rattle.kt_names.specs.declared.operand.Operand.{Operand as OperandCode}
use Rattle.kt_names.specs.declared.fault.CheckFault.{CheckFault}
use Rattle.kt_names.specs.Checked.{Checked, fault, and_then}
use Rattle.kt_names.specs.Judges.{Judges}
use Rattle.kt_names.specs.Views.{operand_of}
use Rattle.kt_names.specs.Operands.{Operand}
use Rattle.kt_names.specs.Environment.{Environment, local_named}
use Rattle.kt_names.specs.Builtins.{Argument, builtin_named}
use Rattle.kt_names.specs.Terms.{typing, typing_all, argument, builtin_call, callable, called_function, is_malloc, takes_memory}
use Rattle.kt_terms.specs.Spellings.{spelling_of}
use Rattle.kt_terms.specs.Specials.{memory_by, operation_by, memory_call, is_operated}
use Rattle.kt_terms.proofs.Syntax.{operated-is}

-- an operation of the syntax is one of its operator and its sides
operation-itself : (op : BinaryOperator) (a b : Expr) → Binary' op _ (more_of-Expr a end_of-Expr) _ (more_of-Expr b end_of-Expr) ≡ expr.Binary op a b
unfolding hidden-the_row-Expr-1 hidden
operation-itself op a b = refl

-- what is no operation of the syntax is none as plain data
not-operated : (e : Expr) → ((op : BinaryOperator) → (a b : Expr) → e ≡ expr.Binary op a b → ⊥) → is_operated (term_of e) ≡ false
not-operated (Binary' op p (more_of-Expr a end_of-Expr) q (more_of-Expr b end_of-Expr)) h = absurd (h op a b (operation-itself op a b))
not-operated (Paren' at p (more_of-Expr a end_of-Expr)) h = refl
not-operated (Transform' at p (more_of-Expr a end_of-Expr)) h = refl
not-operated (Index' p (more_of-Expr a end_of-Expr) q (more_of-Expr i end_of-Expr)) h = refl
not-operated (Field' p (more_of-Expr a end_of-Expr) name) h = refl
not-operated (Arrow' p (more_of-Expr a end_of-Expr) name) h = refl
not-operated (Step' p (more_of-Expr a end_of-Expr) op) h = refl
not-operated (Prefix' at op p (more_of-Expr a end_of-Expr)) h = refl
not-operated (Cast' at type p (more_of-Expr a end_of-Expr)) h = refl
not-operated (Choice' p (more_of-Expr c end_of-Expr) q (more_of-Expr a end_of-Expr) r (more_of-Expr b end_of-Expr)) h = refl
not-operated (Assign' op p (more_of-Expr a end_of-Expr) q (more_of-Expr b end_of-Expr)) h = refl
not-operated (Call' name p row) h = refl
not-operated (expr.Number at n) h = refl
not-operated (expr.Character at b) h = refl
not-operated (expr.Text at bytes) h = refl
not-operated (expr.Null at) h = refl
not-operated (expr.Eof at) h = refl
not-operated (expr.Name name) h = refl
not-operated (expr.SizeOf at type) h = refl
not-operated (expr.Rule at word) h = refl
not-operated (expr.OldSymbol at name) h = refl
not-operated (expr.New at fresh) h = refl

module _ (env : Environment) (up : ℕ) where
  -- one argument that is no operation
  pub memory-one : (e : Term) → is_operated e ≡ false → memory_call env up (More e Nothing) ≡ memory_by env up (spelling_of e) (argument e (typing env e))
  memory-one (SizeOf at t) h = refl
  memory-one (Operated op a b) h = absurd (true≢false h)
  memory-one e h = refl

  -- a product, and another operation
  product-is : (a b : Term) → memory_call env up (More (Operated binary.Multiply a b) Nothing) ≡ operation_by env up binary.Multiply (spelling_of a) (spelling_of b) (argument a (typing env a)) (argument b (typing env b))
  product-is a (SizeOf at t) = refl
  product-is (SizeOf at t) b = refl
  product-is a b = refl

  pub memory-operation : (op : BinaryOperator) (a b : Term)
      → memory_call env up (More (Operated op a b) Nothing) ≡ operation_by env up op (spelling_of a) (spelling_of b) (argument a (typing env a)) (argument b (typing env b))
  memory-operation binary.Multiply a b = product-is a b
  memory-operation op a b = refl

  -- more arguments than one
  product-many : (values : List Argument) (a b f : Term) (rest : Terms) → builtin_call env up builtin.Malloc values (More (Operated binary.Multiply a b) (More f rest)) ≡ fault (BadType up)
  product-many values a (SizeOf at t) f rest = refl
  product-many values (SizeOf at t) b f rest = refl
  product-many values a b f rest = refl

  operation-many : (values : List Argument) (op : BinaryOperator) (a b f : Term) (rest : Terms) → builtin_call env up builtin.Malloc values (More (Operated op a b) (More f rest)) ≡ fault (BadType up)
  operation-many values binary.Multiply a b f rest = product-many values a b f rest
  operation-many values op a b f rest = refl

  memory-many-by : (values : List Argument) (e f : Term) (rest : Terms) → builtin_call env up builtin.Malloc values (More e (More f rest)) ≡ fault (BadType up)
  memory-many-by values (SizeOf at t) f rest = refl
  memory-many-by values (Operated op a b) f rest = operation-many values op a b f rest
  memory-many-by values e f rest = refl

  -- as many arguments as there shouldn't be
  pub memory-many : (es : List Expr) → (length es ≡ 1 → ⊥) → memory_call env up (terms_of (map term_of es)) ≡ fault (BadType up)
  memory-many [] h = refl
  memory-many (e ∷ []) h = absurd (h refl)
  memory-many (e ∷ f ∷ es) h = memory-many-by _ (term_of e) (term_of f) (terms_of (map term_of es))

-- ---- the answers of calls of `malloc`

only-one : (es : List Expr) (e : Expr) → length es ≡ 1 → e ≡ get_or es 0 e → es ≡ e ∷ []
only-one [] e h is = absurd (omega arith)
only-one (x ∷ []) e h is = ap (λ (y : Expr). y ∷ []) (sym is)
only-one (x ∷ y ∷ es) e h is = absurd (omega arith)

module _ (env : Environment) (up : ℕ) (args es : List Expr) (e : Expr) (r : Result OperandCode CheckFault) (same : es ≡ args) (one : length es ≡ 1) (at : e ≡ get_or es 0 e) where
  of-one : memory_call env up (terms_of (map term_of args)) ≡ memory_call env up (More (term_of e) Nothing)
  of-one = ap (λ (xs : List Expr). memory_call env up (terms_of (map term_of xs))) (sym same ∙ only-one es e one at)

  pub operation-judged : (op : BinaryOperator) (a b : Expr) → e ≡ expr.Binary op a b
      → Judges operand_of r (operation_by env up op (spelling_of (term_of a)) (spelling_of (term_of b)) (argument (term_of a) (typing env (term_of a))) (argument (term_of b) (typing env (term_of b))))
      → Judges operand_of r (memory_call env up (terms_of (map term_of args)))
  operation-judged op a b is j =
      let P : Checked Operand → Type 0 = λ s. Judges operand_of r s in
      let form : term_of e ≡ Operated op (term_of a) (term_of b) = ap term_of is ∙ operated-is op a b in
      subst P (sym (of-one ∙ ap (λ (t : Term). memory_call env up (More t Nothing)) form ∙ memory-operation env up op (term_of a) (term_of b))) j

  pub one-judged : ((op : BinaryOperator) → (a b : Expr) → e ≡ expr.Binary op a b → ⊥)
      → Judges operand_of r (memory_by env up (spelling_of (term_of e)) (argument (term_of e) (typing env (term_of e)))) → Judges operand_of r (memory_call env up (terms_of (map term_of args)))
  one-judged h j =
      let P : Checked Operand → Type 0 = λ s. Judges operand_of r s in
      subst P (sym (of-one ∙ memory-one env up (term_of e) (not-operated e h))) j

-- what the name of `malloc` calls
module _ (env : Environment) (n : Name) (args : Terms) where
  named-by : (o : Option ℕ) (b : Option Builtin) → elim o as (λ _. Bool) [ None ↦ is_malloc b | (Some x) ↦ false ] ≡ true
      → memory_call env n.at args ≡ elim o as (λ _. Checked Operand) [
        | (Some x) ↦ fault (BadType n.at)
        | None ↦ elim b as (λ _. Checked Operand) [
          | None ↦ and_then (callable env n) (λ d. called_function env n.at d (typing_all env args))
          | (Some b) ↦ builtin_call env n.at b (typing_all env args) args
        ]
      ]
  named-by (Some x) b h = absurd (true≢false (sym h))
  named-by None None h = absurd (true≢false (sym h))
  named-by None (Some builtin.Malloc) h = refl
  named-by None (Some b) h = absurd (true≢false (sym h))

  pub memory-named : takes_memory env n ≡ true → memory_call env n.at args ≡ typing env (Called n args)
  memory-named h = named-by (local_named env.visible n.word) (builtin_named n.word) h
