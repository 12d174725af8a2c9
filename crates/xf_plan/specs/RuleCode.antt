-- What rule code gives: an expression over the old version's memory, and the bodies of rules. An expression traps as one of C does
-- (ISO/IEC 9899:2011, 6.5), a load of the undefined value with `uninit`.
use Rattle.std.specs.Prelude.{ℕ, Bool, true, false, List, [], ◌∷◌, slice_get, Option, None, Some, Result, Ok, Err}
use Rattle.kt_types.specs.declared.kinds.Ty.{Ty}
use Rattle.kt_types.specs.Table.{Table}
use Rattle.kt_mem.specs.declared.memory.Name.TheVariants.{Glob}
use Rattle.kt_mem.specs.declared.memory.Value.{Value}
use Rattle.kt_mem.specs.declared.memory.Value.TheVariants.{Ptr}
use Rattle.kt_mem.specs.declared.memory.Value.TheVariants as value
use Rattle.kt_mem.specs.declared.steps.Trap.{Trap}
use Rattle.kt_mem.specs.declared.steps.Trap.TheVariants as trap
use Rattle.kt_mem.specs.Arithmetic.{narrowed}
use Rattle.kt_mem.specs.Comparisons.{zero_test}
use Rattle.kt_mem.specs.Memory.{Memory, load, zero_value}
use Rattle.kt_mem.specs.Values.{truth}
use Rattle.kt_tree.specs.declared.expr.Constant.{Constant}
use Rattle.kt_tree.specs.declared.expr.Constant.TheVariants as constant
use Rattle.kt_tree.specs.declared.expr.Request.{Request}
use Rattle.kt_tree.specs.declared.expr.Request.TheVariants as request
use Rattle.kt_tree.specs.Tree.{Expression, Constant', LocalRead, Operated, Requested, Both, Either, Chosen, Expressions, NoMore, More}
use Rattle.kt_meaning.specs.Operations.{apply_operation}
use Rattle.kt_meaning.specs.Thread.{defined_if}
use Rattle.xf_plan.specs.Bodies.{Given, Number, Null, Transformed, New, Action, Assigned, Conditional, Compound, Actions, Done, Then}
use Rattle.xf_plan.specs.Bodies as body
use Rattle.xf_plan.specs.declared.value.PreValue.{PreValue}
use Rattle.xf_plan.specs.declared.value.PreValue.TheVariants.{Plain, OldPointer, Fresh}

-- what rule code reads: the types and the memory of the old version, and the values of `$in` and `$base`
pub record Reading : Type 0 where
  pub types : Table
  pub memory : Memory
  pub locals : List Value

-- the next answer, unless there was a trap
abbrev pub next : {A B : Type 0} → Result A Trap → (A → Result B Trap) → Result B Trap
next (Ok x) f = f x
next (Err t) f = Err t

-- by whether a value is zero or null: first where it is
abbrev pub if_zero : {A : Type 0} → Result Value Trap → Result A Trap → Result A Trap → Result A Trap
if_zero v zero other = next (next v zero_test) (λ b. if_true b zero other)
  where
    if_true : {A : Type 0} → Bool → A → A → A
    if_true true x y = x
    if_true false x y = y

-- ---- expressions

-- rule code has no string
abbrev pub constant_value : Constant → Result Value Trap
constant_value (constant.Number n) = Ok (value.Num n)
constant_value constant.Null = Ok value.Null
constant_value (constant.Global g) = Ok (Ptr (Glob g) 0)
constant_value (constant.Literal n) = Err trap.Uninit

abbrev pub load_at : Memory → Option Ty → Value → Result Value Trap
load_at m None p = Err trap.Uninit
load_at m (Some t) p = load m p t

abbrev pub loaded : Reading → Option ℕ → List Value → Result Value Trap
loaded r (Some t) (p ∷ []) = load_at r.memory (slice_get r.types.types t) p
loaded r _ _ = Err trap.Uninit

-- rule code has loads alone
abbrev pub requested : Reading → Request → Option ℕ → List Value → Result Value Trap
requested r request.Load t vs = loaded r t vs
requested r _ t vs = Err trap.Uninit

abbrev pub truth_of : Result Value Trap → Result Value Trap
truth_of v = if_zero v (Ok (truth false)) (Ok (truth true))

-- operands from the left, and of `&&`, `||` and `?:` only what is needed
abbrev mutual
  pub evaluate : Reading → Expression → Result Value Trap
  evaluate r (Constant' c t) = constant_value c
  evaluate r (LocalRead n) = defined_if (slice_get r.locals n)
  evaluate r (Operated op t es) = next (evaluate_all r es) (apply_operation r.types op t)
  evaluate r (Requested q t es) = next (evaluate_all r es) (requested r q t)
  evaluate r (Both a b) = if_zero (evaluate r a) (Ok (truth false)) (truth_of (evaluate r b))
  evaluate r (Either a b) = if_zero (evaluate r a) (truth_of (evaluate r b)) (Ok (truth true))
  evaluate r (Chosen c t a b) = if_zero (evaluate r c) (evaluate r b) (evaluate r a)
  evaluate r _ = Err trap.Uninit

  pub evaluate_all : Reading → Expressions → Result (List Value) Trap
  evaluate_all r NoMore = Ok []
  evaluate_all r (More e es) = next (evaluate r e) (λ v. next (evaluate_all r es) (λ vs. Ok (v ∷ vs)))

-- ---- bodies

-- what is assigned to a target of this type
abbrev pub given : Reading → Ty → Given → Result PreValue Trap
given r t (Number e) = next (next (evaluate r e) (narrowed t)) (λ v. Ok (Plain v))
given r t Null = Ok (Plain value.Null)
given r t (Transformed e) = next (evaluate r e) (λ v. Ok (OldPointer v))
given r t (New u n) = Ok (Fresh u n)
given r t (body.Chosen c a b) = if_zero (evaluate r c) (given r t b) (given r t a)

-- the value that was assigned last, where this one was before
abbrev mutual
  pub after_action : Reading → Ty → PreValue → Action → Result PreValue Trap
  after_action r t before (Assigned g) = given r t g
  after_action r t before (Conditional c a b) = if_zero (evaluate r c) (after_action r t before b) (after_action r t before a)
  after_action r t before (Compound acts) = after_actions r t before acts

  pub after_actions : Reading → Ty → PreValue → Actions → Result PreValue Trap
  after_actions r t before Done = Ok before
  after_actions r t before (Then a rest) = next (after_action r t before a) (λ v. after_actions r t v rest)

-- what a body gives to a target of this type: the value assigned last; zero or null where none was
abbrev pub body_value : Reading → Ty → Actions → Result PreValue Trap
body_value r t acts = after_actions r t (Plain (zero_value t)) acts
