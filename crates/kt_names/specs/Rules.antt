-- One rule for each operator (ISO/IEC 9899:2011, 6.5). `at` is where the whole expression begins, which is where its left
-- operand begins; `right` is where its right operand begins.
use Rattle.std.specs.Prelude.{ℕ, nat_le, pos, ◌==◌, ◌&&◌, ◌||◌, not, Bool, true, false, Ok, Option, Some, None, if◌then◌else◌}
use Rattle.kt_lex.specs.declared.number.Number.{Number}
use Rattle.kt_lex.specs.Numbers.{greatest}
use Rattle.kt_grammar.specs.declared.operator.BinaryOperator.{BinaryOperator}
use Rattle.kt_grammar.specs.declared.operator.BinaryOperator.TheVariants as binary
use Rattle.kt_grammar.specs.declared.operator.AssignOperator.{AssignOperator}
use Rattle.kt_grammar.specs.declared.operator.AssignOperator.TheVariants as assign
use Rattle.kt_grammar.specs.declared.operator.PrefixOperator.{PrefixOperator}
use Rattle.kt_grammar.specs.declared.operator.PrefixOperator.TheVariants as prefix
use Rattle.kt_grammar.specs.declared.operator.StepOperator.{StepOperator}
use Rattle.kt_grammar.specs.declared.operator.StepOperator.TheVariants as step
use Rattle.kt_grammar.specs.declared.tree.Name.{Name}
use Rattle.kt_tree.specs.declared.expr.Operation.{Operation}
use Rattle.kt_tree.specs.declared.expr.Operation.TheVariants as operation
use Rattle.kt_tree.specs.declared.expr.Request.TheVariants as request
use Rattle.kt_tree.specs.Tree.{Expression, LocalRead, LocalSet, LocalSwapped, Operated, Requested, Modified, Both, Either, Chosen, NoMore, More}
use Rattle.kt_names.specs.declared.ctype.CType.{CType}
use Rattle.kt_names.specs.Types.{int, long, pointer_to, pointee, is_integer, is_pointer, is_scalar, same_ctype, common}
use Rattle.kt_names.specs.declared.fault.CheckFault.TheVariants.{Unknown, BadType, Incomplete}
use Rattle.kt_names.specs.Checked.{Checked, fault, and_then, both, found}
use Rattle.kt_names.specs.Environment.{Environment, Struct, Found, is_struct, struct_in, is_complete, field_from}
use Rattle.kt_names.specs.Operands.{Operand, Valued, Zero, Null, LocalPlace, CellPlace, ArrayPlace, WholePlace, Value, value_of_type, number_value, zero, null_of, value, scalar, integer, pointer, converted_to, convert}

abbrev pub operated : Environment → Operation → CType → Expression → Expression → Expression
operated env op t a b = Operated op (env.place t) (More a (More b NoMore))

-- ---- constants

-- the type of a number: an `int` has no suffix and is at most 2,147,483,647 (6.4.4.1)
abbrev pub number_type : Number → CType
number_type n = if n.long || not (nat_le n.value 2147483647) then long else int

-- A number; the one spelled `0` converts to pointers. (No token's number is above 9,223,372,036,854,775,807.)
abbrev pub number : Environment → ℕ → Number → Checked Operand
number env at n =
    if (n.value == 0) && not n.long && not n.hexadecimal then Ok Zero
    else (if nat_le n.value greatest then Ok (Valued (number_type n) (number_value env (number_type n) (pos n.value)))
    else fault (BadType at))

-- ---- places

-- the place of a type at a pointer to it
abbrev pub place_at : CType → Expression → Operand
place_at t p = if is_scalar t then CellPlace t p else WholePlace t p

-- `a[i]`
abbrev pub element_place : Environment → ℕ → Value → Value → Option CType → Checked Operand
element_place env at p i None = fault (BadType at)
element_place env at p i (Some e) =
    if is_complete env e then Ok (place_at e (operated env (operation.ElementAfter (env.place e)) p.ty p.expression i.expression))
    else fault (Incomplete at)

abbrev pub element : Environment → ℕ → ℕ → Operand → Operand → Checked Operand
element env at right a i =
    and_then (both (pointer env at at a) (integer env right at i)) (λ x. element_place env at x.0 x.1 (pointee x.0.ty))

-- the place of a field: an array field is one of its elements' type
abbrev pub field_pointer : Environment → ℕ → Expression → Found → Expression
field_pointer env s p f = Operated (operation.Field s f.index) (env.place (pointer_to f.field.ty)) (More p NoMore)

abbrev pub field_of : Environment → ℕ → Expression → Found → Operand
field_of env s p f =
    if f.field.array then ArrayPlace f.field.ty (field_pointer env s p f) else place_at f.field.ty (field_pointer env s p f)

-- the field of a struct at a pointer, where the struct is defined before here
abbrev pub field_place : Environment → ℕ → Expression → Name → Option Struct → Checked Operand
field_place env at p f None = fault (Incomplete at)
field_place env at p f (Some d) = and_then (found (field_from 0 d.fields f.word) (Unknown f.at)) (λ x. Ok (field_of env d.number p x))

abbrev pub struct_field : Environment → ℕ → Expression → Name → CType → Checked Operand
struct_field env at p f t = if is_struct t then field_place env at p f (struct_in env t) else fault (BadType at)

-- `s.f`
abbrev pub member : Environment → ℕ → Operand → Name → Checked Operand
member env at (WholePlace t p) f = struct_field env at p f t
member env at _ f = fault (BadType at)

abbrev pub pointed_field : Environment → ℕ → Expression → Name → Option CType → Checked Operand
pointed_field env at p f None = fault (BadType at)
pointed_field env at p f (Some t) = struct_field env at p f t

-- `p->f`
abbrev pub pointed : Environment → ℕ → Operand → Name → Checked Operand
pointed env at a f = and_then (pointer env at at a) (λ p. pointed_field env at p.expression f (pointee p.ty))

-- ---- arithmetic

-- what an operation is done at, and which it is
pub record Combined : Type 0 where
  pub operation : Operation
  pub own : CType

abbrev pub arithmetic_of : BinaryOperator → Option Operation
arithmetic_of binary.Add = Some operation.Add
arithmetic_of binary.Subtract = Some operation.Subtract
arithmetic_of binary.Multiply = Some operation.Multiply
arithmetic_of binary.Divide = Some operation.Divide
arithmetic_of binary.Remainder = Some operation.Remainder
arithmetic_of _ = None

abbrev pub comparison_of : BinaryOperator → Option Operation
comparison_of binary.Less = Some operation.Less
comparison_of binary.Greater = Some operation.Greater
comparison_of binary.LessEqual = Some operation.LessEqual
comparison_of binary.GreaterEqual = Some operation.GreaterEqual
comparison_of binary.Equal = Some operation.Equal
comparison_of binary.NotEqual = Some operation.NotEqual
comparison_of _ = None

-- a pointer so many elements on or back
abbrev pub moving_of : BinaryOperator → ℕ → Option Operation
moving_of binary.Add e = Some (operation.ElementAfter e)
moving_of binary.Subtract e = Some (operation.ElementBefore e)
moving_of _ e = None

abbrev pub moved : Environment → ℕ → CType → Option CType → BinaryOperator → Checked Combined
moved env at t None op = fault (BadType at)
moved env at t (Some e) op =
    and_then (found (moving_of op (env.place e)) (BadType at)) (λ m. if is_complete env e then Ok (record { operation = m; own = t }) else fault (Incomplete at))

-- the operation of two integers, or of a pointer and an integer
unfoldable pub combined : Environment → ℕ → BinaryOperator → CType → CType → Checked Combined
combined env at op a b =
    if is_integer a && is_integer b
    then and_then (found (arithmetic_of op) (BadType at)) (λ o. Ok (record { operation = o; own = common a b }))
    else (if is_integer b then moved env at a (pointee a) op
    else fault (BadType at))

abbrev pub elements_between : Environment → ℕ → Value → Value → Option CType → Checked Operand
elements_between env at p q None = fault (BadType at)
elements_between env at p q (Some e) =
    if is_complete env e then Ok (Valued long (operated env (operation.ElementsBetween (env.place e)) long p.expression q.expression))
    else fault (Incomplete at)

abbrev pub in_order : Environment → Combined → Value → Value → Operand
in_order env c a b = Valued c.own (operated env c.operation c.own a.expression b.expression)

-- `a + b` and its kin, of values: an integer may stand before the pointer that it moves
abbrev pub sum_of : Environment → ℕ → BinaryOperator → Value → Value → Checked Operand
sum_of env at binary.Subtract a b =
    if is_pointer a.ty && same_ctype a.ty b.ty then elements_between env at a b (pointee a.ty)
    else and_then (combined env at binary.Subtract a.ty b.ty) (λ c. Ok (in_order env c a b))
sum_of env at binary.Add a b =
    if is_integer a.ty && is_pointer b.ty then and_then (combined env at binary.Add b.ty a.ty) (λ c. Ok (in_order env c a b))
    else and_then (combined env at binary.Add a.ty b.ty) (λ c. Ok (in_order env c a b))
sum_of env at op a b = and_then (combined env at op a.ty b.ty) (λ c. Ok (in_order env c a b))

-- ---- comparisons and logic

-- two integers, or two pointers of one type
abbrev pub comparable : CType → CType → Bool
comparable a b = (is_integer a && is_integer b) || (is_pointer a && same_ctype a b)

abbrev pub compared : Environment → ℕ → Operation → Value → Value → Checked Operand
compared env at op a b =
    if comparable a.ty b.ty then Ok (Valued int (operated env op int a.expression b.expression)) else fault (BadType at)

-- `==` and `!=` compare null with a pointer too, and with null
unfoldable pub with_null : Environment → ℕ → ℕ → Operand → Operand → Checked (Value × Value)
with_null env at right Null Null = both (scalar env at at Null) (scalar env right at Null)
with_null env at right Null b = and_then (pointer env right at b) (λ v. Ok (value_of_type v.ty (null_of env v.ty), v))
with_null env at right a Null = and_then (pointer env at at a) (λ v. Ok (v, value_of_type v.ty (null_of env v.ty)))
with_null env at right a b = both (value env at at a) (value env right at b)

abbrev pub equal : Environment → ℕ → ℕ → Operation → Operand → Operand → Checked Operand
equal env at right op a b = and_then (with_null env at right a b) (λ x. compared env at op x.0 x.1)

-- an operator of two values that is no `&&`, `||`, `==` or `!=`
abbrev pub of_values : Environment → ℕ → BinaryOperator → Value → Value → Checked Operand
of_values env at op a b = elim (comparison_of op) as (λ _. Checked Operand) [ None ↦ sum_of env at op a b | (Some o) ↦ compared env at o a b ]

-- a binary operator
abbrev pub operator : Environment → ℕ → ℕ → BinaryOperator → Operand → Operand → Checked Operand
operator env at right binary.And a b = and_then (both (scalar env at at a) (scalar env right at b)) (λ x. Ok (Valued int (Both x.0.expression x.1.expression)))
operator env at right binary.Or a b = and_then (both (scalar env at at a) (scalar env right at b)) (λ x. Ok (Valued int (Either x.0.expression x.1.expression)))
operator env at right binary.Equal a b = equal env at right operation.Equal a b
operator env at right binary.NotEqual a b = equal env at right operation.NotEqual a b
operator env at right op a b =
    and_then (both (value env at at a) (value env right at b)) (λ x. of_values env at op x.0 x.1)

-- `c ? a : b`, whose arms begin at `one` and `other`
abbrev pub arms : Value → Value → Option CType
arms a b =
    if is_integer a.ty && is_integer b.ty then Some (common a.ty b.ty)
    else (if is_pointer a.ty && same_ctype a.ty b.ty then Some a.ty else None)

-- one arm may be null, which is then of the other's type
unfoldable pub arm_values : Environment → ℕ → ℕ → ℕ → Operand → Operand → Checked (Value × Value)
arm_values env at one other Null Null = both (scalar env one at Null) (scalar env other at Null)
arm_values env at one other Null b = and_then (pointer env other at b) (λ v. Ok (value_of_type v.ty (null_of env v.ty), v))
arm_values env at one other a Null = and_then (pointer env one at a) (λ v. Ok (v, value_of_type v.ty (null_of env v.ty)))
arm_values env at one other a b = both (value env one at a) (value env other at b)

-- a choice between two values of one type
abbrev pub chosen_of : Environment → ℕ → Value × (Value × Value) → Checked Operand
chosen_of env at x =
    and_then (found (arms x.1.0 x.1.1) (BadType at)) (λ t. Ok (Valued t (Chosen x.0.expression (env.place t) x.1.0.expression x.1.1.expression)))

abbrev pub choice : Environment → ℕ → ℕ → ℕ → Operand → Operand → Operand → Checked Operand
choice env at one other c a b =
    and_then (both (scalar env at at c) (arm_values env at one other a b)) (chosen_of env at)

-- ---- assignment and the unary operators

abbrev pub compound_of : AssignOperator → Option BinaryOperator
compound_of assign.Assign = None
compound_of assign.Add = Some binary.Add
compound_of assign.Subtract = Some binary.Subtract
compound_of assign.Multiply = Some binary.Multiply
compound_of assign.Divide = Some binary.Divide
compound_of assign.Remainder = Some binary.Remainder

-- what is combined with a local's value, as the local takes it
abbrev pub local_combined : Environment → ℕ → CType → Combined → Value → Expression
local_combined env x t c v = converted_to env t (value_of_type c.own (operated env c.operation c.own (LocalRead x) v.expression))

abbrev pub local_changed : Bool → ℕ → Expression → Expression
local_changed false x e = LocalSet x e
local_changed true x e = LocalSwapped x e

-- `x op= e`; with `old` the value of the whole is the one before
abbrev pub changed : Environment → ℕ → Bool → BinaryOperator → Operand → Value → Checked Operand
changed env at old op (LocalPlace x t) v = and_then (combined env at op t v.ty) (λ c. Ok (Valued t (local_changed old x (local_combined env x t c v))))
changed env at old op (CellPlace t p) v = and_then (combined env at op t v.ty) (λ c. Ok (Valued t (Modified c.operation (env.place c.own) (env.place t) old p v.expression)))
changed env at old op _ v = fault (BadType at)

-- `x = e`
abbrev pub assigned : Environment → ℕ → ℕ → Operand → Operand → Checked Operand
assigned env at right (LocalPlace x t) e = and_then (convert env t right at e) (λ v. Ok (Valued t (LocalSet x v)))
assigned env at right (CellPlace t p) e = and_then (convert env t right at e) (λ v. Ok (Valued t (Requested request.Store (Some (env.place t)) (More p (More v NoMore)))))
assigned env at right _ e = fault (BadType at)

abbrev pub assignment : Environment → ℕ → ℕ → AssignOperator → Operand → Operand → Checked Operand
assignment env at right op a e =
    elim (compound_of op) as (λ _. Checked Operand)
    [ None ↦ assigned env at right a e | (Some o) ↦ and_then (value env right at e) (λ v. changed env at false o a v) ]

abbrev pub one : Environment → Value
one env = value_of_type int (number_value env int (pos 1))

abbrev pub step_operator : StepOperator → BinaryOperator
step_operator step.Increment = binary.Add
step_operator step.Decrement = binary.Subtract

-- `*p`
abbrev pub dereferenced : ℕ → Value → Option CType → Checked Operand
dereferenced at p None = fault (BadType at)
dereferenced at p (Some e) = Ok (place_at e p.expression)

-- `&x`
abbrev pub address_of : ℕ → Operand → Checked Operand
address_of at (CellPlace t p) = Ok (Valued (pointer_to t) p)
address_of at (WholePlace t p) = Ok (Valued (pointer_to t) p)
address_of at _ = fault (BadType at)

-- a prefix operator at `at` and its operand, which begins at `inner`
abbrev pub unary : Environment → ℕ → ℕ → PrefixOperator → Operand → Checked Operand
unary env at inner prefix.Negate a =
    and_then (integer env inner at a) (λ v. Ok (Valued (common v.ty v.ty) (operated env operation.Subtract (common v.ty v.ty) (zero env) v.expression)))
unary env at inner prefix.Not a = and_then (scalar env inner at a) (λ v. Ok (Valued int (Operated operation.Not (env.place int) (More v.expression NoMore))))
unary env at inner prefix.Dereference a = and_then (pointer env inner at a) (λ p. dereferenced at p (pointee p.ty))
unary env at inner prefix.AddressOf a = address_of at a
unary env at inner prefix.Increment a = changed env at false binary.Add a (one env)
unary env at inner prefix.Decrement a = changed env at false binary.Subtract a (one env)
