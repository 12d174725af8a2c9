-- What operations give for the values of their operands (ISO/IEC 9899:2011, 6.3 and 6.5), for the tree and for code
-- alike. Where the operands are of a kind that the operation doesn't take, the answer is `uninit`.
use Rattle.std.specs.Prelude.{ℕ, pos, ◌==◌, List, [], ◌∷◌, length, slice_get, Option, None, Some, Result, Ok, Err, if◌then◌else◌}
use Rattle.kt_types.specs.declared.kinds.FieldDecl.{FieldDecl}
use Rattle.kt_types.specs.declared.kinds.Ty.{Ty}
use Rattle.kt_types.specs.Table.{Table, fields_of}
use Rattle.kt_types.specs.Layout.{cells, cells_before}
use Rattle.kt_mem.specs.declared.memory.Value.{Value}
use Rattle.kt_mem.specs.declared.memory.Value.TheVariants.{Num}
use Rattle.kt_mem.specs.declared.steps.Trap.{Trap}
use Rattle.kt_mem.specs.declared.steps.Trap.TheVariants as trap
use Rattle.kt_mem.specs.Arithmetic.{moved, sum_of, difference_of, product_of, quotient_of, remainder_of, narrowed}
use Rattle.kt_mem.specs.Comparisons.{equal_value, not_equal_value, not_value, less_value, greater_value, less_equal_value, greater_equal_value}
use Rattle.kt_mem.specs.Elements.{element_after, element_before, elements_between}
use Rattle.kt_mem.specs.Memory.{and_then}
use Rattle.kt_tree.specs.declared.expr.Operation.{Operation}
use Rattle.kt_tree.specs.declared.expr.Operation.TheVariants as operation

-- what one operand gives, and two
abbrev pub of_one : (Value → Result Value Trap) → List Value → Result Value Trap
of_one f (a ∷ []) = f a
of_one f _ = Err trap.Uninit

abbrev pub of_two : (Value → Value → Result Value Trap) → List Value → Result Value Trap
of_two f (a ∷ b ∷ []) = f a b
of_two f _ = Err trap.Uninit

-- what comes at a type, where the table has it
abbrev pub at_type : (Ty → Result Value Trap) → Option Ty → Result Value Trap
at_type f None = Err trap.Uninit
at_type f (Some u) = f u

-- exact arithmetic in the type at a place (6.5.5, 6.5.6)
abbrev pub arithmetic : (Ty → Value → Value → Result Value Trap) → Option Ty → List Value → Result Value Trap
arithmetic f t vs = of_two (λ a b. at_type (λ u. f u a b) t) vs

-- the cells of one element
abbrev pub width : Table → ℕ → ℕ
width types e = length (cells types e)

-- `p + i` and `i + p` (6.5.6)
abbrev pub element_sum : ℕ → Value → Value → Result Value Trap
element_sum n (Num i) p = element_after p (Num i) n
element_sum n p i = element_after p i n

-- the step to a field is pointer arithmetic, by the cells before it (6.5.2.3)
abbrev pub field_place : Table → Option (List FieldDecl) → ℕ → Value → Result Value Trap
field_place types None index p = Err trap.Uninit
field_place types (Some fields) index p = moved p (pos (cells_before types fields index))

-- what an operation gives, at the type at a place of the table
abbrev pub apply_operation : Table → Operation → ℕ → List Value → Result Value Trap
apply_operation types operation.Add t vs = arithmetic sum_of (slice_get types.types t) vs
apply_operation types operation.Subtract t vs = arithmetic difference_of (slice_get types.types t) vs
apply_operation types operation.Multiply t vs = arithmetic product_of (slice_get types.types t) vs
apply_operation types operation.Divide t vs = arithmetic quotient_of (slice_get types.types t) vs
apply_operation types operation.Remainder t vs = arithmetic remainder_of (slice_get types.types t) vs
apply_operation types operation.Less t vs = of_two less_value vs
apply_operation types operation.Greater t vs = of_two greater_value vs
apply_operation types operation.LessEqual t vs = of_two less_equal_value vs
apply_operation types operation.GreaterEqual t vs = of_two greater_equal_value vs
apply_operation types operation.Equal t vs = of_two equal_value vs
apply_operation types operation.NotEqual t vs = of_two not_equal_value vs
apply_operation types operation.Not t vs = of_one not_value vs
apply_operation types operation.Convert t vs = of_one (λ a. at_type (λ u. narrowed u a) (slice_get types.types t)) vs
apply_operation types (operation.ElementAfter e) t vs = of_two (element_sum (width types e)) vs
apply_operation types (operation.ElementBefore e) t vs = of_two (λ p i. element_before p i (width types e)) vs
apply_operation types (operation.ElementsBetween e) t vs = of_two (λ p q. elements_between p q (width types e)) vs
apply_operation types (operation.Field number index) t vs = of_one (field_place types (fields_of types number) index) vs

-- a value of one type as one of another: an integer is converted by value (6.3.1.3)
abbrev pub converted : Table → ℕ → ℕ → Value → Result Value Trap
converted types own t v = if own == t then Ok v else at_type (λ u. narrowed u v) (slice_get types.types t)

-- what a cell of type t holds after `x op= e`, where the operation has a type of its own: the value before, and the operand
abbrev pub changed : Table → Operation → ℕ → ℕ → Value → Value → Result Value Trap
changed types op own t before v = and_then (apply_operation types op own (before ∷ v ∷ [])) (converted types own t)
