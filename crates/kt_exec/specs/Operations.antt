-- What the operations among instructions give for the values of their operands.
use Rattle.std.specs.Prelude.{pos, Result, Err}
use Rattle.kt_mem.specs.declared.memory.Value.{Value}
use Rattle.kt_mem.specs.declared.steps.Trap.{Trap}
use Rattle.kt_mem.specs.declared.steps.Trap.TheVariants as trap
use Rattle.kt_mem.specs.Arithmetic.{moved, sum_of, difference_of, product_of, quotient_of, remainder_of, narrowed}
use Rattle.kt_mem.specs.Comparisons.{equal_value, not_equal_value, not_value, less_value, greater_value, less_equal_value, greater_equal_value}
use Rattle.kt_mem.specs.Elements.{element_before, elements_between}
use Rattle.kt_meaning.specs.Operations.{element_sum}
use Rattle.kt_code.specs.declared.instr.Instr.{Instr}
use Rattle.kt_code.specs.declared.instr.Instr.TheVariants as instr

-- of one operand, where the instruction takes one
abbrev pub of_one : Instr → Value → Result Value Trap
of_one (instr.Convert t) a = narrowed t a
of_one instr.Not a = not_value a
of_one (instr.Field n) a = moved a (pos n)
of_one _ a = Err trap.Uninit

-- of two operands, where the instruction takes two
abbrev pub of_two : Instr → Value → Value → Result Value Trap
of_two (instr.Add t) a b = sum_of t a b
of_two (instr.Subtract t) a b = difference_of t a b
of_two (instr.Multiply t) a b = product_of t a b
of_two (instr.Divide t) a b = quotient_of t a b
of_two (instr.Remainder t) a b = remainder_of t a b
of_two instr.Less a b = less_value a b
of_two instr.Greater a b = greater_value a b
of_two instr.LessEqual a b = less_equal_value a b
of_two instr.GreaterEqual a b = greater_equal_value a b
of_two instr.Equal a b = equal_value a b
of_two instr.NotEqual a b = not_equal_value a b
of_two (instr.ElementAfter w) a b = element_sum w a b
of_two (instr.ElementBefore w) a b = element_before a b w
of_two (instr.ElementsBetween w) a b = elements_between a b w
of_two _ a b = Err trap.Uninit

-- the instruction computes a value, or keeps or drops one: it is no act, jump or return
abbrev pub Computes : Instr → Type 0
Computes (instr.Load t) = ⊥
Computes (instr.Fetch t) = ⊥
Computes (instr.Store t) = ⊥
Computes (instr.StoreOld t) = ⊥
Computes (instr.Ask q) = ⊥
Computes instr.Tick = ⊥
Computes (instr.Call g arguments locals) = ⊥
Computes (instr.Skip n) = ⊥
Computes (instr.SkipIfZero n) = ⊥
Computes (instr.And n) = ⊥
Computes (instr.Or n) = ⊥
Computes instr.Truth = ⊥
Computes (instr.Back n) = ⊥
Computes (instr.BackIfNotZero n) = ⊥
Computes instr.Return = ⊥
Computes instr.Leave = ⊥
Computes instr.NoValue = ⊥
Computes _ = Unit {0}
