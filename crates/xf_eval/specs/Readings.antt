-- What rule code reads of a heap, and parts of what it gives. No public clause cites this module.
use Rattle.std.specs.Prelude.{List, Result, Ok}
use Rattle.kt_types.specs.declared.kinds.Ty.{Ty}
use Rattle.kt_types.specs.Table.{Table}
use Rattle.kt_mem.specs.declared.memory.Value.{Value}
use Rattle.kt_mem.specs.declared.steps.Trap.{Trap}
use Rattle.kt_mem.specs.Arithmetic.{narrowed}
use Rattle.kt_heap.specs.Heap.{State, memory}
use Rattle.xf_plan.specs.RuleCode.{Reading, next}
use Rattle.xf_plan.specs.declared.value.PreValue.{PreValue}
use Rattle.xf_plan.specs.declared.value.PreValue.TheVariants.{Plain, OldPointer}

abbrev pub reading : Table → State → List Value → Reading
reading types heap locals = record { types = types; memory = memory heap; locals = locals }

-- a number that is assigned, and an old pointer
abbrev pub number_given : Result Value Trap → Ty → Result PreValue Trap
number_given v t = next (next v (narrowed t)) (λ n. Ok (Plain n))

abbrev pub pointer_given : Result Value Trap → Result PreValue Trap
pointer_given v = next v (λ p. Ok (OldPointer p))
