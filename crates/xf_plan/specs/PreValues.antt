-- Pre-values: what a new cell, argument or local is to hold, told over the old version's memory (Kitsune's transformers, before
-- objects are moved).
use Rattle.std.specs.Prelude.{ℕ, [], ◌∷◌, slice_get, Option, None, Some, option_and_then, Result, Ok}
use Rattle.kt_types.specs.declared.kinds.Ty.{Ty}
use Rattle.kt_types.specs.declared.kinds.Ty.TheVariants as ty
use Rattle.kt_mem.specs.declared.memory.Name.{Name}
use Rattle.kt_mem.specs.declared.memory.Name.TheVariants.{Glob}
use Rattle.kt_mem.specs.declared.memory.Value.{Value}
use Rattle.kt_mem.specs.declared.memory.Value.TheVariants.{Ptr, Free, Undef}
use Rattle.kt_mem.specs.declared.steps.Trap.{Trap}
use Rattle.kt_mem.specs.Memory.{Memory, Object, Cell, zero_value}
use Rattle.xf_plan.specs.Bodies.{Actions}
use Rattle.xf_plan.specs.Plan.{Plan, GlobalSource, OldGlobal, GlobalBody}
use Rattle.xf_plan.specs.Sources.{Source, FromCell, Zero, FromBody}
use Rattle.xf_plan.specs.RuleCode.{body_value}
use Rattle.xf_plan.specs.declared.value.PreValue.{PreValue}
use Rattle.xf_plan.specs.declared.value.PreValue.TheVariants.{Plain, OldPointer}

-- ---- by default

abbrev pub let_go : Value → Value
let_go Undef = Undef
let_go v = Free

-- what an old value gives to a new one of this type: the same number, what becomes of the pointer, a free mutex; the undefined
-- value stays undefined
abbrev pub by_default : Ty → Value → PreValue
by_default (ty.Ptr b) v = OldPointer v
by_default ty.Mutex v = Plain (let_go v)
by_default t v = Plain v

-- ---- new cells

abbrev pub stored : Option Cell → Value
stored None = Undef
stored (Some c) = c.value

-- what the old object of a name holds so many cells behind its start, whether or not that is defined
abbrev pub old_value : Memory → Name → ℕ → Value
old_value m n k = stored (option_and_then (λ (o : Object). slice_get o.cells k) (m.at n))

abbrev pub pointer_to : Name → Option ℕ → Value
pointer_to n None = Undef
pointer_to n (Some k) = Ptr n k

-- the pre-value of a cell of this type and source, whose old thing is the object of a name
abbrev pub pre_value : Plan → Memory → Name → Ty → Source → Result PreValue Trap
pre_value p m n t (FromCell k) = Ok (by_default t (old_value m n k))
pre_value p m n t Zero = Ok (Plain (zero_value t))
pre_value p m n t (FromBody source base body) =
    body_value (record { types = p.old; memory = m; locals = pointer_to n source ∷ pointer_to n base ∷ [] }) t body

-- the old global from which a global comes; where it comes from none, no source looks at it
abbrev pub origin : GlobalSource → Name
origin (OldGlobal g a n) = Glob g
origin (GlobalBody (Some g) body) = Glob g
origin s = Glob 0

-- ---- arguments and noted locals

-- the pre-value of an argument of this new type that was v
abbrev pub pre_argument : Ty → Value → PreValue
pre_argument t v = by_default t v

-- the pre-value of a noted local of this new type, where the old one holds v
abbrev pub pre_local : Plan → Memory → Ty → Option Actions → Value → Result PreValue Trap
pre_local p m t None v = Ok (by_default t v)
pre_local p m t (Some body) v = body_value (record { types = p.old; memory = m; locals = v ∷ Undef ∷ [] }) t body
