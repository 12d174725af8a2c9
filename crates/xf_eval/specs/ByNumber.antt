-- Pre-values by heap number: an address is read as the number that it is paired with.
use Rattle.std.specs.Prelude.{◌≡◌, ℕ, Result, Ok, Err}
use Rattle.std.specs.Option.{option_map}
use Rattle.kt_mem.specs.declared.memory.Name.{Name}
use Rattle.kt_mem.specs.declared.memory.Value.{Value}
use Rattle.kt_mem.specs.declared.memory.Value.TheVariants.{Ptr}
use Rattle.kt_mem.specs.declared.steps.Trap.{Trap}
use Rattle.kt_mem.specs.Memory.{Memory}
use Rattle.kt_heap.specs.Heap.{IsPairing}
use Rattle.kt_mem.specs.Renaming.{Pairs, rename_name, rename_value, renamed}
use Rattle.kt_heap.specs.ByNumber.{by_number, answer_by, WasGiven, HoldsGiven}
use Rattle.xf_plan.specs.Plan.{Plan}
use Rattle.xf_plan.specs.declared.value.PreValue.{PreValue}
use Rattle.xf_plan.specs.declared.value.PreValue.TheVariants.{Plain, OldPointer, Fresh}
use Rattle.xf_eval.specs.declared.faults.PreFault.{PreFault}
use Rattle.xf_eval.specs.Asked.{cell_value, global_value, local_value}

abbrev pub pre_by_number : Pairs → PreValue → PreValue
pre_by_number pairs (Plain v) = Plain (rename_value (renamed pairs) v)
pre_by_number pairs (OldPointer v) = OldPointer (rename_value (renamed pairs) v)
pre_by_number pairs (Fresh t n) = Fresh t n

-- what the definition tells, and what a call answers
abbrev pub told_by_number : Pairs → Result PreValue Trap → Result PreValue Trap
told_by_number pairs r = answer_by (pre_by_number pairs) r

abbrev pub answered_by_number : Pairs → Result PreValue PreFault → Result PreValue PreFault
answered_by_number pairs (Ok v) = Ok (pre_by_number pairs v)
answered_by_number pairs (Err f) = Err f

-- ---- the laws

-- the pre-value of a cell of the image of an object whose name was given out
abbrev pub CellsByNumber : Type 0
CellsByNumber =
    (pairs : Pairs) (m : Memory) (p : Plan) (n : Name) (element i : ℕ) → IsPairing pairs m → HoldsGiven pairs m → WasGiven pairs (Ptr n 0)
    → cell_value p (by_number pairs m) (rename_name (renamed pairs) n) element i ≡ option_map (told_by_number pairs) (cell_value p m n element i)

abbrev pub GlobalsByNumber : Type 0
GlobalsByNumber =
    (pairs : Pairs) (m : Memory) (p : Plan) (g i : ℕ) → IsPairing pairs m → HoldsGiven pairs m
    → global_value p (by_number pairs m) g i ≡ option_map (told_by_number pairs) (global_value p m g i)

abbrev pub LocalsByNumber : Type 0
LocalsByNumber =
    (pairs : Pairs) (m : Memory) (p : Plan) (f x : ℕ) (v : Value) → IsPairing pairs m → HoldsGiven pairs m → WasGiven pairs v
    → local_value p (by_number pairs m) f x (rename_value (renamed pairs) v) ≡ option_map (told_by_number pairs) (local_value p m f x v)
