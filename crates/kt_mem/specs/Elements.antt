-- Pointer arithmetic by elements (C 6.5.6), where an element has a number of cells, its width.
use Rattle.std.specs.Prelude.{ℕ, ℤ, pos, ◌-ℤ◌, ◌*ℤ◌, int_div, int_rem, Result, Ok, Err, if◌then◌else◌}
use Rattle.kt_mem.specs.declared.memory.Value.{Value}
use Rattle.kt_mem.specs.declared.memory.Value.TheVariants.{Num}
use Rattle.kt_mem.specs.declared.steps.Trap.{Trap}
use Rattle.kt_mem.specs.declared.steps.Trap.TheVariants as trap
use Rattle.kt_mem.specs.Values.{int_eq}
use Rattle.kt_mem.specs.Arithmetic.{moved, offsets, on_offsets}

-- `p + i`
abbrev pub element_after : Value → Value → ℕ → Result Value Trap
element_after p (Num i) width = moved p (i *ℤ pos width)
element_after p _ width = Err trap.Uninit

-- `p - i`
abbrev pub element_before : Value → Value → ℕ → Result Value Trap
element_before p (Num i) width = moved p (pos 0 -ℤ (i *ℤ pos width))
element_before p _ width = Err trap.Uninit

-- a number of cells as whole elements
abbrev pub whole_elements : ℕ → ℤ → Result Value Trap
whole_elements width d =
    if int_eq (int_rem d (pos width)) (pos 0) then Ok (Num (int_div d (pos width))) else Err trap.Bounds

-- `p - q`
abbrev pub elements_between : Value → Value → ℕ → Result Value Trap
elements_between p q width = on_offsets (λ k j. whole_elements width (pos k -ℤ pos j)) (offsets p q)
