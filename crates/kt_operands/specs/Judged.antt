-- What the code's answers say, against the definition of typing. Want of memory alone says nothing.
use Rattle.std.specs.Prelude.{◌≡◌, ℕ, Option, Some, None, Result, Ok, Err}
use Rattle.kt_typing.specs.declared.fault.Fault.{Fault}
use Rattle.kt_typing.specs.Faults.{bad_type}
use Rattle.kt_operands.specs.declared.refusal.Refusal.{Refusal}
use Rattle.kt_operands.specs.declared.refusal.Refusal.TheVariants as refusal

-- what a rule gives, seen by this view, or its fault
abbrev pub Follows : {X Y : Type 0} → (X → Y) → Result Y Fault → Result X Refusal → Type 0
Follows view s (Ok x) = s ≡ Ok (view x)
Follows view s (Err (refusal.Fault f)) = s ≡ Err f
Follows view s (Err refusal.NoMemory) = Unit {0}

-- what is there, or else a broken rule at a place
abbrev pub found : {A : Type 0} → ℕ → Option A → Result A Fault
found at None = Err (bad_type at)
found at (Some x) = Ok x

-- two that are there both
abbrev pub found_two : {A B : Type 0} → ℕ → Option A → Option B → Result (A × B) Fault
found_two at (Some x) (Some y) = Ok (x, y)
found_two at _ _ = Err (bad_type at)
