-- Which way is taken by whether a value is zero.
use Rattle.std.specs.Prelude.{◌≡◌, true, false, Result, Ok, Err, refl}
use Rattle.kt_mem.specs.declared.memory.Value.{Value}
use Rattle.kt_mem.specs.declared.steps.Trap.{Trap}
use Rattle.kt_mem.specs.Comparisons.{zero_test}
use Rattle.xf_plan.specs.RuleCode.{next, if_zero}

module _ {A : Type 0} (v w : Result Value Trap) (x y : Result A Trap) (same : v ≡ w) where
  pub trapped-way : (t : Trap) → Err t ≡ next v zero_test → Err t ≡ if_zero w x y
  trapped-way t h = rw (← same, ← h) refl

  pub zero-way : (u : Result A Trap) → Ok true ≡ next v zero_test → u ≡ x → u ≡ if_zero w x y
  zero-way u h is = rw (← same, ← h) is

  pub other-way : (u : Result A Trap) → Ok false ≡ next v zero_test → u ≡ y → u ≡ if_zero w x y
  other-way u h is = rw (← same, ← h) is
