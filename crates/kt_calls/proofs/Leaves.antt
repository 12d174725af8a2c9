-- What is judged without parts.
use Rattle.std.proofs.Common.{None, Result, Ok, Err, refl}
use Rattle.kt_typing.specs.declared.fault.Fault.{Fault}
use Rattle.kt_typing.specs.Operands.{Operand}
use Rattle.kt_typing.specs.Calls.{leaf}
use Rattle.kt_operands.specs.declared.refusal.Refusal.{Refusal}
use Rattle.kt_operands.specs.declared.refusal.Refusal.TheVariants as refusal
use Rattle.kt_operands.specs.Judged.{Follows}
use Rattle.kt_operators.specs.Judged.{Judges, JudgesPart}

module _ {V : Type 0} (view : V → Operand) (x : Result Operand Fault) where
  pub leaf_judged : (r : Result V Refusal) → Follows view x r → Judges view (leaf x) r
  leaf_judged (Ok y) h = rw h refl
  leaf_judged (Err (refusal.Fault f)) h = rw h refl
  leaf_judged (Err refusal.NoMemory) h = tt

  pub leaf_part : (r : Result V Refusal) → Follows view x r → JudgesPart view (λ y. None) (leaf x) r
  leaf_part (Ok y) h = rw h refl
  leaf_part (Err (refusal.Fault f)) h = rw h refl
  leaf_part (Err refusal.NoMemory) h = tt

pub ruleset leaves = (leaf_judged, leaf_part)
