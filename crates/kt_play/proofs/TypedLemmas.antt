-- A fault of types that a text is told to have.
use Rattle.std.specs.Prelude.{◌≡◌, ◌≢◌, ℕ, List, Err}
use Rattle.std.proofs.Common.{subst, sym, ◌∙◌}
use Rattle.kt_names.specs.declared.fault.CheckFault.{CheckFault}
use Rattle.kt_names.specs.declared.fault.CheckFault.TheVariants as check
use Rattle.kt_play.specs.Text.{IsTypedAs}

-- a fault that is this one, and no want of memory, is the text's
pub typed_as : (bytes : List ℕ) (f g : CheckFault) → f ≡ g → g ≢ check.NoMemory → (f ≢ check.NoMemory → IsTypedAs bytes (Err f)) → IsTypedAs bytes (Err g)
typed_as bytes f g e other h = subst (λ (k : CheckFault). IsTypedAs bytes (Err k)) e (h (λ n. other (sym e ∙ n)))
