-- What typing finds of the stars of a declarator's pointer.
use Rattle.std.proofs.Common.{◌≡◌, ℕ, zero, suc, ◌≤◌, ◌==◌, List, Option, Some, None, Ok, if◌then◌else◌, refl, sym, ap, ◌∙◌, arith}
use Rattle.kt_syntax.specs.declared.tree.Pointer.{Pointer}
use Rattle.kt_names.specs.declared.fault.CheckFault.TheVariants.{BadType}
use Rattle.kt_names.specs.Checked.{Checked, fault}
use Rattle.kt_names.specs.Environment.{Environment}
use Rattle.kt_names.specs.Statements.{pointer_outside}
use Rattle.kt_check.specs.Files.{OneField, pointer_inside}
use Rattle.kt_check.proofs.StructCells.{starless}
use Rattle.kt_check.proofs.FieldCells.{not-ok}

-- the stars of a declarator that has some are one or more
abbrev pub HasStar : Option Pointer → Type 0
HasStar None = Unit {0}
HasStar (Some p) = 1 ≤ p.stars.count

abbrev with_star : ℕ → ℕ → Checked (Unit {0}) → Checked (Unit {0})
with_star n at c = if n == 0 then fault (BadType at) else c

pub star-parts : (n at : ℕ) (c : Checked (Unit {0})) → with_star n at c ≡ Ok tt → (1 ≤ n) × (c ≡ Ok tt)
star-parts zero at c e = absurd (not-ok _ tt e)
star-parts (suc n) at c e = (omega arith, sym (ap (λ b. if b then fault (BadType at) else c) (starless n)) ∙ e)

pub star-from : (n at : ℕ) (c : Checked (Unit {0})) → 1 ≤ n → c ≡ Ok tt → with_star n at c ≡ Ok tt
star-from zero at c le e = absurd (omega arith)
star-from (suc n) at c le e = ap (λ b. if b then fault (BadType at) else c) (starless n) ∙ e

pub outside-star : (env : Environment) (q : Option Pointer) → pointer_outside env q ≡ Ok tt → HasStar q
outside-star env None e = tt
outside-star env (Some p) e = (star-parts p.stars.count p.stars.at _ e).0

pub inside-star : (env : Environment) (fields : List OneField) (q : Option Pointer) → pointer_inside env fields q ≡ Ok tt → HasStar q
inside-star env fields None e = tt
inside-star env fields (Some p) e = (star-parts p.stars.count p.stars.at _ e).0
