-- Which rule has a cell, as the code looks it up.
use Rattle.std.specs.Prelude.{filter}
use Rattle.std.proofs.Common.{◌≡◌, ℕ, suc, ◌-◌, ◌<◌, ◌≤◌, ◌==◌, List, ◌∷◌, map, Some, refl, arith, inl, inr}
use Rattle.std.proofs.lemmas.Bool.{cases_Bool, eqb-true, eq-eqb, le-leb, lt-leb}
use Rattle.kt_types.specs.Table.{Table}
use Rattle.xf_plan.specs.Plain.{field_rule_of}
use Rattle.xf_plan.specs.Plan as plain
use Rattle.xf_plan.specs.Sources.{width}
use Rattle.xf_plan.specs.declared.plan.FieldRule.{FieldRule}
use Rattle.xf_eval.specs.Parts.{find_rule}

abbrev pub rules_in : ℕ → List FieldRule → List plain.FieldRule
rules_in r rules = filter (λ (f : plain.FieldRule). f.struct == r) (map field_rule_of rules)

module _ (t : Table) (r : ℕ) (f : FieldRule) (rest : List FieldRule) (i : ℕ) where
  pub rule-here : f.of ≡ r → i < width t f.ty → Some (field_rule_of f, i) ≡ find_rule t (rules_in r (f ∷ rest)) i
  rule-here own near = rw (eq-eqb f.of r own, le-leb (suc i) (width t f.ty) (let le : suc i ≤ width t f.ty = omega arith in le)) refl

  pub rule-behind : f.of ≡ r → width t f.ty ≤ i → find_rule t (rules_in r rest) (i - width t f.ty) ≡ find_rule t (rules_in r (f ∷ rest)) i
  rule-behind own far = rw (eq-eqb f.of r own, lt-leb (suc i) (width t f.ty) (let lt : width t f.ty < suc i = omega arith in lt)) refl

  pub rule-other : (f.of ≡ r → ⊥) → find_rule t (rules_in r rest) i ≡ find_rule t (rules_in r (f ∷ rest)) i
  rule-other apart =
      elim (cases_Bool (f.of == r)) [
        | inl e ↦ absurd (apart (eqb-true f.of r e))
        | inr e ↦ rw e refl
      ]
