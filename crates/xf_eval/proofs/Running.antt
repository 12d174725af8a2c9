-- Bodies, as the code runs them, and the rules of locals, as it looks them up.
use Rattle.std.specs.Prelude.{◌≡◌, ℕ, ◌==◌, List, ◌∷◌, map, Result, Ok, refl}
use Rattle.std.proofs.Common.{sym, ap, ◌∙◌, inl, inr}
use Rattle.std.proofs.lemmas.Bool.{cases_Bool, eqb-true}
use Rattle.kt_types.specs.declared.kinds.Ty.{Ty}
use Rattle.kt_mem.specs.declared.steps.Trap.{Trap}
use Rattle.xf_plan.specs.RuleCode.{Reading, given, after_action, after_actions}
use Rattle.xf_plan.specs.Bodies as plain
use Rattle.xf_plan.specs.Plain.{given_of, action_of, actions_of, local_rule_of}
use Rattle.xf_plan.specs.declared.body.Action.{Action}
use Rattle.xf_plan.specs.declared.body.Given.{Given}
use Rattle.xf_plan.specs.declared.plan.LocalRule.{LocalRule}
use Rattle.xf_plan.specs.declared.value.PreValue.{PreValue}
use Rattle.xf_eval.specs.Asked.{local_rule}

pub as-given : (r : Reading) (t : Ty) (g : Given) (x : plain.Given) (v : Result PreValue Trap) → given_of g ≡ x → v ≡ given r t x → v ≡ given r t (given_of g)
as-given r t g x v is h = h ∙ ap (given r t) (sym is)

pub as-action : (r : Reading) (t : Ty) (before : PreValue) (a : Action) (x : plain.Action) (v : Result PreValue Trap) → action_of a ≡ x
    → v ≡ after_action r t before x → v ≡ after_action r t before (action_of a)
as-action r t before a x v is h = h ∙ ap (after_action r t before) (sym is)

-- one action more
pub act-more : (r : Reading) (t : Ty) (before v : PreValue) (a : Action) (rest : List Action) → after_action r t before (action_of a) ≡ Ok v
    → after_actions r t v (actions_of rest) ≡ after_actions r t before (actions_of (a ∷ rest))
act-more r t before v a rest h = rw h refl

-- a rule of another local
pub rule-on : (r : LocalRule) (rest : List LocalRule) (f x : ℕ) → (r.function ≡ f → r.local ≡ x → ⊥)
    → local_rule (map local_rule_of rest) f x ≡ local_rule (map local_rule_of (r ∷ rest)) f x
rule-on r rest f x other =
    elim (cases_Bool (r.function == f)) [
      | inl e ↦
          elim (cases_Bool (r.local == x)) [
            | inl d ↦ absurd (other (eqb-true r.function f e) (eqb-true r.local x d))
            | inr d ↦ rw (e, d) refl
          ]
      | inr e ↦ rw e refl
    ]
