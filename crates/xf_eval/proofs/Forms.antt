-- What the bodies of the code are as plain data, form by form.
use denote.Hole.Carrier.{hidden}
use Rattle.std.specs.Prelude.{◌≡◌, List, [], ◌∷◌, refl}
use Rattle.std.proofs.Common.{ap}
use Rattle.kt_tree.specs.declared.expr.Expr.{Expr}
use Rattle.kt_tree.specs.Tree.{expression_of}
use Rattle.xf_plan.specs.Bodies.{Chosen, Conditional, Compound, Then}
use Rattle.xf_plan.specs.Plain.{given_of, action_of, actions_of, actions_of_row}
use Rattle.xf_plan.specs.declared.body.Action.{Action}
use Rattle.xf_plan.specs.declared.body.Action.TheVariants as action
use Rattle.xf_plan.specs.declared.body.Action.TheBlock.{hidden-the_row-Action-0, hidden-the_row-Action-1}
use Rattle.xf_plan.specs.declared.body.Given.{Given}
use Rattle.xf_plan.specs.declared.body.Given.TheVariants as given
use Rattle.xf_plan.specs.declared.body.Given.TheBlock.{hidden-the_row-Given-0}

pub chosen_form : (c : Expr) (a b : Given) → given_of (given.Chosen c a b) ≡ Chosen (expression_of c) (given_of a) (given_of b)
unfolding hidden-the_row-Given-0 hidden
chosen_form c a b = refl

pub conditional_form : (c : Expr) (a b : Action) → action_of (action.Conditional c a b) ≡ Conditional (expression_of c) (action_of a) (action_of b)
unfolding hidden-the_row-Action-0 hidden
conditional_form c a b = refl

pub row : (acts : List Action) → actions_of_row (hidden-the_row-Action-1 acts) ≡ actions_of acts
unfolding hidden-the_row-Action-1 hidden
row [] = refl
row (a ∷ acts) = ap (Then (action_of a)) (row acts)

pub compound_form : (acts : List Action) → action_of (action.Compound acts) ≡ Compound (actions_of acts)
compound_form acts = ap Compound (row acts)
