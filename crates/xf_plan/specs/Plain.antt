-- Rule plans of the code as plain data.
use Rattle.std.specs.Prelude.{List, [], ◌∷◌, map}
use Rattle.std.specs.Option.{option_map}
use Rattle.kt_tree.specs.Tree.{expression_of}
use Rattle.xf_plan.specs.declared.body.Action.{Action, Conditional', Compound', Row_of-Action, end_of-Action, more_of-Action}
use Rattle.xf_plan.specs.declared.body.Action.TheVariants as action
use Rattle.xf_plan.specs.declared.body.Given.{Given, Chosen', end_of-Given, more_of-Given}
use Rattle.xf_plan.specs.declared.body.Given.TheVariants as given
use Rattle.xf_plan.specs.declared.plan.FieldRule.{FieldRule}
use Rattle.xf_plan.specs.declared.plan.FieldSource.{FieldSource}
use Rattle.xf_plan.specs.declared.plan.FieldSource.TheVariants as field_source
use Rattle.xf_plan.specs.declared.plan.GlobalRule.{GlobalRule}
use Rattle.xf_plan.specs.declared.plan.GlobalSource.{GlobalSource}
use Rattle.xf_plan.specs.declared.plan.GlobalSource.TheVariants as global_source
use Rattle.xf_plan.specs.declared.plan.LocalRule.{LocalRule}
use Rattle.xf_plan.specs.declared.plan.LocalSource.{LocalSource}
use Rattle.xf_plan.specs.declared.plan.RulePlan.{RulePlan}
use Rattle.xf_plan.specs.Bodies as body
use Rattle.xf_plan.specs.Plan as plain

abbrev pub given_of : Given → body.Given
given_of (given.Number e) = body.Number (expression_of e)
given_of given.Null = body.Null
given_of (given.Transformed e) = body.Transformed (expression_of e)
given_of (given.New t n) = body.New t n
given_of (Chosen' c p (more_of-Given a end_of-Given) q (more_of-Given b end_of-Given)) = body.Chosen (expression_of c) (given_of a) (given_of b)

abbrev mutual
  pub action_of : Action → body.Action
  action_of (action.Assigned g) = body.Assigned (given_of g)
  action_of (Conditional' c p (more_of-Action a end_of-Action) q (more_of-Action b end_of-Action)) =
      body.Conditional (expression_of c) (action_of a) (action_of b)
  action_of (Compound' p row) = body.Compound (actions_of_row row)

  pub actions_of_row : {m : _} → Row_of-Action m → body.Actions
  actions_of_row end_of-Action = body.Done
  actions_of_row (more_of-Action a rest) = body.Then (action_of a) (actions_of_row rest)

abbrev pub actions_of : List Action → body.Actions
actions_of [] = body.Done
actions_of (a ∷ rest) = body.Then (action_of a) (actions_of rest)

abbrev pub field_source_of : FieldSource → plain.FieldSource
field_source_of (field_source.OldField n) = plain.OldField n
field_source_of field_source.ZeroField = plain.ZeroField
field_source_of (field_source.FieldBody n acts) = plain.FieldBody n (actions_of acts)

abbrev pub field_rule_of : FieldRule → plain.FieldRule
field_rule_of r = record { struct = r.of; ty = r.ty; view = r.view; source = field_source_of r.source }

abbrev pub global_source_of : GlobalSource → plain.GlobalSource
global_source_of global_source.Unmapped = plain.Unmapped
global_source_of (global_source.OldGlobal g t n) = plain.OldGlobal g t n
global_source_of (global_source.GlobalBody g acts) = plain.GlobalBody g (actions_of acts)

abbrev pub global_rule_of : GlobalRule → plain.GlobalRule
global_rule_of r = record { ty = r.ty; count = r.count; view = r.view; init = r.init; source = global_source_of r.source }

abbrev pub local_source_of : LocalSource → plain.LocalSource
local_source_of s = record { function = s.function; local = s.local; body = option_map actions_of s.body }

abbrev pub local_rule_of : LocalRule → plain.LocalRule
local_rule_of r = record { function = r.function; local = r.local; ty = r.ty; view = r.view; source = option_map local_source_of r.source }

-- a plan of the code
abbrev pub plan_of : RulePlan → plain.Plan
plan_of p = record {
  old = p.old;
  new = p.new;
  structs = p.structs;
  globals = map global_rule_of p.globals;
  fields = map field_rule_of p.fields;
  locals = map local_rule_of p.locals;
}
