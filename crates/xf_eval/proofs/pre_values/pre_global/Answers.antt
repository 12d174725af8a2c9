use Rattle.std.specs.Option.{option_copied, option_map}
use Rattle.std.proofs.Common.{◌≡◌, None, Some, slice_get, ap, sym, ◌∙◌}
use Rattle.std.proofs.lemmas.Option.{slice_get-map}
use Rattle.kt_heap.specs.Heap.{given, memory}
use Rattle.xf_plan.specs.Plain.{plan_of, global_rule_of}
use Rattle.xf_eval.specs.Asked.{global_cell, global_value}
use Rattle.xf_eval.proofs.Asking.{through, nothing-there, there-on, answered}
use Rattle.xf_eval.proofs.NumberedCells.{globals_by_number, answers-by}
use Rattle.xf_eval.proofs.pre_values.pre_global.Goals as goal

pub global_value-requires-clause-few : goal.global_value-requires-clause-few
global_value-requires-clause-few c =
    let p = plan_of c.args.plan.now in
    let rules = c.args.plan.now.globals in
    let is : slice_get p.globals c.args.global ≡ Some (global_rule_of c.in-Some.rule.now) =
    slice_get-map global_rule_of rules c.args.global ∙ ap (option_map global_rule_of) (sym c.get.ensures.value ∙ ap option_copied c.in-Some.is) in
    c.requires.plan.globals c.args.global (global_rule_of c.in-Some.rule.now) is

pub global_value-requires-clause-there : goal.global_value-requires-clause-there
global_value-requires-clause-there c =
    let p = plan_of c.args.plan.now in
    let rules = c.args.plan.now.globals in
    let is : slice_get p.globals c.args.global ≡ Some (global_rule_of c.in-Some.rule.now) =
    slice_get-map global_rule_of rules c.args.global ∙ ap (option_map global_rule_of) (sym c.get.ensures.value ∙ ap option_copied c.in-Some.is) in
    there-on (global_cell p (memory c.args.heap.now) c.args.cell) (slice_get p.globals c.args.global) (global_rule_of c.in-Some.rule.now) is c.requires.there

pub unreachable-requires : goal.unreachable-requires
unreachable-requires c =
    let p = plan_of c.args.plan.now in
    let rules = c.args.plan.now.globals in
    let is : slice_get p.globals c.args.global ≡ None =
    slice_get-map global_rule_of rules c.args.global ∙ ap (option_map global_rule_of) (sym c.get.ensures.value ∙ ap option_copied c.in-None.is) in
    nothing-there (global_cell p (memory c.args.heap.now) c.args.cell) (slice_get p.globals c.args.global) is c.requires.there

pub returns-clause-value : goal.returns-clause-value
returns-clause-value c =
    let p = plan_of c.args.plan.now in
    let m = memory c.args.heap.now in
    let rules = c.args.plan.now.globals in
    let r = global_rule_of c.in-Some.rule.now in
    let is : slice_get p.globals c.args.global ≡ Some r =
    slice_get-map global_rule_of rules c.args.global ∙ ap (option_map global_rule_of) (sym c.get.ensures.value ∙ ap option_copied c.in-Some.is) in
    answered _ c.global_value.result c.answer.result (through (global_cell p m c.args.cell) (slice_get p.globals c.args.global) r is ∙ c.global_value.ensures) c.answer.ensures

pub returns-clause-by_number : goal.returns-clause-by_number
returns-clause-by_number c = λ holds.
    let p = plan_of c.args.plan.now in
    let pairs = given c.args.heap.now in
    let m = memory c.args.heap.now in
    answers-by pairs c.answer.result _ (global_value p m c.args.global c.args.cell)
    (globals_by_number pairs m p c.args.global c.args.cell c.law.ensures.pairing holds) (returns-clause-value c)
