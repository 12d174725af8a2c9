use Rattle.std.specs.Prelude.{IsSome, IfSome}
use Rattle.std.specs.Option.{option_copied, option_map}
use Rattle.std.proofs.Common.{◌≡◌, ◌≤◌, List, length, slice_get, Some, None, ap, sym, subst, ◌∙◌, arith}
use Rattle.kt_types.specs.declared.kinds.Ty.{Ty}
use Rattle.kt_types.specs.Layout.{cells_before, joined, layout}
use Rattle.kt_types.specs.Table.{fields_of}
use Rattle.xf_plan.specs.Plain.{plan_of, field_rule_of, field_source_of, actions_of}
use Rattle.xf_plan.specs.Plan.{rules_of}
use Rattle.xf_plan.specs.Sources.{FromBody, moved_by, of_field, width}
use Rattle.xf_eval.specs.Asked.{at_place}
use Rattle.xf_eval.specs.Parts.{find_rule}
use Rattle.xf_eval.proofs.Elements.{all-zero}
use Rattle.xf_eval.proofs.Sizes.{all-rules-fill}
use Rattle.xf_eval.proofs.Structs.{in-field, in-none, old-field, no-field, body-field, before-end, field-within, exact-step, few-cells}
use Rattle.xf_eval.proofs.ways.struct_way.Goals as goal

pub returns-in_err-rule-clause-leads : goal.returns-in_err-rule-clause-leads
returns-in_err-rule-clause-leads c = λ at sized h.
    let p = plan_of c.args.plan.now in
    let fields = c.in_ok-fields.fields.now in
    let known : fields_of p.old c.args.s ≡ Some fields = sym c.in_ok-fields.ensures.found in
    absurd (in-none p at sized fields (fields_of p.old c.args.s) known (rules_of p c.args.r) c.args.cell (all-rules-fill p c.requires.plan c.args.r) c.in_err-rule.ensures h)

pub returns-in_err-field-in-OldField-clause-leads : goal.returns-in_err-field-in-OldField-clause-leads
returns-in_err-field-in-OldField-clause-leads c = λ at sized h.
    let p = plan_of c.args.plan.now in
    let fields = c.in_ok-fields.fields.now in
    let f = field_rule_of c.in_ok-rule.rule.now in
    let j = c.in_ok-rule.cell in
    let known : fields_of p.old c.args.s ≡ Some fields = sym c.in_ok-fields.ensures.found in
    let found : find_rule p.new (rules_of p c.args.r) c.args.cell ≡ Some (f, j) = c.in_ok-rule.ensures in
    let within = in-field p at sized fields (fields_of p.old c.args.s) known (rules_of p c.args.r) c.args.cell (f, j) (all-rules-fill p c.requires.plan c.args.r) found h in
    let kind = ap field_source_of c.in-OldField.is in
    let was : c.at.result ≡ None = c.in_err-field-in-OldField.was in
    let is : slice_get fields c.in-OldField.k ≡ None = sym c.at.ensures ∙ ap option_copied was in
    let there = within ∙ ap (λ s. at_place (of_field p at fields f s) j) kind in
    absurd (no-field p at sized fields f c.in-OldField.k j is (subst (λ o. IsSome o) there h))

pub returns-in_ok-field-in-OldField-clause-leads : goal.returns-in_ok-field-in-OldField-clause-leads
returns-in_ok-field-in-OldField-clause-leads c = λ at sized h.
    let p = plan_of c.args.plan.now in
    let fields = c.in_ok-fields.fields.now in
    let f = field_rule_of c.in_ok-rule.rule.now in
    let j = c.in_ok-rule.cell in
    let k = c.in-OldField.k in
    let d = c.in_ok-field-in-OldField.field.now in
    let known : fields_of p.old c.args.s ≡ Some fields = sym c.in_ok-fields.ensures.found in
    let found : find_rule p.new (rules_of p c.args.r) c.args.cell ≡ Some (f, j) = c.in_ok-rule.ensures in
    let within = in-field p at sized fields (fields_of p.old c.args.s) known (rules_of p c.args.r) c.args.cell (f, j) (all-rules-fill p c.requires.plan c.args.r) found h in
    let kind = ap field_source_of c.in-OldField.is in
    let is : slice_get fields k ≡ Some d = sym c.in_ok-field-in-OldField.ensures in
    let bound = subst (λ o. IfSome o (λ fs. (cs : List Ty) → joined (layout p.old) fs ≡ Some cs → length cs ≤ c.args.most)) known c.requires.cells in
    let few = few-cells p.old fields c.args.most c.in_ok-fields.ensures.complete bound in
    let end = before-end p.old fields k in
    let low : cells_before p.old fields k ≤ c.args.most = omega (arith, few, end) in
    let exact = exact-step (cells_before p.old fields k) c.steps_to.result c.args.most c.steps_to.ensures low c.requires.few in
    within ∙ ap (λ s. at_place (of_field p at fields f s) j) kind ∙ old-field p at sized fields f k d j is
    ∙ ap (λ n. option_map (moved_by n) (at_place (at d.ty f.ty) j)) exact

pub returns-in_ok-field-in-OldField-clause-within : goal.returns-in_ok-field-in-OldField-clause-within
returns-in_ok-field-in-OldField-clause-within c =
    let p = plan_of c.args.plan.now in
    let fields = c.in_ok-fields.fields.now in
    let k = c.in-OldField.k in
    let d = c.in_ok-field-in-OldField.field.now in
    let known : fields_of p.old c.args.s ≡ Some fields = sym c.in_ok-fields.ensures.found in
    let is : slice_get fields k ≡ Some d = sym c.in_ok-field-in-OldField.ensures in
    let bound = subst (λ o. IfSome o (λ fs. (cs : List Ty) → joined (layout p.old) fs ≡ Some cs → length cs ≤ c.args.most)) known c.requires.cells in
    let few = few-cells p.old fields c.args.most c.in_ok-fields.ensures.complete bound in
    let end = before-end p.old fields k in
    let low : cells_before p.old fields k ≤ c.args.most = omega (arith, few, end) in
    let exact = exact-step (cells_before p.old fields k) c.steps_to.result c.args.most c.steps_to.ensures low c.requires.few in
    let part = field-within p.old fields k d is in
    omega (arith, exact, part, few)

pub returns-in-ZeroField-clause-leads : goal.returns-in-ZeroField-clause-leads
returns-in-ZeroField-clause-leads c = λ at sized h.
    let p = plan_of c.args.plan.now in
    let fields = c.in_ok-fields.fields.now in
    let f = field_rule_of c.in_ok-rule.rule.now in
    let j = c.in_ok-rule.cell in
    let known : fields_of p.old c.args.s ≡ Some fields = sym c.in_ok-fields.ensures.found in
    let found : find_rule p.new (rules_of p c.args.r) c.args.cell ≡ Some (f, j) = c.in_ok-rule.ensures in
    let within = in-field p at sized fields (fields_of p.old c.args.s) known (rules_of p c.args.r) c.args.cell (f, j) (all-rules-fill p c.requires.plan c.args.r) found h in
    let kind = ap field_source_of c.in-ZeroField.is in
    let there = within ∙ ap (λ s. at_place (of_field p at fields f s) j) kind in
    there ∙ all-zero (width p.new f.ty) j (subst (λ o. IsSome o) there h)

pub returns-in-FieldBody-clause-leads : goal.returns-in-FieldBody-clause-leads
returns-in-FieldBody-clause-leads c = λ at sized h.
    let p = plan_of c.args.plan.now in
    let fields = c.in_ok-fields.fields.now in
    let f = field_rule_of c.in_ok-rule.rule.now in
    let j = c.in_ok-rule.cell in
    let s = c.in-FieldBody in
    let known : fields_of p.old c.args.s ≡ Some fields = sym c.in_ok-fields.ensures.found in
    let found : find_rule p.new (rules_of p c.args.r) c.args.cell ≡ Some (f, j) = c.in_ok-rule.ensures in
    let within = in-field p at sized fields (fields_of p.old c.args.s) known (rules_of p c.args.r) c.args.cell (f, j) (all-rules-fill p c.requires.plan c.args.r) found h in
    let kind = ap field_source_of s.is in
    let there = within ∙ ap (λ s. at_place (of_field p at fields f s) j) kind in
    there ∙ body-field p at sized fields f s.source (actions_of s.body) j (subst (λ o. IsSome o) there h)
    ∙ ap (λ o. Some (FromBody o (Some 0) (actions_of s.body))) (sym c.place_of-source.ensures.place)

pub place_of-source-requires-clause-cells : goal.place_of-source-requires-clause-cells
place_of-source-requires-clause-cells c =
    let p = plan_of c.args.plan.now in
    let fields = c.in_ok-fields.fields.now in
    let known : fields_of p.old c.args.s ≡ Some fields = sym c.in_ok-fields.ensures.found in
    let bound = subst (λ o. IfSome o (λ fs. (cs : List Ty) → joined (layout p.old) fs ≡ Some cs → length cs ≤ c.args.most)) known c.requires.cells in
    few-cells p.old fields c.args.most c.in_ok-fields.ensures.complete bound
