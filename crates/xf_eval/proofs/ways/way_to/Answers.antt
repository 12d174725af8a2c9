use Rattle.std.specs.Prelude.{IsSome}
use Rattle.std.proofs.Common.{◌≡◌, ◌≤◌, slice_get, Some, ap, sym, subst, ◌∙◌, arith}
use Rattle.kt_types.specs.Layout.{IsFitting}
use Rattle.kt_types.specs.declared.kinds.Ty.TheVariants.{Struct, Array}
use Rattle.xf_plan.specs.Plain.{plan_of}
use Rattle.xf_plan.specs.Sources.{sources_within, width}
use Rattle.xf_eval.specs.Asked.{at_place}
use Rattle.xf_eval.specs.Parts.{IsWithin, LeadsBy}
use Rattle.xf_eval.proofs.Descent.{struct-step, array-step, struct-cells, array-cells}
use Rattle.xf_eval.proofs.Sizes.{are-sized}
use Rattle.xf_eval.proofs.ways.way_to.Goals as goal

pub struct_way-requires-clause-cells : goal.struct_way-requires-clause-cells
struct_way-requires-clause-cells c =
    let p = plan_of c.args.plan.now in
    let is : slice_get p.old.types c.args.old ≡ Some (Struct c.in-Struct.s) = sym c.in_ok-t.ensures.found ∙ ap (λ t. Some t) c.in-Struct.is in
    let le : width p.old c.args.old ≤ c.width-most.result = omega (arith, c.width-most.ensures.count) in
    struct-cells p c.requires c.args.old c.in-Struct.s c.width-most.result is le

pub returns-in-Struct-u-clause-leads : goal.returns-in-Struct-u-clause-leads
returns-in-Struct-u-clause-leads c = λ n h.
    let p = plan_of c.args.plan.now in
    let at = sources_within p n in
    let is : slice_get p.old.types c.args.old ≡ Some (Struct c.in-Struct.s) = sym c.in_ok-t.ensures.found ∙ ap (λ t. Some t) c.in-Struct.is in
    let is' : slice_get p.new.types c.args.new ≡ Some (Struct c.in-Struct-u.r) = sym c.in_ok-u.ensures.found ∙ ap (λ t. Some t) c.in-Struct-u.is in
    let same = struct-step p n c.args.old c.args.new c.args.cell c.in-Struct.s c.in-Struct-u.r is is' h in
    subst (λ o. LeadsBy at (at_place o c.args.cell) c.struct_way.result) (sym same)
    (c.struct_way.ensures.leads at (are-sized p c.requires n) (subst (λ o. IsSome (at_place o c.args.cell)) same h))

pub returns-in-Array-u-clause-leads : goal.returns-in-Array-u-clause-leads
returns-in-Array-u-clause-leads c = λ n h.
    let p = plan_of c.args.plan.now in
    let at = sources_within p n in
    let is : slice_get p.old.types c.args.old ≡ Some (Array c.in-Array.a c.in-Array.n) = sym c.in_ok-t.ensures.found ∙ ap (λ t. Some t) c.in-Array.is in
    let is' : slice_get p.new.types c.args.new ≡ Some (Array c.in-Array-u.b c.in-Array-u.m) = sym c.in_ok-u.ensures.found ∙ ap (λ t. Some t) c.in-Array-u.is in
    let same = array-step p n c.args.old c.args.new c.args.cell c.in-Array.a c.in-Array.n c.in-Array-u.b c.in-Array-u.m is is' in
    subst (λ o. LeadsBy at (at_place o c.args.cell) c.array_way.result) (sym same)
    (c.array_way.ensures.leads at (are-sized p c.requires n) (subst (λ o. IsSome (at_place o c.args.cell)) same h))

pub returns-in-Array-u-clause-within : goal.returns-in-Array-u-clause-within
returns-in-Array-u-clause-within c =
    let p = plan_of c.args.plan.now in
    let is : slice_get p.old.types c.args.old ≡ Some (Array c.in-Array.a c.in-Array.n) = sym c.in_ok-t.ensures.found ∙ ap (λ t. Some t) c.in-Array.is in
    let fitting = subst (IsFitting p.old) c.in-Array.is c.in_ok-t.ensures.fits in
    subst (λ k. IsWithin p.old k c.array_way.result) (array-cells p c.requires c.args.old c.in-Array.a c.in-Array.n is fitting.0) c.array_way.ensures.within
