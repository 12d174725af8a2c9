use Rattle.std.proofs.Common.{sym, ◌∙◌}
use Rattle.kt_heap.specs.Heap.{given, memory}
use Rattle.xf_plan.specs.Plain.{plan_of}
use Rattle.xf_eval.specs.Asked.{local_value}
use Rattle.xf_eval.proofs.Asking.{answered}
use Rattle.xf_eval.proofs.NumberedCells.{locals_by_number, answers-by}
use Rattle.xf_eval.proofs.pre_values.pre_local.Goals as goal

pub returns-clause-value : goal.returns-clause-value
returns-clause-value c =
    answered (local_value (plan_of c.args.plan.now) (memory c.args.heap.now) c.args.f c.args.local c.args.source) c.in-Some.value c.answer.result
    (sym c.local_value.ensures ∙ c.in-Some.is) c.answer.ensures

pub returns-clause-by_number : goal.returns-clause-by_number
returns-clause-by_number c = λ holds was.
    let p = plan_of c.args.plan.now in
    let pairs = given c.args.heap.now in
    let m = memory c.args.heap.now in
    answers-by pairs c.answer.result _ (local_value p m c.args.f c.args.local c.args.source)
    (locals_by_number pairs m p c.args.f c.args.local c.args.source c.law.ensures.pairing holds was) (returns-clause-value c)
