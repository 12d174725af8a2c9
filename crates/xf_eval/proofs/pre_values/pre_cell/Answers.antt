use Rattle.std.specs.Prelude.{IfSome, Option}
use Rattle.std.specs.Option.{option_copied, option_map}
use Rattle.std.proofs.Common.{◌≡◌, ◌+◌, ◌*◌, ◌≤◌, None, Some, ap, sym, subst, ◌∙◌, arith}
use Rattle.std.proofs.Math.Nat.{mul-le-mul_right}
use Rattle.kt_mem.specs.declared.memory.Name.TheVariants.{Heap}
use Rattle.kt_mem.specs.Memory.{Object}
use Rattle.kt_heap.specs.Heap.{given, memory}
use Rattle.kt_heap.specs.Objects.{shown}
use Rattle.xf_plan.specs.Plain.{plan_of}
use Rattle.xf_plan.specs.Sources.{width}
use Rattle.xf_eval.specs.Asked.{IsElement, cell_value, element_cell}
use Rattle.xf_eval.proofs.Asking.{through, nothing-there, there-on, answered}
use Rattle.xf_eval.proofs.NumberedCells.{cells_by_number, answers-by, live-given, cell-lives}
use Rattle.xf_eval.proofs.pre_values.pre_cell.Goals as goal

pub cell_value-requires-clause-element : goal.cell_value-requires-clause-element
cell_value-requires-clause-element c =
    let p = plan_of c.args.plan.now in
    let o = shown c.in-Some.old.now in
    let is : (memory c.args.heap.now).at (Heap c.args.object) ≡ Some o = sym c.object.ensures ∙ ap (λ x. option_map shown (option_copied x)) c.in-Some.is in
    let its : IsElement p c.args.element o = subst (λ (x : Option Object). IfSome x (λ o. IsElement p c.args.element o)) is c.requires.element in
    let up : (c.args.element + 1) * width p.old o.ty ≤ o.count * width p.old o.ty =
    mul-le-mul_right (width p.old o.ty) (let le : c.args.element + 1 ≤ o.count = omega (arith, its.within) in le) in
    omega (arith, up, its.few)

pub cell_value-requires-clause-there : goal.cell_value-requires-clause-there
cell_value-requires-clause-there c =
    let p = plan_of c.args.plan.now in
    let m = memory c.args.heap.now in
    let n = Heap c.args.object in
    let o = shown c.in-Some.old.now in
    let is : m.at n ≡ Some o = sym c.object.ensures ∙ ap (λ x. option_map shown (option_copied x)) c.in-Some.is in
    there-on (element_cell p m n c.args.element c.args.cell) (m.at n) o is c.requires.there

pub unreachable-requires : goal.unreachable-requires
unreachable-requires c =
    let p = plan_of c.args.plan.now in
    let m = memory c.args.heap.now in
    let n = Heap c.args.object in
    let is : m.at n ≡ None = sym c.object.ensures ∙ ap (λ x. option_map shown (option_copied x)) c.in-None.is in
    nothing-there (element_cell p m n c.args.element c.args.cell) (m.at n) is c.requires.there

pub returns-clause-value : goal.returns-clause-value
returns-clause-value c =
    let p = plan_of c.args.plan.now in
    let m = memory c.args.heap.now in
    let n = Heap c.args.object in
    let o = shown c.in-Some.old.now in
    let is : m.at n ≡ Some o = sym c.object.ensures ∙ ap (λ x. option_map shown (option_copied x)) c.in-Some.is in
    answered _ c.cell_value.result c.answer.result (through (element_cell p m n c.args.element c.args.cell) (m.at n) o is ∙ c.cell_value.ensures) c.answer.ensures

pub returns-clause-by_number : goal.returns-clause-by_number
returns-clause-by_number c = λ holds.
    let p = plan_of c.args.plan.now in
    let pairs = given c.args.heap.now in
    let m = memory c.args.heap.now in
    let kept = c.law.ensures.pairing in
    let live = cell-lives p m (Heap c.args.object) c.args.element c.args.cell c.requires.there in
    answers-by pairs c.answer.result _ (cell_value p m (Heap c.args.object) c.args.element c.args.cell)
    (cells_by_number pairs m p (Heap c.args.object) c.args.element c.args.cell kept holds (live-given pairs m c.args.object kept live)) (returns-clause-value c)
