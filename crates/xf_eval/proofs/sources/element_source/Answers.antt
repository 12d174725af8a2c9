use Rattle.std.specs.Prelude.{IsSome, Option}
use Rattle.std.specs.Option.{option_map}
use Rattle.std.proofs.Common.{◌≡◌, ◌+◌, ◌*◌, ◌/◌, ◌%◌, ◌<◌, ◌≤◌, length, Some, ap, sym, subst, ◌∙◌, arith}
use Rattle.std.proofs.Math.Nat.{mul-le-mul_right, add-mul}
use Rattle.xf_plan.specs.Plain.{plan_of}
use Rattle.xf_plan.specs.Sources.{Source, moved_by, sources, width}
use Rattle.xf_eval.specs.Asked.{at_place}
use Rattle.xf_eval.proofs.Elements.{array-into, array-rest, longer-fits, longer-positive}
use Rattle.xf_eval.proofs.Sizes.{are-sized}
use Rattle.xf_eval.proofs.Descent.{inner-some, stays-wider}
use Rattle.xf_eval.proofs.sources.element_source.Goals as goal

pub nonzero_div-element : goal.nonzero_div-element
nonzero_div-element c =
    let p = plan_of c.args.plan.now in
    let a = c.args.from in
    let b = c.args.to in
    let sized = are-sized p c.requires.plan (length p.new.types) a b in
    subst (λ z. 0 < z) (sym c.width-wide.ensures.count)
    (longer-positive (width p.old a) c.args.count (width p.new b) c.requires.there.0 c.args.cell (sources p a b) sized c.requires.there.1)

pub nonzero_rem-cell : goal.nonzero_rem-cell
nonzero_rem-cell c =
    let p = plan_of c.args.plan.now in
    let a = c.args.from in
    let b = c.args.to in
    let sized = are-sized p c.requires.plan (length p.new.types) a b in
    subst (λ z. 0 < z) (sym c.width-wide.ensures.count)
    (longer-positive (width p.old a) c.args.count (width p.new b) c.requires.there.0 c.args.cell (sources p a b) sized c.requires.there.1)

pub returns-then-element-count-clause-source : goal.returns-then-element-count-clause-source
returns-then-element-count-clause-source c = λ m h.
    let p = plan_of c.args.plan.now in
    let a = c.args.from in
    let b = c.args.to in
    let n = c.args.count in
    let i = c.args.cell in
    let sized = are-sized p c.requires.plan (length p.new.types) a b in
    let far = subst (λ z. n ≤ i / z) c.width-wide.ensures.count c.if-element-count.true in
    array-rest (width p.old a) n (width p.new b) m i (sources p a b) sized far (longer-fits (width p.old a) n (width p.new b) m i (sources p a b) h) h

pub source_of-requires-clause-there : goal.source_of-requires-clause-there
source_of-requires-clause-there c =
    let p = plan_of c.args.plan.now in
    let a = c.args.from in
    let b = c.args.to in
    let n = c.args.count in
    let i = c.args.cell in
    let m = c.requires.there.0 in
    let h = c.requires.there.1 in
    let z = width p.new b in
    let w = width p.old a in
    let o = sources p a b in
    let sized = are-sized p c.requires.plan (length p.new.types) a b in
    let near = subst (λ k. i / k < n) c.width-wide.ensures.count c.if-element-count.false in
    let into = array-into w n z m i o sized (longer-positive w n z m i o sized h) near (longer-fits w n z m i o h) in
    subst (λ k. IsSome (at_place o (i % k))) (sym c.width-wide.ensures.count)
    (inner-some (i / z * w) (at_place o (i % z)) (subst (λ (s : Option Source). IsSome s) into h))

pub returns-clause-source : goal.returns-clause-source
returns-clause-source c = λ m h.
    let p = plan_of c.args.plan.now in
    let a = c.args.from in
    let b = c.args.to in
    let n = c.args.count in
    let i = c.args.cell in
    let z = width p.new b in
    let w = width p.old a in
    let o = sources p a b in
    let wide : c.width-wide.result ≡ z = c.width-wide.ensures.count in
    let step : c.width-step.result ≡ w = c.width-step.ensures.count in
    let sized = are-sized p c.requires.plan (length p.new.types) a b in
    let near = subst (λ k. i / k < n) wide c.if-element-count.false in
    let into = array-into w n z m i o sized (longer-positive w n z m i o sized h) near (longer-fits w n z m i o h) in
    into
    ∙ ap (λ k. option_map (moved_by (i / k * w)) (at_place o (i % k))) (sym wide)
    ∙ ap (λ k. option_map (moved_by (i / c.width-wide.result * k)) (at_place o (i % c.width-wide.result))) (sym step)
    ∙ ap (option_map (moved_by (i / c.width-wide.result * c.width-step.result))) c.source_of.ensures.source
    ∙ ap (λ (s : Source). Some s) (sym c.moved_by.ensures.moved)

pub returns-clause-within : goal.returns-clause-within
returns-clause-within c =
    let p = plan_of c.args.plan.now in
    let w = c.width-step.result in
    let e = c.args.cell / c.width-wide.result in
    let n = c.args.count in
    let up : (e + 1) * w ≤ n * w = mul-le-mul_right w (let le : e + 1 ≤ n = omega (arith, c.if-element-count.false) in le) in
    let few : n * w ≤ 65536 = subst (λ k. n * k ≤ 65536) (sym c.width-step.ensures.count) c.requires.few in
    let apart = add-mul e 1 w in
    let one : 1 * w ≡ w = omega arith in
    stays-wider (e * w + w) 65536 c.moved_by.result (omega (arith, up, few, apart, one)) c.moved_by.ensures.within
