use Rattle.std.specs.Option.{option_map}
use Rattle.std.proofs.Common.{◌≡◌, ◌*◌, ◌/◌, ◌%◌, ◌<◌, ◌≤◌, ap, sym, subst, ◌∙◌, arith}
use Rattle.std.proofs.lemmas.Bool.{le-leb}
use Rattle.xf_plan.specs.Sources.{width, moved_by}
use Rattle.xf_eval.specs.Asked.{at_place}
use Rattle.xf_eval.proofs.Elements.{array-into, array-rest}
use Rattle.xf_eval.proofs.ways.array_way.Goals as goal

pub returns-then-element-n-clause-leads : goal.returns-then-element-n-clause-leads
returns-then-element-n-clause-leads c = λ at sized h.
    let old = c.args.plan.now.old in
    let new = c.args.plan.now.new in
    let far = subst (λ z. c.args.n ≤ c.args.cell / z) c.cells_of-wide.ensures.count c.if-element-n.true in
    array-rest (width old c.args.a) c.args.n (width new c.args.b) c.args.m c.args.cell (at c.args.a c.args.b) (sized c.args.a c.args.b) far
    (le-leb c.args.n c.args.m c.if-n-m.false) h

pub returns-clause-leads : goal.returns-clause-leads
returns-clause-leads c = λ at sized h.
    let old = c.args.plan.now.old in
    let new = c.args.plan.now.new in
    let i = c.args.cell in
    let w = width old c.args.a in
    let z = c.cells_of-wide.result in
    let o = at c.args.a c.args.b in
    let wide : z ≡ width new c.args.b = c.cells_of-wide.ensures.count in
    let near = subst (λ k. i / k < c.args.n) wide c.if-element-n.false in
    let positive = subst (λ k. 0 < k) wide (let some : 0 < z = omega (arith, c.cells_of-wide.ensures.some_cells) in some) in
    array-into w c.args.n (width new c.args.b) c.args.m i o (sized c.args.a c.args.b) positive near (le-leb c.args.n c.args.m c.if-n-m.false)
    ∙ ap (λ k. option_map (moved_by ((i / k) * w)) (at_place o (i % k))) (sym wide)
    ∙ ap (λ k. option_map (moved_by ((i / z) * k)) (at_place o (i % z))) (sym c.cells_of.ensures.count)
