use Rattle.std.specs.Option.{option_map}
use Rattle.std.proofs.Common.{◌≤◌, Some, ap, sym, ◌∙◌, arith}
use Rattle.kt_types.specs.Layout.{cells_before}
use Rattle.xf_eval.proofs.Structs.{before-end, exact-step}
use Rattle.xf_eval.proofs.ways.place_of.Goals as goal

pub returns-in-Some-clause-place : goal.returns-in-Some-clause-place
returns-in-Some-clause-place c =
    let end = before-end c.args.types.now c.args.fields.now c.in-Some.k in
    let low : cells_before c.args.types.now c.args.fields.now c.in-Some.k ≤ c.args.most = omega (arith, end, c.requires.cells) in
    ap (λ n. Some n) (sym (exact-step _ c.steps_to.result c.args.most c.steps_to.ensures low c.requires.few))
    ∙ ap (option_map (cells_before c.args.types.now c.args.fields.now)) (sym c.in-Some.is)

pub returns-in-Some-clause-within : goal.returns-in-Some-clause-within
returns-in-Some-clause-within c =
    let end = before-end c.args.types.now c.args.fields.now c.in-Some.k in
    let low : cells_before c.args.types.now c.args.fields.now c.in-Some.k ≤ c.args.most = omega (arith, end, c.requires.cells) in
    let exact = exact-step (cells_before c.args.types.now c.args.fields.now c.in-Some.k) c.steps_to.result c.args.most c.steps_to.ensures low c.requires.few in
    omega (arith, exact, low)
