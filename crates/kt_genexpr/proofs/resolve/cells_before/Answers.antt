use Rattle.std.proofs.Common.{◌≡◌, take, length, ap, ◌∙◌, arith}
use Rattle.std.proofs.lemmas.Grind.{common_steps}
use Rattle.kt_types.specs.Layout.{cells, cells_before}
use Rattle.kt_genexpr.proofs.Fields.{cells-more, front-cells}
use Rattle.kt_genexpr.proofs.resolve.cells_before.Goals as goal

pub loop-field-preserved : goal.loop-field-preserved
loop-field-preserved c =
    let fields = take c.min-before.result c.args.fields.now in
    let more = cells-more c.args.types.now fields c.loop-field.field-index c.field-item.result c.loop-field-test.true in
    let one = ap (λ f. length (cells c.args.types.now f.ty)) c.field-item.is in
    grind (arith, common_steps, more, one)

pub returns : goal.returns
returns c =
    let t = c.args.types.now in
    let fields = c.args.fields.now in
    let end : c.loop-field.field-index ≡ length (take c.min-before.result fields) = omega arith in
    c.loop-field.invariant ∙ ap (cells_before t (take c.min-before.result fields)) end
    ∙ ap (λ n. cells_before t (take n fields) (length (take n fields))) c.min-before.ensures ∙ front-cells t fields c.args.index
