use Rattle.std.proofs.Common.{◌≡◌, ◌+◌, Some, slice_get, take, length, min, ap, sym, subst, ◌∙◌, arith}
use Rattle.std.proofs.lemmas.Option.{slice_get-get_or}
use Rattle.kt_types.proofs.Cells.{before_more}
use Rattle.kt_types.specs.Layout.{cells_before}
use Rattle.xf_eval.specs.Steps.{LeadsAsFar}
use Rattle.xf_eval.proofs.FieldSteps.{far-more, front-cells}
use Rattle.xf_eval.proofs.fields.steps_over.Goals as goal

pub loop-field-preserved : goal.loop-field-preserved
loop-field-preserved c =
    let t = c.args.types.now in
    let fields = take c.min-before.result c.args.fields.now in
    let i = c.loop-field.field-index in
    let f = c.field-item.result in
    let at : slice_get fields i ≡ Some f = slice_get-get_or fields i f c.loop-field-test.true ∙ ap (λ x. Some x) (sym c.field-item.is) in
    let before = cells_before t fields i in
    let more : before + c.width.result ≡ cells_before t fields (i + 1) = ap (λ w. before + w) c.width.ensures.count ∙ sym (before_more t fields i f at) in
    let far = far-more before c.loop-field.cells c.width.result c.loop-field.invariant.far in
    record {
      far = subst (λ k. LeadsAsFar (cells_before t fields (i + 1)) k) (sym c.min-cells.ensures)
          (subst (λ n. LeadsAsFar n (min (c.loop-field.cells + c.width.result) 65537)) more far);
      room = omega (arith, c.min-cells.ensures);
    }

pub returns : goal.returns
returns c =
    let t = c.args.types.now in
    let all = c.args.fields.now in
    let fields = take c.min-before.result all in
    let end : c.loop-field.field-index ≡ length fields = omega arith in
    let whole : cells_before t fields c.loop-field.field-index ≡ cells_before t all c.args.index =
    ap (cells_before t fields) end ∙ ap (λ n. cells_before t (take n all) (length (take n all))) c.min-before.ensures ∙ front-cells t all c.args.index in
    subst (λ n. LeadsAsFar n c.loop-field.cells) whole c.loop-field.invariant.far
