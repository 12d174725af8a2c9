use Rattle.std.proofs.Common.{◌≡◌, ◌≤◌, ◌+◌, length, Some, slice_get, sym, ap, ◌∙◌, arith, inl, inr}
use Rattle.std.proofs.lemmas.Bool.{cases_eq}
use Rattle.std.proofs.lemmas.List.{length_push}
use Rattle.std.proofs.lemmas.Option.{slice_get-get_or, slice_get-get_or}
use Rattle.kt_types.specs.Layout.{layout, cells_before}
use Rattle.kt_types.proofs.Cells.{joined-complete, before_more, before-le}
use Rattle.kt_types.proofs.Complete.{value-of, some-of}
use Rattle.kt_types.proofs.Keeps.{slice_get-at_push, slice_get-before_push}
use Rattle.kt_types.proofs.table.TypeTable.starts.Goals as goal

pub cells_of-cells-requires : goal.cells_of-cells-requires
cells_of-cells-requires c =
    let at : slice_get c.args.fields.now c.loop-field.field-index ≡ Some c.field-item.result =
    slice_get-get_or c.args.fields.now c.loop-field.field-index c.field-item.result c.loop-field-test.true ∙ ap Some (sym c.field-item.is) in
    let (cs, joins) = value-of _ c.requires in
    let (x, has) = joined-complete (layout c.args.self.now) c.args.fields.now cs joins c.loop-field.field-index c.field-item.result at in
    some-of _ x has

pub returns-then-cells-gt-CELL_LIMIT : goal.returns-then-cells-gt-CELL_LIMIT
returns-then-cells-gt-CELL_LIMIT c =
    let at : slice_get c.args.fields.now c.loop-field.field-index ≡ Some c.field-item.result =
    slice_get-get_or c.args.fields.now c.loop-field.field-index c.field-item.result c.loop-field-test.true ∙ ap Some (sym c.field-item.is) in
    let more = before_more c.args.self.now c.args.fields.now c.loop-field.field-index c.field-item.result at in
    let within : c.loop-field.field-index + 1 ≤ length c.args.fields.now = omega arith in
    let all = before-le c.args.self.now c.args.fields.now (c.loop-field.field-index + 1) (length c.args.fields.now) within in
    omega (arith, more, all, c.cells_of-cells.ensures.count, c.loop-field.invariant.count, c.if-cells-gt-CELL_LIMIT.true)

pub loop-field-preserved : goal.loop-field-preserved
loop-field-preserved c =
    let at : slice_get c.args.fields.now c.loop-field.field-index ≡ Some c.field-item.result =
    slice_get-get_or c.args.fields.now c.loop-field.field-index c.field-item.result c.loop-field-test.true ∙ ap Some (sym c.field-item.is) in
    let more = before_more c.args.self.now c.args.fields.now c.loop-field.field-index c.field-item.result at in
    let pushed = c.in_ok-push.ensures.items in
    record {
      len = ap length pushed ∙ length_push c.loop-field.starts.items c.loop-field.cells ∙ ap (λ n. n + 1) c.loop-field.invariant.len;
      each = λ n lt. ap (λ xs. slice_get xs n) pushed ∙ elim (cases_eq n c.loop-field.field-index) [
        | inl last ↦
            ap (slice_get _) (last ∙ sym c.loop-field.invariant.len) ∙ slice_get-at_push c.loop-field.starts.items c.loop-field.cells
            ∙ ap Some (c.loop-field.invariant.count ∙ ap (cells_before c.args.self.now c.args.fields.now) (sym last))
        | inr before ↦ slice_get-before_push c.loop-field.starts.items c.loop-field.cells n _ (c.loop-field.invariant.each n (omega arith))
      ];
      count = omega (arith, more, c.cells_of-cells.ensures.count, c.loop-field.invariant.count);
      few = c.if-cells-gt-CELL_LIMIT.false;
      some = omega (arith, c.loop-field.invariant.some, c.cells_of-cells.ensures.some_cells);
    }
