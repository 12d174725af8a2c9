use Rattle.std.proofs.Common.{sym, ap, ◌++◌, ◌∷◌, [], ◌∙◌}
use Rattle.kt_types.specs.Layout.{cells}
use Rattle.kt_machine.proofs.Lists.{takes-one-more}
use Rattle.kt_machine.proofs.allocate.cell_types.Goals as goal

pub loop-i-preserved : goal.loop-i-preserved
loop-i-preserved c =
    c.in_ok-push.ensures.items
    ∙ ap (λ l. l ++ c.cell_type.result ∷ []) c.loop-i.invariant
    ∙ sym (takes-one-more (cells c.args.types.now c.args.ty) c.loop-i.i c.cell_type.result c.cell_type.ensures)
