use Rattle.std.proofs.Common.{subst}
use Rattle.kt_types.specs.Layout.{IsFaulty}
use Rattle.kt_declarations.proofs.CanDefine.{can-be}
use Rattle.kt_declarations.proofs.define.define_struct.Goals as goal

pub unreachable-requires : goal.unreachable-requires
unreachable-requires c =
    let t = c.args.table.now in
    let ds = c.args.fields.items in
    subst (λ f. IsFaulty t c.args.number ds f) c.in-Err-Twice.field-0-is c.in-Err-Twice.ensures.fault (can-be t c.args.number ds c.requires.can).0
