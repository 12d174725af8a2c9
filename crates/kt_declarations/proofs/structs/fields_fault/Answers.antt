use Rattle.std.proofs.Common.{map}
use Rattle.kt_operands.specs.Views.{environment_of}
use Rattle.kt_program.specs.Structs.{field_cells}
use Rattle.kt_declarations.specs.Fields.{field_of}
use Rattle.kt_declarations.proofs.Places.{item-at}
use Rattle.kt_declarations.proofs.Within.{begins, goes-on, at-map}
use Rattle.kt_declarations.proofs.structs.fields_fault.Goals as goal

pub loop-place-init : goal.loop-place-init
loop-place-init c are = begins (environment_of c.args.env.now) (map field_of c.args.fields.now)

pub loop-place-preserved : goal.loop-place-preserved
loop-place-preserved c are =
    let env = environment_of c.args.env.now in
    let fields = map field_of c.args.fields.now in
    let x = c.index-fields-place.result in
    let at = at-map field_of c.args.fields.now c.loop-place.place x (item-at c.args.fields.now c.loop-place.place x c.loop-place-test.true c.index-fields-place.is) in
    goes-on env fields c.loop-place.place c.loop-place.fault c.field_fault-broken.result c.earlier-fault.result c.loop-place.cells c.more_cells-cells.result (field_of x) at c.earlier-fault.ensures
    (λ names n before count. c.field_fault-broken.ensures fields names n are at before count)
    (λ n count. c.more_cells-cells.ensures n (field_cells env (field_of x)) count c.field_cells-own.ensures)
    (c.loop-place.invariant are)
