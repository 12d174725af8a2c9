use Rattle.std.proofs.Common.{◌≡◌, ◌<◌, length, slice_get, Some, sym, ap, ◌∙◌}
use Rattle.std.proofs.lemmas.Option.{slice_get-get_or}
use Rattle.kt_code.proofs.Rooms.{has-room}
use Rattle.kt_code.proofs.code.Code.instr.Goals as goal

pub returns-clause-room : goal.returns-clause-room
returns-clause-room c =
    let instrs = c.self.inside.instrs in
    let i = c.index-as_slice-at.result in
    let within : c.args.at < length instrs = rw (← c.self.view_is) at c.requires in
    let is = rw c.as_slice.ensures at c.index-as_slice-at.is in
    let place : slice_get instrs c.args.at ≡ Some i = slice_get-get_or instrs c.args.at i within ∙ ap Some (sym is) in
    has-room instrs c.args.at i c.self.invariant.0 c.self.invariant.1 place
