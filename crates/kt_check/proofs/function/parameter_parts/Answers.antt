use Rattle.kt_names.specs.Checked.{both}
use Rattle.kt_names.specs.Statements.{held, pointer_outside, new_name}
use Rattle.kt_names.specs.Scopes.{state_of, body_of}
use Rattle.kt_names.proofs.Parts.{judges-pair}
use Rattle.kt_check.proofs.function.parameter_parts.Goals as goal

abbrev unit : Unit {0} → Unit {0}
unit x = tt

pub returns : goal.returns
returns c =
    let body = body_of c.args.body.now in
    let p = c.args.p.now in
    let one = held body.environment p.base p.pointer p.name in
    let two = pointer_outside body.environment p.pointer in
    let three = new_name body (state_of c.args.scopes.now) p.name in
    let last = judges-pair unit unit c.parameter_extent-extent.result c.new_name-is_new.result c.both.result two three c.both.ensures c.parameter_extent-extent.ensures c.new_name-is_new.ensures in
    judges-pair unit (λ (x : Unit {0} × Unit {0}). (unit x.0, unit x.1)) c.parameter_held-is_held.result c.both.result c.both-2.result one (both two three) c.both-2.ensures c.parameter_held-is_held.ensures last
