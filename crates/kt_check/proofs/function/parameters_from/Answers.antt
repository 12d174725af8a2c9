use Rattle.std.proofs.Common.{◌+◌, drop}
use Rattle.kt_names.specs.Functions.{parameters}
use Rattle.kt_names.specs.Scopes.{state_of, body_of}
use Rattle.kt_check.proofs.Functions.{parameter-fails, rest-is}
use Rattle.kt_check.proofs.function.parameters_from.Goals as goal

pub returns-in-Err : goal.returns-in-Err
returns-in-Err c =
    let body = body_of c.args.body.now in
    let ps = c.args.list.now in
    let i = c.loop-p.p-index in
    parameter-fails body (parameters body (state_of c.args.scopes.now) ps) (state_of c.loop-p.scopes) c.p-item.result (drop i ps) (drop (i + 1) ps) c.loop-p.invariant
    (rest-is ps i c.p-item.result c.loop-p-test.true c.p-item.is) c.in-Err.fault c.in-Err.ensures
