use Rattle.std.proofs.Common.{slice_get, sym, ◌∙◌}
use Rattle.std.proofs.lemmas.Result.{err_from_is_err_and}
use Rattle.kt_code.proofs.CodeSettling.{step-IsLowering}
use Rattle.kt_exec.specs.Apart.{whole, StopsAt}
use Rattle.kt_exec.proofs.Ready.{has-operands, each-next, each-on}
use Rattle.kt_exec.proofs.Running.{has-settled, has-halted}
use Rattle.kt_exec.proofs.Settled.{settle-quiet}
use Rattle.kt_exec.proofs.settling.run.Goals as goal

pub step-requires : goal.step-requires
step-requires c =
    has-operands c.args.code.now c.steps.frame c.steps.rest
    (each-next c.args.code.now (whole c.steps.frame c.steps.rest) c.steps.invariant.each)

pub returns-in_err-step : goal.returns-in_err-step
returns-in_err-step c =
    let p = err_from_is_err_and c.from_residual.result c.from_residual.ensures.1 in
    rw (p.1, p.2)
    (has-halted (StopsAt (slice_get c.args.code.now.instrs c.steps.frame.at)) c.args.code.now (whole c.args.frame.now c.args.rest.now) c.steps.frame c.step.new.frame c.steps.rest c.step.new.rest _
    c.in_err-step.ensures c.steps.invariant.same)

pub returns-in-Stands : goal.returns-in-Stands
returns-in-Stands c =
    let told = rw c.in-Stands.is at c.in_ok-step.ensures in
    let here = has-operands c.args.code.now c.steps.frame c.steps.rest
    (each-next c.args.code.now (whole c.steps.frame c.steps.rest) c.steps.invariant.each) in
    has-settled c.args.code.now (whole c.args.frame.now c.args.rest.now) c.steps.frame c.step.new.frame c.steps.rest c.step.new.rest told.0
    told.1 told.2 c.steps.invariant.same here

pub steps-smaller : goal.steps-smaller
steps-smaller c =
    let told = rw c.in-On.is at c.in_ok-step.ensures in
    let lowering = step-IsLowering c.args.code.now c.instrs-jumps.ensures.jumps in
    lowering.lower (whole c.steps.frame c.steps.rest) (whole c.step.new.frame c.step.new.rest) told

pub steps-preserved : goal.steps-preserved
steps-preserved c =
    let told = rw c.in-On.is at c.in_ok-step.ensures in
    let p = whole c.steps.frame c.steps.rest in
    let q = whole c.step.new.frame c.step.new.rest in
    record {
      same = sym (settle-quiet c.args.code.now c.instrs-jumps.ensures.jumps p q told) ∙ c.steps.invariant.same;
      each = each-on c.args.code.now p q told c.steps.invariant.each;
    }
