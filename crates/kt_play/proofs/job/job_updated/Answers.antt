use Rattle.std.proofs.Common.{refl}
use Rattle.std.proofs.lemmas.Result.{err_from_is_err_and}
use Rattle.kt_play.proofs.FileLemmas.{as_error}
use Rattle.kt_play.proofs.JobLemmas.{one_pushed, ready_updated, two_pushed}
use Rattle.kt_play.proofs.job.job_updated.Goals as goal

pub returns-in_err-push-clause-cause : goal.returns-in_err-push-clause-cause
returns-in_err-push-clause-cause c =
    let p = err_from_is_err_and c.from_residual.result c.from_residual.ensures.1 in
    as_error c.from_residual.result p.0 p.0 _ p.1 refl p.2

pub returns-clause-ready : goal.returns-clause-ready
returns-clause-ready c =
    ready_updated c.args.old c.args.new c.push-2.new.self c.push-3.new.self c.as_bytes.result.now c.args.input
    (two_pushed _ _ _ c.args.old c.args.new c.new-versions.ensures c.in_ok-push.ensures.ok c.in_ok-push-2.ensures.ok)
    (one_pushed _ _ 0 c.new-after.ensures c.in_ok-push-3.ensures.ok)
    c.version_law.ensures.program c.version_law-2.ensures.program c.bytes_law.ensures c.as_bytes.ensures
