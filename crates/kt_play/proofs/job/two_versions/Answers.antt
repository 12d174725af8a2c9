use Rattle.std.proofs.lemmas.Result.{err_from_is_err_and}
use Rattle.kt_play.proofs.FileLemmas.{as_error}
use Rattle.kt_play.proofs.JobLemmas.{no_second_version}
use Rattle.kt_play.proofs.job.two_versions.Goals as goal

pub returns-in_err-new-clause-cause : goal.returns-in_err-new-clause-cause
returns-in_err-new-clause-cause c =
    let p = err_from_is_err_and c.from_residual-in_err-new.result c.from_residual-in_err-new.ensures.1 in
    as_error c.from_residual-in_err-new.result p.0 c.in_err-new.field-0.0 _ p.1 p.2
    (no_second_version c.args.first.now c.args.rules.now c.args.second.now c.in_ok-old.old c.in_err-new.field-0.0 c.in_ok-old.ensures.version c.in_err-new.ensures.cause)
