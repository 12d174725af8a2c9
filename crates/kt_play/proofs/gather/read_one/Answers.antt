use Rattle.std.proofs.Common.{[]}
use Rattle.std.proofs.lemmas.Result.{err_from_is_err_and}
use Rattle.kt_play.proofs.FileLemmas.{as_error, unread_first}
use Rattle.kt_play.proofs.gather.read_one.Goals as goal

pub returns-in_err-version-clause-cause : goal.returns-in_err-version-clause-cause
returns-in_err-version-clause-cause g c =
    let p = err_from_is_err_and c.from_residual.result c.from_residual.ensures.1 in
    as_error c.from_residual.result p.0 c.in_err-version.field-0.0 _ p.1 p.2
    (unread_first _ c.args.version.now [] _ _ c.in_err-version.field-0.0 c.in_err-version.ensures.number c.in_err-version.ensures.cause)
