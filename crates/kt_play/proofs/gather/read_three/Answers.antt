use Rattle.std.proofs.Common.{◌∙◌, arith}
use Rattle.std.proofs.lemmas.Result.{err_from_is_err_and}
use Rattle.kt_play.proofs.FileLemmas.{as_error, unread_first, unread_second, unread_third}
use Rattle.kt_play.proofs.gather.read_three.Goals as goal

pub returns-in_err-first-clause-cause : goal.returns-in_err-first-clause-cause
returns-in_err-first-clause-cause g c =
    let p = err_from_is_err_and c.from_residual.result c.from_residual.ensures.1 in
    as_error c.from_residual.result p.0 c.in_err-first.field-0.0 _ p.1 p.2
    (unread_first _ c.args.first.now _ _ _ c.in_err-first.field-0.0 c.in_err-first.ensures.number c.in_err-first.ensures.cause)

pub returns-in_err-rules-clause-cause : goal.returns-in_err-rules-clause-cause
returns-in_err-rules-clause-cause g c =
    let p = err_from_is_err_and c.from_residual-in_err-rules.result c.from_residual-in_err-rules.ensures.1 in
    as_error c.from_residual-in_err-rules.result p.0 c.in_err-rules.field-0.0 _ p.1 p.2
    (unread_second _ _ c.args.first.now c.args.rules.now _ _ _ _ _ c.in_err-rules.field-0.0 c.in_err-rules.ensures.number c.read.ensures.same
    c.read.ensures.later c.in_ok-first.ensures.whole c.in_err-rules.ensures.cause)

pub returns-in_err-second-clause-cause : goal.returns-in_err-second-clause-cause
returns-in_err-second-clause-cause g c =
    let p = err_from_is_err_and c.from_residual-in_err-second.result c.from_residual-in_err-second.ensures.1 in
    as_error c.from_residual-in_err-second.result p.0 c.in_err-second.field-0.0 _ p.1 p.2
    (unread_third _ _ _ c.args.first.now c.args.rules.now c.args.second.now _ _ _ _ _ c.in_err-second.field-0.0 c.in_err-second.ensures.number
    c.read.ensures.same (c.read-2.ensures.same ∙ c.read.ensures.same) (omega (arith, c.read.ensures.later, c.read-2.ensures.later))
    c.in_ok-first.ensures.whole c.in_ok-rules.ensures.whole c.in_err-second.ensures.cause)
