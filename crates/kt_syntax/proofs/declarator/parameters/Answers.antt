use Rattle.std.proofs.lemmas.Result.{err_from_is_err_and}
use Rattle.kt_syntax.proofs.Ends.{parameter-end}
use Rattle.kt_syntax.proofs.Loops.{listed_fails}
use Rattle.kt_syntax.proofs.declarator.parameters.Goals as goal

pub returns-in_err-parameter-clause-read : goal.returns-in_err-parameter-clause-read
returns-in_err-parameter-clause-read c =
    let p = err_from_is_err_and c.from_residual.result c.from_residual.ensures.1 in
    rw (p.1, p.2) (listed_fails _ _ _ _ _ parameter-end c.loop-done.invariant.0 c.in_err-parameter.ensures.read)
