use Rattle.std.proofs.Common.{sym}
use Rattle.std.proofs.lemmas.Result.{err_from_is_err_and}
use Rattle.kt_syntax.proofs.Ends.{fields-end}
use Rattle.kt_syntax.proofs.Loops.{until_fails}
use Rattle.kt_syntax.proofs.external.more_fields.Goals as goal

pub returns-in_err-fields-clause-read : goal.returns-in_err-fields-clause-read
returns-in_err-fields-clause-read c =
    let p = err_from_is_err_and c.from_residual-in_err-fields.result c.from_residual-in_err-fields.ensures.1 in
    rw (p.1, p.2) (until_fails _ _ _ _ _ _ fields-end c.loop-alloc.invariant.0 (sym c.loop-alloc-test.ensures.value) c.in_err-fields.ensures.read)
