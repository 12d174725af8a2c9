use Rattle.std.proofs.Common.{sym}
use Rattle.std.proofs.lemmas.Result.{err_from_is_err_and}
use Rattle.kt_syntax.proofs.Ends.{entry-end}
use Rattle.kt_syntax.proofs.Loops.{until_fails, entries_fails}
use Rattle.kt_syntax.proofs.statement.+statements.Goals as goal

pub entries-returns-in_err-entry-clause-read : goal.entries-returns-in_err-entry-clause-read
entries-returns-in_err-entry-clause-read t c =
    let p = err_from_is_err_and c.from_residual.result c.from_residual.ensures.1 in
    rw (p.1, p.2) (entries_fails _ _ _ _ (until_fails _ _ _ _ _ _ (entry-end _ _) c.loop-alloc.invariant.0 (sym c.loop-alloc-test.ensures.value) c.in_err-entry.ensures.read))
