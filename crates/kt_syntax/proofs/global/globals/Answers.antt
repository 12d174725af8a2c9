use Rattle.std.proofs.Common.{sym, arith}
use Rattle.std.proofs.lemmas.Grind.{common_steps}
use Rattle.std.proofs.lemmas.Result.{err_from_is_err_and}
use Rattle.kt_syntax.proofs.Ends.{global-end}
use Rattle.kt_syntax.proofs.Loops.{comma_fails, comma_more}
use Rattle.kt_syntax.proofs.global.globals.Goals as goal

pub returns-in_err-global-clause-read : goal.returns-in_err-global-clause-read
returns-in_err-global-clause-read c =
    let p = err_from_is_err_and c.from_residual-in_err-global.result c.from_residual-in_err-global.ensures.1 in
    rw (p.1, p.2) (comma_fails _ _ _ _ _ global-end c.loop-alloc.invariant.0 (sym c.loop-alloc-test.ensures.value) (rw c.behind_first.ensures.value at c.in_err-global.ensures.read))

pub loop-alloc-preserved : goal.loop-alloc-preserved
loop-alloc-preserved c =
    let under_way = comma_more _ _ _ _ _ _ c.loop-alloc.invariant.0 (sym c.loop-alloc-test.ensures.value) (rw c.behind_first.ensures.value at c.in_ok-global.ensures.read) (rw c.behind_first.ensures.value at c.in_ok-global.ensures.shorter) in
    (rw c.in_ok-push-2.ensures.ok under_way, grind (arith, common_steps))
