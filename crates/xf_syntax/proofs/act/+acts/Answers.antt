use Rattle.std.proofs.Common.{sym, arith}
use Rattle.std.proofs.lemmas.Grind.{common_steps}
use Rattle.std.proofs.lemmas.Result.{err_from_is_err_and}
use Rattle.xf_syntax.proofs.Loops.{acts_more, acts_fails}
use Rattle.xf_syntax.proofs.act.+acts.Goals as goal

pub acts-returns-in_err-act-clause-read : goal.acts-returns-in_err-act-clause-read
acts-returns-in_err-act-clause-read t c =
    let p = err_from_is_err_and c.from_residual.result c.from_residual.ensures.1 in
    rw (p.1, p.2) (acts_fails _ _ _ _ _ _ c.loop-alloc.invariant.0 (sym c.loop-alloc-test.ensures.value) c.in_err-act.ensures.read)

pub acts-loop-alloc-preserved : goal.acts-loop-alloc-preserved
acts-loop-alloc-preserved t c =
    let under_way = acts_more _ _ _ _ _ _ _ c.loop-alloc.invariant.0 (sym c.loop-alloc-test.ensures.value) c.in_ok-act.ensures.read c.in_ok-act.ensures.shorter in
    (rw c.in_ok-push.ensures.ok under_way, grind (arith, common_steps))
