use Rattle.std.proofs.Common.{sym}
use Rattle.xf_syntax.proofs.Loops.{rules_more}
use Rattle.xf_syntax.proofs.rule.rules.Goals as goal

pub loop-rest-preserved : goal.loop-rest-preserved
loop-rest-preserved c =
    rw c.in_ok-push.ensures.ok (rules_more _ _ _ _ _ _ c.loop-rest.invariant (sym c.loop-rest-test.ensures) c.in_ok-rule.ensures.read c.in_ok-rule.ensures.shorter)
