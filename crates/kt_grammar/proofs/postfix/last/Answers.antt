use Rattle.kt_grammar.proofs.Postfixes.{more_at-deep, more_at-done}
use Rattle.kt_grammar.proofs.postfix.last.Goals as goal

pub returns-then-is_some-clause-read : goal.returns-then-is_some-clause-read
returns-then-is_some-clause-read c = more_at-deep _ _ _ c.postfix_here.result c.postfix_here.ensures.value c.if-is_some.ensures

pub returns-else-is_some-clause-read : goal.returns-else-is_some-clause-read
returns-else-is_some-clause-read c = more_at-done _ _ _ c.postfix_here.result c.postfix_here.ensures.value c.if-is_some.ensures
