use Rattle.std.proofs.Common.{[], length}
use Rattle.kt_grammar.specs.Cursor.{until_at}
use Rattle.kt_grammar.specs.Lists.{is_end}
use Rattle.xf_syntax.specs.Reading.{rule_at}
use Rattle.xf_syntax.proofs.Loops.{RulesUnderWay}
use Rattle.xf_syntax.proofs.rule.rules.Given as goal

abbrev pub invariant-loop-rest : goal.invariant-loop-rest
invariant-loop-rest l = RulesUnderWay l.depth (until_at is_end (rule_at l.depth) (length l.symbols) [] l.symbols) l.done l.rest

abbrev pub decreases-loop-rest : goal.decreases-loop-rest
decreases-loop-rest l = length l.rest
