use Rattle.kt_terms.proofs.ArgumentAnswers.{operand_typed, operand_fault}
use Rattle.kt_terms.proofs.wanted.with_operand.Goals as goal

pub returns-in-Ok : goal.returns-in-Ok
returns-in-Ok c a r h k = operand_typed c.args.operand c.args.rest c.both.result c.both.ensures a r h k c.in-Ok.parts c.pushed.result c.in-Ok.is c.pushed.ensures.ok c.pushed.ensures.err

pub returns-in-Err : goal.returns-in-Err
returns-in-Err c a r h k = operand_fault c.args.operand c.args.rest c.both.result c.both.ensures a r h k c.in-Err.fault c.in-Err.is
