use Rattle.std.proofs.Common.{map, subst}
use Rattle.kt_grammar.specs.Tree.{term_of}
use Rattle.kt_operands.specs.Views.{environment_of}
use Rattle.kt_operators.specs.Judged.{JudgesParts}
use Rattle.kt_expressions.specs.Arguments.{turned_operands}
use Rattle.kt_expressions.proofs.Words.{parts-same}
use Rattle.kt_expressions.proofs.arguments.call_parts.Goals as goal

pub returns-in_default : goal.returns-in_default
returns-in_default c h =
    subst (λ ps. JudgesParts turned_operands ps c.args.rest) (parts-same (environment_of c.args.env.now) c.args.builtin (map term_of c.args.args.now) c.in_default.not-Create) h
