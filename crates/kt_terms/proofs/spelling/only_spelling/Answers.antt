use Rattle.std.proofs.Common.{List, length, ap, ◌∙◌}
use Rattle.kt_grammar.specs.declared.tree.Expr.{Expr}
use Rattle.kt_terms.proofs.SpecialAnswers.{only-none}
use Rattle.kt_terms.proofs.spelling.only_spelling.Goals as goal

pub returns-then-args-ne1 : goal.returns-then-args-ne1
returns-then-args-ne1 c = only-none c.args.args.now (λ e. c.if-args-ne1.true (ap (λ (es : List Expr). length es) c.as_slice-args.ensures ∙ e))
