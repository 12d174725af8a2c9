use Rattle.std.proofs.Common.{List, length, ap, ◌∙◌}
use Rattle.kt_grammar.specs.declared.tree.Expr.{Expr}
use Rattle.kt_terms.proofs.WrittenCalls.{no-second}
use Rattle.kt_terms.proofs.spelling.second_of_two.Goals as goal

pub returns-then-args-ne2 : goal.returns-then-args-ne2
returns-then-args-ne2 c = no-second c.args.args.now (λ e. c.if-args-ne2.true (ap (λ (es : List Expr). length es) c.as_slice-args.ensures ∙ e))
