use Rattle.std.proofs.Common.{◌≡◌, List, length, ap, ◌∙◌, arith}
use Rattle.kt_grammar.specs.declared.tree.Expr.{Expr}
use Rattle.kt_terms.specs.Spellings.{spelled}
use Rattle.kt_terms.proofs.WrittenCalls.{no-first, is-first}
use Rattle.kt_terms.proofs.spelling.first_of_two.Goals as goal

pub returns-then-args-ne2 : goal.returns-then-args-ne2
returns-then-args-ne2 c = no-first c.args.args.now (λ e. c.if-args-ne2.true (ap (λ (es : List Expr). length es) c.as_slice-args.ensures ∙ e))

pub returns : goal.returns
returns c =
    let two : length c.as_slice-args.result.now ≡ 2 = omega arith in
    is-first c.args.args.now c.as_slice-args.result.now c.index-args-0.result (spelled c.spelling_of.result) c.as_slice-args.ensures two c.index-args-0.is c.spelling_of.ensures
