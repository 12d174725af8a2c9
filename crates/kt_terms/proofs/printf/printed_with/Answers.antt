use Rattle.std.proofs.Common.{List, drop, sym, subst}
use Rattle.kt_terms.specs.declared.argument.Argument.{Argument as ArgumentCode}
use Rattle.kt_terms.specs.Arguments.{AreJudged}
use Rattle.kt_terms.proofs.WrittenCalls.{behind-judged}
use Rattle.kt_terms.proofs.printf.printed_with.Goals as goal

pub returns : goal.returns
returns c specs are =
    let P : List ArgumentCode → Type 0 = λ xs. AreJudged xs (drop 1 specs) in
    c.printed.ensures (drop 1 specs) (subst P (sym c.behind_first.ensures) (behind-judged c.args.arguments specs are))
