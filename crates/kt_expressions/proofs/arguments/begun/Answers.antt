use Rattle.std.proofs.Common.{map, Some, None, sym, subst}
use Rattle.kt_grammar.specs.Tree.{term_of, terms_of}
use Rattle.kt_typing.specs.declared.builtin.Builtin.TheVariants as builtin
use Rattle.kt_typing.specs.Calls.{leaf, entry}
use Rattle.kt_operands.specs.Views.{environment_of}
use Rattle.kt_operators.specs.Judged.{JudgesParts}
use Rattle.kt_expressions.specs.Arguments.{turned_operands, words_of, parts_behind}
use Rattle.kt_expressions.proofs.Words.{begun-named, begun-other}
use Rattle.kt_expressions.proofs.arguments.begun.Goals as goal

pub returns-in-Some : goal.returns-in-Some
returns-in-Some c h =
    let env = environment_of c.args.env.now in
    let es = map term_of c.args.args.now in
    let n = c.in-Some.name.now in
    subst (λ ps. JudgesParts turned_operands ps c.part_before.result) (begun-named env es n (sym c.in-Some.ensures))
    (c.part_before.ensures (λ x. None) (leaf (entry env n.at (env.name n.word))) (parts_behind env (Some builtin.Create) (words_of (Some builtin.Create) (terms_of es)) es) c.entry-first.ensures h)

pub returns-in-None : goal.returns-in-None
returns-in-None c h =
    subst (λ ps. JudgesParts turned_operands ps c.args.rest) (begun-other (environment_of c.args.env.now) (map term_of c.args.args.now) (sym c.in-None.ensures)) h
