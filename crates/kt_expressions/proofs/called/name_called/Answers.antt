use Rattle.std.proofs.Common.{◌≡◌, ℕ, [], map, length, sym, ap, ◌∙◌, subst}
use Rattle.kt_grammar.specs.Tree.{term_of, terms_of}
use Rattle.kt_typing.specs.Calls.{meaning_called}
use Rattle.kt_typing.specs.Environment.{Meaning}
use Rattle.kt_typing.specs.Terms.{argument_count, parts}
use Rattle.kt_operands.specs.Views.{environment_of, operand_of, meaning_of}
use Rattle.kt_operators.specs.Judged.{Judges}
use Rattle.kt_expressions.proofs.Lists.{counted}
use Rattle.kt_expressions.proofs.called.name_called.Goals as goal

pub returns : goal.returns
returns c h =
    let env = environment_of c.args.env.now in
    let ps = parts env [] (terms_of (map term_of c.args.args.now)) in
    let m = c.meaning_called.ensures ps (c.in_order-judged.ensures ps h) in
    let count : length c.as_slice.result.now ≡ argument_count (terms_of (map term_of c.args.args.now)) = ap length c.as_slice.ensures ∙ sym (counted c.args.args.now) in
    let named : meaning_of c.named-meaning.result ≡ env.name c.args.name.now.word = c.named-meaning.ensures ∙ ap env.name c.as_bytes.ensures.bytes in
    subst (λ (k : ℕ). Judges operand_of (meaning_called env c.args.name.now.at k ps (env.name c.args.name.now.word)) c.meaning_called.result) count
    (subst (λ (k : Meaning). Judges operand_of (meaning_called env c.args.name.now.at (length c.as_slice.result.now) ps k) c.meaning_called.result) named m)
