use Rattle.std.proofs.Common.{◌≤◌, ℕ, List, Option, Bor, map, length, sym, ap, ◌∙◌, subst}
use Rattle.std.specs.Option.{option_map}
use Rattle.kt_grammar.specs.declared.tree.Name.{Name}
use Rattle.kt_grammar.specs.Tree.{term_of, terms_of}
use Rattle.kt_typing.specs.Terms.{first_text}
use Rattle.kt_expressions.specs.Arguments.{words}
use Rattle.kt_expressions.proofs.Words.{words-within}
use Rattle.kt_expressions.proofs.arguments.words_of.Goals as goal

pub returns-clause-within : goal.returns-clause-within
returns-clause-within c =
    let call = c.args.call in
    let first = first_text (terms_of (map term_of c.args.args.now)) in
    subst (λ (n : ℕ). n ≤ length c.args.args.now)
    (sym (c.words.ensures
    ∙ ap (λ (o : Option (List ℕ)). words call o (option_map (λ (n : Bor Name). n.now) c.first_name.result)) c.first_text.ensures
    ∙ ap (λ (o : Option Name). words call first o) c.first_name.ensures))
    (words-within call c.args.args.now)
