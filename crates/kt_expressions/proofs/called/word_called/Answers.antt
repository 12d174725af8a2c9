use Rattle.std.proofs.Common.{◌≡◌, ℕ, List, Bor, map, length, sym, ap, ◌∙◌}
use Rattle.std.specs.Option.{option_map}
use Rattle.kt_grammar.specs.declared.tree.Name.{Name}
use Rattle.kt_grammar.specs.Tree.{term_of, terms_of}
use Rattle.kt_typing.specs.Calls.{uses_of}
use Rattle.kt_typing.specs.Terms.{argument_count, first_text, first_name, parts}
use Rattle.kt_operands.specs.Views.{environment_of}
use Rattle.kt_expressions.specs.Arguments.{parts_of_call}
use Rattle.kt_expressions.proofs.Lists.{counted, builtin-judged}
use Rattle.kt_expressions.proofs.called.word_called.Goals as goal

pub returns : goal.returns
returns c h =
    let env = environment_of c.args.env.now in
    let T = terms_of (map term_of c.args.args.now) in
    let judged = c.in_order-judged.ensures (parts_of_call env c.args.builtin T) (c.call_parts.ensures h) in
    let count : length c.as_slice.result.now ≡ argument_count T = ap length c.as_slice.ensures ∙ sym (counted c.args.args.now) in
    builtin-judged env c.args.name.now.at c.args.builtin (parts env (uses_of c.args.builtin) T) c.in_order-judged.result c.builtin_called.result
    (length c.as_slice.result.now) (argument_count T) (option_map (λ (t : Bor (List ℕ)). t.now) c.first_text-text.result) (first_text T) (option_map (λ (n : Bor Name). n.now) c.first_name-first.result) (first_name T)
    count c.first_text-text.ensures c.first_name-first.ensures c.builtin_called.ensures judged
