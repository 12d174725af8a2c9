use Rattle.std.proofs.Common.{◌≡◌, map, ap, sym, ◌∙◌, subst, Option, None, Some}
use Rattle.kt_grammar.specs.Tree.{term_of, terms_of}
use Rattle.kt_names.specs.declared.builtin.Builtin.{Builtin}
use Rattle.kt_names.specs.Checked.{Checked, and_then}
use Rattle.kt_names.specs.Operands.{Operand}
use Rattle.kt_names.specs.Judges.{Judges}
use Rattle.kt_names.specs.Views.{environment_of, operand_of}
use Rattle.kt_names.specs.Builtins.{builtin_named}
use Rattle.kt_names.specs.Terms.{typing_all, builtin_call, callable, called_function}
use Rattle.kt_terms.proofs.called.called_unhidden.Goals as goal

pub returns-in-None : goal.returns-in-None
returns-in-None c h =
    let env = environment_of c.args.env.now in
    let n = c.args.name.now in
    let args = terms_of (map term_of c.args.args.now) in
    let none : builtin_named n.word ≡ None = ap builtin_named (sym c.as_bytes.ensures.bytes) ∙ sym c.builtin_named.ensures ∙ c.in-None.is in
    let P : Option Builtin → Type 0 = λ o. Judges operand_of c.called_name.result (elim o as (λ _. Checked Operand) [
      | None ↦ and_then (callable env n) (λ d. called_function env n.at d (typing_all env args))
      | (Some b) ↦ builtin_call env n.at b (typing_all env args) args
    ]) in
    subst P (sym none) (c.called_name.ensures (typing_all env args) h)
