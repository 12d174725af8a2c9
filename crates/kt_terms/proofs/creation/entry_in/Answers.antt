use Rattle.std.proofs.Common.{sym, ap, ◌∙◌}
use Rattle.kt_names.specs.Builtins.{entry_in}
use Rattle.kt_terms.specs.Specials.{numbered, only_parameter}
use Rattle.kt_terms.proofs.WrittenCalls.{entry-by}
use Rattle.kt_terms.proofs.creation.entry_in.Goals as goal

pub returns-in-None : goal.returns-in-None
returns-in-None c =
    let signature = c.args.signature.now in
    c.numbered.ensures ∙ ap (λ o. numbered o signature.number) (c.only_parameter.ensures ∙ ap only_parameter c.as_slice.ensures.value) ∙ entry-by signature.parameters.items signature.number ∙ ap (λ r. entry_in r signature.parameters.items signature.number) (sym c.in-None.is)
