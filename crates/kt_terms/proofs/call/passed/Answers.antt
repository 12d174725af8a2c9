use Rattle.std.proofs.Common.{List, map, sym, ap, ◌∙◌, subst}
use Rattle.kt_tree.specs.Tree.{Expressions}
use Rattle.kt_terms.specs.declared.argument.Wanted.{Wanted}
use Rattle.kt_terms.specs.declared.argument.Wanted.TheVariants.{Parameter}
use Rattle.kt_names.specs.Checked.{Checked}
use Rattle.kt_names.specs.Judges.{Judges}
use Rattle.kt_names.specs.Views.{environment_of}
use Rattle.kt_terms.specs.Arguments.{all_wanted, in_order}
use Rattle.kt_terms.proofs.ArgumentAnswers.{passed-wanted}
use Rattle.kt_terms.proofs.call.passed.Goals as goal

pub returns-in-Ok : goal.returns-in-Ok
returns-in-Ok c specs are =
    let env = environment_of c.args.env.now in
    let P : Checked Expressions → Type 0 = λ r. Judges in_order c.all_wanted.result r in
    subst P (ap (λ (ws : List Wanted). all_wanted env c.args.up ws specs) (c.as_slice.ensures ∙ c.in-Ok.ensures) ∙ passed-wanted env c.args.up c.args.parameters.now specs) (c.all_wanted.ensures specs are)
