use Rattle.std.proofs.Common.{◌≡◌, ◌∙◌, false, sym, subst}
use Rattle.kt_names.specs.Judges.{Judges}
use Rattle.kt_names.specs.Views.{environment_of, operand_of}
use Rattle.kt_names.specs.Checked.{Checked}
use Rattle.kt_names.specs.Operands.{Operand}
use Rattle.kt_names.specs.Types.{is_integer}
use Rattle.kt_terms.proofs.Casts.{by_types, second}
use Rattle.kt_terms.proofs.cast.cast_to.Goals as goal

pub returns-then-allocates : goal.returns-then-allocates
returns-then-allocates c =
    let a = operand_of c.args.a in
    let e = by_types (environment_of c.args.env.now) c.args.at c.args.inner c.args.t a a in
    let P : Checked Operand → Type 0 = λ s. Judges operand_of c.cast_pointer.result s in
    let i : is_integer c.args.t ≡ false = sym c.is_integer.ensures ∙ c.if-is_integer.false in
    subst P (sym (second (is_integer c.args.t) c.args.allocates _ _ _ i c.if-allocates.true ∙ e)) c.cast_pointer.ensures
