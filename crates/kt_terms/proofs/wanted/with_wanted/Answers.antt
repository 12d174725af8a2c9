use Rattle.std.proofs.Common.{Option, sym, subst}
use Rattle.kt_terms.specs.declared.argument.Wanted.{Wanted}
use Rattle.kt_names.specs.Judges.{Judges}
use Rattle.kt_names.specs.Views.{environment_of}
use Rattle.kt_terms.specs.Arguments.{argument_at, wanted_value, with_wanted, last_first}
use Rattle.kt_terms.proofs.wanted.with_wanted.Goals as goal

pub returns-in-Some : goal.returns-in-Some
returns-in-Some c s r h k =
    let env = environment_of c.args.env.now in
    let P : Option Wanted → Type 0 = λ o. Judges last_first c.with_operand.result (with_wanted env c.args.up o (argument_at c.args.x s) r) in
    subst P (sym c.in-Some.is) (c.with_operand.ensures (wanted_value env c.args.up c.in-Some.wanted (argument_at c.args.x s)) r (c.wanted_value.ensures s h) k)
