use Rattle.std.proofs.Common.{sym, ◌∙◌}
use Rattle.kt_names.specs.declared.fault.CheckFault.TheVariants.{BadType}
use Rattle.kt_names.specs.Views.{environment_of}
use Rattle.kt_names.specs.Builtins.{created}
use Rattle.kt_names.proofs.Parts.{faulty}
use Rattle.kt_terms.proofs.WrittenCalls.{taken-some, taken-none}
use Rattle.kt_terms.proofs.creation.created_second.Goals as goal

pub returns-in-None : goal.returns-in-None
returns-in-None c specs are =
    let env = environment_of c.args.env.now in
    faulty _ (BadType c.args.up) (taken-none c.args.up (created env c.args.up c.args.f.now) 1 c.args.arguments specs (sym c.in-None.is ∙ c.second_argument.ensures) are)

pub returns-in-Some : goal.returns-in-Some
returns-in-Some c specs are =
    let env = environment_of c.args.env.now in
    taken-some c.args.up (created env c.args.up c.args.f.now) c.created.result 1 c.args.arguments c.in-Some.x specs (sym c.in-Some.is ∙ c.second_argument.ensures) c.created.ensures are
