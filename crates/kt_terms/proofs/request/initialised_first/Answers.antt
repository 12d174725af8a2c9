use Rattle.std.proofs.Common.{sym, ◌∙◌, subst, slice_get}
use Rattle.kt_names.specs.declared.fault.CheckFault.TheVariants.{BadType}
use Rattle.kt_names.specs.Views.{environment_of, operand_of}
use Rattle.kt_names.specs.declared.ctype.CType.{CType}
use Rattle.kt_names.specs.Judges.{Judges}
use Rattle.kt_terms.specs.Specials.{of_argument}
use Rattle.kt_tree.specs.declared.expr.Request.TheVariants as request
use Rattle.kt_names.specs.Types.{mutex}
use Rattle.kt_names.specs.Builtins.{asks_pointer}
use Rattle.kt_names.proofs.Parts.{faulty}
use Rattle.kt_terms.proofs.WrittenCalls.{taken-some, taken-none}
use Rattle.kt_terms.proofs.request.initialised_first.Goals as goal

pub returns-in-None : goal.returns-in-None
returns-in-None c specs are =
    let env = environment_of c.args.env.now in
    faulty _ (BadType c.args.up) (taken-none c.args.up (asks_pointer env c.args.up request.InitMutex mutex) 0 c.args.arguments specs (sym c.in-None.is ∙ c.first_argument.ensures) are)

pub returns-in-Some : goal.returns-in-Some
returns-in-Some c specs are =
    let env = environment_of c.args.env.now in
    let P : CType → Type 0 = λ t. Judges operand_of c.asks_pointer.result (of_argument c.args.up (asks_pointer env c.args.up request.InitMutex t) (slice_get specs 0)) in
    subst P c.mutex.ensures
    (taken-some c.args.up (asks_pointer env c.args.up request.InitMutex c.mutex.result) c.asks_pointer.result 0 c.args.arguments c.in-Some.x specs (sym c.in-Some.is ∙ c.first_argument.ensures) c.asks_pointer.ensures are)
