use Rattle.std.proofs.Common.{sym, subst}
use Rattle.kt_typing.specs.Calls.{meaning_called}
use Rattle.kt_operands.specs.Views.{environment_of, operand_of, meaning_of}
use Rattle.kt_operators.specs.Judged.{Judges}
use Rattle.kt_calls.proofs.call.meaning_called.Goals as goal

pub returns-in-Missing : goal.returns-in-Missing
returns-in-Missing c ps h =
    subst (λ m. Judges operand_of (meaning_called (environment_of c.args.env.now) c.args.at c.args.count ps (meaning_of m)) c.faulty.result) (sym c.in-Missing.is) (c.faulty.ensures ps h)

pub returns-in-Barred : goal.returns-in-Barred
returns-in-Barred c ps h =
    subst (λ m. Judges operand_of (meaning_called (environment_of c.args.env.now) c.args.at c.args.count ps (meaning_of m)) c.faulty-in-Barred.result) (sym c.in-Barred.is) (c.faulty-in-Barred.ensures ps h)

pub returns-in-Fixed : goal.returns-in-Fixed
returns-in-Fixed c ps h =
    subst (λ m. Judges operand_of (meaning_called (environment_of c.args.env.now) c.args.at c.args.count ps (meaning_of m)) c.faulty-in-Fixed.result) (sym c.in-Fixed.is) (c.faulty-in-Fixed.ensures ps h)

pub returns-in-Local : goal.returns-in-Local
returns-in-Local c ps h =
    subst (λ m. Judges operand_of (meaning_called (environment_of c.args.env.now) c.args.at c.args.count ps (meaning_of m)) c.faulty-in-Local.result) (sym c.in-Local.is) (c.faulty-in-Local.ensures ps h)

pub returns-in-Routine : goal.returns-in-Routine
returns-in-Routine c ps h =
    subst (λ m. Judges operand_of (meaning_called (environment_of c.args.env.now) c.args.at c.args.count ps (meaning_of m)) c.function_called.result) (sym c.in-Routine.is) (c.function_called.ensures ps h)
