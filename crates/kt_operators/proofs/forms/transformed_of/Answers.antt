use Rattle.std.proofs.Common.{Err, refl, sym, subst}
use Rattle.kt_typing.specs.Faults.{bad_type}
use Rattle.kt_operands.specs.Judged.{Follows}
use Rattle.kt_operands.specs.Views.{operand_of}
use Rattle.kt_operators.proofs.Parts.{one_stops, one_goes}
use Rattle.kt_operators.proofs.forms.transformed_of.Goals as goal

pub returns-in-Ok : goal.returns-in-Ok
returns-in-Ok c =
    one_goes operand_of c.args.at c.args.x (λ x. Err (bad_type c.args.at)) c.in-Ok.y (Err c.bad_type.result) c.in-Ok.is
    (subst (λ e. Follows operand_of (Err (bad_type c.args.at)) (Err e)) (sym c.bad_type.ensures) refl)

pub returns-in-Err : goal.returns-in-Err
returns-in-Err c = one_stops operand_of c.args.at c.args.x (λ x. Err (bad_type c.args.at)) c.in-Err.e c.in-Err.is
