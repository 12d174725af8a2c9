use Rattle.std.proofs.Common.{sym, ap, ◌∙◌}
use Rattle.kt_typing.specs.Rules.{choice}
use Rattle.kt_operands.specs.Views.{environment_of, operand_of}
use Rattle.kt_operators.specs.Judged.{both_of}
use Rattle.kt_operators.proofs.Parts.{three_stops, three_goes}
use Rattle.kt_operators.proofs.forms.chosen_of.Goals as goal

pub returns-in-Ok : goal.returns-in-Ok
returns-in-Ok c =
    let env = environment_of c.args.env.now in
    three_goes operand_of c.args.at c.args.c c.args.a c.args.b (choice env c.args.at) c.in-Ok.test c.in-Ok.rest.0 c.in-Ok.rest.1 c.choice.result
    (sym (c.in-Ok.ensures ∙ ap (both_of c.args.c) c.both-arms.ensures)) c.choice.ensures

pub returns-in-Err : goal.returns-in-Err
returns-in-Err c =
    let env = environment_of c.args.env.now in
    three_stops operand_of c.args.at c.args.c c.args.a c.args.b (choice env c.args.at) c.in-Err.e (sym (c.in-Err.ensures ∙ ap (both_of c.args.c) c.both-arms.ensures))
