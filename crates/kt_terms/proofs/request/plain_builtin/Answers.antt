use Rattle.std.proofs.Common.{List, length, ◌≤◌, subst, arith, ◌<◌}
use Rattle.kt_names.specs.declared.fault.CheckFault.TheVariants.{BadType}
use Rattle.kt_terms.specs.declared.argument.Argument.{Argument as ArgumentCode}
use Rattle.kt_names.specs.Views.{environment_of}
use Rattle.kt_terms.specs.Arguments.{AreJudged}
use Rattle.kt_names.proofs.Parts.{faulty}
use Rattle.kt_terms.proofs.ArgumentAnswers.{plain-many, plain-none, plain-one}
use Rattle.kt_terms.proofs.request.plain_builtin.Goals as goal

pub returns-in-None : goal.returns-in-None
returns-in-None c specs are =
    let P : List ArgumentCode → Type 0 = λ xs. AreJudged xs specs in
    plain-none (environment_of c.args.env.now) c.args.up c.args.b c.without_arguments.result specs (subst P c.in-None.ensures.0 are) c.without_arguments.ensures

pub returns-then-len-gt1 : goal.returns-then-len-gt1
returns-then-len-gt1 c specs are =
    let more : 1 < length c.args.arguments = omega arith in
    faulty _ (BadType c.args.up) (plain-many (environment_of c.args.env.now) c.args.up c.args.b c.args.arguments specs more are)

pub returns : goal.returns
returns c specs are =
    let P : List ArgumentCode → Type 0 = λ xs. AreJudged xs specs in
    let Q : List ArgumentCode → Type 0 = λ xs. length xs ≤ 1 in
    let few : length c.args.arguments ≤ 1 = omega arith in
    plain-one (environment_of c.args.env.now) c.args.up c.args.b c.with_argument.result c.pop.new.self c.in-Some.x specs (subst Q c.in-Some.ensures few) (subst P c.in-Some.ensures are) c.with_argument.ensures
