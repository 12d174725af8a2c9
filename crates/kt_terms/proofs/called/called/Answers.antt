use Rattle.std.proofs.Common.{map, ap, sym, ◌∙◌, subst, inl, Result, Ok, Err, List}
use Rattle.kt_grammar.specs.Tree.{term_of, terms_of}
use Rattle.kt_terms.specs.declared.argument.Argument.{Argument as ArgumentCode}
use Rattle.kt_names.specs.declared.fault.CheckFault.{CheckFault}
use Rattle.kt_names.specs.Views.{environment_of}
use Rattle.kt_names.specs.Terms.{typing_all}
use Rattle.kt_terms.specs.Arguments.{JudgesAll}
use Rattle.kt_terms.proofs.called.called.Goals as goal

pub returns-in-Ok : goal.returns-in-Ok
returns-in-Ok c h =
    let P : Result (List ArgumentCode) CheckFault → Type 0 = λ x. JudgesAll x (typing_all (environment_of c.args.env.now) (terms_of (map term_of c.args.args.now))) in
    c.called_typed.ensures (subst P c.in-Ok.is h)

pub returns-in-Err : goal.returns-in-Err
returns-in-Err c h =
    let P : Result (List ArgumentCode) CheckFault → Type 0 = λ x. JudgesAll x (typing_all (environment_of c.args.env.now) (terms_of (map term_of c.args.args.now))) in
    inl (subst P c.in-Err.is h)
