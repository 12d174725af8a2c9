use Rattle.kt_syntax.specs.Tree.{routine_of, definition_of}
use Rattle.kt_names.specs.Functions.{is_noted}
use Rattle.kt_names.specs.Views.{environment_of}
use Rattle.kt_names.specs.Scopes.{state_of}
use Rattle.kt_check.proofs.Functions.{body-is, typed-is, given-made, given-fails}
use Rattle.kt_check.proofs.function.defined.Goals as goal

pub returns-in-Ok : goal.returns-in-Ok
returns-in-Ok c =
    let env = environment_of c.args.outside.now in
    let r = routine_of c.args.f.now in
    let i = c.in_ok-info.ensures in
    let noted = is_noted r.body in
    given-made env r (state_of c.args.scopes) noted (definition_of c.args.body.now) c.in_ok-info.info (body-is env c.in_ok-info.info r noted i.listed i.noted i.result i.types)
    c.typed_function.result c.in-Ok.statements c.in-Ok.ensures (typed-is env c.in_ok-info.info r noted i.listed i.noted i.result) c.typed_function.ensures.ok c.typed_function.ensures.memory

pub returns : goal.returns
returns c =
    let env = environment_of c.args.outside.now in
    let r = routine_of c.args.f.now in
    let i = c.in_ok-info.ensures in
    let noted = is_noted r.body in
    given-fails env r (state_of c.args.scopes) noted (definition_of c.args.body.now) c.in_ok-info.info (body-is env c.in_ok-info.info r noted i.listed i.noted i.result i.types) c.in-Err.fault c.in-Err.ensures
