use Rattle.std.proofs.Common.{◌≡◌, List, length, ap, ◌∙◌, subst, arith}
use Rattle.std.specs.Option.{option_map}
use Rattle.kt_syntax.specs.declared.tree.Parameter.{Parameter}
use Rattle.kt_syntax.specs.Tree.{definition_of}
use Rattle.kt_program.specs.Functions.{nowhere, parameters, behind_parameters, body_judged}
use Rattle.kt_program.specs.Scopes.{Place}
use Rattle.kt_statements.specs.Functions.{body_at}
use Rattle.kt_statements.specs.Judged.{Judges, JudgesLines, lines_made}
use Rattle.kt_statements.specs.Scopes.{body_of, place_of}
use Rattle.kt_statements.proofs.Functions.{parameters-next, body-is, inside-judged}
use Rattle.kt_statements.proofs.body.function.Goals as goal

pub definition-requires-clause-room : goal.definition-requires-clause-room
definition-requires-clause-room c =
    let xs = c.as_slice.result.now in
    let begun = ap (λ (q : Place). q.next) (c.in_ok-heads.ensures.place ∙ ap (λ (q : Place). behind_parameters q xs) c.new-scopes.ensures.place) ∙ parameters-next nowhere xs in
    let count = ap (λ (ys : List Parameter). length ys) c.as_slice.ensures in
    let room = c.requires.room in
    omega arith

pub returns-clause-typed : goal.returns-clause-typed
returns-clause-typed c =
    let b = body_of c.args.body.now in
    let f = c.args.f.now in
    let xs = f.parameters in
    let d = option_map definition_of f.body in
    let begun : place_of c.new-scopes.result ≡ nowhere = c.new-scopes.ensures.place in
    let heads = subst (λ (ys : List Parameter). JudgesLines (parameters b nowhere ys) c.in_ok-heads.heads) c.as_slice.ensures
    (subst (λ (q : Place). JudgesLines (parameters b q c.as_slice.result.now) c.in_ok-heads.heads) begun c.in_ok-heads.ensures.typed) in
    let behind : place_of c.parameters.new.scopes ≡ behind_parameters nowhere xs =
    c.in_ok-heads.ensures.place ∙ ap (λ (q : Place). behind_parameters q c.as_slice.result.now) begun ∙ ap (behind_parameters nowhere) c.as_slice.ensures in
    let block = subst (λ j. Judges lines_made j c.in_ok-block.block) (body-is c.args.body.now xs d)
    (subst (λ (q : Place). Judges lines_made (body_at b q d) c.in_ok-block.block) behind c.in_ok-block.ensures.typed) in
    inside-judged (parameters b nowhere xs) (body_judged b xs d) c.in_ok-heads.heads c.in_ok-block.block c.in_ok-lines.lines heads block c.in_ok-lines.ensures
