use Rattle.std.proofs.Common.{List, map, ap, ◌∙◌, subst}
use Rattle.kt_syntax.specs.declared.tree.LocalDeclarator.{LocalDeclarator}
use Rattle.kt_syntax.specs.Tree.{local_of}
use Rattle.kt_program.specs.Declarators.{base_fault}
use Rattle.kt_program.specs.Mentioned.{stars_of}
use Rattle.kt_program.specs.Statements.{locals}
use Rattle.kt_statements.specs.Judged.{JudgesLines}
use Rattle.kt_statements.specs.Scopes.{body_of, place_of}
use Rattle.kt_statements.proofs.Judged.{held-step}
use Rattle.kt_statements.proofs.local.declaration.Goals as goal

pub returns-clause-typed : goal.returns-clause-typed
returns-clause-typed c =
    let b = body_of c.args.body.now in
    let p = place_of c.args.scopes.now in
    let d = c.args.d.now in
    let ls = d.declarators in
    let all = c.in_ok-all.all in
    held-step (locals b p d.base (map local_of ls)) c.locals_base_fault-broken.result (base_fault b.environment d.base (map (λ l. stars_of l.pointer) (map local_of ls))) all c.under.result
    (c.locals_base_fault-broken.ensures ∙ ap (λ (xs : List LocalDeclarator). base_fault b.environment d.base (map (λ l. stars_of l.pointer) (map local_of xs))) c.as_slice-ls.ensures) c.under.ensures
    (subst (λ (xs : List LocalDeclarator). JudgesLines (locals b p d.base (map local_of xs)) all) c.as_slice-ls.ensures c.in_ok-all.ensures.typed)
