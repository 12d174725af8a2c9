use Rattle.std.proofs.Common.{◌+◌, List, map, drop, subst}
use Rattle.kt_syntax.specs.declared.tree.LocalDeclarator.{LocalDeclarator}
use Rattle.kt_syntax.specs.Tree.{local_of}
use Rattle.kt_statements.specs.Scopes.{place_of}
use Rattle.kt_statements.proofs.Entries.{Declaring, declaring-next, declaring-last}
use Rattle.kt_statements.proofs.Places.{drop-next, drop-end}
use Rattle.kt_statements.proofs.local.locals.Goals as goal

pub loop-declarator-preserved : goal.loop-declarator-preserved
loop-declarator-preserved c =
    let b = c.args.body.now in
    let p = place_of c.args.scopes.now in
    let ls = c.args.ls.now in
    let l = c.declarator-item.result in
    let i = c.loop-declarator.declarator-index in
    let s = c.loop-declarator.scopes in
    declaring-next b c.args.base.now p (map local_of ls) s c.local.new.scopes (local_of l) (map local_of (drop (i + 1) ls)) c.loop-declarator.all c.in_ok-one.one c.in_ok-all.all
    (subst (λ (xs : List LocalDeclarator). Declaring b c.args.base.now p (map local_of ls) s (map local_of xs) c.loop-declarator.all) (drop-next ls i l c.loop-declarator-test.true c.declarator-item.is) c.loop-declarator.invariant)
    c.in_ok-one.ensures.typed c.in_ok-all.ensures c.in_ok-one.ensures.fits c.in_ok-one.ensures.place

pub returns-clause-typed : goal.returns-clause-typed
returns-clause-typed c =
    let b = c.args.body.now in
    let p = place_of c.args.scopes.now in
    let ls = c.args.ls.now in
    let s = c.loop-declarator.scopes in
    (declaring-last b c.args.base.now p (map local_of ls) s c.loop-declarator.all
    (subst (λ (xs : List LocalDeclarator). Declaring b c.args.base.now p (map local_of ls) s (map local_of xs) c.loop-declarator.all) (drop-end ls c.loop-declarator.declarator-index c.loop-declarator-test.false) c.loop-declarator.invariant)).0
