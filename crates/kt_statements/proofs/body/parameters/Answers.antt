use Rattle.std.proofs.Common.{◌+◌, List, drop, subst}
use Rattle.kt_syntax.specs.declared.tree.Parameter.{Parameter}
use Rattle.kt_statements.specs.Scopes.{place_of}
use Rattle.kt_statements.proofs.Functions.{Heading, heading-next, heading-last}
use Rattle.kt_statements.proofs.Places.{drop-next, drop-end}
use Rattle.kt_statements.proofs.body.parameters.Goals as goal

pub loop-x-preserved : goal.loop-x-preserved
loop-x-preserved c =
    let b = c.args.body.now in
    let p = place_of c.args.scopes.now in
    let xs = c.args.xs.now in
    let x = c.x-item.result in
    let i = c.loop-x.x-index in
    let s = c.loop-x.scopes in
    heading-next b p xs s c.parameter.new.scopes x (drop (i + 1) xs) c.loop-x.all c.in_ok-one.one c.in_ok-all.all
    (subst (λ (ys : List Parameter). Heading b p xs s ys c.loop-x.all) (drop-next xs i x c.loop-x-test.true c.x-item.is) c.loop-x.invariant)
    c.in_ok-one.ensures.typed c.in_ok-all.ensures c.in_ok-one.ensures.fits c.in_ok-one.ensures.place

pub returns-clause-typed : goal.returns-clause-typed
returns-clause-typed c =
    let b = c.args.body.now in
    let p = place_of c.args.scopes.now in
    let xs = c.args.xs.now in
    let s = c.loop-x.scopes in
    (heading-last b p xs s c.loop-x.all (subst (λ (ys : List Parameter). Heading b p xs s ys c.loop-x.all) (drop-end xs c.loop-x.x-index c.loop-x-test.false) c.loop-x.invariant)).0
