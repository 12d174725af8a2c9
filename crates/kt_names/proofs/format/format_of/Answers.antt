use Rattle.std.proofs.Common.{◌≡◌, ◌<◌, length, ap, sym, ◌∙◌, arith}
use Rattle.std.proofs.lemmas.Bool.Decides.{Decides-eqb, nat_tests}
use Rattle.kt_names.specs.declared.fault.CheckFault.TheVariants.{BadType}
use Rattle.kt_names.specs.Checked.{found}
use Rattle.kt_names.specs.Formats.{format_of}
use Rattle.kt_names.proofs.Parts.{faulty}
use Rattle.kt_names.proofs.Pieces.{joined, next, none-next, ended, begun, shorter}
use Rattle.kt_names.proofs.format.format_of.Goals as goal

pub loop-rest-init : goal.loop-rest-init
loop-rest-init c = ap (λ cs. joined cs (format_of c.args.format.now)) c.new-pieces.ensures ∙ begun (format_of c.args.format.now)

pub loop-rest-smaller : goal.loop-rest-smaller
loop-rest-smaller c = shorter c.loop-rest.rest.now c.in-Some.behind.now c.in-Some.piece c.in-Some.ensures

pub loop-rest-preserved : goal.loop-rest-preserved
loop-rest-preserved c =
    ap (λ cs. joined cs (format_of c.in-Some.behind.now)) c.in_ok-push-in-Some.ensures.ok
    ∙ next c.loop-rest.pieces c.loop-rest.rest.now c.in-Some.behind.now c.in-Some.piece (format_of c.args.format.now) c.in-Some.ensures c.loop-rest.invariant

pub returns-in-None : goal.returns-in-None
returns-in-None c =
    let some : 0 < length c.loop-rest.rest.now = grind (arith, nat_tests, c.is_empty.ensures, c.loop-rest-test.true) in
    faulty _ (BadType c.args.up) (ap (λ pieces. found pieces (BadType c.args.up)) (none-next c.loop-rest.pieces c.loop-rest.rest.now (format_of c.args.format.now) c.in-None.ensures some c.loop-rest.invariant))

pub returns : goal.returns
returns c =
    let none : length c.loop-rest.rest.now ≡ 0 = (Decides-eqb _ _).0 (sym c.is_empty.ensures ∙ c.loop-rest-test.false) in
    ap (λ pieces. found pieces (BadType c.args.up)) (ended c.loop-rest.pieces c.loop-rest.rest.now (format_of c.args.format.now) none c.loop-rest.invariant)
