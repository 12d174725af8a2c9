use Rattle.std.proofs.Common.{◌≡◌, ◌+◌, drop, subst}
use Rattle.kt_operands.specs.Views.{environment_of}
use Rattle.kt_typing.specs.First.{earlier}
use Rattle.kt_program.specs.Judgments.{first_among}
use Rattle.kt_program.specs.Structs.{bases_judged}
use Rattle.kt_declarations.proofs.Declared.{front}
use Rattle.kt_declarations.proofs.Within.{base-next}
use Rattle.kt_declarations.proofs.structs.bases_fault.Goals as goal

pub loop-some-preserved : goal.loop-some-preserved
loop-some-preserved c =
    let env = environment_of c.args.env.now in
    let xs = c.args.fields.now in
    let i = c.loop-some.some-index in
    let total = first_among (bases_judged env xs) in
    base-next env c.loop-some.fault c.earlier-fault.result c.valued_fault.result total c.some-item.result (drop (i + 1) xs) c.earlier-fault.ensures c.valued_fault.ensures
    (subst (λ ys. earlier c.loop-some.fault (first_among (bases_judged env ys)) ≡ total) (front xs i c.some-item.result c.loop-some-test.true c.some-item.is) c.loop-some.invariant)
