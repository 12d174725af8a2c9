use Rattle.std.proofs.Common.{refl}
use Rattle.kt_exec.specs.Apart.{whole}
use Rattle.kt_exec.proofs.Ready.{fits-each}
use Rattle.kt_exec.proofs.Settled.{fits-stands, fits-ends}
use Rattle.kt_exec.proofs.settling.settle_apart.Goals as goal

pub run-requires : goal.run-requires
run-requires c = fits-each c.args.code.now (whole c.args.frame.now c.args.rest.now) c.requires

pub come_to-requires-clause-ends : goal.come_to-requires-clause-ends
come_to-requires-clause-ends c =
    let p = whole c.args.frame.now c.args.rest.now in
    let q = whole c.run.new.frame c.run.new.rest in
    fits-ends c.args.code.now q q refl (fits-stands c.args.code.now p q c.in-Ok.ensures.0 c.requires)
