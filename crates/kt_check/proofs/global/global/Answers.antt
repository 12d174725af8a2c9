use Rattle.kt_check.specs.Stages.{frame_seen, sofar_of}
use Rattle.kt_check.proofs.Right.{parts-right}
use Rattle.kt_check.proofs.global.global.Goals as goal

pub global_decl-requires-clause-counted : goal.global_decl-requires-clause-counted
global_decl-requires-clause-counted c =
    (parts-right (frame_seen c.args.frame.now) (sofar_of c.args.sofar.now) c.args.base.now c.args.g.now _ c.in_ok-init.ensures).counted

pub global_decl-requires-clause-viewed : goal.global_decl-requires-clause-viewed
global_decl-requires-clause-viewed c =
    (parts-right (frame_seen c.args.frame.now) (sofar_of c.args.sofar.now) c.args.base.now c.args.g.now _ c.in_ok-init.ensures).viewed
