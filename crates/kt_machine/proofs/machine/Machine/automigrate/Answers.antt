use Rattle.std.proofs.Common.{ap}
use Rattle.kt_lone.specs.Turn.{has_ended}
use Rattle.kt_machine.specs.Engine.{standing_of}
use Rattle.kt_machine.proofs.Acting.{automigrate-reply}
use Rattle.kt_machine.proofs.machine.Machine.automigrate.Goals as goal

pub reply-requires-clause-reply : goal.reply-requires-clause-reply
reply-requires-clause-reply c =
    let stands = c.requires.settled.stands (ap (λ s. has_ended (standing_of s)) c.requires.live) in
    automigrate-reply c.args.codes.now c.args.self.now c.migrate.new.self c.migrate.ensures.thread c.migrate.ensures.shared stands.head c.requires.act
