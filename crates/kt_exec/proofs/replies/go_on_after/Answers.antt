use Rattle.kt_exec.proofs.replies.go_on_after.Goals as goal

pub returns-in-Tick : goal.returns-in-Tick
returns-in-Tick c = rw c.in-Tick.is (c.tick.ensures c.args.reply)
