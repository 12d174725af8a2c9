use Rattle.std.proofs.Common.{◌<◌, ◌≤◌, suc, length, arith}
use Rattle.std.proofs.lemmas.Bool.{lt-leb}
use Rattle.kt_sched.proofs.Numbers.{tested-past, tested-within}
use Rattle.kt_sched.proofs.flags.is_enabled.Goals as goal

pub returns-then-thread-lt65 : goal.returns-then-thread-lt65
returns-then-thread-lt65 c =
    let within : c.args.thread < length c.args.enabled.now = omega arith in
    let tested = tested-within c.args.enabled.now c.args.thread within in
    rw c.from-thread.ensures (record { among = tested.among; flag = tested.flag })

pub returns-else-thread-lt65 : goal.returns-else-thread-lt65
returns-else-thread-lt65 c =
    let past : length c.args.enabled.now ≤ c.args.thread = omega arith in
    let tested = tested-past c.args.enabled.now c.args.thread past in
    rw (lt-leb (suc c.from-thread.result) 65 (omega arith)) (record { among = tested.among; flag = tested.flag })
