use Rattle.std.proofs.Common.{◌<◌, ◌≤◌, ◌≡◌, length, ap, arith}
use Rattle.kt_sched.specs.Enabled.{enabled_threads}
use Rattle.kt_sched.proofs.Numbers.{count-clear, count-set, rest-all, rest-end, rest_from}
use Rattle.kt_sched.proofs.flags.count.Goals as goal
use Rattle.kt_sched.proofs.flags.count.Goals.{then-is_enabled, else-is_enabled}

pub loop-is_enabled-init : goal.loop-is_enabled-init
loop-is_enabled-init c = (omega arith, rw (rest-all c.args.enabled.now) (omega arith))

pub loop-is_enabled-preserved : goal.loop-is_enabled-preserved
loop-is_enabled-preserved c =
    let flags = c.args.enabled.now in
    let i = c.loop-is_enabled.is_enabled-index in
    let n = c.loop-is_enabled.count in
    let within : i < length flags = omega arith in
    elim c.if-is_enabled.branch [
      | then-is_enabled w ↦ (omega arith, rw w.count-is (count-set flags i n (enabled_threads flags) within w.if-is_enabled.true c.loop-is_enabled.invariant.1))
      | else-is_enabled w ↦ (omega arith, rw w.count-is (count-clear flags i n (enabled_threads flags) within w.if-is_enabled.false c.loop-is_enabled.invariant.1))
    ]

pub returns : goal.returns
returns c =
    let past : length c.args.enabled.now ≤ c.loop-is_enabled.is_enabled-index = omega arith in
    let none : length (rest_from c.args.enabled.now c.loop-is_enabled.is_enabled-index) ≡ 0 = ap length (rest-end c.args.enabled.now c.loop-is_enabled.is_enabled-index past) in
    omega (arith, none, c.loop-is_enabled.invariant.1)
