use Rattle.std.proofs.Common.{◌<◌, ◌≤◌, length, refl, arith, ◌∙◌}
use Rattle.kt_sched.specs.Enabled.{enabled_threads}
use Rattle.kt_sched.proofs.Numbers.{flag-set, left-clear, left-first, left-none, left-over, left-set}
use Rattle.kt_sched.proofs.flags.nth.Goals as goal
use Rattle.kt_sched.proofs.flags.nth.Goals.{then-is_enabled+else-left-eq0, else-is_enabled}

pub loop-is_enabled-init : goal.loop-is_enabled-init
loop-is_enabled-init c = (refl, left-first c.args.enabled.now c.args.before c.requires)

pub loop-is_enabled-preserved : goal.loop-is_enabled-preserved
loop-is_enabled-preserved c =
    let flags = c.args.enabled.now in
    let i = c.loop-is_enabled.is_enabled-index in
    let left = c.loop-is_enabled.left in
    let within : i < length flags = omega arith in
    elim c.if-is_enabled.branch [
      | then-is_enabled+else-left-eq0 w ↦ (omega arith, rw w.left-is (left-set flags i left (enabled_threads flags) c.args.before within w.if-is_enabled.true w.if-left-eq0.false c.loop-is_enabled.invariant.1))
      | else-is_enabled w ↦ (omega arith, rw w.left-is (left-clear flags i left (enabled_threads flags) c.args.before within w.if-is_enabled.false c.loop-is_enabled.invariant.1))
    ]

pub returns-then-left-eq0 : goal.returns-then-left-eq0
returns-then-left-eq0 c =
    let flags = c.args.enabled.now in
    let i = c.loop-is_enabled.is_enabled-index in
    let within : i < length flags = omega arith in
    record {
      thread = c.loop-is_enabled.invariant.0 ∙ left-none flags i c.loop-is_enabled.left (enabled_threads flags) c.args.before within c.if-is_enabled.true c.if-left-eq0.true c.loop-is_enabled.invariant.1;
      flag = rw c.loop-is_enabled.invariant.0 (flag-set flags i within c.if-is_enabled.true);
    }

pub returns : goal.returns
returns c =
    let past : length c.args.enabled.now ≤ c.loop-is_enabled.is_enabled-index = omega arith in
    absurd (left-over c.args.enabled.now c.loop-is_enabled.is_enabled-index c.loop-is_enabled.left (enabled_threads c.args.enabled.now) c.args.before past c.loop-is_enabled.invariant.1)
