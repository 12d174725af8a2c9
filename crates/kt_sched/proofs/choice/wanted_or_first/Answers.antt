use Rattle.std.proofs.Common.{◌∙◌, sym}
use Rattle.kt_sched.specs.Enabled.{enabled_threads}
use Rattle.kt_sched.proofs.Numbers.{some-enabled, wanted-none, wanted-off, wanted-on}
use Rattle.kt_sched.proofs.choice.wanted_or_first.Goals as goal
use Rattle.kt_sched.proofs.choice.wanted_or_first.Goals.{in_default-via-in-Some+else-is_enabled, in_default-via-in_default}

pub nth-requires : goal.nth-requires
nth-requires c = some-enabled c.args.enabled.now c.requires

pub returns-in-Some-clause-thread : goal.returns-in-Some-clause-thread
returns-in-Some-clause-thread c =
    sym (wanted-on c.args.wanted c.in-Some.thread (enabled_threads c.args.enabled.now) c.in-Some.is (sym c.is_enabled.ensures.among ∙ c.if-is_enabled.true))

pub returns-in_default-clause-thread : goal.returns-in_default-clause-thread
returns-in_default-clause-thread c =
    elim c.in_default.branch [
      | in_default-via-in-Some+else-is_enabled w ↦ c.nth.ensures.thread ∙ sym (wanted-off c.args.wanted w.in-Some.thread (enabled_threads c.args.enabled.now) w.in-Some.is (sym w.is_enabled.ensures.among ∙ w.if-is_enabled.false))
      | in_default-via-in_default w ↦ c.nth.ensures.thread ∙ sym (wanted-none c.args.wanted (enabled_threads c.args.enabled.now) w.in_default.is)
    ]
