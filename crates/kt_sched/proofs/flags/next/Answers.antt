use Rattle.std.proofs.Common.{◌≡◌, ◌+◌, ◌∙◌, sym, ap, ℕ}
use Rattle.kt_sched.specs.Enabled.{enabled_threads}
use Rattle.kt_sched.proofs.Numbers.{search-above, search-round, some-enabled}
use Rattle.kt_sched.proofs.flags.next.Goals as goal

pub nth-requires : goal.nth-requires
nth-requires c = some-enabled c.args.enabled.now c.requires

pub returns-in-Some-clause-thread : goal.returns-in-Some-clause-thread
returns-in-Some-clause-thread c =
    let behind : c.from.result + 1 ≡ c.args.thread + 1 = ap (λ (n : ℕ). n + 1) c.from.ensures in
    sym (search-above c.args.thread (c.from.result + 1) (enabled_threads c.args.enabled.now) c.in-Some.next behind (sym c.first_from.ensures.thread ∙ c.in-Some.is))

pub returns-in-None-clause-thread : goal.returns-in-None-clause-thread
returns-in-None-clause-thread c =
    let behind : c.from.result + 1 ≡ c.args.thread + 1 = ap (λ (n : ℕ). n + 1) c.from.ensures in
    c.nth.ensures.thread ∙ sym (search-round c.args.thread (c.from.result + 1) (enabled_threads c.args.enabled.now) behind (sym c.first_from.ensures.thread ∙ c.in-None.is))
