use Rattle.std.proofs.Common.{◌≡◌, ◌≤◌, ◌-◌}
use Rattle.kt_code.specs.Settling.{Fits}
use Rattle.kt_exec.specs.Stretching.{after_ticks, at_tick, TicksFor}
use Rattle.kt_exec.proofs.ticks.take_ticks.Given as goal

abbrev pub invariant-ticks : goal.invariant-ticks
invariant-ticks l = record {
  leads : l.private ≡ after_ticks l.code l.ticks l.fn.private;
  each : TicksFor l.code l.ticks l.fn.private;
  within : l.ticks ≤ l.most;
  tick : l.more ≡ at_tick l.code l.private;
  fits : Fits l.code l.private;
}

abbrev pub decreases-ticks : goal.decreases-ticks
decreases-ticks l = l.most - l.ticks
