use Rattle.std.proofs.Common.{◌≡◌}
use Rattle.kt_code.specs.Settling.{HasEach, settle, weight}
use Rattle.kt_exec.specs.Apart.{whole}
use Rattle.kt_exec.proofs.settling.run.Given as goal

abbrev pub invariant-steps : goal.invariant-steps
invariant-steps l = record {
  same : settle l.code (whole l.frame l.rest) ≡ settle l.code (whole l.fn.frame l.fn.rest);
  each : HasEach l.code (whole l.frame l.rest);
}

abbrev pub decreases-steps : goal.decreases-steps
decreases-steps l = weight l.code (whole l.frame l.rest)
