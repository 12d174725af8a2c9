use Rattle.std.proofs.Common.{◌≡◌, ◌≤◌, ◌-◌, length, drop}
use Rattle.kt_names.specs.Functions.{same_types}
use Rattle.kt_check.specs.Stages.{frame_seen, types_in}
use Rattle.kt_check.proofs.routine.same_parameters.Given as goal

abbrev pub decreases-loop-i : goal.decreases-loop-i
decreases-loop-i l = length l.a - l.i

abbrev pub invariant-loop-i : goal.invariant-loop-i
invariant-loop-i l =
    (l.i ≤ length l.a) × (l.i ≤ length l.b)
    × (same_types (types_in (frame_seen l.frame) l.a) (types_in (frame_seen l.frame) l.b) ≡ same_types (types_in (frame_seen l.frame) (drop l.i l.a)) (types_in (frame_seen l.frame) (drop l.i l.b)))
