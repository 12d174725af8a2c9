use Rattle.std.proofs.Common.{◌≡◌, drop, map}
use Rattle.kt_syntax.specs.Tree.{routine_of}
use Rattle.kt_check.specs.Files.{has_main}
use Rattle.kt_check.specs.Stages.{frame_seen}
use Rattle.kt_check.proofs.file.has_main.Given as goal

abbrev pub invariant-loop-f : goal.invariant-loop-f
invariant-loop-f l = has_main (frame_seen l.frame) (map (λ r. routine_of r.now) l.routines) ≡ has_main (frame_seen l.frame) (map (λ r. routine_of r.now) (drop l.f-index l.routines))
