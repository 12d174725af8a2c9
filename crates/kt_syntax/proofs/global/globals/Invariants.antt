use Rattle.std.proofs.Common.{◌≤◌, [], ◌∷◌, length}
use Rattle.kt_syntax.specs.Reading.{global_at}
use Rattle.kt_syntax.proofs.Loops.{IsUnderWay, more_listed}
use Rattle.kt_syntax.proofs.global.globals.Given as goal

abbrev pub invariant-loop-alloc : goal.invariant-loop-alloc
invariant-loop-alloc l = IsUnderWay (more_listed global_at) (more_listed global_at (length l.symbols) (l.fn.first ∷ []) l.symbols) l.done l.rest × (length l.rest ≤ length l.symbols)

abbrev pub decreases-loop-alloc : goal.decreases-loop-alloc
decreases-loop-alloc l = length l.rest
