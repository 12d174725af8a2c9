use Rattle.std.proofs.Common.{◌≡◌, drop}
use Rattle.kt_meaning.specs.Requests.{pieces}
use Rattle.kt_exec.proofs.Asked.{after}
use Rattle.kt_exec.proofs.requests.pieces.Given as goal

abbrev pub invariant-loop-part : goal.invariant-loop-part
invariant-loop-part l = after l.made.items (pieces (drop l.part-index l.parts) l.left) ≡ pieces l.parts l.values
