use Rattle.std.proofs.Common.{◌≡◌, drop}
use Rattle.kt_meaning.specs.Thread.{value_for}
use Rattle.kt_exec.proofs.request_values.value_for.Given as goal

abbrev pub invariant-loop-local : goal.invariant-loop-local
invariant-loop-local l = value_for l.function l.n (drop l.local-index l.kept) ≡ value_for l.function l.n l.kept
