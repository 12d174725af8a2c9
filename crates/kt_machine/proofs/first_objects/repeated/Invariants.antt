use Rattle.std.proofs.Common.{◌≡◌}
use Rattle.kt_mem.specs.Memory.{repeated}
use Rattle.kt_machine.proofs.first_objects.repeated.Given as goal

abbrev pub invariant-loop : goal.invariant-loop
invariant-loop l = l.cells.items ≡ repeated l.counter l.element
