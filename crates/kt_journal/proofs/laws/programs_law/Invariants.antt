use Rattle.std.specs.List.{AllByRecursion}
use Rattle.std.proofs.Common.{take}
use Rattle.kt_tree.specs.Version.{IsProgram}
use Rattle.kt_journal.proofs.laws.programs_law.Given as goal

abbrev pub invariant-loop-version : goal.invariant-loop-version
invariant-loop-version l = AllByRecursion IsProgram (take l.version-index l.versions)
