use Rattle.std.proofs.Common.{◌≡◌, ◌++◌, drop}
use Rattle.kt_names.specs.Gathered.{written_in}
use Rattle.kt_names.specs.Tables.{literals_in}
use Rattle.kt_names.proofs.literals.literals.Given as goal

abbrev pub invariant-loop-written : goal.invariant-loop-written
invariant-loop-written l = l.literals.items ++ literals_in (written_in (drop l.written-index l.strings)) ≡ literals_in (written_in l.strings)
