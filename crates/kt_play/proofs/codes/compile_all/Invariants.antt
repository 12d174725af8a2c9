use Rattle.std.specs.List.{AllByRecursion}
use Rattle.std.proofs.Common.{◌≡◌, map, take}
use Rattle.kt_machine.specs.Engine.{DoesActs}
use Rattle.kt_play.proofs.codes.compile_all.Given as goal

abbrev pub invariant-loop-version : goal.invariant-loop-version
invariant-loop-version l = record {
  versions : map (λ c. c.program) l.codes.items ≡ take l.version-index l.versions;
  acts : AllByRecursion DoesActs l.codes.items;
}
