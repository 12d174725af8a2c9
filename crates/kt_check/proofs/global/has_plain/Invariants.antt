use Rattle.std.proofs.Common.{◌≡◌, ◌==◌, drop, map}
use Rattle.std.specs.List.{list_any}
use Rattle.kt_names.specs.Uses.{stars_of}
use Rattle.kt_check.proofs.global.has_plain.Given as goal

abbrev pub invariant-loop-g : goal.invariant-loop-g
invariant-loop-g l =
    list_any (λ n. n == 0) (map (λ g. stars_of g.declarator.pointer) l.declarators) ≡ list_any (λ n. n == 0) (map (λ g. stars_of g.declarator.pointer) (drop l.g-index l.declarators))
