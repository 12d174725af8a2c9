use Rattle.std.proofs.Common.{◌≡◌, ◌==◌, drop, map}
use Rattle.std.specs.List.{list_any}
use Rattle.kt_names.specs.Uses.{stars_of}
use Rattle.kt_check.proofs.within.has_plain.Given as goal

abbrev pub invariant-loop-declarator : goal.invariant-loop-declarator
invariant-loop-declarator l =
    list_any (λ n. n == 0) (map (λ d. stars_of d.pointer) l.declarators) ≡ list_any (λ n. n == 0) (map (λ d. stars_of d.pointer) (drop l.declarator-index l.declarators))
