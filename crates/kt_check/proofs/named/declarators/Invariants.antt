use Rattle.std.proofs.Common.{◌≡◌, map, drop}
use Rattle.std.specs.List.{list_all}
use Rattle.kt_syntax.specs.Tree.{local_of}
use Rattle.kt_check.specs.Named.{is_named_local}
use Rattle.kt_check.proofs.named.declarators.Given as goal

abbrev pub invariant-loop-declarator : goal.invariant-loop-declarator
invariant-loop-declarator l = list_all is_named_local (map local_of (drop l.declarator-index l.declarators)) ≡ list_all is_named_local (map local_of l.declarators)
