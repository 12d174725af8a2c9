use Rattle.std.proofs.Common.{◌≡◌, ◌++◌, map, flat_map, drop}
use Rattle.kt_syntax.specs.Tree.{local_of}
use Rattle.kt_names.specs.Uses.{local_uses}
use Rattle.kt_names.proofs.uses.Uses.push_locals.Given as goal

abbrev pub invariant-loop-local : goal.invariant-loop-local
invariant-loop-local l = l.self ++ flat_map (local_uses l.locals.base) (map local_of (drop l.local-index l.locals.declarators)) ≡ l.fn.self ++ flat_map (local_uses l.locals.base) (map local_of l.locals.declarators)
