use Rattle.std.proofs.Common.{◌≡◌, ◌++◌, map, flat_map, drop}
use Rattle.kt_syntax.specs.Tree.{local_of}
use Rattle.kt_names.specs.Uses.{where_there}
use Rattle.kt_names.specs.Tables.{term_written}
use Rattle.kt_names.proofs.written.Strings.push_locals.Given as goal

abbrev pub invariant-loop-local : goal.invariant-loop-local
invariant-loop-local l = l.self ++ flat_map (λ x. where_there term_written x.initial) (map local_of (drop l.local-index l.locals.declarators)) ≡ l.fn.self ++ flat_map (λ x. where_there term_written x.initial) (map local_of l.locals.declarators)
