use Rattle.std.proofs.Common.{map, drop}
use Rattle.kt_syntax.specs.Tree.{local_of}
use Rattle.kt_statements.specs.Scopes.{place_of}
use Rattle.kt_statements.proofs.Entries.{Declaring}
use Rattle.kt_statements.proofs.local.locals.Given as goal

abbrev pub invariant-loop-declarator : goal.invariant-loop-declarator
invariant-loop-declarator l =
    Declaring l.body l.base (place_of l.initial.scopes) (map local_of l.ls) l.scopes (map local_of (drop l.declarator-index l.ls)) l.all
