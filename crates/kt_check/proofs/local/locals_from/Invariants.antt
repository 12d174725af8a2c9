use Rattle.std.proofs.Common.{map, drop}
use Rattle.kt_syntax.specs.Tree.{local_of}
use Rattle.kt_tree.specs.Tree.{statement_of}
use Rattle.kt_names.specs.Statements.{locals_from}
use Rattle.kt_names.specs.Scopes.{state_of, body_of, Grown}
use Rattle.kt_check.proofs.LocalParts.{Lists}
use Rattle.kt_check.proofs.local.locals_from.Given as goal

abbrev pub invariant-loop-declarator : goal.invariant-loop-declarator
invariant-loop-declarator l = record {
  listed : Lists (body_of l.body) l.base (locals_from (body_of l.body) (state_of l.fn.scopes) l.base (map local_of l.declarators)) (map statement_of l.statements) (state_of l.scopes) (map local_of (drop l.declarator-index l.declarators));
  grown : Grown l.fn.scopes l.scopes;
}
