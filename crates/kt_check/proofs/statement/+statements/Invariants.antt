use Rattle.std.proofs.Common.{map, drop}
use Rattle.kt_tree.specs.Tree.{statement_of}
use Rattle.kt_names.specs.Statements.{entries}
use Rattle.kt_names.specs.Scopes.{state_of, body_of, Grown}
use Rattle.kt_check.proofs.Entries.{Stands}
use Rattle.kt_check.proofs.Blocks.{written}
use Rattle.kt_check.proofs.statement.+statements.Given as goal

abbrev pub invariant-entries-loop-item : goal.invariant-entries-loop-item
invariant-entries-loop-item l = record {
  stands : Stands (body_of l.body) l.in_loop (entries (body_of l.body) l.in_loop (state_of l.fn.scopes) (written l.list)) (map statement_of l.all) (state_of l.scopes) (written (drop l.item-index l.list));
  grown : Grown l.fn.scopes l.scopes;
}
