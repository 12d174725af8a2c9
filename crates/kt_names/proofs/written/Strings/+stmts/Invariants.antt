use Rattle.std.proofs.Common.{◌≡◌, ◌++◌, map, drop}
use Rattle.kt_syntax.specs.Tree.{statement_of, statements_of}
use Rattle.kt_names.specs.Tables.{block_written}
use Rattle.kt_names.proofs.written.Strings.+stmts.Given as goal

abbrev pub invariant-push_stmts-loop-stmt : goal.invariant-push_stmts-loop-stmt
invariant-push_stmts-loop-stmt l = l.self ++ block_written (statements_of (map statement_of (drop l.stmt-index l.stmts))) ≡ l.fn.self ++ block_written (statements_of (map statement_of l.stmts))
