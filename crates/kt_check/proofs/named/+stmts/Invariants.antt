use Rattle.std.proofs.Common.{◌≡◌, map, drop}
use Rattle.kt_syntax.specs.Tree.{statement_of, statements_of}
use Rattle.kt_check.specs.Named.{are_named_statements}
use Rattle.kt_check.proofs.named.+stmts.Given as goal

abbrev pub invariant-statements-loop-stmt : goal.invariant-statements-loop-stmt
invariant-statements-loop-stmt l = are_named_statements (statements_of (map statement_of (drop l.stmt-index l.stmts))) ≡ are_named_statements (statements_of (map statement_of l.stmts))
