use Rattle.std.proofs.Common.{◌≡◌, ◌++◌, map, drop}
use Rattle.kt_syntax.specs.Tree.{statement_of, statements_of}
use Rattle.kt_names.specs.Uses.{statements_uses}
use Rattle.kt_names.proofs.uses.Uses.+stmts.Given as goal

abbrev pub invariant-push_stmts-loop-stmt : goal.invariant-push_stmts-loop-stmt
invariant-push_stmts-loop-stmt l = l.self ++ statements_uses (statements_of (map statement_of (drop l.stmt-index l.stmts))) ≡ l.fn.self ++ statements_uses (statements_of (map statement_of l.stmts))
