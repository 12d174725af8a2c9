use Rattle.std.proofs.Common.{◌≡◌, ◌++◌, map, drop}
use Rattle.kt_syntax.specs.Tree.{statement_of, statements_of}
use Rattle.kt_names.specs.Tables.{block_locals}
use Rattle.kt_names.specs.Views.{environment_of}
use Rattle.kt_names.specs.Scopes.{declared_as}
use Rattle.kt_check.proofs.function_locals.+statements.Given as goal

abbrev pub invariant-add_block-loop-entry : goal.invariant-add_block-loop-entry
invariant-add_block-loop-entry l =
    map declared_as l.all.items ++ block_locals (environment_of l.env).names (statements_of (map statement_of (drop l.entry-index l.list)))
    ≡ map declared_as l.fn.all.items ++ block_locals (environment_of l.env).names (statements_of (map statement_of l.list))
