use Rattle.std.proofs.Common.{◌+◌, ◌*◌, map, drop}
use Rattle.kt_syntax.specs.Tree.{statement_of, statements_of}
use Rattle.kt_statements.specs.Scopes.{place_of}
use Rattle.kt_statements.proofs.Entries.{Entering}
use Rattle.kt_statements.proofs.Sizes.{size, sizes}
use Rattle.kt_statements.proofs.statement.+statements.Given as goal

abbrev pub decreases-statement : goal.decreases-statement
decreases-statement l = 3 * size (statement_of l.s.now)

abbrev pub decreases-inside : goal.decreases-inside
decreases-inside l = 3 * size (statement_of l.s.now) + 1

abbrev pub decreases-repeated : goal.decreases-repeated
decreases-repeated l = 3 * size (statement_of l.s.now) + 1

abbrev pub decreases-counted : goal.decreases-counted
decreases-counted l = 3 * size (statement_of l.s.now) + 2

abbrev pub decreases-entries : goal.decreases-entries
decreases-entries l = 3 * sizes (statements_of (map statement_of l.es.now)) + 1

abbrev pub decreases-block : goal.decreases-block
decreases-block l = 3 * sizes (statements_of (map statement_of l.es.now)) + 2

abbrev pub invariant-entries-loop-s : goal.invariant-entries-loop-s
invariant-entries-loop-s l =
    Entering l.body (place_of l.fn.scopes) (statements_of (map statement_of l.es)) l.scopes (statements_of (map statement_of (drop l.s-index l.es))) l.all
