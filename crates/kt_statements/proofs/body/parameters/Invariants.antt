use Rattle.std.proofs.Common.{drop}
use Rattle.kt_statements.specs.Scopes.{place_of}
use Rattle.kt_statements.proofs.Functions.{Heading}
use Rattle.kt_statements.proofs.body.parameters.Given as goal

abbrev pub invariant-loop-x : goal.invariant-loop-x
invariant-loop-x l = Heading l.body (place_of l.initial.scopes) l.xs l.scopes (drop l.x-index l.xs) l.all
