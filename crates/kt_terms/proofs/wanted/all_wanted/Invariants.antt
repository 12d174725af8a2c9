use Rattle.std.proofs.Common.{List, length}
use Rattle.kt_names.specs.Builtins.{Argument}
use Rattle.kt_names.specs.Views.{environment_of}
use Rattle.kt_terms.specs.Arguments.{AreJudged}
use Rattle.kt_terms.proofs.ArgumentAnswers.{Left}
use Rattle.kt_terms.proofs.wanted.all_wanted.Given as goal

abbrev pub decreases-loop-x : goal.decreases-loop-x
decreases-loop-x l = length l.arguments

abbrev pub invariant-loop-x : goal.invariant-loop-x
invariant-loop-x l =
    (specs : List Argument) → AreJudged l.fn.arguments specs → Left (environment_of l.env) l.up l.wanted l.arguments l.operands specs
