use Rattle.std.proofs.Common.{map, take}
use Rattle.kt_grammar.specs.Tree.{term_of, terms_of}
use Rattle.kt_names.specs.Views.{environment_of}
use Rattle.kt_names.specs.Terms.{typing_all}
use Rattle.kt_terms.specs.Arguments.{AreJudged}
use Rattle.kt_terms.proofs.term.+terms.Given as goal

abbrev pub invariant-typing_all-loop-e : goal.invariant-typing_all-loop-e
invariant-typing_all-loop-e l =
    AreJudged l.arguments (typing_all (environment_of l.env) (terms_of (map term_of (take l.e-index l.args))))
