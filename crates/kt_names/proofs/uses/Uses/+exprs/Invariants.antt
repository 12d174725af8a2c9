use Rattle.std.proofs.Common.{◌≡◌, ◌++◌, map, drop}
use Rattle.kt_grammar.specs.Tree.{term_of, terms_of}
use Rattle.kt_names.specs.Uses.{terms_uses}
use Rattle.kt_names.proofs.uses.Uses.+exprs.Given as goal

abbrev pub invariant-push_exprs-loop-expr : goal.invariant-push_exprs-loop-expr
invariant-push_exprs-loop-expr l =
    l.self ++ terms_uses (terms_of (map term_of (drop l.expr-index l.exprs))) ≡ l.fn.self ++ terms_uses (terms_of (map term_of l.exprs))
