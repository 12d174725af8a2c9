use Rattle.std.proofs.Common.{Ok, List, sym, ap, ◌∙◌}
use Rattle.kt_tree.specs.declared.stmt.Stmt.{Stmt}
use Rattle.kt_tree.specs.Tree.{Statement, Compound, statements_of}
use Rattle.kt_check.proofs.Entries.{before-last}
use Rattle.kt_check.proofs.statement.followed.Goals as goal

pub returns : goal.returns
returns c =
    sym (ap (λ (s : Statement). Ok s)
    (c.block.ensures ∙ ap (λ (ss : List Stmt). Compound (statements_of ss)) c.in_ok-push.ensures.ok ∙ ap (λ b. Compound b) (before-last c.args.first c.args.last)))
