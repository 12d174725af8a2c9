use Rattle.std.proofs.lemmas.Bool.{and_from}
use Rattle.kt_names.proofs.Trees.{conditional-is, alternative-is, looped-is, repeated-is, counted-is}
use Rattle.kt_check.proofs.named.+stmts.Goals as goal

pub statement-returns-in-If : goal.statement-returns-in-If
statement-returns-in-If t c = rw (c.in-If.is, conditional-is) (rw c.get.ensures at c.statement.ensures)

pub statement-returns-in-IfElse : goal.statement-returns-in-IfElse
statement-returns-in-IfElse t c =
    rw (c.in-IfElse.is, alternative-is)
    (and_from _ _ (rw c.get-in-IfElse.ensures at c.statement-in-IfElse.ensures) (rw c.get-in-IfElse-2.ensures at c.statement-in-IfElse-2.ensures))

pub statement-returns-in-While : goal.statement-returns-in-While
statement-returns-in-While t c = rw (c.in-While.is, looped-is) (rw c.get-in-While.ensures at c.statement-in-While.ensures)

pub statement-returns-in-Do : goal.statement-returns-in-Do
statement-returns-in-Do t c = rw (c.in-Do.is, repeated-is) (rw c.get-in-Do.ensures at c.statement-in-Do.ensures)

pub statement-returns-in-For : goal.statement-returns-in-For
statement-returns-in-For t c = rw (c.in-For.is, counted-is) (and_from _ _ c.start.ensures (rw c.get-in-For.ensures at c.statement-in-For.ensures))
