use Rattle.std.proofs.Common.{refl, ap, ◌∙◌}
use Rattle.kt_syntax.specs.Tree.{statement_of}
use Rattle.kt_names.specs.Tables.{statement_written}
use Rattle.kt_names.proofs.Adding.{adds-one, adds-two, adds-three, four}
use Rattle.kt_names.proofs.Trees.{compound-is, conditional-is, alternative-is, looped-is, repeated-is, counted-is}
use Rattle.kt_names.proofs.written.Strings.+stmts.Goals as goal

pub push_stmt-returns-in-Block : goal.push_stmt-returns-in-Block
push_stmt-returns-in-Block t c = adds-one _ c.args.self.now _ _ _ c.push_stmts.ensures (ap statement_written (ap statement_of c.in-Block.is ∙ compound-is c.in-Block.entries))

pub push_stmt-returns-in_ok-push_expr-in-If : goal.push_stmt-returns-in_ok-push_expr-in-If
push_stmt-returns-in_ok-push_expr-in-If t c =
    adds-two _ c.args.self.now c.push_expr-in-If.new.self _ _ _ _ c.in_ok-push_expr-in-If.ensures c.push_stmt.ensures (rw (c.in-If.is, conditional-is c.in-If.test c.in-If.then, c.get.ensures) refl)

pub push_stmt-returns-in_ok-push_stmt-in-IfElse : goal.push_stmt-returns-in_ok-push_stmt-in-IfElse
push_stmt-returns-in_ok-push_stmt-in-IfElse t c =
    adds-three _ c.args.self.now c.push_expr-in-IfElse.new.self c.push_stmt-in-IfElse.new.self _ _ _ _ _ c.in_ok-push_expr-in-IfElse.ensures c.in_ok-push_stmt-in-IfElse.ensures c.push_stmt-in-IfElse-2.ensures
    (rw (c.in-IfElse.is, alternative-is c.in-IfElse.test c.in-IfElse.then c.in-IfElse.other, c.get-in-IfElse.ensures, c.get-in-IfElse-2.ensures) refl)

pub push_stmt-returns-in_ok-push_expr-in-While : goal.push_stmt-returns-in_ok-push_expr-in-While
push_stmt-returns-in_ok-push_expr-in-While t c =
    adds-two _ c.args.self.now c.push_expr-in-While.new.self _ _ _ _ c.in_ok-push_expr-in-While.ensures c.push_stmt-in-While.ensures (rw (c.in-While.is, looped-is c.in-While.test c.in-While.body, c.get-in-While.ensures) refl)

pub push_stmt-returns-in_ok-push_stmt-in-Do : goal.push_stmt-returns-in_ok-push_stmt-in-Do
push_stmt-returns-in_ok-push_stmt-in-Do t c =
    adds-two _ c.args.self.now c.push_stmt-in-Do.new.self _ _ _ _ c.in_ok-push_stmt-in-Do.ensures c.push_expr-in-Do.ensures (rw (c.in-Do.is, repeated-is c.in-Do.body c.in-Do.test, c.get-in-Do.ensures) refl)

pub push_stmt-returns-in_ok-push_head-in-For : goal.push_stmt-returns-in_ok-push_head-in-For
push_stmt-returns-in_ok-push_head-in-For t c =
    adds-two _ c.args.self.now c.push_head.new.self _ _ _ _ c.in_ok-push_head-in-For.ensures c.push_stmt-in-For.ensures (rw (c.in-For.is, counted-is c.in-For.start c.in-For.test c.in-For.step c.in-For.body, c.get-in-For.ensures) (search (four)))
