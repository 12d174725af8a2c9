use Rattle.std.proofs.Common.{refl, ap, map, ◌∙◌}
use Rattle.kt_syntax.specs.Tree.{statement_of}
use Rattle.kt_names.specs.Tables.{statement_locals}
use Rattle.kt_names.specs.Views.{environment_of}
use Rattle.kt_names.specs.Scopes.{declared_as}
use Rattle.kt_names.proofs.Adding.{adds-one, adds-two}
use Rattle.kt_names.proofs.Trees.{compound-is, conditional-is, alternative-is, looped-is, repeated-is, counted-is}
use Rattle.kt_check.proofs.function_locals.+statements.Goals as goal

pub add_statement-returns-in-Block-clause-added : goal.add_statement-returns-in-Block-clause-added
add_statement-returns-in-Block-clause-added t c =
    adds-one _ (map declared_as c.args.all.now.items) _ _ _ c.add_block.ensures.added
    (ap (statement_locals (environment_of c.args.env.now).names) (ap statement_of c.in-Block.is ∙ compound-is c.in-Block.list))

pub add_statement-returns-in-If-clause-added : goal.add_statement-returns-in-If-clause-added
add_statement-returns-in-If-clause-added t c =
    adds-one _ (map declared_as c.args.all.now.items) _ _ _ c.add_statement.ensures.added (rw (c.in-If.is, conditional-is c.in-If.field-0 c.in-If.inner, c.get.ensures) refl)

pub add_statement-returns-in-While-clause-added : goal.add_statement-returns-in-While-clause-added
add_statement-returns-in-While-clause-added t c =
    adds-one _ (map declared_as c.args.all.now.items) _ _ _ c.add_statement-in-While.ensures.added (rw (c.in-While.is, looped-is c.in-While.field-0 c.in-While.inner, c.get-in-While.ensures) refl)

pub add_statement-returns-in-Do-clause-added : goal.add_statement-returns-in-Do-clause-added
add_statement-returns-in-Do-clause-added t c =
    adds-one _ (map declared_as c.args.all.now.items) _ _ _ c.add_statement-in-Do.ensures.added (rw (c.in-Do.is, repeated-is c.in-Do.inner c.in-Do.field-1, c.get-in-Do.ensures) refl)

pub add_statement-returns-in_ok-add_statement-in-IfElse-clause-added : goal.add_statement-returns-in_ok-add_statement-in-IfElse-clause-added
add_statement-returns-in_ok-add_statement-in-IfElse-clause-added t c =
    adds-two _ (map declared_as c.args.all.now.items) _ _ _ _ _ c.in_ok-add_statement-in-IfElse.ensures.added c.add_statement-in-IfElse-2.ensures.added
    (rw (c.in-IfElse.is, alternative-is c.in-IfElse.field-0 c.in-IfElse.inner c.in-IfElse.other, c.get-in-IfElse.ensures, c.get-in-IfElse-2.ensures) refl)

pub add_statement-returns-in_ok-add_start-in-For-clause-added : goal.add_statement-returns-in_ok-add_start-in-For-clause-added
add_statement-returns-in_ok-add_start-in-For-clause-added t c =
    adds-two _ (map declared_as c.args.all.now.items) _ _ _ _ _ c.in_ok-add_start-in-For.ensures.added c.add_statement-in-For.ensures.added
    (rw (c.in-For.is, counted-is c.in-For.first c.in-For.field-1 c.in-For.field-2 c.in-For.inner, c.get-in-For.ensures) refl)
