use Rattle.std.proofs.Common.{◌≤◌, subst, sym, ◌∙◌}
use Rattle.kt_syntax.specs.Tree.{declaration_of}
use Rattle.kt_tree.specs.Tree.{statement_of}
use Rattle.kt_names.specs.Scopes.{state_of, body_of}
use Rattle.kt_check.proofs.Entries.{alone-is, alone-fails, left-kept, left-within}
use Rattle.kt_check.proofs.statement.declared_alone.Goals as goal

pub leave-requires : goal.leave-requires
leave-requires c =
    subst (λ n. n ≤ c.locals.new.scopes.start) (sym c.enter-outer.ensures.outer)
    (left-within c.args.scopes.now c.enter-outer.new.self c.locals.new.scopes c.enter-outer.ensures.visible c.enter-outer.ensures.inner c.in-Ok.ensures.grown c.args.scopes.now.within)

pub returns-in-Ok-clause-judged : goal.returns-in-Ok-clause-judged
returns-in-Ok-clause-judged c =
    alone-is (body_of c.args.body.now) (state_of c.args.scopes.now) (state_of c.enter-outer.new.self) c.enter-outer.ensures.entered (declaration_of c.args.d.now) c.in-Ok.inner (state_of c.locals.new.scopes)
    (statement_of c.block.result) c.leave.new.self.next c.in-Ok.ensures.judged c.block.ensures c.leave.ensures.next

pub returns-in-Ok-clause-kept : goal.returns-in-Ok-clause-kept
returns-in-Ok-clause-kept c =
    left-kept c.args.scopes.now c.enter-outer.new.self c.locals.new.scopes c.leave.new.self c.enter-outer.ensures.visible c.enter-outer.ensures.inner c.in-Ok.ensures.grown c.leave.ensures.visible (c.leave.ensures.start ∙ c.enter-outer.ensures.outer)

pub returns-in-Err-clause-judged : goal.returns-in-Err-clause-judged
returns-in-Err-clause-judged c =
    alone-fails (body_of c.args.body.now) (state_of c.args.scopes.now) (state_of c.enter-outer.new.self) c.enter-outer.ensures.entered (declaration_of c.args.d.now) c.in-Err.fault c.in-Err.ensures.judged
