use Rattle.std.proofs.Common.{◌≡◌, ◌≤◌, ◌<◌, Ok, Err, Some, None, List, [], ◌∷◌, length, map, drop, get_or, true, refl, sym, ap, subst, ◌∙◌}
use Rattle.std.specs.Option.{option_map}
use Rattle.kt_grammar.specs.Tree.{term_of}
use Rattle.kt_syntax.specs.declared.tree.Stmt.{Stmt as Written}
use Rattle.kt_syntax.specs.declared.tree.Stmt.TheVariants as stmt
use Rattle.kt_syntax.specs.Tree as syntax
use Rattle.kt_tree.specs.declared.stmt.Stmt.{Stmt}
use Rattle.kt_tree.specs.Tree.{Expression, Statement, Conditional, Looped, Compound, Done, Broken, Continued, expression_of, statement_of, statements_of}
use Rattle.kt_names.specs.Checked.{Checked, and_then}
use Rattle.kt_names.specs.Judges.{Judges}
use Rattle.kt_names.specs.Statements.{State, here, condition, statement, entries, returned}
use Rattle.kt_names.specs.Scopes.{state_of, body_of, pair_of, Heading, head_of, head_in, for_of}
use Rattle.kt_check.specs.Blocks.{single}
use Rattle.kt_names.proofs.Parts.{fails, follows, judges-follows}
use Rattle.kt_check.proofs.Entries.{left-kept, left-within, block-is, block-fails, entry-locals, entry-statement, kept-state, grown-kept, grown-more, grown-same, begun, Stands}
use Rattle.kt_names.proofs.Trees.{conditional-is, alternative-is, looped-is, repeated-is, counted-is, compound-is}
use Rattle.kt_check.proofs.Blocks.{written, with_next, with_state, ok-all, ok-kept, ok-grown, stated, left-is, made-behind, conditional-made, conditional-fails, alternative-made, alternative-fails, looped-made, looped-fails, repeated-made, repeated-fails, for-made, for-fails, single-made, entry-next, entry-fails, entries-end}
use Rattle.kt_check.proofs.statement.+statements.Goals as goal

pub block-leave-requires : goal.block-leave-requires
block-leave-requires t c =
    subst (λ n. n ≤ c.entries.new.scopes.start) (sym c.enter-outer.ensures.outer)
    (left-within c.args.scopes.now c.enter-outer.new.self c.entries.new.scopes c.enter-outer.ensures.visible c.enter-outer.ensures.inner c.in-Ok.ensures.grown c.args.scopes.now.within)

pub block-returns-in-Ok-clause-judged : goal.block-returns-in-Ok-clause-judged
block-returns-in-Ok-clause-judged t c =
    block-is (body_of c.args.body.now) (state_of c.args.scopes.now) (state_of c.enter-outer.new.self) c.enter-outer.ensures.entered c.args.in_loop (written c.args.list.now) c.in-Ok.inner
    (statement_of c.block.result) c.leave.new.self.next c.entries.new.scopes.next c.in-Ok.ensures.judged c.block.ensures c.leave.ensures.next

pub block-returns-in-Ok-clause-kept : goal.block-returns-in-Ok-clause-kept
block-returns-in-Ok-clause-kept t c =
    left-kept c.args.scopes.now c.enter-outer.new.self c.entries.new.scopes c.leave.new.self c.enter-outer.ensures.visible c.enter-outer.ensures.inner c.in-Ok.ensures.grown c.leave.ensures.visible (c.leave.ensures.start ∙ c.enter-outer.ensures.outer)

pub block-returns-in-Err-clause-judged : goal.block-returns-in-Err-clause-judged
block-returns-in-Err-clause-judged t c =
    block-fails (body_of c.args.body.now) (state_of c.args.scopes.now) (state_of c.enter-outer.new.self) c.enter-outer.ensures.entered c.args.in_loop (written c.args.list.now) c.in-Err.fault c.in-Err.ensures.judged

pub behind_test-returns-in-Ok-clause-judged : goal.behind_test-returns-in-Ok-clause-judged
behind_test-returns-in-Ok-clause-judged t c =
    follows (statement (body_of c.args.body.now) c.args.in_loop (state_of c.args.scopes.now) (syntax.statement_of c.args.s.now)) (λ (x : Statement × _). Ok ((expression_of c.args.test, x.0), x.1)) (statement_of c.in-Ok.inner, c.statement.new.scopes.next) c.in-Ok.ensures.judged

pub behind_test-returns-in-Err-clause-judged : goal.behind_test-returns-in-Err-clause-judged
behind_test-returns-in-Err-clause-judged t c =
    fails (statement (body_of c.args.body.now) c.args.in_loop (state_of c.args.scopes.now) (syntax.statement_of c.args.s.now)) (λ (x : Statement × _). Ok ((expression_of c.args.test, x.0), x.1)) c.in-Err.fault c.in-Err.ensures.judged

pub tested-returns-in-Ok-clause-judged : goal.tested-returns-in-Ok-clause-judged
tested-returns-in-Ok-clause-judged t c =
    judges-follows (λ p. (pair_of p, c.behind_test.new.scopes.next)) c.behind_test.result (condition (here (body_of c.args.body.now) (state_of c.args.scopes.now)) (term_of c.args.c.now)) (λ (v : Expression). and_then (statement (body_of c.args.body.now) c.args.in_loop (state_of c.args.scopes.now) (syntax.statement_of c.args.s.now)) (λ x. Ok ((v, x.0), x.1))) (expression_of c.in-Ok.test) c.in-Ok.ensures c.behind_test.ensures.judged

pub tested-returns-in-Err-clause-judged : goal.tested-returns-in-Err-clause-judged
tested-returns-in-Err-clause-judged t c =
    fails (condition (here (body_of c.args.body.now) (state_of c.args.scopes.now)) (term_of c.args.c.now)) (λ (v : Expression). and_then (statement (body_of c.args.body.now) c.args.in_loop (state_of c.args.scopes.now) (syntax.statement_of c.args.s.now)) (λ x. Ok ((v, x.0), x.1))) c.in-Err.fault c.in-Err.ensures

pub conditional-returns-in-Ok-clause-judged : goal.conditional-returns-in-Ok-clause-judged
conditional-returns-in-Ok-clause-judged t c =
    conditional-made (body_of c.args.body.now) c.args.in_loop (state_of c.args.scopes.now) (term_of c.args.c.now) (syntax.statement_of c.args.s.now) c.in-Ok.parts c.tested.new.scopes.next c.if_alone.result c.in-Ok.ensures.judged c.if_alone.ensures

pub conditional-returns-in-Ok-clause-kept : goal.conditional-returns-in-Ok-clause-kept
conditional-returns-in-Ok-clause-kept t c =
    ok-all c.if_alone.result _ c.in-Ok.ensures.kept

pub conditional-returns-in-Err-clause-judged : goal.conditional-returns-in-Err-clause-judged
conditional-returns-in-Err-clause-judged t c =
    conditional-fails (body_of c.args.body.now) c.args.in_loop (state_of c.args.scopes.now) (term_of c.args.c.now) (syntax.statement_of c.args.s.now) c.in-Err.fault c.in-Err.ensures.judged

pub otherwise-returns-in-Ok-clause-judged : goal.otherwise-returns-in-Ok-clause-judged
otherwise-returns-in-Ok-clause-judged t c =
    made-behind (statement (body_of c.args.body.now) c.args.in_loop (state_of c.args.scopes.now) (syntax.statement_of c.args.s.now)) (λ (y : Statement × _). Ok (Conditional (expression_of c.args.parts.0) (statement_of c.args.parts.1) y.0, y.1)) (statement_of c.in-Ok.other, c.statement.new.scopes.next)
    (Conditional (expression_of c.args.parts.0) (statement_of c.args.parts.1) (statement_of c.in-Ok.other)) c.statement.new.scopes.next c.if_else.result c.in-Ok.ensures.judged refl c.if_else.ensures

pub otherwise-returns-in-Ok-clause-kept : goal.otherwise-returns-in-Ok-clause-kept
otherwise-returns-in-Ok-clause-kept t c =
    ok-all c.if_else.result _ c.in-Ok.ensures.kept

pub otherwise-returns-in-Err-clause-judged : goal.otherwise-returns-in-Err-clause-judged
otherwise-returns-in-Err-clause-judged t c =
    fails (statement (body_of c.args.body.now) c.args.in_loop (state_of c.args.scopes.now) (syntax.statement_of c.args.s.now)) (λ (y : Statement × _). Ok (Conditional (expression_of c.args.parts.0) (statement_of c.args.parts.1) y.0, y.1)) c.in-Err.fault c.in-Err.ensures.judged

pub looped-returns-in-Ok-clause-judged : goal.looped-returns-in-Ok-clause-judged
looped-returns-in-Ok-clause-judged t c =
    looped-made (body_of c.args.body.now) (state_of c.args.scopes.now) (term_of c.args.c.now) (syntax.statement_of c.args.s.now) c.in-Ok.parts c.tested.new.scopes.next c.while_loop.result c.in-Ok.ensures.judged c.while_loop.ensures

pub looped-returns-in-Ok-clause-kept : goal.looped-returns-in-Ok-clause-kept
looped-returns-in-Ok-clause-kept t c =
    ok-all c.while_loop.result _ c.in-Ok.ensures.kept

pub looped-returns-in-Err-clause-judged : goal.looped-returns-in-Err-clause-judged
looped-returns-in-Err-clause-judged t c =
    looped-fails (body_of c.args.body.now) (state_of c.args.scopes.now) (term_of c.args.c.now) (syntax.statement_of c.args.s.now) c.in-Err.fault c.in-Err.ensures.judged

pub repeated-returns-in-Ok-clause-judged : goal.repeated-returns-in-Ok-clause-judged
repeated-returns-in-Ok-clause-judged t c =
    repeated-made (body_of c.args.body.now) (state_of c.args.scopes.now) (term_of c.args.c.now) (syntax.statement_of c.args.s.now) (statement_of c.in-Ok.inner) c.statement.new.scopes.next (state_of c.statement.new.scopes) c.repeated_behind.result
    (kept-state c.args.scopes.now c.statement.new.scopes c.in-Ok.ensures.kept) c.in-Ok.ensures.judged c.repeated_behind.ensures

pub repeated-returns-in-Ok-clause-kept : goal.repeated-returns-in-Ok-clause-kept
repeated-returns-in-Ok-clause-kept t c =
    ok-all c.repeated_behind.result _ c.in-Ok.ensures.kept

pub repeated-returns-in-Err-clause-judged : goal.repeated-returns-in-Err-clause-judged
repeated-returns-in-Err-clause-judged t c =
    repeated-fails (body_of c.args.body.now) (state_of c.args.scopes.now) (term_of c.args.c.now) (syntax.statement_of c.args.s.now) c.in-Err.fault c.in-Err.ensures.judged

pub counted_behind-returns-in-Ok-clause-judged : goal.counted_behind-returns-in-Ok-clause-judged
counted_behind-returns-in-Ok-clause-judged t c =
    made-behind (statement (body_of c.args.body.now) true (state_of c.args.scopes.now) (syntax.statement_of c.args.s.now)) (λ (x : Statement × _). Ok (for_of (head_of c.args.head) x.0, x.1)) (statement_of c.in-Ok.inner, c.statement.new.scopes.next) (for_of (head_of c.args.head) (statement_of c.in-Ok.inner)) c.statement.new.scopes.next
    c.for_loop.result c.in-Ok.ensures.judged refl c.for_loop.ensures

pub counted_behind-returns-in-Ok-clause-kept : goal.counted_behind-returns-in-Ok-clause-kept
counted_behind-returns-in-Ok-clause-kept t c =
    ok-all c.for_loop.result _ c.in-Ok.ensures.kept

pub counted_behind-returns-in-Err-clause-judged : goal.counted_behind-returns-in-Err-clause-judged
counted_behind-returns-in-Err-clause-judged t c =
    fails (statement (body_of c.args.body.now) true (state_of c.args.scopes.now) (syntax.statement_of c.args.s.now)) (λ (x : Statement × _). Ok (for_of (head_of c.args.head) x.0, x.1)) c.in-Err.fault c.in-Err.ensures.judged

pub counted_in-returns-in-Ok-clause-judged : goal.counted_in-returns-in-Ok-clause-judged
counted_in-returns-in-Ok-clause-judged t c =
    judges-follows (with_next c.counted_behind.new.scopes.next) c.counted_behind.result (head_in (body_of c.args.body.now) (state_of c.args.scopes.now) (syntax.start_of c.args.heads.0.now) (option_map term_of c.args.heads.1.now) (option_map term_of c.args.heads.2.now)) (λ (h : Heading × State). and_then (statement (body_of c.args.body.now) true h.1 (syntax.statement_of c.args.s.now)) (λ x. Ok (for_of h.0 x.0, x.1))) (head_of c.in-Ok.head, state_of c.head.new.scopes) c.in-Ok.ensures.judged c.counted_behind.ensures.judged

pub counted_in-returns-in-Ok-clause-grown : goal.counted_in-returns-in-Ok-clause-grown
counted_in-returns-in-Ok-clause-grown t c =
    ok-grown c.counted_behind.result c.args.scopes.now c.head.new.scopes c.counted_behind.new.scopes c.in-Ok.ensures.grown c.counted_behind.ensures.kept

pub counted_in-returns-in-Err-clause-judged : goal.counted_in-returns-in-Err-clause-judged
counted_in-returns-in-Err-clause-judged t c =
    fails (head_in (body_of c.args.body.now) (state_of c.args.scopes.now) (syntax.start_of c.args.heads.0.now) (option_map term_of c.args.heads.1.now) (option_map term_of c.args.heads.2.now)) (λ (h : Heading × State). and_then (statement (body_of c.args.body.now) true h.1 (syntax.statement_of c.args.s.now)) (λ x. Ok (for_of h.0 x.0, x.1))) c.in-Err.fault c.in-Err.ensures.judged

pub counted-leave-requires : goal.counted-leave-requires
counted-leave-requires t c =
    subst (λ n. n ≤ c.counted_in.new.scopes.start) (sym c.enter-outer.ensures.outer)
    (left-within c.args.scopes.now c.enter-outer.new.self c.counted_in.new.scopes c.enter-outer.ensures.visible c.enter-outer.ensures.inner c.in-Ok.ensures.grown c.args.scopes.now.within)

pub counted-returns-in-Ok-clause-judged : goal.counted-returns-in-Ok-clause-judged
counted-returns-in-Ok-clause-judged t c =
    for-made (body_of c.args.body.now) (state_of c.args.scopes.now) (state_of c.enter-outer.new.self) c.enter-outer.ensures.entered (syntax.start_of c.args.heads.0.now) (option_map term_of c.args.heads.1.now) (option_map term_of c.args.heads.2.now) (syntax.statement_of c.args.s.now) c.counted_in.new.scopes.next c.leave.new.self.next (Ok c.in-Ok.whole) (sym c.leave.ensures.next) c.in-Ok.ensures.judged

pub counted-returns-in-Ok-clause-kept : goal.counted-returns-in-Ok-clause-kept
counted-returns-in-Ok-clause-kept t c =
    left-kept c.args.scopes.now c.enter-outer.new.self c.counted_in.new.scopes c.leave.new.self c.enter-outer.ensures.visible c.enter-outer.ensures.inner c.in-Ok.ensures.grown c.leave.ensures.visible (c.leave.ensures.start ∙ c.enter-outer.ensures.outer)

pub counted-returns-in-Err-clause-judged : goal.counted-returns-in-Err-clause-judged
counted-returns-in-Err-clause-judged t c =
    for-fails (body_of c.args.body.now) (state_of c.args.scopes.now) (state_of c.enter-outer.new.self) c.enter-outer.ensures.entered (syntax.start_of c.args.heads.0.now) (option_map term_of c.args.heads.1.now) (option_map term_of c.args.heads.2.now) (syntax.statement_of c.args.s.now) c.in-Err.fault c.in-Err.ensures.judged

pub single-returns-in-Ok-clause-judged : goal.single-returns-in-Ok-clause-judged
single-returns-in-Ok-clause-judged t c =
    single-made (body_of c.args.body.now) c.args.in_loop (state_of c.args.scopes.now) (state_of c.statement.new.scopes) (syntax.statement_of c.args.s.now) (statement_of c.in-Ok.one) c.statement.new.scopes.next c.one_of.result
    (kept-state c.args.scopes.now c.statement.new.scopes c.in-Ok.ensures.kept) c.in-Ok.ensures.judged c.one_of.ensures

pub single-returns-in-Ok-clause-grown : goal.single-returns-in-Ok-clause-grown
single-returns-in-Ok-clause-grown t c =
    ok-all c.one_of.result _ (grown-kept c.args.scopes.now c.statement.new.scopes c.in-Ok.ensures.kept)

pub single-returns-in-Err-clause-judged : goal.single-returns-in-Err-clause-judged
single-returns-in-Err-clause-judged t c =
    fails (statement (body_of c.args.body.now) c.args.in_loop (state_of c.args.scopes.now) (syntax.statement_of c.args.s.now)) (single (state_of c.args.scopes.now)) c.in-Err.fault c.in-Err.ensures.judged

pub statement-returns-in-Locals-clause-judged : goal.statement-returns-in-Locals-clause-judged
statement-returns-in-Locals-clause-judged t c =
    stated (body_of c.args.body.now) c.args.in_loop (state_of c.args.scopes.now) c.declared_alone.new.scopes.next c.args.s.now _ (syntax.Declared (syntax.declaration_of c.in-Locals.d)) c.declared_alone.result c.in-Locals.is refl
    (c.declared_alone.ensures.judged)

pub statement-returns-in-Locals-clause-kept : goal.statement-returns-in-Locals-clause-kept
statement-returns-in-Locals-clause-kept t c =
    c.declared_alone.ensures.kept

pub statement-returns-in-Block-clause-judged : goal.statement-returns-in-Block-clause-judged
statement-returns-in-Block-clause-judged t c =
    stated (body_of c.args.body.now) c.args.in_loop (state_of c.args.scopes.now) c.block.new.scopes.next c.args.s.now _ (syntax.Compound (written c.in-Block.list)) c.block.result c.in-Block.is (compound-is c.in-Block.list)
    (c.block.ensures.judged)

pub statement-returns-in-Block-clause-kept : goal.statement-returns-in-Block-clause-kept
statement-returns-in-Block-clause-kept t c =
    c.block.ensures.kept

pub statement-returns-in-Expr-clause-judged : goal.statement-returns-in-Expr-clause-judged
statement-returns-in-Expr-clause-judged t c =
    stated (body_of c.args.body.now) c.args.in_loop (state_of c.args.scopes.now) c.args.scopes.now.next c.args.s.now _ (syntax.Evaluated (term_of c.in-Expr.e)) c.evaluated_here.result c.in-Expr.is refl
    (c.evaluated_here.ensures)

pub statement-returns-in-Expr-clause-kept : goal.statement-returns-in-Expr-clause-kept
statement-returns-in-Expr-clause-kept t c =
    ok-all c.evaluated_here.result _ (refl, refl)

pub statement-returns-in-Return-clause-judged : goal.statement-returns-in-Return-clause-judged
statement-returns-in-Return-clause-judged t c =
    stated (body_of c.args.body.now) c.args.in_loop (state_of c.args.scopes.now) c.args.scopes.now.next c.args.s.now _ (syntax.Returned c.in-Return.at (option_map term_of c.in-Return.e)) c.returned_here.result c.in-Return.is refl
    (c.returned_here.ensures)

pub statement-returns-in-Return-clause-kept : goal.statement-returns-in-Return-clause-kept
statement-returns-in-Return-clause-kept t c =
    ok-all c.returned_here.result _ (refl, refl)

pub statement-returns-in-Break-clause-judged : goal.statement-returns-in-Break-clause-judged
statement-returns-in-Break-clause-judged t c =
    stated (body_of c.args.body.now) c.args.in_loop (state_of c.args.scopes.now) c.args.scopes.now.next c.args.s.now _ (syntax.Broken c.in-Break.at) c.left.result c.in-Break.is refl
    (left-is c.args.in_loop Broken c.in-Break.at c.args.scopes.now.next c.left.result c.left.ensures)

pub statement-returns-in-Break-clause-kept : goal.statement-returns-in-Break-clause-kept
statement-returns-in-Break-clause-kept t c =
    ok-all c.left.result _ (refl, refl)

pub statement-returns-in-Continue-clause-judged : goal.statement-returns-in-Continue-clause-judged
statement-returns-in-Continue-clause-judged t c =
    stated (body_of c.args.body.now) c.args.in_loop (state_of c.args.scopes.now) c.args.scopes.now.next c.args.s.now _ (syntax.Continued c.in-Continue.at) c.left-in-Continue.result c.in-Continue.is refl
    (left-is c.args.in_loop Continued c.in-Continue.at c.args.scopes.now.next c.left-in-Continue.result c.left-in-Continue.ensures)

pub statement-returns-in-Continue-clause-kept : goal.statement-returns-in-Continue-clause-kept
statement-returns-in-Continue-clause-kept t c =
    ok-all c.left-in-Continue.result _ (refl, refl)

pub statement-returns-in-If-clause-judged : goal.statement-returns-in-If-clause-judged
statement-returns-in-If-clause-judged t c =
    stated (body_of c.args.body.now) c.args.in_loop (state_of c.args.scopes.now) c.conditional.new.scopes.next c.args.s.now _ (syntax.Conditional (term_of c.in-If.c) (syntax.statement_of c.get.result.now)) c.conditional.result (c.in-If.is ∙ ap (λ x. stmt.If c.in-If.c x) (sym c.get.ensures)) (conditional-is c.in-If.c c.get.result.now)
    (c.conditional.ensures.judged)

pub statement-returns-in-If-clause-kept : goal.statement-returns-in-If-clause-kept
statement-returns-in-If-clause-kept t c =
    c.conditional.ensures.kept

pub statement-returns-in-Ok-clause-judged : goal.statement-returns-in-Ok-clause-judged
statement-returns-in-Ok-clause-judged t c =
    stated (body_of c.args.body.now) c.args.in_loop (state_of c.args.scopes.now) c.otherwise.new.scopes.next c.args.s.now _ (syntax.Alternative (term_of c.in-IfElse.c) (syntax.statement_of c.get-in-IfElse.result.now) (syntax.statement_of c.get-in-Ok.result.now)) c.otherwise.result (c.in-IfElse.is ∙ ap (λ x. stmt.IfElse c.in-IfElse.c x c.in-IfElse.other) (sym c.get-in-IfElse.ensures) ∙ ap (λ x. stmt.IfElse c.in-IfElse.c c.get-in-IfElse.result.now x) (sym c.get-in-Ok.ensures)) (alternative-is c.in-IfElse.c c.get-in-IfElse.result.now c.get-in-Ok.result.now)
    (alternative-made (body_of c.args.body.now) c.args.in_loop (state_of c.args.scopes.now) (term_of c.in-IfElse.c) (syntax.statement_of c.get-in-IfElse.result.now) (syntax.statement_of c.get-in-Ok.result.now) c.in-Ok.parts c.tested.new.scopes.next c.otherwise.new.scopes.next (state_of c.tested.new.scopes) c.otherwise.result
    (kept-state c.args.scopes.now c.tested.new.scopes c.in-Ok.ensures.kept) c.in-Ok.ensures.judged c.otherwise.ensures.judged)

pub statement-returns-in-Ok-clause-kept : goal.statement-returns-in-Ok-clause-kept
statement-returns-in-Ok-clause-kept t c =
    ok-kept c.otherwise.result c.args.scopes.now c.tested.new.scopes c.otherwise.new.scopes c.in-Ok.ensures.kept c.otherwise.ensures.kept

pub statement-returns-in-Err-clause-judged : goal.statement-returns-in-Err-clause-judged
statement-returns-in-Err-clause-judged t c =
    stated (body_of c.args.body.now) c.args.in_loop (state_of c.args.scopes.now) c.tested.new.scopes.next c.args.s.now _ (syntax.Alternative (term_of c.in-IfElse.c) (syntax.statement_of c.get-in-IfElse.result.now) (syntax.statement_of c.in-IfElse.other)) (Err c.in-Err.fault) (c.in-IfElse.is ∙ ap (λ x. stmt.IfElse c.in-IfElse.c x c.in-IfElse.other) (sym c.get-in-IfElse.ensures)) (alternative-is c.in-IfElse.c c.get-in-IfElse.result.now c.in-IfElse.other)
    (alternative-fails (body_of c.args.body.now) c.args.in_loop (state_of c.args.scopes.now) (term_of c.in-IfElse.c) (syntax.statement_of c.get-in-IfElse.result.now) (syntax.statement_of c.in-IfElse.other) c.in-Err.fault c.in-Err.ensures.judged)

pub statement-returns-in-While-clause-judged : goal.statement-returns-in-While-clause-judged
statement-returns-in-While-clause-judged t c =
    stated (body_of c.args.body.now) c.args.in_loop (state_of c.args.scopes.now) c.looped.new.scopes.next c.args.s.now _ (syntax.Looped (term_of c.in-While.c) (syntax.statement_of c.get-in-While.result.now)) c.looped.result (c.in-While.is ∙ ap (λ x. stmt.While c.in-While.c x) (sym c.get-in-While.ensures)) (looped-is c.in-While.c c.get-in-While.result.now)
    (c.looped.ensures.judged)

pub statement-returns-in-While-clause-kept : goal.statement-returns-in-While-clause-kept
statement-returns-in-While-clause-kept t c =
    c.looped.ensures.kept

pub statement-returns-in-Do-clause-judged : goal.statement-returns-in-Do-clause-judged
statement-returns-in-Do-clause-judged t c =
    stated (body_of c.args.body.now) c.args.in_loop (state_of c.args.scopes.now) c.repeated.new.scopes.next c.args.s.now _ (syntax.Repeated (syntax.statement_of c.get-in-Do.result.now) (term_of c.in-Do.c)) c.repeated.result (c.in-Do.is ∙ ap (λ x. stmt.Do x c.in-Do.c) (sym c.get-in-Do.ensures)) (repeated-is c.get-in-Do.result.now c.in-Do.c)
    (c.repeated.ensures.judged)

pub statement-returns-in-Do-clause-kept : goal.statement-returns-in-Do-clause-kept
statement-returns-in-Do-clause-kept t c =
    c.repeated.ensures.kept

pub statement-returns-in-For-clause-judged : goal.statement-returns-in-For-clause-judged
statement-returns-in-For-clause-judged t c =
    stated (body_of c.args.body.now) c.args.in_loop (state_of c.args.scopes.now) c.counted.new.scopes.next c.args.s.now _ (syntax.Counted (syntax.start_of c.in-For.first) (option_map term_of c.in-For.tested) (option_map term_of c.in-For.stepped) (syntax.statement_of c.get-in-For.result.now)) c.counted.result (c.in-For.is ∙ ap (λ x. stmt.For c.in-For.first c.in-For.tested c.in-For.stepped x) (sym c.get-in-For.ensures)) (counted-is c.in-For.first c.in-For.tested c.in-For.stepped c.get-in-For.result.now)
    (c.counted.ensures.judged)

pub statement-returns-in-For-clause-kept : goal.statement-returns-in-For-clause-kept
statement-returns-in-For-clause-kept t c =
    c.counted.ensures.kept

pub entry-returns-in-Some-clause-judged : goal.entry-returns-in-Some-clause-judged
entry-returns-in-Some-clause-judged t c =
    subst (λ (w : Checked (List Statement × State)). Judges {Y = List Statement × State} (with_state (state_of c.locals.new.scopes)) c.locals.result w) (sym (entry-locals (body_of c.args.body.now) c.args.in_loop (state_of c.args.scopes.now) (syntax.statement_of c.args.s.now) (syntax.declaration_of c.in-Some.d.now) c.in-Some.ensures)) c.locals.ensures.judged

pub entry-returns-in-None-clause-judged : goal.entry-returns-in-None-clause-judged
entry-returns-in-None-clause-judged t c =
    subst (λ (w : Checked (List Statement × State)). Judges {Y = List Statement × State} (with_state (state_of c.single.new.scopes)) c.single.result w) (sym (entry-statement (body_of c.args.body.now) c.args.in_loop (state_of c.args.scopes.now) (syntax.statement_of c.args.s.now) c.in-None.ensures)) c.single.ensures.judged

pub entries-loop-item-preserved : goal.entries-loop-item-preserved
entries-loop-item-preserved t c =
    record {
      stands = entry-next (body_of c.args.body.now) c.args.in_loop (entries (body_of c.args.body.now) c.args.in_loop (state_of c.args.scopes.now) (written c.args.list.now)) c.args.list.now c.loop-item.item-index c.item-item.result
          (subst (λ (xs : List Written). c.loop-item.item-index < length xs) c.as_slice-item-items.ensures c.loop-item-test.true)
          (c.item-item.is ∙ ap (λ (xs : List Written). get_or xs c.loop-item.item-index c.item-item.result) c.as_slice-item-items.ensures)
          c.loop-item.all c.in-Ok.more c.append.new.self (state_of c.loop-item.scopes) (state_of c.entry.new.scopes) c.loop-item.invariant.stands c.in-Ok.ensures.judged c.in_ok-append-in-Ok.ensures;
      grown = grown-more c.args.scopes.now c.loop-item.scopes c.entry.new.scopes c.loop-item.invariant.grown c.in-Ok.ensures.grown;
    }

pub entries-returns-in-Err-clause-judged : goal.entries-returns-in-Err-clause-judged
entries-returns-in-Err-clause-judged t c =
    entry-fails (body_of c.args.body.now) c.args.in_loop (entries (body_of c.args.body.now) c.args.in_loop (state_of c.args.scopes.now) (written c.args.list.now)) c.args.list.now c.loop-item.item-index c.item-item.result
    (subst (λ (xs : List Written). c.loop-item.item-index < length xs) c.as_slice-item-items.ensures c.loop-item-test.true)
    (c.item-item.is ∙ ap (λ (xs : List Written). get_or xs c.loop-item.item-index c.item-item.result) c.as_slice-item-items.ensures)
    (map statement_of c.loop-item.all) (state_of c.loop-item.scopes) c.in-Err.fault c.loop-item.invariant.stands c.in-Err.ensures.judged

pub entries-returns-clause-judged : goal.entries-returns-clause-judged
entries-returns-clause-judged t c =
    entries-end (body_of c.args.body.now) c.args.in_loop (entries (body_of c.args.body.now) c.args.in_loop (state_of c.args.scopes.now) (written c.args.list.now)) c.args.list.now c.loop-item.item-index c.loop-item.all (state_of c.loop-item.scopes)
    (subst (λ (xs : List Written). length xs ≤ c.loop-item.item-index) c.as_slice-item-items.ensures c.loop-item-test.false) c.loop-item.invariant.stands

pub entries-loop-item-init : goal.entries-loop-item-init
entries-loop-item-init t c =
    record {
      stands = subst (λ (xs : List Stmt). Stands (body_of c.args.body.now) c.args.in_loop (entries (body_of c.args.body.now) c.args.in_loop (state_of c.args.scopes.now) (written c.args.list.now)) (map statement_of xs) (state_of c.args.scopes.now) (written c.args.list.now)) (sym c.new-all.ensures) (begun (entries (body_of c.args.body.now) c.args.in_loop (state_of c.args.scopes.now) (written c.args.list.now)));
      grown = grown-same c.args.scopes.now c.args.scopes.now refl refl;
    }
