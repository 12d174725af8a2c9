use Rattle.std.proofs.Common.{◌≡◌, ◌+◌, ◌≤◌, ◌<◌, get_or, refl, List, map, drop, length, OnOk, sym, ap, ◌∙◌, subst, arith, rules}
use Rattle.std.specs.Option.{option_map}
use Rattle.kt_grammar.specs.Tree.{term_of}
use Rattle.kt_syntax.specs.declared.tree.Stmt.{Stmt as Written}
use Rattle.kt_syntax.specs.declared.tree.Stmt.TheVariants as stmt
use Rattle.kt_syntax.specs.Tree as syntax
use Rattle.kt_syntax.proofs.Nodes.{conditional-is, alternative-is, looped-is, repeated-is, counted-is, compound-is}
use Rattle.kt_typing.specs.Terms.{condition, effect}
use Rattle.kt_program.specs.Judgments.{Expressed}
use Rattle.kt_program.specs.Scopes.{Place, here, entered, looped, passed}
use Rattle.kt_program.specs.Statements.{start, behind_start, start_locals, locals_in, locals_among, perhaps, behind, statement, entries}
use Rattle.kt_statements.specs.Judged.{Judges, JudgesLines, tree_made, option_made, lines_made}
use Rattle.kt_statements.specs.Scopes.{body_of, place_of}
use Rattle.kt_statements.proofs.Arms.{on-ok, room-is, size-is, typed-is, place-is}
use Rattle.kt_statements.proofs.Entries.{Entering, entering-next, entering-last}
use Rattle.kt_statements.proofs.Sizes.{size-member}
use Rattle.kt_statements.proofs.Places.{drop-next, drop-end, left-count, left-behind, passed-twice, behind-block, behind-begun, behind-head, behind-one, behind-loop}
use Rattle.kt_statements.proofs.statement.+statements.Goals as goal

pub block-leave-requires-clause-count : goal.block-leave-requires-clause-count
block-leave-requires-clause-count t c =
    let b = body_of c.args.body.now in
    let p = place_of c.args.scopes.now in
    let es = syntax.statements_of (map syntax.statement_of c.args.es.now) in
    let e = place_of c.enter.new.self in
    let q = place_of c.entries.new.scopes in
    let (inside, next) = behind-block p e q es c.enter.ensures.place c.in_ok-lines.ensures.place in
    left-count c.mark-mark.result p q c.mark-mark.ensures inside

pub block-returns-clause-typed : goal.block-returns-clause-typed
block-returns-clause-typed t c =
    let b = body_of c.args.body.now in
    let p = place_of c.args.scopes.now in
    let es = syntax.statements_of (map syntax.statement_of c.args.es.now) in
    c.block.ensures (entries b (entered p) es) (subst (λ (q : Place). JudgesLines (entries b q es) c.in_ok-lines.lines) c.enter.ensures.place c.in_ok-lines.ensures.typed)

pub block-returns-clause-place : goal.block-returns-clause-place
block-returns-clause-place t c =
    let b = body_of c.args.body.now in
    let p = place_of c.args.scopes.now in
    let es = syntax.statements_of (map syntax.statement_of c.args.es.now) in
    let e = place_of c.enter.new.self in
    let q = place_of c.entries.new.scopes in
    let (inside, next) = behind-block p e q es c.enter.ensures.place c.in_ok-lines.ensures.place in
    on-ok c.block.result (place_of c.leave.new.self ≡ passed p (locals_among es)) (c.leave.ensures.place ∙ left-behind c.mark-mark.result p q c.mark-mark.ensures inside (locals_among es) next)

pub counted-repeated-requires : goal.counted-repeated-requires
counted-repeated-requires t c =
    let b = body_of c.args.body.now in
    let p = place_of c.args.scopes.now in
    let s = syntax.start_of c.args.first.now in
    let a = syntax.statement_of c.args.s.now in
    let e = place_of c.enter.new.self in
    let q = place_of c.start.new.scopes in
    let (inside, next) = behind-begun p e q s c.enter.ensures.place c.in_ok-begun.ensures.place in
    let room = c.requires.room in
    (search rules, (c.in_ok-begun.ensures.fits, omega arith))

pub counted-leave-requires-clause-count : goal.counted-leave-requires-clause-count
counted-leave-requires-clause-count t c =
    let b = body_of c.args.body.now in
    let p = place_of c.args.scopes.now in
    let s = syntax.start_of c.args.first.now in
    let a = syntax.statement_of c.args.s.now in
    let e = place_of c.enter.new.self in
    let q = place_of c.start.new.scopes in
    let r = place_of c.repeated.new.scopes in
    let (inside, next) = behind-head p e q r s (locals_in a) c.enter.ensures.place c.in_ok-begun.ensures.place c.in_ok-inner.ensures.place in
    left-count c.mark-mark.result p r c.mark-mark.ensures inside

pub counted-returns-clause-typed : goal.counted-returns-clause-typed
counted-returns-clause-typed t c =
    let b = body_of c.args.body.now in
    let p = place_of c.args.scopes.now in
    let s = syntax.start_of c.args.first.now in
    let a = syntax.statement_of c.args.s.now in
    let e = place_of c.enter.new.self in
    let q = place_of c.start.new.scopes in
    let test = option_map term_of c.args.test.now in
    let step = option_map term_of c.args.step.now in
    let is : q ≡ behind_start (entered p) s = c.in_ok-begun.ensures.place ∙ ap (λ (x : Place). behind_start x s) c.enter.ensures.place in
    let h = here b (behind_start (entered p) s) in
    c.for_loop.ensures (start b (entered p) s) (perhaps (λ x. Expressed (condition h x)) test) (perhaps (λ x. Expressed (effect h x)) step) (statement b (looped (behind_start (entered p) s)) a)
    (subst (λ (x : Place). Judges lines_made (start b x s) c.in_ok-begun.begun) c.enter.ensures.place c.in_ok-begun.ensures.typed)
    (subst (λ (x : Place). Judges option_made (perhaps (λ e. Expressed (condition (here b x) e)) test) c.in_ok-tested.tested) is c.in_ok-tested.ensures)
    (subst (λ (x : Place). Judges option_made (perhaps (λ e. Expressed (effect (here b x) e)) step) c.in_ok-stepped.stepped) is c.in_ok-stepped.ensures)
    (subst (λ (x : Place). Judges lines_made (statement b (looped x) a) c.in_ok-inner.inner) is c.in_ok-inner.ensures.typed)

pub counted-returns-clause-place : goal.counted-returns-clause-place
counted-returns-clause-place t c =
    let b = body_of c.args.body.now in
    let p = place_of c.args.scopes.now in
    let s = syntax.start_of c.args.first.now in
    let a = syntax.statement_of c.args.s.now in
    let e = place_of c.enter.new.self in
    let q = place_of c.start.new.scopes in
    let r = place_of c.repeated.new.scopes in
    let (inside, next) = behind-head p e q r s (locals_in a) c.enter.ensures.place c.in_ok-begun.ensures.place c.in_ok-inner.ensures.place in
    on-ok c.for_loop.result (place_of c.leave.new.self ≡ passed p (start_locals s + locals_in a)) (c.leave.ensures.place ∙ left-behind c.mark-mark.result p r c.mark-mark.ensures inside (start_locals s + locals_in a) next)

pub entries-loop-s-preserved : goal.entries-loop-s-preserved
entries-loop-s-preserved t c =
    let b = c.args.body.now in
    let p = place_of c.args.scopes.now in
    let es = c.args.es.now in
    let all = syntax.statements_of (map syntax.statement_of es) in
    let e = c.s-item.result in
    let i = c.loop-s.s-index in
    let s = c.loop-s.scopes in
    let items = c.as_slice-s-items.ensures in
    entering-next b p all s c.statement.new.scopes (syntax.statement_of e) (syntax.statements_of (map syntax.statement_of (drop (i + 1) es))) c.loop-s.all c.in_ok-one.one c.in_ok-all.all
    (subst (λ (xs : List Written). Entering b p all s (syntax.statements_of (map syntax.statement_of xs)) c.loop-s.all)
    (drop-next es i e (subst (λ (xs : List Written). i < length xs) items c.loop-s-test.true) (c.s-item.is ∙ ap (λ (xs : List Written). get_or xs i e) items)) c.loop-s.invariant)
    c.in_ok-one.ensures.typed c.in_ok-all.ensures c.in_ok-one.ensures.fits c.in_ok-one.ensures.place

pub entries-returns-clause-typed : goal.entries-returns-clause-typed
entries-returns-clause-typed t c =
    let b = c.args.body.now in
    let p = place_of c.args.scopes.now in
    let es = c.args.es.now in
    let all = syntax.statements_of (map syntax.statement_of es) in
    let i = c.loop-s.s-index in
    (entering-last b p all c.loop-s.scopes c.loop-s.all
    (subst (λ (xs : List Written). Entering b p all c.loop-s.scopes (syntax.statements_of (map syntax.statement_of xs)) c.loop-s.all)
    (drop-end es i (subst (λ (xs : List Written). length xs ≤ i) c.as_slice-s-items.ensures c.loop-s-test.false)) c.loop-s.invariant)).0

pub inside-leave-requires-clause-count : goal.inside-leave-requires-clause-count
inside-leave-requires-clause-count t c =
    let b = body_of c.args.body.now in
    let p = place_of c.args.scopes.now in
    let s = syntax.statement_of c.args.s.now in
    let q = place_of c.statement.new.scopes in
    let (inside, next) = behind-one p q s c.in_ok-lines.ensures.place in
    left-count c.mark-mark.result p q c.mark-mark.ensures inside

pub inside-returns-clause-place : goal.inside-returns-clause-place
inside-returns-clause-place t c =
    let b = body_of c.args.body.now in
    let p = place_of c.args.scopes.now in
    let s = syntax.statement_of c.args.s.now in
    let q = place_of c.statement.new.scopes in
    let (inside, next) = behind-one p q s c.in_ok-lines.ensures.place in
    c.leave.ensures.place ∙ left-behind c.mark-mark.result p q c.mark-mark.ensures inside (locals_in s) next

pub repeated-leave-requires-clause-count : goal.repeated-leave-requires-clause-count
repeated-leave-requires-clause-count t c =
    let b = body_of c.args.body.now in
    let p = place_of c.args.scopes.now in
    let s = syntax.statement_of c.args.s.now in
    let l = place_of c.enter_loop.new.self in
    let q = place_of c.statement.new.scopes in
    let (inside, next) = behind-loop p l q s c.enter_loop.ensures.place c.in_ok-lines.ensures.place in
    left-count c.mark-mark.result p q c.mark-mark.ensures inside

pub repeated-returns-clause-place : goal.repeated-returns-clause-place
repeated-returns-clause-place t c =
    let b = body_of c.args.body.now in
    let p = place_of c.args.scopes.now in
    let s = syntax.statement_of c.args.s.now in
    let l = place_of c.enter_loop.new.self in
    let q = place_of c.statement.new.scopes in
    let (inside, next) = behind-loop p l q s c.enter_loop.ensures.place c.in_ok-lines.ensures.place in
    c.leave.ensures.place ∙ left-behind c.mark-mark.result p q c.mark-mark.ensures inside (locals_in s) next

pub statement-block-requires : goal.statement-block-requires
statement-block-requires t c =
    let s = c.args.s.now in
    let n = c.args.scopes.now.next in
    let m = length (body_of c.args.body.now).environment.scope.locals in
    let f = stmt.Block c.in-Block.es in
    let a = syntax.Compound (syntax.statements_of (map syntax.statement_of c.in-Block.es)) in
    let is : s ≡ f = c.in-Block.is in
    let shape : syntax.statement_of f ≡ a = compound-is c.in-Block.es in
    let room = room-is s f a is shape n m c.requires.room in
    let size = size-is s f a is shape in
    let less = c.decreases in
    (omega arith, (c.requires.fits, room))

pub statement-inside-requires : goal.statement-inside-requires
statement-inside-requires t c =
    let s = c.args.s.now in
    let n = c.args.scopes.now.next in
    let m = length (body_of c.args.body.now).environment.scope.locals in
    let f = stmt.If c.in-If.c c.get.result.now in
    let a = syntax.Conditional (term_of c.in-If.c) (syntax.statement_of c.get.result.now) in
    let is : s ≡ f = c.in-If.is ∙ ap (λ x. stmt.If c.in-If.c x) (sym c.get.ensures) in
    let shape : syntax.statement_of f ≡ a = conditional-is c.in-If.c c.get.result.now in
    let room = room-is s f a is shape n m c.requires.room in
    let size = size-is s f a is shape in
    let less = c.decreases in
    (omega arith, (c.requires.fits, room))

pub statement-inside-requires-in-IfElse : goal.statement-inside-requires-in-IfElse
statement-inside-requires-in-IfElse t c =
    let s = c.args.s.now in
    let n = c.args.scopes.now.next in
    let m = length (body_of c.args.body.now).environment.scope.locals in
    let f = stmt.IfElse c.in-IfElse.c c.get-in-IfElse.result.now c.in-IfElse.b in
    let a = syntax.Alternative (term_of c.in-IfElse.c) (syntax.statement_of c.get-in-IfElse.result.now) (syntax.statement_of c.in-IfElse.b) in
    let is : s ≡ f = c.in-IfElse.is ∙ ap (λ x. stmt.IfElse c.in-IfElse.c x c.in-IfElse.b) (sym c.get-in-IfElse.ensures) in
    let shape : syntax.statement_of f ≡ a = alternative-is c.in-IfElse.c c.get-in-IfElse.result.now c.in-IfElse.b in
    let room = room-is s f a is shape n m c.requires.room in
    let size = size-is s f a is shape in
    let less = c.decreases in
    (omega arith, (c.requires.fits, omega arith))

pub statement-inside-requires-in-IfElse-2 : goal.statement-inside-requires-in-IfElse-2
statement-inside-requires-in-IfElse-2 t c =
    let s = c.args.s.now in
    let n = c.args.scopes.now.next in
    let m = length (body_of c.args.body.now).environment.scope.locals in
    let f = stmt.IfElse c.in-IfElse.c c.get-in-IfElse.result.now c.get-in-IfElse-2.result.now in
    let a = syntax.Alternative (term_of c.in-IfElse.c) (syntax.statement_of c.get-in-IfElse.result.now) (syntax.statement_of c.get-in-IfElse-2.result.now) in
    let is : s ≡ f = c.in-IfElse.is ∙ ap (λ x. stmt.IfElse c.in-IfElse.c x c.in-IfElse.b) (sym c.get-in-IfElse.ensures) ∙ ap (λ x. stmt.IfElse c.in-IfElse.c c.get-in-IfElse.result.now x) (sym c.get-in-IfElse-2.ensures) in
    let shape : syntax.statement_of f ≡ a = alternative-is c.in-IfElse.c c.get-in-IfElse.result.now c.get-in-IfElse-2.result.now in
    let room = room-is s f a is shape n m c.requires.room in
    let size = size-is s f a is shape in
    let less = c.decreases in
    let next = ap (λ (x : Place). x.next) c.in_ok-inner-in-IfElse.ensures.place in
    (omega arith, (c.in_ok-inner-in-IfElse.ensures.fits, omega arith))

pub statement-repeated-requires : goal.statement-repeated-requires
statement-repeated-requires t c =
    let s = c.args.s.now in
    let n = c.args.scopes.now.next in
    let m = length (body_of c.args.body.now).environment.scope.locals in
    let f = stmt.While c.in-While.c c.get-in-While.result.now in
    let a = syntax.Looped (term_of c.in-While.c) (syntax.statement_of c.get-in-While.result.now) in
    let is : s ≡ f = c.in-While.is ∙ ap (λ x. stmt.While c.in-While.c x) (sym c.get-in-While.ensures) in
    let shape : syntax.statement_of f ≡ a = looped-is c.in-While.c c.get-in-While.result.now in
    let room = room-is s f a is shape n m c.requires.room in
    let size = size-is s f a is shape in
    let less = c.decreases in
    (omega arith, (c.requires.fits, room))

pub statement-repeated-requires-in-Do : goal.statement-repeated-requires-in-Do
statement-repeated-requires-in-Do t c =
    let s = c.args.s.now in
    let n = c.args.scopes.now.next in
    let m = length (body_of c.args.body.now).environment.scope.locals in
    let f = stmt.Do c.get-in-Do.result.now c.in-Do.c in
    let a = syntax.Repeated (syntax.statement_of c.get-in-Do.result.now) (term_of c.in-Do.c) in
    let is : s ≡ f = c.in-Do.is ∙ ap (λ x. stmt.Do x c.in-Do.c) (sym c.get-in-Do.ensures) in
    let shape : syntax.statement_of f ≡ a = repeated-is c.get-in-Do.result.now c.in-Do.c in
    let room = room-is s f a is shape n m c.requires.room in
    let size = size-is s f a is shape in
    let less = c.decreases in
    (omega arith, (c.requires.fits, room))

pub statement-counted-requires : goal.statement-counted-requires
statement-counted-requires t c =
    let s = c.args.s.now in
    let n = c.args.scopes.now.next in
    let m = length (body_of c.args.body.now).environment.scope.locals in
    let f = stmt.For c.in-For.first c.in-For.test c.in-For.step c.get-in-For.result.now in
    let a = syntax.Counted (syntax.start_of c.in-For.first) (option_map term_of c.in-For.test) (option_map term_of c.in-For.step) (syntax.statement_of c.get-in-For.result.now) in
    let is : s ≡ f = c.in-For.is ∙ ap (λ x. stmt.For c.in-For.first c.in-For.test c.in-For.step x) (sym c.get-in-For.ensures) in
    let shape : syntax.statement_of f ≡ a = counted-is c.in-For.first c.in-For.test c.in-For.step c.get-in-For.result.now in
    let room = room-is s f a is shape n m c.requires.room in
    let size = size-is s f a is shape in
    let less = c.decreases in
    (omega arith, (c.requires.fits, room))

pub statement-returns-in-Block-clause-typed : goal.statement-returns-in-Block-clause-typed
statement-returns-in-Block-clause-typed t c =
    let b = body_of c.args.body.now in
    let p = place_of c.args.scopes.now in
    let s = c.args.s.now in
    let f = stmt.Block c.in-Block.es in
    let a = syntax.Compound (syntax.statements_of (map syntax.statement_of c.in-Block.es)) in
    let is : s ≡ f = c.in-Block.is in
    let shape : syntax.statement_of f ≡ a = compound-is c.in-Block.es in
    typed-is s f a is shape b p c.block.result
    (c.block.ensures.typed)

pub statement-returns-in-Block-clause-place : goal.statement-returns-in-Block-clause-place
statement-returns-in-Block-clause-place t c =
    subst (λ a. OnOk c.block.result (place_of c.block.new.scopes ≡ behind (place_of c.args.scopes.now) a))
    (sym (compound-is c.in-Block.es) ∙ ap syntax.statement_of (sym c.in-Block.is)) c.block.ensures.place

pub statement-returns-in_ok-value-in-Expr-clause-typed : goal.statement-returns-in_ok-value-in-Expr-clause-typed
statement-returns-in_ok-value-in-Expr-clause-typed t c =
    let b = body_of c.args.body.now in
    let p = place_of c.args.scopes.now in
    let s = c.args.s.now in
    let f = stmt.Expr c.in-Expr.e in
    let a = syntax.Evaluated (term_of c.in-Expr.e) in
    let is : s ≡ f = c.in-Expr.is in
    let shape : syntax.statement_of f ≡ a = refl in
    typed-is s f a is shape b p c.evaluated.result
    (c.evaluated.ensures (Expressed (effect (here b p) (term_of c.in-Expr.e))) c.in_ok-value-in-Expr.ensures)

pub statement-returns-in_ok-inner-in-If-clause-typed : goal.statement-returns-in_ok-inner-in-If-clause-typed
statement-returns-in_ok-inner-in-If-clause-typed t c =
    let b = body_of c.args.body.now in
    let p = place_of c.args.scopes.now in
    let s = c.args.s.now in
    let f = stmt.If c.in-If.c c.get.result.now in
    let a = syntax.Conditional (term_of c.in-If.c) (syntax.statement_of c.get.result.now) in
    let is : s ≡ f = c.in-If.is ∙ ap (λ x. stmt.If c.in-If.c x) (sym c.get.ensures) in
    let shape : syntax.statement_of f ≡ a = conditional-is c.in-If.c c.get.result.now in
    typed-is s f a is shape b p c.if_alone.result
    (c.if_alone.ensures (Expressed (condition (here b p) (term_of c.in-If.c))) (statement b p (syntax.statement_of c.get.result.now)) c.in_ok-test-in-If.ensures c.in_ok-inner-in-If.ensures.typed)

pub statement-returns-in_ok-inner-in-If-clause-place : goal.statement-returns-in_ok-inner-in-If-clause-place
statement-returns-in_ok-inner-in-If-clause-place t c =
    let b = body_of c.args.body.now in
    let p = place_of c.args.scopes.now in
    let s = c.args.s.now in
    let f = stmt.If c.in-If.c c.get.result.now in
    let a = syntax.Conditional (term_of c.in-If.c) (syntax.statement_of c.get.result.now) in
    let is : s ≡ f = c.in-If.is ∙ ap (λ x. stmt.If c.in-If.c x) (sym c.get.ensures) in
    let shape : syntax.statement_of f ≡ a = conditional-is c.in-If.c c.get.result.now in
    on-ok c.if_alone.result _ (place-is s f a is shape p (place_of c.inside.new.scopes) (c.in_ok-inner-in-If.ensures.place))

pub statement-returns-in_ok-other-in-IfElse-clause-typed : goal.statement-returns-in_ok-other-in-IfElse-clause-typed
statement-returns-in_ok-other-in-IfElse-clause-typed t c =
    let b = body_of c.args.body.now in
    let p = place_of c.args.scopes.now in
    let s = c.args.s.now in
    let f = stmt.IfElse c.in-IfElse.c c.get-in-IfElse.result.now c.get-in-IfElse-2.result.now in
    let a = syntax.Alternative (term_of c.in-IfElse.c) (syntax.statement_of c.get-in-IfElse.result.now) (syntax.statement_of c.get-in-IfElse-2.result.now) in
    let is : s ≡ f = c.in-IfElse.is ∙ ap (λ x. stmt.IfElse c.in-IfElse.c x c.in-IfElse.b) (sym c.get-in-IfElse.ensures) ∙ ap (λ x. stmt.IfElse c.in-IfElse.c c.get-in-IfElse.result.now x) (sym c.get-in-IfElse-2.ensures) in
    let shape : syntax.statement_of f ≡ a = alternative-is c.in-IfElse.c c.get-in-IfElse.result.now c.get-in-IfElse-2.result.now in
    let one = syntax.statement_of c.get-in-IfElse.result.now in
    let two = syntax.statement_of c.get-in-IfElse-2.result.now in
    typed-is s f a is shape b p c.if_else.result
    (c.if_else.ensures (Expressed (condition (here b p) (term_of c.in-IfElse.c))) (statement b p one) (statement b (passed p (locals_in one)) two) c.in_ok-test-in-IfElse.ensures c.in_ok-inner-in-IfElse.ensures.typed
    (subst (λ (q : Place). Judges lines_made (statement b q two) c.in_ok-other-in-IfElse.other) c.in_ok-inner-in-IfElse.ensures.place c.in_ok-other-in-IfElse.ensures.typed))

pub statement-returns-in_ok-other-in-IfElse-clause-place : goal.statement-returns-in_ok-other-in-IfElse-clause-place
statement-returns-in_ok-other-in-IfElse-clause-place t c =
    let b = body_of c.args.body.now in
    let p = place_of c.args.scopes.now in
    let s = c.args.s.now in
    let f = stmt.IfElse c.in-IfElse.c c.get-in-IfElse.result.now c.get-in-IfElse-2.result.now in
    let a = syntax.Alternative (term_of c.in-IfElse.c) (syntax.statement_of c.get-in-IfElse.result.now) (syntax.statement_of c.get-in-IfElse-2.result.now) in
    let is : s ≡ f = c.in-IfElse.is ∙ ap (λ x. stmt.IfElse c.in-IfElse.c x c.in-IfElse.b) (sym c.get-in-IfElse.ensures) ∙ ap (λ x. stmt.IfElse c.in-IfElse.c c.get-in-IfElse.result.now x) (sym c.get-in-IfElse-2.ensures) in
    let shape : syntax.statement_of f ≡ a = alternative-is c.in-IfElse.c c.get-in-IfElse.result.now c.get-in-IfElse-2.result.now in
    let one = syntax.statement_of c.get-in-IfElse.result.now in
    let two = syntax.statement_of c.get-in-IfElse-2.result.now in
    on-ok c.if_else.result _ (place-is s f a is shape p (place_of c.inside-in-IfElse-2.new.scopes) (c.in_ok-other-in-IfElse.ensures.place ∙ passed-twice p (place_of c.inside-in-IfElse.new.scopes) (locals_in one) (locals_in two) c.in_ok-inner-in-IfElse.ensures.place))

pub statement-returns-in_ok-inner-in-While-clause-typed : goal.statement-returns-in_ok-inner-in-While-clause-typed
statement-returns-in_ok-inner-in-While-clause-typed t c =
    let b = body_of c.args.body.now in
    let p = place_of c.args.scopes.now in
    let s = c.args.s.now in
    let f = stmt.While c.in-While.c c.get-in-While.result.now in
    let a = syntax.Looped (term_of c.in-While.c) (syntax.statement_of c.get-in-While.result.now) in
    let is : s ≡ f = c.in-While.is ∙ ap (λ x. stmt.While c.in-While.c x) (sym c.get-in-While.ensures) in
    let shape : syntax.statement_of f ≡ a = looped-is c.in-While.c c.get-in-While.result.now in
    typed-is s f a is shape b p c.while_loop.result
    (c.while_loop.ensures (Expressed (condition (here b p) (term_of c.in-While.c))) (statement b (looped p) (syntax.statement_of c.get-in-While.result.now)) c.in_ok-test-in-While.ensures c.in_ok-inner-in-While.ensures.typed)

pub statement-returns-in_ok-inner-in-While-clause-place : goal.statement-returns-in_ok-inner-in-While-clause-place
statement-returns-in_ok-inner-in-While-clause-place t c =
    let b = body_of c.args.body.now in
    let p = place_of c.args.scopes.now in
    let s = c.args.s.now in
    let f = stmt.While c.in-While.c c.get-in-While.result.now in
    let a = syntax.Looped (term_of c.in-While.c) (syntax.statement_of c.get-in-While.result.now) in
    let is : s ≡ f = c.in-While.is ∙ ap (λ x. stmt.While c.in-While.c x) (sym c.get-in-While.ensures) in
    let shape : syntax.statement_of f ≡ a = looped-is c.in-While.c c.get-in-While.result.now in
    on-ok c.while_loop.result _ (place-is s f a is shape p (place_of c.repeated.new.scopes) (c.in_ok-inner-in-While.ensures.place))

pub statement-returns-in_ok-test-in-Do-clause-typed : goal.statement-returns-in_ok-test-in-Do-clause-typed
statement-returns-in_ok-test-in-Do-clause-typed t c =
    let b = body_of c.args.body.now in
    let p = place_of c.args.scopes.now in
    let s = c.args.s.now in
    let f = stmt.Do c.get-in-Do.result.now c.in-Do.c in
    let a = syntax.Repeated (syntax.statement_of c.get-in-Do.result.now) (term_of c.in-Do.c) in
    let is : s ≡ f = c.in-Do.is ∙ ap (λ x. stmt.Do x c.in-Do.c) (sym c.get-in-Do.ensures) in
    let shape : syntax.statement_of f ≡ a = repeated-is c.get-in-Do.result.now c.in-Do.c in
    typed-is s f a is shape b p c.repeated-in-Do-2.result
    (c.repeated-in-Do-2.ensures (statement b (looped p) (syntax.statement_of c.get-in-Do.result.now)) (Expressed (condition (here b p) (term_of c.in-Do.c))) c.in_ok-inner-in-Do.ensures.typed
    (subst (λ (q : Place). Judges tree_made (Expressed (condition (here b q) (term_of c.in-Do.c))) c.in_ok-test-in-Do.test) c.in_ok-inner-in-Do.ensures.place c.in_ok-test-in-Do.ensures))

pub statement-returns-in_ok-test-in-Do-clause-place : goal.statement-returns-in_ok-test-in-Do-clause-place
statement-returns-in_ok-test-in-Do-clause-place t c =
    let b = body_of c.args.body.now in
    let p = place_of c.args.scopes.now in
    let s = c.args.s.now in
    let f = stmt.Do c.get-in-Do.result.now c.in-Do.c in
    let a = syntax.Repeated (syntax.statement_of c.get-in-Do.result.now) (term_of c.in-Do.c) in
    let is : s ≡ f = c.in-Do.is ∙ ap (λ x. stmt.Do x c.in-Do.c) (sym c.get-in-Do.ensures) in
    let shape : syntax.statement_of f ≡ a = repeated-is c.get-in-Do.result.now c.in-Do.c in
    on-ok c.repeated-in-Do-2.result _ (place-is s f a is shape p (place_of c.repeated-in-Do.new.scopes) (c.in_ok-inner-in-Do.ensures.place))

pub statement-returns-in-For-clause-typed : goal.statement-returns-in-For-clause-typed
statement-returns-in-For-clause-typed t c =
    let b = body_of c.args.body.now in
    let p = place_of c.args.scopes.now in
    let s = c.args.s.now in
    let f = stmt.For c.in-For.first c.in-For.test c.in-For.step c.get-in-For.result.now in
    let a = syntax.Counted (syntax.start_of c.in-For.first) (option_map term_of c.in-For.test) (option_map term_of c.in-For.step) (syntax.statement_of c.get-in-For.result.now) in
    let is : s ≡ f = c.in-For.is ∙ ap (λ x. stmt.For c.in-For.first c.in-For.test c.in-For.step x) (sym c.get-in-For.ensures) in
    let shape : syntax.statement_of f ≡ a = counted-is c.in-For.first c.in-For.test c.in-For.step c.get-in-For.result.now in
    typed-is s f a is shape b p c.counted.result
    (c.counted.ensures.typed)

pub statement-returns-in-For-clause-place : goal.statement-returns-in-For-clause-place
statement-returns-in-For-clause-place t c =
    subst (λ a. OnOk c.counted.result (place_of c.counted.new.scopes ≡ behind (place_of c.args.scopes.now) a))
    (sym (counted-is c.in-For.first c.in-For.test c.in-For.step c.get-in-For.result.now)
    ∙ ap syntax.statement_of (sym (c.in-For.is ∙ ap (λ x. stmt.For c.in-For.first c.in-For.test c.in-For.step x) (sym c.get-in-For.ensures)))) c.counted.ensures.place

pub entries-statement-requires : goal.entries-statement-requires
entries-statement-requires t c =
    let b = c.args.body.now in
    let p = place_of c.args.scopes.now in
    let es = c.args.es.now in
    let all = syntax.statements_of (map syntax.statement_of es) in
    let e = c.s-item.result in
    let i = c.loop-s.s-index in
    let s = c.loop-s.scopes in
    let items = c.as_slice-s-items.ensures in
    let within = subst (λ (xs : List Written). i < length xs) items c.loop-s-test.true in
    let is = c.s-item.is ∙ ap (λ (xs : List Written). get_or xs i e) items in
    let d = subst (λ (xs : List Written). Entering b p all s (syntax.statements_of (map syntax.statement_of xs)) c.loop-s.all) (drop-next es i e within is) c.loop-s.invariant in
    let room = d.room in
    let less = size-member es i e within is in
    let begun = c.decreases in
    (omega arith, (c.loop-s.invariant.fits, omega arith))
