use Rattle.std.proofs.Common.{◌<◌, Err, refl, sym, ap, ◌∙◌, arith}
use Rattle.std.proofs.lemmas.Result.{err_from_is_err_and}
use Rattle.kt_grammar.specs.declared.fault.Fault.{Fault}
use Rattle.kt_grammar.proofs.Binds.{fails_bind}
use Rattle.kt_grammar.proofs.Depths.{fails_so, deep-zero, deep-some}
use Rattle.kt_grammar.proofs.Unaries.{unary_at-by_head}
use Rattle.kt_grammar.proofs.Loops.{level_at-not, is_climbed_start, is_climbed_more, is_climbed_not, is_climbed_whole, is_chained_whole, is_chained_stuck, is_chained_not, is_chained_more, is_postfixed_whole, is_postfixed_not, is_postfixed_last, is_postfixed_more, is_listed_more, is_listed_not, tail_at-0, tail_at-1, tail_at-2, arguments_at-zero, arguments_at-some}
use Rattle.kt_grammar.proofs.+expressions.Goals as goal

-- ---- chain

pub levels::chain-returns-then-depth-eq0-clause-read : goal.levels::chain-returns-then-depth-eq0-clause-read
levels::chain-returns-then-depth-eq0-clause-read t c =
    is_chained_stuck _ _ _ _ _ _ _ _ _ _ c.loop-operator.invariant (sym c.in-Some.ensures) c.if-depth-eq0.true (rw c.behind_first-right.ensures.value at c.stuck.ensures)

pub levels::chain-returns-in_err-left-clause-read : goal.levels::chain-returns-in_err-left-clause-read
levels::chain-returns-in_err-left-clause-read t c =
    let p = err_from_is_err_and c.from_residual.result c.from_residual.ensures.1 in
    let lt : 0 < c.loop-operator.depth = omega (arith, c.if-depth-eq0.false) in
    rw (p.1, p.2) (is_chained_not _ _ _ _ _ _ _ _ _ _ _ c.loop-operator.invariant (sym c.in-Some.ensures) lt (omega arith) (rw (c.behind_first-right.ensures.value, c.in_err-left.ensures.err) at c.level.ensures.read))

pub levels::chain-loop-operator-preserved : goal.levels::chain-loop-operator-preserved
levels::chain-loop-operator-preserved t c =
    let lt : 0 < c.loop-operator.depth = omega (arith, c.if-depth-eq0.false) in
    let read = rw (c.behind_first-right.ensures.value, c.in_ok-left.ensures.ok.1) at c.level.ensures.read in
    let shorter = rw c.in_ok-left.ensures.ok.1 at c.level.ensures.shorter in
    is_chained_more _ _ _ _ _ c.in_ok-left.y _ _ _ _ _ _ _ c.loop-operator.invariant (sym c.in-Some.ensures) lt (omega arith) read
    (omega (arith, shorter, c.behind_first-right.ensures.shorter)) (rw c.in_ok-left.ensures.ok.0 at c.in_ok-x.ensures)

pub levels::chain-returns-clause-read : goal.levels::chain-returns-clause-read
levels::chain-returns-clause-read t c = is_chained_whole _ _ _ _ _ _ _ _ c.loop-operator.invariant (sym c.in_default.ensures)

-- ---- deep

pub levels::deep-returns-then-depth-eq0-clause-read : goal.levels::deep-returns-then-depth-eq0-clause-read
levels::deep-returns-then-depth-eq0-clause-read t c =
    fails_so _ _ (deep-zero c.args.dialect c.args.depth (λ r. r.level c.args.least) c.args.symbols.now c.if-depth-eq0.true ∙ ap (λ (e : Fault). Err e) (sym c.stuck.ensures))

pub levels::deep-returns-clause-read : goal.levels::deep-returns-clause-read
levels::deep-returns-clause-read t c =
    rw (deep-some c.args.dialect c.args.depth (λ r. r.level c.args.least) c.args.symbols.now (omega (arith, c.if-depth-eq0.false))) c.level.ensures.read

-- ---- level

pub levels::level-returns-in_err-x-clause-read : goal.levels::level-returns-in_err-x-clause-read
levels::level-returns-in_err-x-clause-read t c =
    let p = err_from_is_err_and c.from_residual.result c.from_residual.ensures.1 in
    rw (p.1, p.2) (level_at-not _ _ _ _ _ c.in_err-x.ensures.read)

pub levels::level-loop-above-init : goal.levels::level-loop-above-init
levels::level-loop-above-init t c = is_climbed_start _ _ _ _ _ _ c.in_ok-x.ensures.read c.in_ok-x.ensures.shorter

pub levels::level-returns-in_err-y-clause-read : goal.levels::level-returns-in_err-y-clause-read
levels::level-returns-in_err-y-clause-read t c =
    let p = err_from_is_err_and c.from_residual-in_err-y.result c.from_residual-in_err-y.ensures.1 in
    rw (p.1, p.2) (is_climbed_not _ _ _ _ _ _ _ _ _ c.loop-above.invariant c.loop-above-test.true refl c.in_err-y.ensures.read)

pub levels::level-loop-above-preserved : goal.levels::level-loop-above-preserved
levels::level-loop-above-preserved t c =
    is_climbed_more _ _ _ _ _ _ _ _ _ _ c.loop-above.invariant c.loop-above-test.true refl c.in_ok-y.ensures.read c.in_ok-y.ensures.shorter

pub levels::level-returns-clause-read : goal.levels::level-returns-clause-read
levels::level-returns-clause-read t c = is_climbed_whole _ _ _ _ _ _ _ c.loop-above.invariant c.loop-above-test.false

-- ---- tail

pub levels::tail-returns-in-0-clause-read : goal.levels::tail-returns-in-0-clause-read
levels::tail-returns-in-0-clause-read t c = rw (tail_at-0 _ _ c.args.level _ _ c.in-0.is) c.assignment.ensures.read

pub levels::tail-returns-in-1-clause-read : goal.levels::tail-returns-in-1-clause-read
levels::tail-returns-in-1-clause-read t c = rw (tail_at-1 _ _ c.args.level _ _ c.in-1.is) c.choice.ensures.read

pub levels::tail-returns-in_default-clause-read : goal.levels::tail-returns-in_default-clause-read
levels::tail-returns-in_default-clause-read t c = rw (tail_at-2 _ _ c.args.level _ _ (omega arith)) c.chain.ensures.read

-- ---- postfix

pub postfix::postfix-returns-in_err-y-clause-read : goal.postfix::postfix-returns-in_err-y-clause-read
postfix::postfix-returns-in_err-y-clause-read t c =
    let p = err_from_is_err_and c.from_residual.result c.from_residual.ensures.1 in
    rw (p.1, p.2) (is_postfixed_not _ _ _ _ _ _ _ _ _ c.loop-operator.invariant (sym c.in-Some.ensures.value) (rw c.behind_first.ensures.value at c.in_err-y.ensures.read))

pub postfix::postfix-returns-then-depth-eq0-clause-read : goal.postfix::postfix-returns-then-depth-eq0-clause-read
postfix::postfix-returns-then-depth-eq0-clause-read t c =
    rw (is_postfixed_last _ _ _ c.in_ok-y.y _ _ _ _ _ _ c.loop-operator.invariant (sym c.in-Some.ensures.value) (rw c.behind_first.ensures.value at c.in_ok-y.ensures.read) c.if-depth-eq0.true) c.last.ensures.read

pub postfix::postfix-loop-operator-preserved : goal.postfix::postfix-loop-operator-preserved
postfix::postfix-loop-operator-preserved t c =
    is_postfixed_more _ _ _ _ _ _ _ _ _ _ c.loop-operator.invariant (sym c.in-Some.ensures.value) (rw c.behind_first.ensures.value at c.in_ok-y.ensures.read) (omega (arith, c.if-depth-eq0.false))
    (omega (arith, c.in_ok-y.ensures.shorter, c.behind_first.ensures.shorter))

pub postfix::postfix-returns-clause-read : goal.postfix::postfix-returns-clause-read
postfix::postfix-returns-clause-read t c = is_postfixed_whole _ _ _ _ _ _ _ c.loop-operator.invariant (sym c.in_default.ensures.value)

-- ---- arguments

pub unary::arguments-returns-then-depth-eq0-clause-read : goal.unary::arguments-returns-then-depth-eq0-clause-read
unary::arguments-returns-then-depth-eq0-clause-read t c =
    fails_so _ _ (arguments_at-zero _ _ _ (sym c.if-begins_sign.ensures.value) c.if-depth-eq0.true ∙ ap (λ (e : Fault). Err e) (sym c.stuck.ensures))

pub unary::arguments-returns-in_err-arguments-clause-read : goal.unary::arguments-returns-in_err-arguments-clause-read
unary::arguments-returns-in_err-arguments-clause-read t c =
    let p = err_from_is_err_and c.from_residual.result c.from_residual.ensures.1 in
    rw (p.1, p.2, arguments_at-some c.args.dialect c.args.depth c.args.symbols.now (sym c.if-begins_sign.ensures.value) (omega (arith, c.if-depth-eq0.false))) (fails_bind _ _ _ c.in_err-arguments.ensures.read)

pub unary::arguments-returns-in_err-rest-clause-read : goal.unary::arguments-returns-in_err-rest-clause-read
unary::arguments-returns-in_err-rest-clause-read t c =
    let p = err_from_is_err_and c.from_residual-in_err-rest.result c.from_residual-in_err-rest.ensures.1 in
    rw (p.1, p.2, arguments_at-some c.args.dialect c.args.depth c.args.symbols.now (sym c.if-begins_sign.ensures.value) (omega (arith, c.if-depth-eq0.false)), c.in_ok-arguments.ensures.read) (fails_bind _ _ _ c.in_err-rest.ensures.read)

pub unary::arguments-returns-clause-read : goal.unary::arguments-returns-clause-read
unary::arguments-returns-clause-read t c =
    rw (arguments_at-some c.args.dialect c.args.depth c.args.symbols.now (sym c.if-begins_sign.ensures.value) (omega (arith, c.if-depth-eq0.false)), c.in_ok-arguments.ensures.read, c.in_ok-rest.ensures.read) refl

-- ---- lists

pub unary::listed-returns-in_err-item-clause-read : goal.unary::listed-returns-in_err-item-clause-read
unary::listed-returns-in_err-item-clause-read t c =
    let p = err_from_is_err_and c.from_residual.result c.from_residual.ensures.1 in
    rw (p.1, p.2) (is_listed_not _ _ _ _ _ _ c.loop-items.invariant c.in_err-item.ensures.read)

pub unary::listed-loop-items-preserved : goal.unary::listed-loop-items-preserved
unary::listed-loop-items-preserved t c =
    is_listed_more _ _ _ _ _ _ _ _ _ c.loop-items.invariant c.in_ok-item.ensures.read c.in_ok-item.ensures.shorter c.in_ok-push.ensures.ok (sym c.if-not-begins_sign.ensures.value) c.behind_first-rest.ensures.value (omega (arith, c.behind_first-rest.ensures.shorter))

-- ---- unary

pub unary::unary-returns-in_err-head-clause-read : goal.unary::unary-returns-in_err-head-clause-read
unary::unary-returns-in_err-head-clause-read t c =
    let p = err_from_is_err_and c.from_residual.result c.from_residual.ensures.1 in
    rw (p.1, p.2, unary_at-by_head) (fails_bind _ _ _ c.in_err-head.ensures.read)

pub unary::unary-returns-clause-read : goal.unary::unary-returns-clause-read
unary::unary-returns-clause-read t c = rw (unary_at-by_head, c.in_ok-head.ensures.read) c.behind_head.ensures.read
