use Rattle.std.proofs.Common.{List, length, ap, ◌∙◌, subst, Option, slice_get}
use Rattle.kt_terms.specs.declared.argument.Argument.{Argument as ArgumentCode}
use Rattle.kt_terms.specs.declared.argument.Wanted.{Wanted}
use Rattle.kt_names.specs.Judges.{Judges}
use Rattle.kt_names.specs.Views.{environment_of, operand_of}
use Rattle.kt_names.specs.Checked.{Checked}
use Rattle.kt_names.specs.Operands.{Operand}
use Rattle.kt_tree.specs.Tree.{Expressions}
use Rattle.kt_terms.specs.Arguments.{argument_at, none_left, with_wanted, all_wanted, last_first}
use Rattle.kt_terms.proofs.ArgumentAnswers.{Left, left-first, left-next, left-none, pop-none}
use Rattle.kt_terms.proofs.wanted.all_wanted.Goals as goal

pub loop-x-init : goal.loop-x-init
loop-x-init c specs are =
    let P : Option Wanted → Type 0 = λ o. Judges last_first c.none_left-operands.result (none_left c.args.up o) in
    left-first (environment_of c.args.env.now) c.args.up c.args.wanted.now c.args.arguments c.none_left-operands.result specs
    (subst P (c.wanted_at.ensures ∙ ap (slice_get c.args.wanted.now) c.len.ensures) c.none_left-operands.ensures) are

pub loop-x-preserved : goal.loop-x-preserved
loop-x-preserved c specs are =
    let env = environment_of c.args.env.now in
    let step : (s : Checked Operand) → (r : Checked Expressions) → Judges operand_of c.in-Some.x.typed s → Judges last_first c.loop-x.operands r → Judges last_first c.with_wanted-operands.result (with_wanted env c.args.up (slice_get c.args.wanted.now (length c.pop.new.self)) (argument_at c.in-Some.x s) r) =
    λ s r h k.
    let P : Option Wanted → Type 0 = λ o. Judges last_first c.with_wanted-operands.result (with_wanted env c.args.up o (argument_at c.in-Some.x s) r) in
    subst P (c.wanted_at-in-Some.ensures ∙ ap (slice_get c.args.wanted.now) c.len-in-Some.ensures) (c.with_wanted-operands.ensures s r h k)
    in
    left-next env c.args.up c.args.wanted.now c.pop.new.self c.in-Some.x c.loop-x.operands c.with_wanted-operands.result specs c.loop-x.arguments c.in-Some.ensures step (c.loop-x.invariant specs are)

pub returns : goal.returns
returns c specs are =
    let env = environment_of c.args.env.now in
    let P : List ArgumentCode → Type 0 = λ xs. Left env c.args.up c.args.wanted.now xs c.loop-x.operands specs in
    c.in_order.ensures (all_wanted env c.args.up c.args.wanted.now specs)
    (left-none env c.args.up c.args.wanted.now c.loop-x.operands specs (subst P (pop-none c.pop.result c.loop-x.arguments c.pop.new.self c.pop.ensures c.in_default.not-Some) (c.loop-x.invariant specs are)))
