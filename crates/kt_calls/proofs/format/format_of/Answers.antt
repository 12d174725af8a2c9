use Rattle.std.proofs.Common.{◌+◌, List, ℕ, drop, sym, ap, ◌∙◌}
use Rattle.std.proofs.lemmas.List.{at_drop_more}
use Rattle.kt_typing.specs.Formats.{format_from, format_of}
use Rattle.kt_calls.specs.Arguments.{joined}
use Rattle.kt_calls.specs.Standpoints.{standpoint_of}
use Rattle.kt_calls.proofs.Pieces.{piece-read, joined-nil}
use Rattle.kt_calls.proofs.format.format_of.Goals as goal

pub loop-b-init : goal.loop-b-init
loop-b-init c = ap (λ cs. joined cs (format_of c.args.format.now)) c.new-pieces.ensures.items ∙ joined-nil (format_of c.args.format.now)

pub returns-in-None : goal.returns-in-None
returns-in-None c =
    let F = λ (rest : List ℕ). joined c.loop-b.pieces.items (format_from (standpoint_of c.loop-b.standpoint) rest) in
    ap (joined c.loop-b.pieces.items) (c.in-None.ensures (drop (c.loop-b.b-index + 1) c.args.format.now))
    ∙ sym (at_drop_more F c.args.format.now c.loop-b.b-index 0 c.loop-b-test.true) ∙ c.loop-b.invariant

pub loop-b-preserved : goal.loop-b-preserved
loop-b-preserved c =
    let F = λ (rest : List ℕ). joined c.loop-b.pieces.items (format_from (standpoint_of c.loop-b.standpoint) rest) in
    let behind = drop (c.loop-b.b-index + 1) c.args.format.now in
    ap (λ cs. joined cs (format_from (standpoint_of c.in-Some.next) behind)) c.in_ok-pieces-in-Some.ensures
    ∙ piece-read c.loop-b.pieces.items c.in-Some.piece c.in-Some.next behind
    ∙ ap (joined c.loop-b.pieces.items) (c.in-Some.ensures behind)
    ∙ sym (at_drop_more F c.args.format.now c.loop-b.b-index 0 c.loop-b-test.true) ∙ c.loop-b.invariant
