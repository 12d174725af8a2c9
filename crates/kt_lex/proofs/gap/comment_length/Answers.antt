use Rattle.std.proofs.Common.{sym, ap, ◌∙◌, arith}
use Rattle.std.specs.Prelude.{nat_eq, codes}
use Rattle.std.specs.List.{starts_with}
use Rattle.kt_lex.proofs.Scans.{shifted, shifted-suc, comment-next, take-rest}
use Rattle.kt_lex.proofs.gap.comment_length.Goals as goal

pub loop-at-preserved : goal.loop-at-preserved
loop-at-preserved c =
    let bytes = c.args.bytes.now in
    let i = c.loop-at.at in
    c.loop-at.invariant
    ∙ ap (shifted i) (comment-next bytes i (omega arith) (ap (λ rest. starts_with nat_eq rest (codes "*/")) (sym (take-rest bytes i)) ∙ sym c.starts_with.ensures.value ∙ c.if-starts_with.false))
    ∙ shifted-suc _ _
