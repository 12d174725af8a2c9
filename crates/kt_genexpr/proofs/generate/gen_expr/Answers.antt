use Rattle.std.proofs.Common.{◌≡◌, ◌++◌, reverse, sym, ap, ◌∙◌, subst}
use Rattle.std.proofs.lemmas.List.{reverse-reverse}
use Rattle.kt_tree.specs.Tree.{expression_of}
use Rattle.kt_code.specs.Settling.{HasJumps}
use Rattle.kt_genexpr.specs.Emitting.{code_in}
use Rattle.kt_genexpr.proofs.ExpressionJumps.{added-jumps}
use Rattle.kt_genexpr.proofs.generate.gen_expr.Goals as goal

pub append-requires : goal.append-requires
append-requires c =
    let p = c.args.version.now in
    let e = expression_of c.args.expr.now in
    let put : c.emit_expr.new.out.items ≡ reverse (code_in p e) = c.in_ok-emit_expr.ensures ∙ ap (λ is. is ++ reverse (code_in p e)) c.new-instrs.ensures.items in
    let added : c.reverse.new.self.items ≡ code_in p e = c.reverse.ensures.items ∙ ap reverse put ∙ reverse-reverse (code_in p e) in
    subst (λ is. HasJumps (c.args.out.now.instrs ++ is)) (sym added) (added-jumps c.args.out.now.instrs p.types p.functions e c.instrs.ensures.jumps)
