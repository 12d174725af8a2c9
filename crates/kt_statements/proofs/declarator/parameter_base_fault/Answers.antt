use Rattle.std.proofs.Common.{◌==◌, ◌∷◌, [], ap, sym, ◌∙◌}
use Rattle.kt_program.specs.Mentioned.{stars_of}
use Rattle.kt_statements.proofs.Declarators.{one-plain}
use Rattle.kt_statements.proofs.declarator.parameter_base_fault.Goals as goal

pub returns : goal.returns
returns c =
    let stars = stars_of c.args.declarator.now in
    c.base_fault.ensures (stars ∷ []) (one-plain stars ∙ ap (λ n. n == 0) (sym c.stars_of.ensures))
