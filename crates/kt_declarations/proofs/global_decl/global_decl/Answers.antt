use Rattle.std.proofs.Common.{◌∙◌}
use Rattle.kt_operands.specs.Views.{environment_of}
use Rattle.kt_program.specs.Declarators.{extent_of}
use Rattle.kt_program.specs.Mentioned.{stars_of}
use Rattle.kt_program.specs.Programs.{initial_value}
use Rattle.kt_declarations.proofs.Right.{view-right}
use Rattle.kt_declarations.proofs.global_decl.global_decl.Goals as goal

pub returns : goal.returns
returns c w tells type =
    let p = c.args.g.now.declarator.pointer in
    let name = c.from_vec-name.ensures ∙ c.in_ok-from_slice.ensures.items ∙ c.as_bytes.ensures.bytes in
    let view = c.view_of.ensures ∙ view-right w (environment_of c.args.env.now) tells c.args.base.now (stars_of p) (extent_of p) c.requires.extent in
    let init = c.initial_value.ensures w.literals tells.literals ∙ (λ i. initial_value w.literals (c.stars_of.ensures i) c.args.g.now.initial) in
    λ i. record { name = name i; ty = type i; count = c.count_of.ensures i; array = c.is_some.ensures i; view = view i; init = init i }
