use Rattle.std.proofs.Common.{if◌then◌else◌, Bool, None, ap, ◌∙◌, sym}
use Rattle.kt_operands.specs.Views.{environment_of}
use Rattle.kt_program.specs.Declarators.{extent_of, extent_fault}
use Rattle.kt_declarations.proofs.Within.{inner-is}
use Rattle.kt_declarations.proofs.structs.inner_extent_fault.Goals as goal

pub returns-then-counts_by : goal.returns-then-counts_by
returns-then-counts_by c fields are =
    let env = environment_of c.args.env.now in
    let e = extent_of c.args.pointer.now in
    sym (inner-is env fields e ∙ ap (λ (b : Bool). if b then None else extent_fault env e) (sym (c.counts_by.ensures fields are) ∙ c.if-counts_by.true))

pub returns-else-counts_by : goal.returns-else-counts_by
returns-else-counts_by c fields are =
    let env = environment_of c.args.env.now in
    let e = extent_of c.args.pointer.now in
    c.extent_fault.ensures ∙ sym (inner-is env fields e ∙ ap (λ (b : Bool). if b then None else extent_fault env e) (sym (c.counts_by.ensures fields are) ∙ c.if-counts_by.false))
