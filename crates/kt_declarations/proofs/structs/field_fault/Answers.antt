use Rattle.std.proofs.Common.{ℕ, Option, not, ◌+◌, ◌&&◌, nat_le, ap, ◌∙◌, sym}
use Rattle.kt_operands.specs.Views.{environment_of}
use Rattle.kt_typing.specs.First.{earlier}
use Rattle.kt_typing.specs.Faults.{fault_at}
use Rattle.kt_typing.specs.declared.fault.Kind.TheVariants as kind
use Rattle.kt_program.specs.Declarators.{where_not, extent_of}
use Rattle.kt_program.specs.Scopes.{contains}
use Rattle.kt_program.specs.Structs.{inner_extent_fault, is_array_count, field_cells}
use Rattle.kt_declarations.specs.Fields.{field_of, known, told, is_at}
use Rattle.kt_declarations.proofs.Earlier.{three-first}
use Rattle.kt_declarations.proofs.Mapped.{itself}
use Rattle.kt_declarations.proofs.Within.{new-at}
use Rattle.kt_declarations.proofs.structs.field_fault.Goals as goal

pub returns : goal.returns
returns c fields before n are at stand count =
    let env = environment_of c.args.env.now in
    let x = field_of c.args.x in
    let name = x.declarator.name in
    let is_new = c.is_first-is_new.ensures ∙ ap (λ m. is_at (told (known c.args.names.now m)).0 c.args.place) c.as_bytes.ensures.bytes
    ∙ ap (λ (p : Option ℕ × Option ℕ). is_at p.0 c.args.place) (are name.word) ∙ new-at fields c.args.place x before at stand (itself name.word) in
    let twice = c.where_not-twice.ensures ∙ ap (λ b. where_not b (fault_at kind.Twice name.at)) is_new in
    let size = c.where_not-size.ensures ∙ ap (λ b. where_not b (fault_at kind.TooBig name.at)) (c.is_small-small.ensures n count) in
    c.earlier-2.ensures ∙ (λ i. earlier (c.inner_extent_fault-extent.ensures fields are i) (c.earlier.ensures i))
    ∙ (λ i. earlier (inner_extent_fault env fields (extent_of x.declarator.pointer)) (earlier (twice i) (size i)))
    ∙ sym (three-first (inner_extent_fault env fields (extent_of x.declarator.pointer)) (where_not (not (contains before name.word)) (fault_at kind.Twice name.at))
    (where_not (is_array_count x.declarator.count && nat_le (n + field_cells env x) 65536) (fault_at kind.TooBig name.at)))
