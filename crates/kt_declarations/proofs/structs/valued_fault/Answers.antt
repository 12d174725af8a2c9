use Rattle.std.proofs.Common.{List, ◌==◌, map, ap, ◌∙◌, sym}
use Rattle.std.specs.List.{list_any}
use Rattle.kt_syntax.specs.declared.tree.Declarator.{Declarator}
use Rattle.kt_program.specs.Mentioned.{stars_of}
use Rattle.kt_declarations.proofs.Declared.{any-map}
use Rattle.kt_declarations.proofs.structs.valued_fault.Goals as goal

pub returns : goal.returns
returns c =
    let ds = c.args.fields.now.declarators in
    c.base_fault.ensures (map (λ (d : Declarator). stars_of d.pointer) ds)
    (any-map (λ (d : Declarator). stars_of d.pointer) (λ n. n == 0) ds ∙ ap (λ (xs : List Declarator). list_any (λ d. stars_of d.pointer == 0) xs) (sym c.as_slice.ensures) ∙ sym c.has_value.ensures)
