use Rattle.std.proofs.Common.{◌≡◌, ◌++◌, map, drop}
use Rattle.kt_program.specs.Views.{fields_of_base}
use Rattle.kt_declarations.specs.Fields.{field_of}
use Rattle.kt_declarations.proofs.field.push_fields.Given as goal

abbrev pub invariant-loop-declarator : goal.invariant-loop-declarator
invariant-loop-declarator l =
    map field_of l.all.items ++ fields_of_base l.base (drop l.declarator-index l.declarators) ≡ map field_of l.fn.all.items ++ fields_of_base l.base l.declarators
