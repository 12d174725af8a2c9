-- What names of a version stand for, by their numbers.
use Rattle.std.specs.Prelude.{ℕ, Bool, List, position, slice_get, Option, option_and_then}
use Rattle.std.specs.Option.{is_some}
use Rattle.std.specs.Str.{bytes_eq}
use Rattle.kt_types.specs.declared.kinds.FieldDecl.{FieldDecl}
use Rattle.kt_types.specs.Table.{fields_of}
use Rattle.kt_tree.specs.Tree.{Function}
use Rattle.kt_tree.specs.Version.{Program}

abbrev pub global_named : Program → List ℕ → Option ℕ
global_named p n = position (λ g. bytes_eq g.name n) p.globals

abbrev pub struct_named : Program → List ℕ → Option ℕ
struct_named p n = position (λ m. bytes_eq m n) p.types.structs

-- the struct of this number has a definition
abbrev pub is_defined : Program → ℕ → Bool
is_defined p s = is_some (fields_of p.types s)

abbrev pub among_fields : List ℕ → List FieldDecl → Option ℕ
among_fields n fields = position (λ d. bytes_eq d.name n) fields

-- the field of a name, of the struct of this number; one without a definition has none
abbrev pub field_named : Program → ℕ → List ℕ → Option ℕ
field_named p s n = option_and_then (among_fields n) (fields_of p.types s)

abbrev pub function_named : Program → List ℕ → Option ℕ
function_named p n = position (λ f. bytes_eq f.name n) p.functions

-- the local of a name, of the function of this number
abbrev pub local_named : Program → ℕ → List ℕ → Option ℕ
local_named p k n = option_and_then (λ (f : Function). among_fields n f.locals) (slice_get p.functions k)
