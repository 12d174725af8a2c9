-- The fields of a struct, and what the code keeps of their names.
use Rattle.std.specs.Prelude.{◌≡◌, ℕ, ◌==◌, ◌+◌, take, length, Bool, true, false, List, [], ◌∷◌, Option, Some, None}
use Rattle.std.specs.List.{list_any, position_from}
use Rattle.std.specs.Map.{lookup}
use Rattle.std.specs.Str.{bytes_eq}
use Rattle.kt_grammar.specs.declared.tree.Name.{Name}
use Rattle.kt_syntax.specs.declared.tree.Extent.{Extent}
use Rattle.kt_syntax.specs.declared.tree.Extent.TheVariants as extent
use Rattle.kt_types.specs.declared.kinds.FieldDecl.{FieldDecl}
use Rattle.kt_types.specs.declared.kinds.Ty.{Ty}
use Rattle.kt_types.specs.Layout.{layout}
use Rattle.kt_typing.specs.Environment.{Environment}
use Rattle.kt_program.specs.Scopes.{contains}
use Rattle.kt_program.specs.Structs.{field_cells}
use Rattle.kt_program.specs.Views.{Field, is_count_field}
use Rattle.kt_declarations.specs.declared.field.FieldOf.{FieldOf}
use Rattle.kt_declarations.specs.declared.field.Known.{Known}
use Rattle.kt_declarations.specs.declared.field.FieldNames.{FieldNames}

abbrev pub field_of : FieldOf → Field
field_of x = record { base = x.base.now; declarator = x.declarator.now }

abbrev pub is_named : List ℕ → Field → Bool
is_named n x = bytes_eq x.declarator.name.word n

-- the places of the first field of a name, and of the first that counts elements
abbrev pub places : List Field → List ℕ → Option ℕ × Option ℕ
places fields n = (position_from (is_named n) 0 fields, position_from (is_count_field n) 0 fields)

abbrev pub told : Option Known → Option ℕ × Option ℕ
told None = (None, None)
told (Some k) = (Some k.first, k.count)

abbrev pub known : FieldNames → List ℕ → Option Known
known a n = lookup (λ k. bytes_eq n k.items) a.known.entries

-- these are the names of the fields, with their places
abbrev pub AreKnown : FieldNames → List Field → Type 0
AreKnown a fields = (n : List ℕ) → told (known a n) ≡ places fields n

-- what was told before, or else this place where it passes
abbrev pub or_here : Option ℕ → Bool → ℕ → Option ℕ
or_here (Some n) passes place = Some n
or_here None true place = Some place
or_here None false place = None

-- the number is there, and is this place
abbrev pub is_at : Option ℕ → ℕ → Bool
is_at None place = false
is_at (Some n) place = n == place

-- the name between the parentheses of `E_PTRARRAY`
abbrev pub named_by : Option Extent → Option Name
named_by (Some (extent.Name n)) = Some n
named_by _ = None

-- it names an integer field of these
abbrev pub counts_named : List Field → Option Name → Bool
counts_named fields None = false
counts_named fields (Some n) = list_any (is_count_field n.word) fields

-- these are the names before a place
abbrev pub AreBefore : List (List ℕ) → List Field → ℕ → Type 0
AreBefore names fields place = (n : List ℕ) → contains names n ≡ list_any (is_named n) (take place fields)

-- the place of the field that it names
abbrev pub place_by : FieldNames → Option Name → Option ℕ
place_by a None = None
place_by a (Some n) = (told (known a n.word)).1

-- how many cells fields have together
abbrev pub all_cells : Environment → List Field → ℕ
all_cells env [] = 0
all_cells env (x ∷ rest) = field_cells env x + all_cells env rest

-- each of these has the name of its field, and a type of so many cells
abbrev pub AreLaid : Environment → List Field → List FieldDecl → Type 0
AreLaid env [] [] = Unit {0}
AreLaid env (x ∷ xs) (d ∷ ds) =
    (d.name ≡ x.declarator.name.word) × ((cs : List Ty) × (layout env.scope.types d.ty ≡ Some cs) × (length cs ≡ field_cells env x)) × AreLaid env xs ds
AreLaid env _ _ = ⊥
