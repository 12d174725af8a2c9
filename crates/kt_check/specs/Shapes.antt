-- The fields of a struct that is being defined, in code.
use Rattle.std.specs.Prelude.{ℕ, ◌+◌, ◌≡◌, ◌&&◌, not, nat_le, List, ◌∷◌, ◌++◌, map, Option, None, Some}
use Rattle.std.specs.Option.{is_some}
use Rattle.std.specs.Map.{lookup}
use Rattle.std.specs.Str.{bytes_eq}
use Rattle.std.specs.Global.{Vec}
use Rattle.kt_grammar.specs.declared.tree.Name.{Name}
use Rattle.kt_grammar.specs.declared.tree.Base.{Base}
use Rattle.kt_syntax.specs.declared.tree.Extent.{Extent}
use Rattle.kt_syntax.specs.declared.tree.Extent.TheVariants as extent
use Rattle.kt_syntax.specs.declared.tree.Fields.{Fields}
use Rattle.kt_syntax.specs.declared.tree.Pointer.{Pointer}
use Rattle.kt_types.specs.declared.kinds.View.{View}
use Rattle.kt_types.specs.declared.kinds.View.TheVariants as view
use Rattle.kt_names.specs.declared.fault.CheckFault.TheVariants.{Twice, TooBig}
use Rattle.kt_names.specs.declared.info.FieldInfo.{FieldInfo}
use Rattle.kt_check.specs.declared.shape.OneField.{OneField as OneFieldCode}
use Rattle.kt_check.specs.declared.shape.Shape.{Shape}
use Rattle.kt_check.specs.declared.shape.Within.{Within as WithinCode}
use Rattle.kt_names.specs.Checked.{Checked, both, holds}
use Rattle.kt_names.specs.Environment.{Outer, FieldOf, struct_numbered}
use Rattle.kt_names.specs.Types.{number_of_struct}
use Rattle.kt_names.specs.Statements.{contains}
use Rattle.kt_names.specs.Tables.{plain_view, extent_of}
use Rattle.kt_names.specs.Views.{latest_first}
use Rattle.kt_check.specs.Files.{Frame, Sofar, OneField, Within, no_field, outside, is_array_count, count_field, named_view, field_cells, fields_in, fields_from, field_info, field_decl, pointer_inside}

abbrev pub one_field : OneFieldCode → OneField
one_field x = record { base = x.base.now; declarator = x.declarator.now }

abbrev pub shape_fields : Shape → List OneField
shape_fields s = map one_field s.fields.now

-- the fields that may count are found by their names
abbrev pub Counts : Shape → Type 0
Counts s = (n : List ℕ) → lookup (λ k. bytes_eq n k.items) s.counts.now.entries ≡ count_field (shape_fields s) n

-- the view of an extent in a struct
abbrev pub extent_view : (List ℕ → Option Outer) → List OneField → Extent → View
extent_view outer fields (extent.Name n) = named_view outer fields n
extent_view outer fields (extent.Number at n) = view.Count n.value

-- the view of a declarator in a struct
abbrev pub view_inside : (List ℕ → Option Outer) → List OneField → Base → Option Pointer → View
view_inside outer fields b p = elim (extent_of p) as (λ _. View) [ None ↦ plain_view b p | (Some e) ↦ extent_view outer fields e ]

-- ---- the fields so far

abbrev pub infos_of : List (Vec ℕ × FieldInfo) → List FieldOf
infos_of es = map (λ e. record { name = e.0.items; ty = e.1.ty; array = e.1.array }) es

abbrev pub within_of : WithinCode → Within
within_of w = record { names = map (λ e. e.0.items) (latest_first w.infos.entries); cells = w.cells }

-- these fields more, as typing and as the version has them
pub record Grows (f : Frame) (fields : List OneField) (old new : WithinCode) (xs : List OneField) : Type 0 where
  pub infos : infos_of new.infos.entries ≡ infos_of old.infos.entries ++ map (field_info f) xs
  pub decls : new.decls.items ≡ old.decls.items ++ map (field_decl f fields) xs

-- these fields and no others
pub record Holds (f : Frame) (fields : List OneField) (w : WithinCode) : Type 0 where
  pub infos : infos_of w.infos.entries ≡ map (field_info f) fields
  pub decls : w.decls.items ≡ map (field_decl f fields) fields

-- ---- parts

-- what is judged of a field
abbrev pub size_parts : Frame → Sofar → Within → OneField → Checked (Unit {0} × Unit {0})
size_parts f s w x =
    both (holds (not (contains w.names x.declarator.name.word)) (Twice x.declarator.name.at))
    (holds (is_array_count x.declarator.count && nat_le (w.cells + field_cells f s x) 65536) (TooBig x.declarator.name.at))

abbrev pub field_parts : Frame → Sofar → List OneField → Within → OneField → Checked (Unit {0} × (Unit {0} × Unit {0}))
field_parts f s fields w x = both (pointer_inside (outside f s) fields x.declarator.pointer) (size_parts f s w x)

-- a field more
abbrev pub with_field : Frame → Sofar → Within → OneField → Within
with_field f s w x = record { names = x.declarator.name.word ∷ w.names; cells = w.cells + field_cells f s x }

-- what is judged of a definition of a struct
abbrev pub struct_parts : Frame → Sofar → Name → List Fields → Checked (Unit {0} × Within)
struct_parts f s n fs =
    both (holds (not (is_some (struct_numbered s.structs (number_of_struct f.names n.word)))) (Twice n.at)) (fields_from f s (fields_in fs) no_field fs)
