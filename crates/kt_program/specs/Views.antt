-- The views of pointers: how much each points to, as its declaration says.
use Rattle.std.specs.Prelude.{ℕ, ◌==◌, ◌&&◌, not, Bool, true, false, List, [], ◌∷◌, ◌++◌, map, Option, Some, None, if◌then◌else◌}
use Rattle.std.specs.List.{position_from}
use Rattle.std.specs.Option.{is_some}
use Rattle.std.specs.Str.{bytes_eq}
use Rattle.kt_grammar.specs.declared.tree.Base.{Base}
use Rattle.kt_grammar.specs.declared.tree.Base.TheVariants as base
use Rattle.kt_syntax.specs.declared.tree.Declarator.{Declarator}
use Rattle.kt_syntax.specs.declared.tree.Extent.{Extent}
use Rattle.kt_syntax.specs.declared.tree.Fields.{Fields}
use Rattle.kt_syntax.specs.declared.tree.Extent.TheVariants as extent
use Rattle.kt_syntax.specs.declared.tree.Pointer.{Pointer}
use Rattle.kt_types.specs.declared.kinds.View.{View}
use Rattle.kt_types.specs.declared.kinds.View.TheVariants as view
use Rattle.kt_program.specs.Declarators.{extent_of}
use Rattle.kt_program.specs.Gathered.{OuterGlobal, global_name}
use Rattle.kt_program.specs.Mentioned.{stars_of}
use Rattle.kt_program.specs.Types.{place_by}

-- a plain `char *` points to a whole object, another plain pointer to one element
abbrev pub plain_view : Base → ℕ → View
plain_view base.Char stars = if stars == 1 then view.Whole else view.One
plain_view b stars = view.One

-- the global of a name (which is one, where nothing is wrong)
abbrev pub global_view : List OuterGlobal → List ℕ → View
global_view globals n = view.Global (place_by (λ g. bytes_eq (global_name g) n) globals)

-- of a pointer outside a struct, behind these globals
abbrev pub view_by : List OuterGlobal → Base → ℕ → Option Extent → View
view_by globals b stars None = plain_view b stars
view_by globals b stars (Some (extent.Name n)) = global_view globals n.word
view_by globals b stars (Some (extent.Number at n)) = view.Count n.value

abbrev pub view_of : List OuterGlobal → Base → Option Pointer → View
view_of globals b p = view_by globals b (stars_of p) (extent_of p)

-- ---- in a struct

-- a field with the base of its declaration
pub record Field : Type 0 where
  pub base : Base
  pub declarator : Declarator

abbrev pub fields_of_base : Base → List Declarator → List Field
fields_of_base b ds = map (λ d. record { base = b; declarator = d }) ds

abbrev pub all_fields : List Fields → List Field
all_fields [] = []
all_fields (x ∷ rest) = fields_of_base x.base x.declarators ++ all_fields rest

abbrev pub is_integer_base : Base → Bool
is_integer_base base.Char = true
is_integer_base base.Int = true
is_integer_base base.Long = true
is_integer_base _ = false

-- an integer field of that name, which is no array
abbrev pub is_count_field : List ℕ → Field → Bool
is_count_field n x =
    is_integer_base x.base && (stars_of x.declarator.pointer == 0) && not (is_some x.declarator.count) && bytes_eq x.declarator.name.word n

abbrev pub named_view : List OuterGlobal → List ℕ → Option ℕ → View
named_view globals n None = global_view globals n
named_view globals n (Some k) = view.Field k

-- of a pointer among these fields: an integer field goes before the global of its name
abbrev pub field_view_by : List OuterGlobal → List Field → Base → ℕ → Option Extent → View
field_view_by globals fields b stars (Some (extent.Name n)) = named_view globals n.word (position_from (is_count_field n.word) 0 fields)
field_view_by globals fields b stars e = view_by globals b stars e

abbrev pub field_view : List OuterGlobal → List Field → Field → View
field_view globals fields x = field_view_by globals fields x.base (stars_of x.declarator.pointer) (extent_of x.declarator.pointer)
