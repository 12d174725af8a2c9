-- What is judged of the definition of a struct (ISO/IEC 9899:2011, 6.7.2.1).
use Rattle.std.specs.Prelude.{ℕ, ◌+◌, ◌*◌, Bool, true, false, ◌&&◌, not, nat_le, List, [], ◌∷◌, map, length, Option, Some, None}
use Rattle.std.specs.List.{list_any}
use Rattle.kt_lex.specs.declared.number.Number.{Number}
use Rattle.kt_types.specs.declared.kinds.Ty.{Ty}
use Rattle.kt_grammar.specs.declared.tree.Name.{Name}
use Rattle.kt_syntax.specs.declared.tree.Extent.{Extent}
use Rattle.kt_syntax.specs.declared.tree.Extent.TheVariants as extent
use Rattle.kt_syntax.specs.declared.tree.Fields.{Fields}
use Rattle.kt_types.specs.Layout.{layout}
use Rattle.kt_tree.specs.Kinds.{Scope}
use Rattle.kt_typing.specs.declared.fault.Fault.{Fault}
use Rattle.kt_typing.specs.declared.fault.Kind.TheVariants as kind
use Rattle.kt_typing.specs.Environment.{Environment}
use Rattle.kt_typing.specs.Faults.{fault_at}
use Rattle.kt_program.specs.Declarators.{where_not, declared_type, base_fault, extent_fault, extent_of}
use Rattle.kt_program.specs.Judgments.{Judgment, Held, Judgments, NoMore, And}
use Rattle.kt_program.specs.Mentioned.{stars_of}
use Rattle.kt_program.specs.Made.{joined}
use Rattle.kt_program.specs.Scopes.{contains}
use Rattle.kt_program.specs.Statements.{under, absent}
use Rattle.kt_program.specs.Views.{Field, all_fields, is_count_field}

-- an array has 1 to 65,536 elements
abbrev pub is_array_count : Option Number → Bool
is_array_count None = true
is_array_count (Some n) = nat_le 1 n.value && nat_le n.value 65536

abbrev pub count_of : Option Number → ℕ
count_of None = 1
count_of (Some n) = n.value

-- how many cells a type has
abbrev pub cell_count : Option (List Ty) → ℕ
cell_count None = 1
cell_count (Some cs) = length cs

abbrev pub cells_of : Scope → Option ℕ → ℕ
cells_of s None = 1
cells_of s (Some t) = cell_count (layout s.types t)

abbrev pub field_cells : Environment → Field → ℕ
field_cells env x = count_of x.declarator.count * cells_of env.scope (declared_type env x.base x.declarator.pointer)

-- `E_PTRARRAY` in a struct names an integer field of it, or what it names outside
abbrev pub inner_extent_fault : Environment → List Field → Option Extent → Option Fault
inner_extent_fault env fields (Some (extent.Name n)) =
    elim (list_any (is_count_field n.word) fields) as (λ _. Option Fault) [ true ↦ None | false ↦ extent_fault env (Some (extent.Name n)) ]
inner_extent_fault env fields e = extent_fault env e

-- a field behind those of these names, which have so many cells
abbrev pub field : Environment → List Field → List (List ℕ) → ℕ → Field → Judgment
field env fields names cells x =
    under (inner_extent_fault env fields (extent_of x.declarator.pointer))
    (under (where_not (not (contains names x.declarator.name.word)) (fault_at kind.Twice x.declarator.name.at))
    (under (where_not (is_array_count x.declarator.count && nat_le (cells + field_cells env x) 65536) (fault_at kind.TooBig x.declarator.name.at)) absent))

abbrev pub fields_judged : Environment → List Field → List (List ℕ) → ℕ → List Field → Judgments
fields_judged env fields names cells [] = NoMore
fields_judged env fields names cells (x ∷ rest) =
    And (field env fields names cells x) (fields_judged env fields (x.declarator.name.word ∷ names) (cells + field_cells env x) rest)

abbrev pub bases_judged : Environment → List Fields → Judgments
bases_judged env [] = NoMore
bases_judged env (x ∷ rest) =
    And (under (base_fault env x.base (map (λ d. stars_of d.pointer) x.declarators)) absent) (bases_judged env rest)

-- a definition of a struct, where those of these names are defined
abbrev pub struct : Environment → List (List ℕ) → Name → List Fields → Judgment
struct env defined n fs =
    Held (where_not (not (contains defined n.word)) (fault_at kind.Twice n.at))
    (And (Held None (bases_judged env fs) joined) (And (Held None (fields_judged env (all_fields fs) [] 0 (all_fields fs)) joined) NoMore)) joined
