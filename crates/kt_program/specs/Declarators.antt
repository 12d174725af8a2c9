-- What is judged of declarators: types that may be held, completeness, and what `E_PTRARRAY` names.
use Rattle.std.specs.Prelude.{ℕ, ◌==◌, Bool, true, false, ◌||◌, not, nat_le, List, Option, Some, None}
use Rattle.std.specs.List.{list_any}
use Rattle.kt_grammar.specs.declared.tree.Base.{Base}
use Rattle.kt_grammar.specs.declared.tree.Base.TheVariants as base
use Rattle.kt_grammar.specs.declared.tree.Name.{Name}
use Rattle.kt_syntax.specs.declared.tree.Extent.{Extent}
use Rattle.kt_syntax.specs.declared.tree.Extent.TheVariants as extent
use Rattle.kt_syntax.specs.declared.tree.Pointer.{Pointer}
use Rattle.kt_tree.specs.Kinds.{Scope, is_scalar, is_integer, is_complete, pointee}
use Rattle.kt_typing.specs.declared.fault.Fault.{Fault}
use Rattle.kt_typing.specs.declared.standing.Standing.TheVariants as standing
use Rattle.kt_typing.specs.Environment.{Environment, Meaning, Stands, base_type, starred}
use Rattle.kt_typing.specs.Faults.{unknown, bad_type, incomplete}
use Rattle.kt_program.specs.Mentioned.{stars_of}

-- the fault where a condition doesn't hold
abbrev pub where_not : Bool → Fault → Option Fault
where_not true f = None
where_not false f = Some f

-- the place of a declarator's first token
abbrev pub declarator_place : Option Pointer → Name → ℕ
declarator_place None n = n.at
declarator_place (Some p) n = p.stars.at

abbrev pub declared_type : Environment → Base → Option Pointer → Option ℕ
declared_type env b p = starred env (stars_of p) (base_type env b)

-- the place where a base names a struct
abbrev pub named_struct : Base → ℕ
named_struct (base.Struct n) = n.at
named_struct b = 0

abbrev pub has_cells : Scope → Option ℕ → Bool
has_cells s None = false
has_cells s (Some t) = is_complete s t

-- a struct of which one of these declarators, with so many stars, declares a value is defined before
abbrev pub base_fault : Environment → Base → List ℕ → Option Fault
base_fault env b stars = where_not (not (list_any (λ n. n == 0) stars) || has_cells env.scope (base_type env b)) (incomplete (named_struct b))

-- a local or parameter is an integer or a pointer
abbrev pub is_holdable : Scope → Option ℕ → Bool
is_holdable s None = false
is_holdable s (Some t) = is_scalar s t

abbrev pub held_fault : Environment → Base → Option Pointer → Name → Option Fault
held_fault env b p n = where_not (is_holdable env.scope (declared_type env b p)) (bad_type (declarator_place p n))

-- an integer global that is no array
abbrev pub is_integer_cell : Scope → Option ℕ → Bool
is_integer_cell s None = false
is_integer_cell s (Some t) = is_integer s t

abbrev pub is_count : Scope → Meaning → Bool
is_count s (Stands standing.Cell t e) = is_integer_cell s (pointee s t)
is_count s _ = false

-- `E_PTRARRAY` outside a struct names an integer global, or a number of at most 65,536
abbrev pub extent_fault : Environment → Option Extent → Option Fault
extent_fault env None = None
extent_fault env (Some (extent.Name n)) = where_not (is_count env.scope (env.name n.word)) (unknown n.at)
extent_fault env (Some (extent.Number at n)) = where_not (nat_le n.value 65536) (unknown at)

abbrev pub extent_of : Option Pointer → Option Extent
extent_of None = None
extent_of (Some p) = p.extent
