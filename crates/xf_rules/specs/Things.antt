-- What sides and targets of rules are: in a version, and by their names alone.
use Rattle.std.specs.Prelude.{ℕ, ◌&&◌, Bool, false, List, [], ◌∷◌, slice_get, Option, None, Some, option_and_then, Result, Ok, Err, if◌then◌else◌}
use Rattle.std.specs.List.{list_any}
use Rattle.std.specs.Option.{option_map}
use Rattle.std.specs.Str.{bytes_eq}
use Rattle.kt_types.specs.declared.kinds.FieldDecl.{FieldDecl}
use Rattle.kt_types.specs.declared.kinds.Ty.{Ty}
use Rattle.kt_types.specs.Table.{fields_of}
use Rattle.kt_tree.specs.declared.global.GlobalDecl.{GlobalDecl}
use Rattle.kt_tree.specs.Tree.{Function}
use Rattle.kt_tree.specs.Version.{Program}
use Rattle.kt_typing.specs.declared.fault.Fault.{Fault}
use Rattle.kt_typing.specs.declared.fault.Kind.TheVariants as kind
use Rattle.kt_typing.specs.Faults.{fault_at, unknown}
use Rattle.kt_grammar.specs.declared.tree.Name.{Name}
use Rattle.xf_syntax.specs.declared.tree.StructName.{StructName}
use Rattle.xf_syntax.specs.declared.tree.Target.{Target}
use Rattle.xf_syntax.specs.declared.tree.Target.TheVariants as target
use Rattle.xf_syntax.specs.declared.tree.Side.{Side}
use Rattle.xf_syntax.specs.declared.tree.Side.TheVariants as side
use Rattle.xf_rules.specs.Names.{global_named, struct_named, field_named, function_named, local_named}

-- the place of a side's first token
abbrev pub target_place : Target → ℕ
target_place (target.Global n) = n.at
target_place (target.Field s f) = s.at

abbrev pub side_place : Side → ℕ
side_place (side.Target t) = target_place t
side_place (side.Local f x) = f.at

-- ---- in a version

-- a global, a field of a struct, a local of a function, by their numbers
pub data Thing : Type 0 where
  Global : ℕ → Thing
  Field : ℕ → ℕ → Thing
  Local : ℕ → ℕ → Thing

-- what a name stands for, or that it stands for nothing there
abbrev pub found : {A : Type 0} → Name → Option A → Result A Fault
found n None = Err (unknown n.at)
found n (Some x) = Ok x

abbrev pub with_part : Result ℕ Fault → (ℕ → Result Thing Fault) → Result Thing Fault
with_part (Err f) rest = Err f
with_part (Ok k) rest = rest k

abbrev pub thing_of_target : Program → Target → Result Thing Fault
thing_of_target p (target.Global n) = found n (option_map Global (global_named p n.word))
thing_of_target p (target.Field s f) = with_part (found s.name (struct_named p s.name.word)) (λ k. found f (option_map (Field k) (field_named p k f.word)))

abbrev pub thing_of : Program → Side → Result Thing Fault
thing_of p (side.Target t) = thing_of_target p t
thing_of p (side.Local f x) = with_part (found f (function_named p f.word)) (λ k. found x (option_map (Local k) (local_named p k x.word)))

abbrev pub unknown_names : Result Thing Fault → List Fault
unknown_names (Ok t) = []
unknown_names (Err f) = f ∷ []

-- ---- the type of a thing, where it is no array

abbrev pub single_type : Program → GlobalDecl → Option Ty
single_type p g = if g.array then None else slice_get p.types.types g.ty

abbrev pub declared_type : Program → FieldDecl → Option Ty
declared_type p d = slice_get p.types.types d.ty

abbrev pub field_decl : Program → ℕ → ℕ → Option FieldDecl
field_decl p s k = option_and_then (λ fields. slice_get fields k) (fields_of p.types s)

abbrev pub local_decl : Program → ℕ → ℕ → Option FieldDecl
local_decl p f x = option_and_then (λ (g : Function). slice_get g.locals x) (slice_get p.functions f)

abbrev pub type_of_thing : Program → Thing → Option Ty
type_of_thing p (Global g) = option_and_then (single_type p) (slice_get p.globals g)
type_of_thing p (Field s k) = option_and_then (declared_type p) (field_decl p s k)
type_of_thing p (Local f x) = option_and_then (declared_type p) (local_decl p f x)

-- ---- by their names alone

pub data Named : Type 0 where
  NamedStruct : List ℕ → Named
  NamedGlobal : List ℕ → Named
  NamedField : List ℕ → List ℕ → Named
  NamedLocal : List ℕ → List ℕ → Named

abbrev pub same : Named → Named → Bool
same (NamedStruct s) (NamedStruct r) = bytes_eq s r
same (NamedGlobal g) (NamedGlobal h) = bytes_eq g h
same (NamedField s f) (NamedField r g) = bytes_eq s r && bytes_eq f g
same (NamedLocal f x) (NamedLocal g y) = bytes_eq f g && bytes_eq x y
same _ _ = false

-- where something is named
pub record Naming : Type 0 where
  pub at : ℕ
  pub named : Named

abbrev pub naming : ℕ → Named → Naming
naming at n = record { at = at; named = n }

abbrev pub struct_naming : StructName → Naming
struct_naming s = naming s.at (NamedStruct s.name.word)

abbrev pub target_naming : Target → Naming
target_naming (target.Global n) = naming n.at (NamedGlobal n.word)
target_naming (target.Field s f) = naming s.at (NamedField s.name.word f.word)

abbrev pub side_naming : Side → Naming
side_naming (side.Target t) = target_naming t
side_naming (side.Local f x) = naming f.at (NamedLocal f.word x.word)

-- each naming of what one of these, or one before it, names
abbrev pub twice_behind : List Naming → List Naming → List Fault
twice_behind seen [] = []
twice_behind seen (x ∷ rest) =
    if list_any (λ y. same x.named y.named) seen then fault_at kind.Twice x.at ∷ twice_behind (x ∷ seen) rest
    else twice_behind (x ∷ seen) rest

abbrev pub twice : List Naming → List Fault
twice xs = twice_behind [] xs
