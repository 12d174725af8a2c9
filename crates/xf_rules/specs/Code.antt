-- What rule code is typed in: the old version's memory, told by its globals, the source of the rule and the struct that holds it.
use Rattle.std.specs.Prelude.{ℕ, Bool, true, false, [], ◌∷◌, map, slice_get, Option, None, Some, option_and_then}
use Rattle.std.specs.Option.{option_map}
use Rattle.kt_grammar.specs.declared.keyword.RuleWord.{RuleWord}
use Rattle.kt_grammar.specs.declared.keyword.RuleWord.TheVariants as word
use Rattle.kt_types.specs.declared.kinds.FieldDecl.{FieldDecl}
use Rattle.kt_types.specs.declared.kinds.Ty.{Ty}
use Rattle.kt_types.specs.declared.kinds.Ty.TheVariants as ty
use Rattle.kt_types.specs.Table.{Table}
use Rattle.kt_tree.specs.declared.expr.Constant.TheVariants as constant
use Rattle.kt_tree.specs.declared.global.GlobalDecl.{GlobalDecl}
use Rattle.kt_tree.specs.Tree.{Constant', LocalRead}
use Rattle.kt_tree.specs.Kinds.{Scope, char_type, is_array_type}
use Rattle.kt_tree.specs.Version.{Program}
use Rattle.kt_typing.specs.declared.standing.Standing.{Standing}
use Rattle.kt_typing.specs.declared.standing.Standing.TheVariants as standing
use Rattle.kt_typing.specs.Environment.{Environment, Meaning, Missing, Barred, Stands}
use Rattle.kt_typing.specs.Faults.{unknown, bad_type}
use Rattle.xf_rules.specs.Names.{global_named, struct_named}
use Rattle.xf_rules.specs.Types.{pointer_place, struct_place, field_pointee, rule_types}

-- ---- places of the old version's memory

-- a struct or a mutex is used as a whole, anything else as a cell
abbrev pub single : Option Ty → Standing
single (Some (ty.Struct s)) = standing.Whole
single (Some ty.Mutex) = standing.Whole
single _ = standing.Cell

-- what `$in` and `$base` stand for: a value, or a place at a pointer of the type
pub record Read : Type 0 where
  pub standing : Standing
  pub ty : ℕ

abbrev pub at_pointer : Table → Standing → ℕ → Option Read
at_pointer t what e = option_map (λ p. record { standing = what; ty = p }) (pointer_place t.types e)

-- a thing of this type; with `true` so many elements of it, which are used one by one
abbrev pub standing_in : Table → Bool → ℕ → Standing
standing_in t true e = standing.Elements
standing_in t false e = single (slice_get t.types e)

abbrev pub read_global : Table → GlobalDecl → Option Read
read_global t g = at_pointer t (standing_in t g.array g.ty) g.ty

abbrev pub read_field : Table → FieldDecl → Option Read
read_field t d = at_pointer t (standing_in t (is_array_type (slice_get t.types d.ty)) d.ty) (field_pointee t d)

-- a noted local is a value
abbrev pub read_local : FieldDecl → Option Read
read_local d = Some (record { standing = standing.Value; ty = d.ty })

abbrev pub read_struct : Table → ℕ → Option Read
read_struct t s = option_and_then (at_pointer t standing.Whole) (struct_place t.types s)

-- ---- names and words

-- an array global in `$oldsym` is a pointer to its first element
abbrev pub symbol_standing : Table → GlobalDecl → Bool → Standing
symbol_standing t g true = standing.Value
symbol_standing t g false = single (slice_get t.types g.ty)

abbrev pub symbol_at : ℕ → Standing → Option ℕ → Meaning
symbol_at k what None = Missing
symbol_at k what (Some p) = Stands what p (Constant' (constant.Global k) p)

abbrev pub symbol_of : Table → ℕ → Option GlobalDecl → Meaning
symbol_of t k None = Missing
symbol_of t k (Some g) = symbol_at k (symbol_standing t g g.array) (pointer_place t.types g.ty)

abbrev pub symbol : Program → Table → Option ℕ → Meaning
symbol old t None = Missing
symbol old t (Some k) = symbol_of t k (slice_get old.globals k)

-- what is read is a local of the code
abbrev pub local_read : ℕ → Option Read → Meaning
local_read x None = Missing
local_read x (Some r) = Stands r.standing r.ty (LocalRead x)

-- `$out` is nothing that can be read
abbrev pub word_meaning : Option Read → Option Read → RuleWord → Meaning
word_meaning source base word.In = local_read 0 source
word_meaning source base word.Out = Barred
word_meaning source base word.Base = local_read 1 base
word_meaning source base word.OldSymbol = Missing
word_meaning source base word.Transform = Missing
word_meaning source base word.New = Missing

-- ---- the environment

-- the type of what a word stands for (where it stands for nothing, no code names its local)
abbrev pub type_read : Option Read → ℕ
type_read None = char_type
type_read (Some r) = r.ty

abbrev pub or_char : Option ℕ → ℕ
or_char None = char_type
or_char (Some t) = t

abbrev pub code_scope : Program → Table → Option Read → Option Read → Scope
code_scope old t source base = record {
  types = t;
  globals = map (λ g. g.ty) old.globals;
  literals = 0;
  functions = [];
  names = 0;
  updates = 0;
  locals = type_read source ∷ type_read base ∷ [];
  noted = false;
}

-- that of a body whose `$in` and `$base` are these; a name by itself names nothing, and code has no strings and no points
abbrev pub code_in : Program → Table → Option Read → Option Read → Environment
code_in old t source base = record {
  scope = code_scope old t source base;
  text = or_char (pointer_place t.types char_type);
  pointer = pointer_place t.types;
  struct = λ n. option_and_then (struct_place t.types) (struct_named old n);
  name = λ n. Missing;
  word = word_meaning source base;
  old_symbol = λ n. symbol old t (global_named old n);
  literal = λ at. 0;
  point = λ n. 0;
  without_cells = bad_type;
  without_fields = λ at named. unknown named;
}

abbrev pub code : Program → Option Read → Option Read → Environment
code old source base = code_in old (rule_types old) source base
