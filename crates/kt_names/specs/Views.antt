-- What the code's environments, operands and values stand for.
use Rattle.std.specs.Prelude.{ℕ, ◌==◌, Bool, true, false, List, [], ◌∷◌, ◌++◌, map, Option, Some, None}
use Rattle.std.specs.Option.{option_map}
use Rattle.std.specs.Map.{lookup}
use Rattle.std.specs.Str.{bytes_eq}
use Rattle.kt_tree.specs.Tree.{Expression, Expressions, NoMore, More, expression_of}
use Rattle.kt_names.specs.declared.operand.Operand.{Operand as OperandCode}
use Rattle.kt_names.specs.declared.operand.Operand.TheVariants as code
use Rattle.kt_names.specs.declared.operand.Value.{Value as ValueCode}
use Rattle.kt_names.specs.declared.environment.Environment.{Environment as EnvironmentCode}
use Rattle.kt_names.specs.declared.info.StructInfo.{StructInfo}
use Rattle.kt_names.specs.declared.info.FoundField.{FoundField}
use Rattle.kt_names.specs.declared.info.Signature.{Signature}
use Rattle.kt_names.specs.declared.info.Visible.{Visible as VisibleCode}
use Rattle.kt_names.specs.declared.info.Outer.{Outer as OuterCode}
use Rattle.kt_names.specs.declared.info.Outer.TheVariants as outer
use Rattle.kt_names.specs.declared.arithmetic.Combined.{Combined as CombinedCode}
pub use Rattle.kt_names.specs.Latest.{latest_first}
use Rattle.kt_names.specs.Types.{place_in}
use Rattle.kt_names.specs.Environment.{Environment, FieldOf, Struct, Found, Declared, Outer, Global, Function, Visible}
use Rattle.kt_names.specs.Operands.{Operand, Valued, Zero, Null, LocalPlace, CellPlace, ArrayPlace, WholePlace, NoResult, Value, value_of_type}
use Rattle.kt_names.specs.Rules.{Combined}

-- ---- operands

abbrev pub operand_of : OperandCode → Operand
operand_of (code.Valued t e) = Valued t (expression_of e)
operand_of code.Zero = Zero
operand_of code.Null = Null
operand_of (code.LocalPlace x t) = LocalPlace x t
operand_of (code.CellPlace t p) = CellPlace t (expression_of p)
operand_of (code.ArrayPlace t p) = ArrayPlace t (expression_of p)
operand_of (code.WholePlace t p) = WholePlace t (expression_of p)
operand_of (code.NoResult e) = NoResult (expression_of e)

abbrev pub value_of : ValueCode → Value
value_of v = value_of_type v.ty (expression_of v.expression)

abbrev pub values_of : ValueCode × ValueCode → Value × Value
values_of v = (value_of v.0, value_of v.1)

abbrev pub choice_of : ValueCode × (ValueCode × ValueCode) → Value × (Value × Value)
choice_of v = (value_of v.0, values_of v.1)

abbrev pub operands_of : OperandCode × OperandCode → Operand × Operand
operands_of x = (operand_of x.0, operand_of x.1)

abbrev pub three_of : OperandCode × (OperandCode × OperandCode) → Operand × (Operand × Operand)
three_of x = (operand_of x.0, operands_of x.1)

abbrev pub combined_of : CombinedCode → Combined
combined_of c = record { operation = c.operation; own = c.own }

abbrev pub expressions_of : List Expression → Expressions
expressions_of [] = NoMore
expressions_of (e ∷ es) = More e (expressions_of es)

-- ---- environments

abbrev pub fields_of : StructInfo → List FieldOf
fields_of s = map (λ e. record { name = e.0.items; ty = e.1.ty; array = e.1.array }) s.fields.entries

-- a struct with its number
abbrev pub struct_of : ℕ × StructInfo → Struct
struct_of d = record { number = d.0; fields = fields_of d.1; cells = d.1.cells }

-- a field that was found by this name
abbrev pub found_as : List ℕ → FoundField → Found
found_as name f = record { index = f.index; field = record { name = name; ty = f.ty; array = f.array } }

abbrev pub declared_of : Signature → Declared
declared_of f = record { parameters = f.parameters.items; result = f.result; number = f.number }

abbrev pub outer_of : OuterCode → Outer
outer_of (outer.Global n t array) = Global n t array
outer_of (outer.Function f) = Function (declared_of f)

abbrev pub visible_of : VisibleCode → Visible
visible_of v = record { name = v.name.items; local = v.local }

abbrev pub literal_at : Option ℕ → ℕ
literal_at None = 0
literal_at (Some n) = n

abbrev pub environment_of : EnvironmentCode → Environment
environment_of e = record {
  names = map (λ n. n.items) e.names.now.keys;
  place = place_in e.types.now.types.keys;
  structs = map struct_of (latest_first e.structs.now.entries);
  outer = λ name. option_map outer_of (lookup (λ k. bytes_eq name k.items) e.outer.now.entries);
  literal = λ at. literal_at (lookup (λ k. at == k) e.literals.now.entries);
  points = map (λ n. n.items) e.points.now.keys;
  locals = e.locals.now;
  noted = e.noted;
  visible = elim e.visible as (λ _. List Visible) [ None ↦ [] | (Some vs) ↦ map visible_of (latest_first vs.now) ];
}

-- ---- tests

abbrev pub is_null : Operand → Bool
is_null Null = true
is_null (Valued t e) = false
is_null Zero = false
is_null (LocalPlace x t) = false
is_null (CellPlace t p) = false
is_null (ArrayPlace t p) = false
is_null (WholePlace t p) = false
is_null (NoResult e) = false
