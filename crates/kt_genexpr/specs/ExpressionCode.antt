-- The instructions of an expression. They stand one after another, the left operand's first; jumps tell how many
-- instructions they pass. Where a type is missing, which no typed expression has, `char` stands in.
use Rattle.std.specs.Prelude.{ℕ, suc, ◌==◌, Bool, true, false, List, [], ◌∷◌, ◌++◌, length, slice_get, Option, None, Some}
use Rattle.kt_types.specs.declared.kinds.FieldDecl.{FieldDecl}
use Rattle.kt_types.specs.declared.kinds.Ty.{Ty}
use Rattle.kt_types.specs.declared.kinds.Ty.TheVariants as ty
use Rattle.kt_types.specs.Table.{Table, fields_of}
use Rattle.kt_types.specs.Layout.{cells_before}
use Rattle.kt_tree.specs.declared.expr.Constant.{Constant}
use Rattle.kt_tree.specs.declared.expr.Constant.TheVariants as constant
use Rattle.kt_tree.specs.declared.expr.Operation.{Operation}
use Rattle.kt_tree.specs.declared.expr.Operation.TheVariants as operation
use Rattle.kt_tree.specs.declared.expr.Request.{Request}
use Rattle.kt_tree.specs.declared.expr.Request.TheVariants as request
use Rattle.kt_tree.specs.Tree.{Expression, Constant', LocalRead, LocalSet, LocalSwapped, Operated, Requested, Modified, Both, Either, Chosen, Called, Expressions, NoMore, More, Function}
use Rattle.kt_meaning.specs.Operations.{width}
use Rattle.kt_meaning.specs.Requests.{cell_type}
use Rattle.kt_code.specs.declared.instr.Instr.{Instr}
use Rattle.kt_code.specs.declared.instr.Instr.TheVariants as instr

-- ---- what instructions carry

abbrev pub or_char : Option Ty → Ty
or_char None = ty.Char
or_char (Some u) = u

-- the type at a place
abbrev pub type_at : Table → ℕ → Ty
type_at types t = or_char (slice_get types.types t)

-- the cells of a struct with these fields before one of them
abbrev pub cells_to : Table → Option (List FieldDecl) → ℕ → ℕ
cells_to types None index = 0
cells_to types (Some fields) index = cells_before types fields index

-- how many locals a function has
abbrev pub locals_of : Option Function → ℕ
locals_of None = 0
locals_of (Some f) = length f.locals

-- how many operands there are
abbrev pub count : Expressions → ℕ
count NoMore = 0
count (More e es) = suc (count es)

-- ---- single instructions

abbrev pub constant_code : Constant → Instr
constant_code (constant.Number n) = instr.Number n
constant_code constant.Null = instr.Null
constant_code (constant.Global g) = instr.Global g
constant_code (constant.Literal n) = instr.Literal n

abbrev pub operation_code : Table → Operation → ℕ → Instr
operation_code types operation.Add t = instr.Add (type_at types t)
operation_code types operation.Subtract t = instr.Subtract (type_at types t)
operation_code types operation.Multiply t = instr.Multiply (type_at types t)
operation_code types operation.Divide t = instr.Divide (type_at types t)
operation_code types operation.Remainder t = instr.Remainder (type_at types t)
operation_code types operation.Less t = instr.Less
operation_code types operation.Greater t = instr.Greater
operation_code types operation.LessEqual t = instr.LessEqual
operation_code types operation.GreaterEqual t = instr.GreaterEqual
operation_code types operation.Equal t = instr.Equal
operation_code types operation.NotEqual t = instr.NotEqual
operation_code types operation.Not t = instr.Not
operation_code types operation.Convert t = instr.Convert (type_at types t)
operation_code types (operation.ElementAfter e) t = instr.ElementAfter (width types e)
operation_code types (operation.ElementBefore e) t = instr.ElementBefore (width types e)
operation_code types (operation.ElementsBetween e) t = instr.ElementsBetween (width types e)
operation_code types (operation.Field number index) t = instr.Field (cells_to types (fields_of types number) index)

abbrev pub request_code : Table → Request → Option ℕ → Instr
request_code types request.Load t = instr.Load (or_char (cell_type types t))
request_code types request.Store t = instr.Store (or_char (cell_type types t))
request_code types r t = instr.Ask r

-- ---- `x op= e`

-- the value before is put once more where it is the value of the whole
abbrev pub kept_code : Bool → List Instr
kept_code true = instr.Duplicate ∷ []
kept_code false = []

-- what the operation gives at a type of its own is converted to the cell's
abbrev pub conversion_code : Bool → Ty → List Instr
conversion_code true u = []
conversion_code false u = instr.Convert u ∷ []

abbrev pub storing_code : Bool → Ty → Instr
storing_code true u = instr.StoreOld u
storing_code false u = instr.Store u

-- what stands behind the pointer: the load, the operand, the operation and the store
abbrev pub modified_code : Table → Operation → ℕ → ℕ → Bool → List Instr → List Instr
modified_code types op own t old operand =
    instr.Fetch (type_at types t)
    ∷ (kept_code old ++ (operand ++ (operation_code types op own ∷ (conversion_code (own == t) (type_at types t) ++ storing_code old (type_at types t) ∷ []))))

-- ---- expressions

abbrev mutual
  pub expression_code : Table → List Function → Expression → List Instr
  expression_code types functions (Constant' c t) = constant_code c ∷ []
  expression_code types functions (LocalRead n) = instr.Read n ∷ []
  expression_code types functions (LocalSet n e) = expression_code types functions e ++ instr.Set n ∷ []
  expression_code types functions (LocalSwapped n e) = expression_code types functions e ++ instr.Swap n ∷ []
  expression_code types functions (Operated op t es) = expressions_code types functions es ++ operation_code types op t ∷ []
  expression_code types functions (Requested r t es) = expressions_code types functions es ++ request_code types r t ∷ []
  expression_code types functions (Modified op own t old p e) =
      expression_code types functions p ++ modified_code types op own t old (expression_code types functions e)
  expression_code types functions (Both a b) =
      expression_code types functions a
      ++ (instr.And (suc (length (expression_code types functions b))) ∷ (expression_code types functions b ++ instr.Truth ∷ []))
  expression_code types functions (Either a b) =
      expression_code types functions a
      ++ (instr.Or (suc (length (expression_code types functions b))) ∷ (expression_code types functions b ++ instr.Truth ∷ []))
  expression_code types functions (Chosen c t a b) =
      expression_code types functions c
      ++ (instr.SkipIfZero (suc (length (expression_code types functions a)))
      ∷ (expression_code types functions a ++ (instr.Skip (length (expression_code types functions b)) ∷ expression_code types functions b)))
  expression_code types functions (Called g es) =
      expressions_code types functions es ++ instr.Call g (count es) (locals_of (slice_get functions g)) ∷ []

  -- operands, from the first to the last
  pub expressions_code : Table → List Function → Expressions → List Instr
  expressions_code types functions NoMore = []
  expressions_code types functions (More e es) = expression_code types functions e ++ expressions_code types functions es
