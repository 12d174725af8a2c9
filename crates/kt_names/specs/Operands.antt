-- What an expression is to the expression around it, and which values and conversions it allows (ISO/IEC 9899:2011, 6.3).
use Rattle.std.specs.Prelude.{ℕ, ℤ, pos, ◌&&◌, Bool, Ok, Some, if◌then◌else◌}
use Rattle.kt_tree.specs.declared.expr.Constant.TheVariants as constant
use Rattle.kt_tree.specs.declared.expr.Operation.TheVariants as operation
use Rattle.kt_tree.specs.declared.expr.Request.TheVariants as request
use Rattle.kt_tree.specs.Tree.{Expression, Constant', LocalRead, Operated, Requested, NoMore, More}
use Rattle.kt_names.specs.declared.ctype.CType.{CType}
use Rattle.kt_names.specs.Types.{char, int, pointer_to, is_integer, is_pointer, same_ctype}
use Rattle.kt_names.specs.declared.fault.CheckFault.TheVariants.{BadType}
use Rattle.kt_names.specs.Checked.{Checked, fault, and_then}
use Rattle.kt_names.specs.Environment.{Environment}

pub data Operand : Type 0 where
  -- a value of a type
  Valued : CType → Expression → Operand
  -- the literal `0`, an `int`, which converts to pointers too
  Zero : Operand
  Null : Operand
  -- a local of a type
  LocalPlace : ℕ → CType → Operand
  -- the cell of a type at a pointer
  CellPlace : CType → Expression → Operand
  -- an array of elements of a type, with a pointer to the first
  ArrayPlace : CType → Expression → Operand
  -- a struct or a mutex of a type, with a pointer to it
  WholePlace : CType → Expression → Operand
  -- a call that gives no value
  NoResult : Expression → Operand

-- a value and its type
pub record Value : Type 0 where
  pub ty : CType
  pub expression : Expression

abbrev pub value_of_type : CType → Expression → Value
value_of_type t e = record { ty = t; expression = e }

abbrev pub number_value : Environment → CType → ℤ → Expression
number_value env t n = Constant' (constant.Number n) (env.place t)

abbrev pub zero : Environment → Expression
zero env = number_value env int (pos 0)

abbrev pub null_of : Environment → CType → Expression
null_of env t = Constant' constant.Null (env.place t)

abbrev pub load : Environment → CType → Expression → Expression
load env t p = Requested request.Load (Some (env.place t)) (More p NoMore)

-- The value of an operand that stands at `own` in an expression that begins at `up`. An array is a pointer to its first
-- element. A struct or mutex has no value; nor has a call without a result, which is the fault of what wants one.
abbrev pub value : Environment → ℕ → ℕ → Operand → Checked Value
value env own up (Valued t e) = Ok (value_of_type t e)
value env own up Zero = Ok (value_of_type int (zero env))
value env own up Null = fault (BadType up)
value env own up (LocalPlace x t) = Ok (value_of_type t (LocalRead x))
value env own up (CellPlace t p) = Ok (value_of_type t (load env t p))
value env own up (ArrayPlace t p) = Ok (value_of_type (pointer_to t) p)
value env own up (WholePlace t p) = fault (BadType own)
value env own up (NoResult e) = fault (BadType up)

-- the type of an operand's value
abbrev pub value_type : ℕ → ℕ → Operand → Checked CType
value_type own up (Valued t e) = Ok t
value_type own up Zero = Ok int
value_type own up Null = fault (BadType up)
value_type own up (LocalPlace x t) = Ok t
value_type own up (CellPlace t p) = Ok t
value_type own up (ArrayPlace t p) = Ok (pointer_to t)
value_type own up (WholePlace t p) = fault (BadType own)
value_type own up (NoResult e) = fault (BadType up)

-- a value that a condition takes: an integer, or a pointer, which may be null
abbrev pub scalar : Environment → ℕ → ℕ → Operand → Checked Value
scalar env own up Null = Ok (value_of_type (pointer_to char) (null_of env (pointer_to char)))
scalar env own up x = value env own up x

-- a value that passes the test, or the fault of what wants it
abbrev pub tested : (CType → Bool) → ℕ → Value → Checked Value
tested test up v = if test v.ty then Ok v else fault (BadType up)

abbrev pub integer : Environment → ℕ → ℕ → Operand → Checked Value
integer env own up x = and_then (value env own up x) (tested is_integer up)

abbrev pub pointer : Environment → ℕ → ℕ → Operand → Checked Value
pointer env own up x = and_then (value env own up x) (tested is_pointer up)

abbrev pub converted_to : Environment → CType → Value → Expression
converted_to env t v = if same_ctype v.ty t then v.expression else Operated operation.Convert (env.place t) (More v.expression NoMore)

-- integers convert by value, and pointers to their own type
abbrev pub convert_value : Environment → CType → ℕ → Value → Checked Expression
convert_value env t up v =
    if is_integer t && is_integer v.ty then Ok (converted_to env t v)
    else (if is_pointer t && same_ctype v.ty t then Ok v.expression
    else fault (BadType up))

-- null, and the literal 0, convert to a pointer
abbrev pub convert_null : Environment → CType → ℕ → Checked Expression
convert_null env t up = if is_pointer t then Ok (null_of env t) else fault (BadType up)

-- what an operand at `own` is as a value of type t, as assignment, initialisation, arguments and `return` convert it; `up` is
-- the place of the fault where it doesn't convert
abbrev pub convert : Environment → CType → ℕ → ℕ → Operand → Checked Expression
convert env t own up Null = convert_null env t up
convert env t own up Zero = if is_integer t then Ok (converted_to env t (value_of_type int (zero env))) else convert_null env t up
convert env t own up x = and_then (value env own up x) (convert_value env t up)
