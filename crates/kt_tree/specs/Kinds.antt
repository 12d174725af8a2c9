-- The types of typed expressions (ISO/IEC 9899:2011, 6.3 and 6.5): which operands an operation or a request takes.
use Rattle.std.specs.Prelude.{◌≡◌, ℕ, ℤ, pos, negsuc, ◌^◌, ◌==◌, ◌&&◌, ◌||◌, not, Bool, true, false, nat_lt, nat_le, List, [], ◌∷◌, length, map, take, slice_get, Option, Some, None, if◌then◌else◌, option_and_then}
use Rattle.std.specs.Option.{is_some}
use Rattle.std.specs.List.{list_all}
use Rattle.kt_types.specs.declared.kinds.Ty.{Ty}
use Rattle.kt_types.specs.declared.kinds.Ty.TheVariants as ty
use Rattle.kt_types.specs.declared.kinds.FieldDecl.{FieldDecl}
use Rattle.kt_types.specs.Table.{Table, fields_of}
use Rattle.kt_types.specs.Layout.{layout, cells}
use Rattle.kt_tree.specs.declared.expr.Constant.{Constant}
use Rattle.kt_tree.specs.declared.expr.Constant.TheVariants as constant
use Rattle.kt_tree.specs.declared.expr.Operation.{Operation}
use Rattle.kt_tree.specs.declared.expr.Operation.TheVariants as operation
use Rattle.kt_tree.specs.declared.expr.Part.{Part}
use Rattle.kt_tree.specs.declared.expr.Part.TheVariants as part
use Rattle.kt_tree.specs.declared.expr.Request.{Request}
use Rattle.kt_tree.specs.declared.expr.Request.TheVariants as request

-- what a call of a function takes and gives: the types of its parameters, and its result
pub record Head : Type 0 where
  pub parameters : List ℕ
  pub result : Option ℕ

-- what an expression of a function may name
pub record Scope : Type 0 where
  pub types : Table
  -- the element type of each global
  pub globals : List ℕ
  pub literals : ℕ
  pub functions : List Head
  -- all names of points, and how many of them are update points
  pub names : ℕ
  pub updates : ℕ
  -- the type of each local, and whether an update may keep them
  pub locals : List ℕ
  pub noted : Bool

-- the places of `char`, `int`, `long` and the mutex
abbrev pub char_type : ℕ
char_type = 0

abbrev pub int_type : ℕ
int_type = 1

abbrev pub long_type : ℕ
long_type = 2

abbrev pub mutex_type : ℕ
mutex_type = 3

abbrev pub type_at : Scope → ℕ → Option Ty
type_at s t = slice_get s.types.types t

abbrev pub is_integer_type : Option Ty → Bool
is_integer_type (Some ty.Char) = true
is_integer_type (Some ty.Int) = true
is_integer_type (Some ty.Long) = true
is_integer_type _ = false

abbrev pub pointee_of : Option Ty → Option ℕ
pointee_of (Some (ty.Ptr e)) = Some e
pointee_of _ = None

abbrev pub is_integer : Scope → ℕ → Bool
is_integer s t = is_integer_type (type_at s t)

-- what a pointer of the type points to; none where it is no pointer
abbrev pub pointee : Scope → ℕ → Option ℕ
pointee s t = pointee_of (type_at s t)

abbrev pub is_pointer : Scope → ℕ → Bool
is_pointer s t = is_some (pointee s t)

-- what a local may hold, and what a condition takes
abbrev pub is_scalar : Scope → ℕ → Bool
is_scalar s t = is_integer s t || is_pointer s t

-- the number is there, and is this one
abbrev pub is_same : Option ℕ → ℕ → Bool
is_same None n = false
is_same (Some m) n = m == n

-- the type is a pointer to this one
abbrev pub points_to : Scope → ℕ → ℕ → Bool
points_to s t e = is_same (pointee s t) e

-- two integers, or two pointers of one type
abbrev pub is_comparable : Scope → ℕ → ℕ → Bool
is_comparable s a b = (is_integer s a && is_integer s b) || (is_pointer s a && (a == b))

-- the type that two integers take in arithmetic (6.3.1.8)
abbrev pub common : ℕ → ℕ → ℕ
common a b = if (a == long_type) || (b == long_type) then long_type else int_type

-- the type is complete
abbrev pub is_complete : Scope → ℕ → Bool
is_complete s t = is_some (layout s.types t)

abbrev pub is_array_type : Option Ty → Bool
is_array_type (Some (ty.Array e n)) = true
is_array_type _ = false

-- what a pointer to a field points to: the field, or the first element where it is an array
abbrev pub field_pointee_of : Option Ty → ℕ → ℕ
field_pointee_of (Some (ty.Array e n)) t = e
field_pointee_of _ t = t

-- the struct's field of this number is pointed to by this type
abbrev pub points_to_field : Scope → ℕ → Option FieldDecl → Bool
points_to_field s t None = false
points_to_field s t (Some f) = points_to s t (field_pointee_of (type_at s f.ty) f.ty)

abbrev pub field_at : Scope → ℕ → ℕ → Option FieldDecl
field_at s number index = option_and_then (λ fields. slice_get fields index) (fields_of s.types number)

abbrev pub is_struct_type : Option Ty → ℕ → Bool
is_struct_type (Some (ty.Struct n)) number = n == number
is_struct_type _ number = false

-- the type is a pointer to the struct of this number
abbrev pub points_to_struct : Scope → ℕ → ℕ → Bool
points_to_struct s t number = elim (pointee s t) as (λ _. Bool) [ None ↦ false | (Some e) ↦ is_struct_type (type_at s e) number ]

-- a pointer to elements of type e that an integer moves; the pointer and what comes of it are of type t
abbrev pub is_moved : Scope → ℕ → ℕ → ℕ → ℕ → Bool
is_moved s e t p i = (p == t) && points_to s p e && is_complete s e && is_integer s i

-- the operation takes operands of these types and gives this type
abbrev pub is_operation : Scope → Operation → ℕ → List ℕ → Bool
is_operation s operation.Add t (a ∷ b ∷ []) = is_integer s a && is_integer s b && (common a b == t)
is_operation s operation.Subtract t (a ∷ b ∷ []) = is_integer s a && is_integer s b && (common a b == t)
is_operation s operation.Multiply t (a ∷ b ∷ []) = is_integer s a && is_integer s b && (common a b == t)
is_operation s operation.Divide t (a ∷ b ∷ []) = is_integer s a && is_integer s b && (common a b == t)
is_operation s operation.Remainder t (a ∷ b ∷ []) = is_integer s a && is_integer s b && (common a b == t)
is_operation s operation.Less t (a ∷ b ∷ []) = is_comparable s a b && (t == int_type)
is_operation s operation.Greater t (a ∷ b ∷ []) = is_comparable s a b && (t == int_type)
is_operation s operation.LessEqual t (a ∷ b ∷ []) = is_comparable s a b && (t == int_type)
is_operation s operation.GreaterEqual t (a ∷ b ∷ []) = is_comparable s a b && (t == int_type)
is_operation s operation.Equal t (a ∷ b ∷ []) = is_comparable s a b && (t == int_type)
is_operation s operation.NotEqual t (a ∷ b ∷ []) = is_comparable s a b && (t == int_type)
is_operation s operation.Not t (a ∷ []) = is_scalar s a && (t == int_type)
is_operation s operation.Convert t (a ∷ []) = is_integer s a && is_integer s t
is_operation s (operation.ElementAfter e) t (a ∷ b ∷ []) = is_moved s e t a b || is_moved s e t b a
is_operation s (operation.ElementBefore e) t (p ∷ i ∷ []) = is_moved s e t p i
is_operation s (operation.ElementsBetween e) t (p ∷ q ∷ []) = (p == q) && points_to s p e && is_complete s e && (t == long_type)
is_operation s (operation.Field number index) t (p ∷ []) = points_to_struct s p number && points_to_field s t (field_at s number index)
is_operation s _ t _ = false

-- the parts of a format take operands of these types, one each but for bytes
abbrev pub takes : Scope → List Part → List ℕ → Bool
takes s [] [] = true
takes s [] (t ∷ rest) = false
takes s (part.Bytes bytes ∷ parts) operands = takes s parts operands
takes s (part.Number ∷ parts) (t ∷ rest) = is_integer s t && takes s parts rest
takes s (part.Byte ∷ parts) (t ∷ rest) = is_integer s t && not (t == long_type) && takes s parts rest
takes s (part.Text ∷ parts) (t ∷ rest) = points_to s t char_type && takes s parts rest
takes s (p ∷ parts) [] = false

abbrev pub is_entry_head : Option ℕ → List ℕ → ℕ → Bool
is_entry_head None (p ∷ []) t = p == t
is_entry_head _ _ t = false

-- the function has no result and one parameter, of this type
abbrev pub is_entry : Option Head → ℕ → Bool
is_entry None t = false
is_entry (Some h) t = is_entry_head h.result h.parameters t

-- the request takes operands of these types and gives this type, or nothing
abbrev pub is_request : Scope → Request → Option ℕ → List ℕ → Bool
is_request s request.Load (Some t) (p ∷ []) = points_to s p t && is_scalar s t
is_request s request.Store (Some t) (p ∷ v ∷ []) = points_to s p t && is_scalar s t && (v == t)
is_request s (request.Allocate e zeros) (Some t) (n ∷ []) = is_integer s n && points_to s t e && is_complete s e && not (is_array_type (type_at s e))
is_request s request.Release None (p ∷ []) = is_pointer s p
is_request s request.Lock (Some t) (p ∷ []) = points_to s p mutex_type && (t == int_type)
is_request s request.Unlock (Some t) (p ∷ []) = points_to s p mutex_type && (t == int_type)
is_request s request.InitMutex (Some t) (p ∷ []) = points_to s p mutex_type && (t == int_type)
is_request s request.GetChar (Some t) [] = t == int_type
is_request s request.PutChar (Some t) (e ∷ []) = is_integer s e && (t == int_type)
is_request s request.Puts (Some t) (p ∷ []) = points_to s p char_type && (t == int_type)
is_request s (request.Print parts) (Some t) operands = takes s parts operands && (t == int_type)
is_request s (request.Create f) (Some t) (e ∷ []) = is_entry (slice_get s.functions f) e && (t == int_type)
is_request s request.Join (Some t) (e ∷ []) = is_integer s e && (t == int_type)
is_request s (request.Point n) None [] = nat_lt n s.updates
is_request s request.IsUpdating (Some t) [] = t == int_type
is_request s (request.IsUpdatingFrom n) (Some t) [] = nat_lt n s.names && (t == int_type)
is_request s request.Automigrate None [] = true
is_request s (request.MigrateLocal x) (Some t) [] = s.noted && nat_lt x (length s.locals) && (t == int_type)
is_request s _ t _ = false

-- the number is at least -2^bits and below 2^bits
abbrev pub fits_in : ℕ → ℤ → Bool
fits_in bits (pos n) = nat_lt n (2 ^ bits)
fits_in bits (negsuc n) = nat_lt n (2 ^ bits)

-- the number fits `int`, or `long`
abbrev pub is_number_of : ℤ → ℕ → Bool
is_number_of n t = ((t == int_type) && fits_in 31 n) || ((t == long_type) && fits_in 63 n)

abbrev pub is_constant : Scope → Constant → ℕ → Bool
is_constant s (constant.Number n) t = is_number_of n t
is_constant s constant.Null t = is_pointer s t
is_constant s (constant.Global g) t = elim (slice_get s.globals g) as (λ _. Bool) [ None ↦ false | (Some e) ↦ points_to s t e ]
is_constant s (constant.Literal n) t = nat_lt n s.literals && points_to s t char_type
