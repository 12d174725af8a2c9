-- Built-in calls by how their arguments are written.
use Rattle.std.specs.Prelude.{ℕ, Bool, true, false, slice_get, drop, List, [], ◌∷◌, Option, Some, None, Ok}
use Rattle.kt_grammar.specs.declared.operator.BinaryOperator.{BinaryOperator}
use Rattle.kt_grammar.specs.declared.operator.BinaryOperator.TheVariants as binary
use Rattle.kt_grammar.specs.Tree.{Term, Operated, Terms, Nothing, More}
use Rattle.kt_tree.specs.declared.expr.Request.TheVariants as request
use Rattle.kt_names.specs.declared.ctype.CType.{CType}
use Rattle.kt_names.specs.declared.builtin.Builtin.TheVariants as builtin
use Rattle.kt_names.specs.declared.fault.CheckFault.TheVariants.{BadType, Incomplete, Note}
use Rattle.kt_names.specs.Types.{mutex, pointer_to}
use Rattle.kt_names.specs.Checked.{Checked, fault, and_then, both, holds}
use Rattle.kt_names.specs.Environment.{Environment, is_complete}
use Rattle.kt_names.specs.Operands.{Operand, Value}
use Rattle.kt_names.specs.Builtins.{Argument, one_of, gives, asks_pointer, printed, updated, updating_from, created, migrated}
use Rattle.kt_names.specs.declared.operand.Value.{Value as ValueCode}
use Rattle.kt_names.specs.Views.{value_of}
use Rattle.kt_names.specs.Rules.{operator, one}
use Rattle.kt_names.specs.Terms.{allocated, counted, bytes_allocated, typing_all, builtin_call}
use Rattle.kt_terms.specs.Spellings.{Spelling, Sized, Quoted, Word, NoPointer, spelling_of}

-- how the only argument is written
abbrev pub only_spelling : Terms → Option Spelling
only_spelling Nothing = None
only_spelling (More e Nothing) = Some (spelling_of e)
only_spelling (More e (More f rest)) = None

abbrev pub updated_by : Environment → ℕ → Option Spelling → Checked Operand
updated_by env up (Some (Quoted name)) = updated env up name
updated_by env up _ = fault (BadType up)

abbrev pub updating_by : Environment → ℕ → Option Spelling → Checked Operand
updating_by env up (Some (Quoted name)) = updating_from env up name
updating_by env up _ = fault (BadType up)

abbrev pub migrated_by : Environment → ℕ → Option Spelling → Checked Operand
migrated_by env up None = fault (BadType up)
migrated_by env up (Some (Word n)) = migrated env up n
migrated_by env up (Some _) = fault (Note up)

-- how the first argument is written
abbrev pub first_spelling : Terms → Option Spelling
first_spelling Nothing = None
first_spelling (More e rest) = Some (spelling_of e)

-- how the first of two arguments is written
abbrev pub first_of_two : Terms → Option Spelling
first_of_two (More e (More f Nothing)) = Some (spelling_of e)
first_of_two _ = None

-- how the second of two arguments is written
abbrev pub second_of_two : Terms → Option Spelling
second_of_two (More e (More f Nothing)) = Some (spelling_of f)
second_of_two _ = None

-- what is made of an argument, where it is there
abbrev pub of_argument : ℕ → (Argument → Checked Operand) → Option Argument → Checked Operand
of_argument up f None = fault (BadType up)
of_argument up f (Some x) = f x

-- `printf`: the first argument is the format
abbrev pub printed_by : Environment → ℕ → Option Spelling → List Argument → Checked Operand
printed_by env up (Some (Quoted format)) values = printed env up format (drop 1 values)
printed_by env up _ values = fault (BadType up)

-- `calloc`: the first argument is the count, the second a size
abbrev pub zeroed_by : Environment → ℕ → Option Spelling → List Argument → Checked Operand
zeroed_by env up (Some (Sized at t)) values = of_argument up (λ x. allocated env at t true (counted env x.at up x.typed)) (slice_get values 0)
zeroed_by env up _ values = fault (BadType up)

-- `pthread_mutex_init`: the second argument is null
abbrev pub initialised_by : Environment → ℕ → Option Spelling → List Argument → Checked Operand
initialised_by env up (Some NoPointer) values = of_argument up (asks_pointer env up request.InitMutex mutex) (slice_get values 0)
initialised_by env up _ values = fault (BadType up)

-- `ktthread_create`: the first argument is the name of a function
abbrev pub created_by : Environment → ℕ → Option Spelling → List Argument → Checked Operand
created_by env up (Some (Word f)) values = of_argument up (created env up f) (slice_get values 1)
created_by env up _ values = fault (BadType up)

-- ---- allocations

-- so many elements of a type
abbrev pub elements : Environment → CType → Bool → Value → Operand
elements env t zeros v = gives env (request.Allocate (env.place t) zeros) (pointer_to t) (one_of v.expression)

-- what typing gives of an expression
abbrev pub TypedTerm : Type 0
TypedTerm = Checked Operand

-- what an allocation counts by
abbrev pub TypedCount : Type 0
TypedCount = Checked Value

-- a type that has its cells, as no value
abbrev pub nothing_of : CType → Unit {0}
nothing_of t = tt

abbrev pub counted_of : ValueCode × CType → Value × Unit {0}
counted_of x = (value_of x.0, nothing_of x.1)

-- a count, and that a type has its cells; the fault of a type that has not is at `place`
abbrev pub counted_type : Environment → ℕ → CType → Checked Value → Checked (Value × Unit {0})
counted_type env place t count = both count (holds (is_complete env t) (Incomplete place))

-- an allocation of a count of elements of a type
abbrev pub allocated_at : Environment → ℕ → CType → Bool → Checked Value → Checked Operand
allocated_at env place t zeros count = and_then (counted_type env place t count) (λ x. Ok (elements env t zeros x.0))

-- ---- `malloc`

-- so many bytes, counted by an argument
abbrev pub bytes_by : Environment → ℕ → Argument → Checked Operand
bytes_by env up x = and_then (counted env x.at up x.typed) (λ v. Ok (bytes_allocated env v))

-- `malloc` of an argument that is no operation and is written so
abbrev pub memory_by : Environment → ℕ → Spelling → Argument → Checked Operand
memory_by env up (Sized at t) x = allocated env at t false (Ok (one env))
memory_by env up _ x = bytes_by env up x

-- an operation on two arguments
abbrev pub operated_by : Environment → BinaryOperator → Argument → Argument → Checked Operand
operated_by env op x y = and_then (both x.typed y.typed) (λ z. operator env x.at y.at op z.0 z.1)

-- so many bytes, counted by an operation
abbrev pub operated_bytes : Environment → ℕ → BinaryOperator → Argument → Argument → Checked Operand
operated_bytes env up op x y = bytes_by env up (record { at = x.at; typed = operated_by env op x y })

-- `malloc` of a product whose right side is no size
abbrev pub left_product : Environment → ℕ → Spelling → Argument → Argument → Checked Operand
left_product env up (Sized at t) x y = allocated env at t false (counted env y.at up y.typed)
left_product env up _ x y = operated_bytes env up binary.Multiply x y

-- `malloc` of a product
abbrev pub product : Environment → ℕ → Spelling → Spelling → Argument → Argument → Checked Operand
product env up s (Sized at t) x y = allocated env at t false (counted env x.at up x.typed)
product env up s _ x y = left_product env up s x y

-- `malloc` of an operation whose sides are written so
abbrev pub operation_by : Environment → ℕ → BinaryOperator → Spelling → Spelling → Argument → Argument → Checked Operand
operation_by env up binary.Multiply s r x y = product env up s r x y
operation_by env up op s r x y = operated_bytes env up op x y

-- a call of `malloc`
abbrev pub memory_call : Environment → ℕ → Terms → Checked Operand
memory_call env up args = builtin_call env up builtin.Malloc (typing_all env args) args

abbrev pub is_operated : Term → Bool
is_operated (Operated op a b) = true
is_operated _ = false

-- ---- threads

abbrev pub only_parameter : List CType → Option CType
only_parameter (p ∷ []) = Some p
only_parameter _ = None

-- the number and the only parameter of a function
abbrev pub numbered : Option CType → Option ℕ → Option (ℕ × CType)
numbered (Some p) (Some n) = Some (n, p)
numbered _ _ = None

abbrev pub entry_itself : ℕ × CType → ℕ × CType
entry_itself e = e
