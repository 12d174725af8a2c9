-- The typing of expressions.
use Rattle.std.specs.Prelude.{ℕ, pos, negsuc, nat_lt, slice_get, ◌==◌, Bool, true, false, List, [], ◌∷◌, Ok, Option, Some, None, if◌then◌else◌}
use Rattle.std.specs.Option.{is_some}
use Rattle.kt_grammar.specs.declared.operator.BinaryOperator.TheVariants as binary
use Rattle.kt_grammar.specs.declared.tree.Base.{Base}
use Rattle.kt_grammar.specs.declared.tree.Base.TheVariants as base
use Rattle.kt_grammar.specs.declared.tree.Name.{Name}
use Rattle.kt_grammar.specs.declared.tree.TypeName.{TypeName}
use Rattle.kt_grammar.specs.Tree.{Term, Constant, Character, Text, Null as NullTerm, Eof, Named, Called, Parenthesised, SizeOf, RuleValue, OldSymbol, Transformed, NewObject, Element, Member, Pointed, Stepped, Prefixed, Converted, Operated as OperatedTerm, Chosen as ChosenTerm, Assigned, Terms, Nothing, More as MoreTerms}
use Rattle.kt_tree.specs.declared.expr.Constant.TheVariants as constant
use Rattle.kt_tree.specs.declared.expr.Request.TheVariants as request
use Rattle.kt_tree.specs.Tree.{Expression, Constant', Requested, Called as CalledExpression, Expressions, NoMore, More}
use Rattle.kt_names.specs.declared.ctype.CType.{CType}
use Rattle.kt_names.specs.declared.builtin.Builtin.{Builtin}
use Rattle.kt_names.specs.declared.builtin.Builtin.TheVariants as builtin
use Rattle.kt_names.specs.declared.fault.CheckFault.TheVariants.{Unknown, BadType, Incomplete, Note}
use Rattle.kt_names.specs.Checked.{Checked, fault, and_then, both, holds}
use Rattle.kt_names.specs.Types.{char, int, mutex, pointer_to, is_integer, same_ctype, ctype}
use Rattle.kt_names.specs.Environment.{Environment, Outer, Global, Function, Declared, local_named, is_complete}
use Rattle.kt_names.specs.Operands.{Operand, Valued, Null, LocalPlace, ArrayPlace, NoResult, Value, number_value, scalar, integer, pointer, convert, converted_to}
use Rattle.kt_names.specs.Rules.{number, element, member, pointed, operator, choice, assignment, changed, unary, step_operator, one, place_at}
use Rattle.kt_names.specs.Builtins.{builtin_named, Argument, one_of, gives, asks_pointer, asks_integer, printed, updated, updating_from, created, migrated}

-- the place of an expression's first token
abbrev pub first_token : Term → ℕ
first_token (Constant at n) = at
first_token (Character at b) = at
first_token (Text at bytes) = at
first_token (NullTerm at) = at
first_token (Eof at) = at
first_token (Named n) = n.at
first_token (Called n args) = n.at
first_token (Parenthesised at a) = at
first_token (SizeOf at t) = at
first_token (RuleValue at w) = at
first_token (OldSymbol at n) = at
first_token (NewObject at f) = at
first_token (Transformed at a) = at
first_token (Element a i) = first_token a
first_token (Member a f) = first_token a
first_token (Pointed a f) = first_token a
first_token (Stepped a op) = first_token a
first_token (Prefixed at op a) = at
first_token (Converted at t a) = at
first_token (OperatedTerm op a b) = first_token a
first_token (ChosenTerm c a b) = first_token c
first_token (Assigned op a b) = first_token a

-- ---- names

abbrev pub global_address : Environment → ℕ → CType → Expression
global_address env g t = Constant' (constant.Global g) (env.place (pointer_to t))

abbrev pub global_place : Environment → ℕ → CType → Bool → Operand
global_place env g t array = if array then ArrayPlace t (global_address env g t) else place_at t (global_address env g t)

-- (a local that is in scope has a type)
abbrev pub local_place : ℕ → Option CType → Operand
local_place x None = LocalPlace x int
local_place x (Some t) = LocalPlace x t

-- a name of the whole file: a function's has no value, and what is not defined is unknown
abbrev pub outer_place : Environment → ℕ → Option Outer → Checked Operand
outer_place env at None = fault (Unknown at)
outer_place env at (Some (Global g t array)) = Ok (global_place env g t array)
outer_place env at (Some (Function d)) = if is_some d.number then fault (BadType at) else fault (Unknown at)

-- a built-in call's name has no value
abbrev pub outer_name : Environment → Name → Checked Operand
outer_name env n = if is_some (builtin_named n.word) then fault (BadType n.at) else outer_place env n.at (env.outer n.word)

abbrev pub named : Environment → Name → Checked Operand
named env n = elim (local_named env.visible n.word) as (λ _. Checked Operand)
    [ None ↦ outer_name env n | (Some x) ↦ Ok (local_place x (slice_get env.locals x)) ]

-- ---- literals, casts

abbrev pub string : Environment → ℕ → Operand
string env at = Valued (pointer_to char) (Constant' (constant.Literal (env.literal at)) (env.place (pointer_to char)))

-- A character is the `int` of its byte. (No token spells one of 256 or more.)
abbrev pub character : Environment → ℕ → ℕ → Checked Operand
character env at b = if nat_lt b 256 then Ok (Valued int (number_value env int (pos b))) else fault (BadType at)

abbrev pub end_of_file : Environment → Operand
end_of_file env = Valued int (number_value env int (negsuc 0))

-- the type of a type name
abbrev pub named_type : Environment → TypeName → CType
named_type env t = ctype env.names t.base t.stars

abbrev pub is_allocator : Option Builtin → Bool
is_allocator (Some builtin.Malloc) = true
is_allocator (Some builtin.Calloc) = true
is_allocator _ = false

-- parentheses aside, the expression is an allocation
abbrev pub is_allocation : Term → Bool
is_allocation (Parenthesised at a) = is_allocation a
is_allocation (Called n args) = is_allocator (builtin_named n.word)
is_allocation _ = false

-- a cast to an integer type, or to the pointer type of the allocation behind it
abbrev pub cast_to : Environment → ℕ → ℕ → CType → Bool → Operand → Checked Operand
cast_to env at inner t allocates a =
    if is_integer t then and_then (integer env inner at a) (λ v. Ok (Valued t (converted_to env t v)))
    else (if allocates then and_then (pointer env inner at a) (λ v. if same_ctype v.ty t then Ok a else fault (BadType at))
    else fault (BadType at))

-- a cast to a type name
abbrev pub cast : Environment → ℕ → ℕ → TypeName → Bool → Operand → Checked Operand
cast env at inner t allocates a = cast_to env at inner (named_type env t) allocates a

-- ---- calls

-- the place where a struct's name is spelled
abbrev pub struct_place : Base → ℕ → ℕ
struct_place (base.Struct n) at = n.at
struct_place _ at = at

abbrev pub of_elements : Environment → TypeName → Bool → Value → Operand
of_elements env t zeros v = gives env (request.Allocate (env.place (named_type env t)) zeros) (pointer_to (named_type env t)) (one_of v.expression)

-- an allocation of a count of elements of a type name, which has its cells
abbrev pub allocated : Environment → ℕ → TypeName → Bool → Checked Value → Checked Operand
allocated env at t zeros count =
    and_then (both count (holds (is_complete env (named_type env t)) (Incomplete (struct_place t.base at)))) (λ x. Ok (of_elements env t zeros x.0))

-- a count that begins at `own`, of a call at `up`
abbrev pub counted : Environment → ℕ → ℕ → Checked Operand → Checked Value
counted env own up x = and_then x (integer env own up)

abbrev pub bytes_allocated : Environment → Value → Operand
bytes_allocated env v = gives env (request.Allocate (env.place char) false) (pointer_to char) (one_of v.expression)

-- the value of a function's call
abbrev pub result_of : ℕ → Option CType → Expressions → Operand
result_of f None args = NoResult (CalledExpression f args)
result_of f (Some t) args = Valued t (CalledExpression f args)

-- as many arguments as parameters, each converted
abbrev pub passed : Environment → ℕ → List CType → List Argument → Checked Expressions
passed env up [] [] = Ok NoMore
passed env up (p ∷ ps) (x ∷ rest) = and_then (both (and_then x.typed (convert env p x.at up)) (passed env up ps rest)) (λ y. Ok (More y.0 y.1))
passed env up _ _ = fault (BadType up)

abbrev pub called_function : Environment → ℕ → Declared → List Argument → Checked Operand
called_function env up d args = elim d.number as (λ _. Checked Operand)
    [ None ↦ fault (Unknown up) | (Some f) ↦ and_then (passed env up d.parameters args) (λ es. Ok (result_of f d.result es)) ]

abbrev pub callable_outer : ℕ → Option Outer → Checked Declared
callable_outer at None = fault (Unknown at)
callable_outer at (Some (Global g t array)) = fault (BadType at)
callable_outer at (Some (Function d)) = if is_some d.number then Ok d else fault (Unknown at)

-- what is called where no argument matters: a local or global, an unknown name or a function without a definition
abbrev pub callable : Environment → Name → Checked Declared
callable env n = elim (local_named env.visible n.word) as (λ _. Checked Declared)
    [ (Some x) ↦ fault (BadType n.at) | None ↦ callable_outer n.at (env.outer n.word) ]

-- `free`, of a pointer or null
abbrev pub releasing : ℕ → Value → Checked Operand
releasing up v = if is_integer v.ty then fault (BadType up) else Ok (NoResult (Requested request.Release None (one_of v.expression)))

abbrev pub released : Environment → ℕ → Argument → Checked Operand
released env up x = and_then (and_then x.typed (scalar env x.at up)) (releasing up)

-- a built-in call of typed arguments alone
abbrev pub plain_builtin : Environment → ℕ → Builtin → List Argument → Checked Operand
plain_builtin env up builtin.Free (x ∷ []) = released env up x
plain_builtin env up builtin.GetChar [] = Ok (gives env request.GetChar int NoMore)
plain_builtin env up builtin.PutChar (x ∷ []) = asks_integer env up request.PutChar x
plain_builtin env up builtin.Puts (x ∷ []) = asks_pointer env up request.Puts char x
plain_builtin env up builtin.Lock (x ∷ []) = asks_pointer env up request.Lock mutex x
plain_builtin env up builtin.Unlock (x ∷ []) = asks_pointer env up request.Unlock mutex x
plain_builtin env up builtin.Join (x ∷ []) = asks_integer env up request.Join x
plain_builtin env up builtin.IsUpdating [] = Ok (gives env request.IsUpdating int NoMore)
plain_builtin env up builtin.Automigrate [] = Ok (NoResult (Requested request.Automigrate None NoMore))
plain_builtin env up _ args = fault (BadType up)

abbrev pub argument : Term → Checked Operand → Argument
argument a x = record { at = first_token a; typed = x }

-- the typing of an expression
abbrev mutual
  pub typing : Environment → Term → Checked Operand
  typing env (Constant at n) = number env at n
  typing env (Character at b) = character env at b
  typing env (Text at bytes) = Ok (string env at)
  typing env (NullTerm at) = Ok Null
  typing env (Eof at) = Ok (end_of_file env)
  typing env (Named n) = named env n
  typing env (Called n args) = elim (local_named env.visible n.word) as (λ _. Checked Operand) [
    | (Some x) ↦ fault (BadType n.at)
    | None ↦ elim (builtin_named n.word) as (λ _. Checked Operand) [
      | None ↦ and_then (callable env n) (λ d. called_function env n.at d (typing_all env args))
      | (Some b) ↦ builtin_call env n.at b (typing_all env args) args
    ]
  ]
  typing env (Parenthesised at a) = typing env a
  typing env (SizeOf at t) = fault (BadType at)
  typing env (RuleValue at w) = fault (Unknown at)
  typing env (OldSymbol at n) = fault (Unknown at)
  typing env (NewObject at f) = fault (Unknown at)
  typing env (Transformed at a) = fault (Unknown at)
  typing env (Element a i) = and_then (both (typing env a) (typing env i)) (λ x. element env (first_token a) (first_token i) x.0 x.1)
  typing env (Member a f) = and_then (typing env a) (λ x. member env (first_token a) x f)
  typing env (Pointed a f) = and_then (typing env a) (λ x. pointed env (first_token a) x f)
  typing env (Stepped a op) = and_then (typing env a) (λ x. changed env (first_token a) true (step_operator op) x (one env))
  typing env (Prefixed at op a) = and_then (typing env a) (λ x. unary env at (first_token a) op x)
  typing env (Converted at t a) = and_then (typing env a) (λ x. cast env at (first_token a) t (is_allocation a) x)
  typing env (OperatedTerm op a b) = and_then (both (typing env a) (typing env b)) (λ x. operator env (first_token a) (first_token b) op x.0 x.1)
  typing env (ChosenTerm c a b) =
      and_then (both (typing env c) (both (typing env a) (typing env b)))
      (λ x. choice env (first_token c) (first_token a) (first_token b) x.0 x.1.0 x.1.1)
  typing env (Assigned op a b) = and_then (both (typing env a) (typing env b)) (λ x. assignment env (first_token a) (first_token b) op x.0 x.1)

  -- arguments, each with its place
  pub typing_all : Environment → Terms → List Argument
  typing_all env Nothing = []
  typing_all env (MoreTerms a rest) = argument a (typing env a) ∷ typing_all env rest

  -- a built-in call at `up`, whose arguments are these, as values and as they stand
  pub builtin_call : Environment → ℕ → Builtin → List Argument → Terms → Checked Operand
  builtin_call env up builtin.Malloc values (MoreTerms (SizeOf at t) Nothing) = allocated env at t false (Ok (one env))
  builtin_call env up builtin.Malloc values (MoreTerms (OperatedTerm binary.Multiply e (SizeOf at t)) Nothing) =
      allocated env at t false (counted env (first_token e) up (typing env e))
  builtin_call env up builtin.Malloc values (MoreTerms (OperatedTerm binary.Multiply (SizeOf at t) e) Nothing) =
      allocated env at t false (counted env (first_token e) up (typing env e))
  builtin_call env up builtin.Malloc values (MoreTerms e Nothing) =
      and_then (counted env (first_token e) up (typing env e)) (λ v. Ok (bytes_allocated env v))
  builtin_call env up builtin.Calloc values (MoreTerms e (MoreTerms (SizeOf at t) Nothing)) =
      allocated env at t true (counted env (first_token e) up (typing env e))
  builtin_call env up builtin.Printf values (MoreTerms (Text at bytes) args) = printed env up bytes (typing_all env args)
  builtin_call env up builtin.InitMutex values (MoreTerms p (MoreTerms (NullTerm at) Nothing)) =
      asks_pointer env up request.InitMutex mutex (argument p (typing env p))
  builtin_call env up builtin.Create values (MoreTerms (Named f) (MoreTerms e Nothing)) = created env up f (argument e (typing env e))
  builtin_call env up builtin.Update values (MoreTerms (Text at bytes) Nothing) = updated env up bytes
  builtin_call env up builtin.IsUpdatingFrom values (MoreTerms (Text at bytes) Nothing) = updating_from env up bytes
  builtin_call env up builtin.MigrateLocal values (MoreTerms (Named n) Nothing) = migrated env up n
  builtin_call env up builtin.MigrateLocal values (MoreTerms e Nothing) = fault (Note up)
  builtin_call env up b values args = plain_builtin env up b values

-- ---- parts of calls

-- a call of a name that no local has
abbrev pub called_unhidden : Environment → Name → Terms → Checked Operand
called_unhidden env n args = elim (builtin_named n.word) as (λ _. Checked Operand) [
  | None ↦ and_then (callable env n) (λ d. called_function env n.at d (typing_all env args))
  | (Some b) ↦ builtin_call env n.at b (typing_all env args) args
]

abbrev pub is_malloc : Option Builtin → Bool
is_malloc (Some builtin.Malloc) = true
is_malloc _ = false

-- the name is that of `malloc`, and no local hides it
abbrev pub takes_memory : Environment → Name → Bool
takes_memory env n = elim (local_named env.visible n.word) as (λ _. Bool) [ None ↦ is_malloc (builtin_named n.word) | (Some x) ↦ false ]
