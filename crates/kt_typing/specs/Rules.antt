-- One rule for each operator (ISO/IEC 9899:2011, 6.5), over parts that have types. What an operation takes is said by the judgment
-- of typed trees alone: a rule finds the tree, and the tree has its type or the rule is broken. `at` is where the whole begins.
use Rattle.std.specs.Prelude.{ℕ, pos, ◌==◌, ◌&&◌, ◌||◌, not, Bool, true, false, nat_le, List, [], ◌∷◌, slice_get, Option, Some, None, option_and_then, Result, Ok, Err, if◌then◌else◌}
use Rattle.kt_lex.specs.declared.number.Number.{Number}
use Rattle.kt_grammar.specs.declared.operator.BinaryOperator.{BinaryOperator}
use Rattle.kt_grammar.specs.declared.operator.BinaryOperator.TheVariants as binary
use Rattle.kt_grammar.specs.declared.operator.AssignOperator.{AssignOperator}
use Rattle.kt_grammar.specs.declared.operator.AssignOperator.TheVariants as assign
use Rattle.kt_grammar.specs.declared.operator.PrefixOperator.{PrefixOperator}
use Rattle.kt_grammar.specs.declared.operator.PrefixOperator.TheVariants as prefix
use Rattle.kt_grammar.specs.declared.operator.StepOperator.{StepOperator}
use Rattle.kt_grammar.specs.declared.operator.StepOperator.TheVariants as step
use Rattle.kt_grammar.specs.declared.tree.Name.{Name}
use Rattle.kt_grammar.specs.declared.tree.TypeName.{TypeName}
use Rattle.kt_types.specs.declared.kinds.Field.{Field}
use Rattle.kt_types.specs.declared.kinds.Ty.{Ty}
use Rattle.kt_types.specs.declared.kinds.Ty.TheVariants as ty
use Rattle.kt_types.specs.Table.{fields_of}
use Rattle.kt_types.specs.Layout.{field_named}
use Rattle.kt_tree.specs.declared.expr.Constant.{Constant}
use Rattle.kt_tree.specs.declared.expr.Constant.TheVariants as constant
use Rattle.kt_tree.specs.declared.expr.Operation.{Operation}
use Rattle.kt_tree.specs.declared.expr.Operation.TheVariants as operation
use Rattle.kt_tree.specs.declared.expr.Request.{Request}
use Rattle.kt_tree.specs.declared.expr.Request.TheVariants as request
use Rattle.kt_tree.specs.Tree.{Expression, Constant', LocalSet, LocalSwapped, Operated, Requested, Modified, Both, Either, Chosen}
use Rattle.kt_tree.specs.Kinds.{Scope, type_at, is_integer, is_pointer, is_scalar, is_complete, is_array_type, is_constant, is_operation, is_request, pointee, field_pointee_of, common, int_type, long_type, mutex_type}
use Rattle.kt_tree.specs.Typed.{Kind, NoValue, Of, if_so, set_kind, choice_kind, logical_kind, operation_kind, request_kind, modified_kind}
use Rattle.kt_typing.specs.declared.fault.Fault.{Fault}
use Rattle.kt_typing.specs.declared.standing.Standing.{Standing}
use Rattle.kt_typing.specs.declared.standing.Standing.TheVariants as standing
use Rattle.kt_typing.specs.declared.standing.Use.{Use}
use Rattle.kt_typing.specs.declared.standing.Use.TheVariants as use_as
use Rattle.kt_typing.specs.Faults.{unknown, bad_type, incomplete}
use Rattle.kt_typing.specs.Environment.{Environment, Meaning, Missing, Barred, Stands, Routine, type_named}
use Rattle.kt_typing.specs.Operands.{Operand, Value, operand, of_type, valued, nothing, value, scalar, types_of, trees_of}

-- ---- what a part is used as

-- what stands so may be used so
abbrev pub is_usable : Use → Standing → Bool
is_usable use_as.Whole standing.Whole = true
is_usable u standing.Whole = false
is_usable use_as.Indexed standing.Elements = true
is_usable u standing.Elements = false
is_usable use_as.Factor (standing.Size at) = true
is_usable use_as.Size (standing.Size at) = true
is_usable use_as.Count (standing.Size at) = true
is_usable u (standing.Size at) = false
is_usable use_as.Count (standing.Product t) = true
is_usable u (standing.Product t) = false
is_usable u _ = true

-- a size is that of a complete type
abbrev pub lacking : Scope → Standing → ℕ → Option Fault
lacking s (standing.Size at) t = if is_complete s t then None else Some (incomplete at)
lacking s _ t = None

-- what is wrong with an operand that is used so: judged of each part that has a type, before any rule
abbrev pub wrong : Environment → Use → Operand → Option Fault
wrong env u x = if is_usable u x.standing then lacking env.scope x.standing x.ty else Some (bad_type x.at)

-- ---- trees and their types

-- a tree, by what the judgment of typed trees says that it gives
abbrev pub given : ℕ → Expression → Option Kind → Result Operand Fault
given at e None = Err (bad_type at)
given at e (Some NoValue) = Ok (nothing at e)
given at e (Some (Of t)) = Ok (valued at t e)

abbrev pub with_value : ℕ → Option Value → (Value → Result Operand Fault) → Result Operand Fault
with_value at None rule = Err (bad_type at)
with_value at (Some v) rule = rule v

abbrev pub with_two : ℕ → Option Value → Option Value → (Value → Value → Result Operand Fault) → Result Operand Fault
with_two at (Some a) (Some b) rule = rule a b
with_two at _ _ rule = Err (bad_type at)

abbrev pub constant_at : Environment → ℕ → Constant → ℕ → Result Operand Fault
constant_at env at c t = given at (Constant' c t) (if_so (is_constant env.scope c t) (Of t))

-- the types are right but for the cells of what is pointed to
abbrev pub lacks_cells : Scope → Operation → List ℕ → Bool
lacks_cells s (operation.ElementAfter e) (a ∷ b ∷ []) = not (is_complete s e) && (is_integer s a || is_integer s b)
lacks_cells s (operation.ElementBefore e) (a ∷ b ∷ []) = not (is_complete s e) && is_integer s b
lacks_cells s (operation.ElementsBetween e) (a ∷ b ∷ []) = not (is_complete s e) && (a == b)
lacks_cells s _ ts = false

-- an operation on values, which gives this type
abbrev pub operated : Environment → ℕ → Operation → ℕ → List Value → Result Operand Fault
operated env at op t vs =
    if lacks_cells env.scope op (types_of vs) then Err (env.without_cells at)
    else given at (Operated op t (trees_of vs)) (operation_kind env.scope t (is_operation env.scope op t) (Some (types_of vs)))

-- a request of values, which gives this type or nothing
abbrev pub requested : Environment → ℕ → Request → Option ℕ → List Value → Result Operand Fault
requested env at r t vs = given at (Requested r t (trees_of vs)) (request_kind t (is_request env.scope r t) (Some (types_of vs)))

-- ---- conversions (6.3)

abbrev pub is_null : Standing → Bool
is_null standing.Zero = true
is_null standing.Null = true
is_null _ = false

abbrev pub is_null_itself : Standing → Bool
is_null_itself standing.Null = true
is_null_itself _ = false

-- null as a pointer of this type; a choice of null and null still evaluates its condition
abbrev pub null_tree : ℕ → Expression → Expression
null_tree t (Chosen c own a b) = Chosen c t (null_tree t a) (null_tree t b)
null_tree t _ = Constant' constant.Null t

abbrev pub null_value : ℕ → Operand → Value
null_value t x = of_type t (null_tree t x.tree)

-- a value as one of a type: of the same type, or of an integer type by its number
abbrev pub converted : Scope → ℕ → Value → Option Value
converted s t v =
    if v.ty == t then Some v
    else (if is_operation s operation.Convert t (v.ty ∷ []) then Some (of_type t (Operated operation.Convert t (trees_of (v ∷ []))))
    else None)

-- an operand as a value of a type, as assignment, initialisation, arguments and `return` convert it
abbrev pub convert : Scope → ℕ → Operand → Option Value
convert s t x = if is_pointer s t && is_null x.standing then Some (null_value t x) else option_and_then (converted s t) (value s x)

-- ---- constants and names

-- the type of a number: an `int` has no suffix and is at most 2,147,483,647 (6.4.4.1)
abbrev pub number_type : Number → ℕ
number_type n = if n.long || not (nat_le n.value 2147483647) then long_type else int_type

-- a number; the one spelled `0` converts to pointers
abbrev pub number : Environment → ℕ → Number → Result Operand Fault
number env at n =
    if (n.value == 0) && not n.long && not n.hexadecimal then Ok (operand at standing.Zero int_type (Constant' (constant.Number (pos 0)) int_type))
    else constant_at env at (constant.Number (pos n.value)) (number_type n)

abbrev pub null_at : Environment → ℕ → Operand
null_at env at = operand at standing.Null env.text (Constant' constant.Null env.text)

-- what a name or a word stands for, where it stands by itself; where it stands for nothing, the fault is at the second place
abbrev pub meant : ℕ → ℕ → Meaning → Result Operand Fault
meant at named Missing = Err (unknown named)
meant at named Barred = Err (bad_type named)
meant at named (Routine f) = Err (bad_type named)
meant at named (Stands what t e) = Ok (operand at what t e)

-- `sizeof(T)`, where T or its struct's name stands at the second place; as a count of T it is one
abbrev pub size : Environment → ℕ → ℕ → TypeName → Result Operand Fault
size env at named t =
    elim (type_named env t) as (λ _. Result Operand Fault)
    [ None ↦ Err (bad_type at) | (Some c) ↦ Ok (operand at (standing.Size named) c (Constant' (constant.Number (pos 1)) int_type)) ]

-- ---- places

-- what stands at a pointer of a type: a cell, or a struct or mutex
abbrev pub place_standing : Scope → ℕ → Standing
place_standing s t = elim (pointee s t) as (λ _. Standing) [ None ↦ standing.Whole | (Some e) ↦ if is_scalar s e then standing.Cell else standing.Whole ]

-- the place at a pointer that an operation gives
abbrev pub place_at : Scope → Result Operand Fault → Result Operand Fault
place_at s (Err f) = Err f
place_at s (Ok p) = Ok (operand p.at (place_standing s p.ty) p.ty p.tree)

-- what is indexed: a pointer
abbrev pub indexed : Scope → Operand → Option Value
indexed s x = elim x.standing as (λ _. Option Value) [ standing.Elements ↦ Some (of_type x.ty x.tree) | _ ↦ value s x ]

-- `a[i]`
abbrev pub element_of : Environment → ℕ → Option ℕ → Value → Value → Result Operand Fault
element_of env at None p i = Err (bad_type at)
element_of env at (Some e) p i = place_at env.scope (operated env at (operation.ElementAfter e) p.ty (p ∷ i ∷ []))

abbrev pub element : Environment → ℕ → Operand → Operand → Result Operand Fault
element env at a i = with_two at (indexed env.scope a) (value env.scope i) (λ p n. element_of env at (pointee env.scope p.ty) p n)

-- the place of a field at a pointer that an operation gives: of an array field the pointer to its first element
abbrev pub field_standing : Scope → Field → Result Operand Fault → Result Operand Fault
field_standing s f p = if is_array_type (type_at s f.ty) then p else place_at s p

-- a field of the struct of a number, at a pointer to it
abbrev pub field_found : Environment → ℕ → ℕ → ℕ → Value → Option Field → Result Operand Fault
field_found env at named number p None = Err (unknown named)
field_found env at named number p (Some f) =
    elim (env.pointer (field_pointee_of (type_at env.scope f.ty) f.ty)) as (λ _. Result Operand Fault)
    [ None ↦ Err (bad_type at) | (Some t) ↦ field_standing env.scope f (operated env at (operation.Field number f.index) t (p ∷ [])) ]

-- a field of what is pointed to, which is a struct with a definition
abbrev pub field_at : Environment → ℕ → Name → Value → Option Ty → Result Operand Fault
field_at env at f p (Some (ty.Struct number)) =
    elim (fields_of env.scope.types number) as (λ _. Result Operand Fault)
    [ None ↦ Err (env.without_fields at f.at) | (Some fields) ↦ field_found env at f.at number p (field_named env.scope.types fields f.word) ]
field_at env at f p _ = Err (bad_type at)

abbrev pub pointed_type : Scope → ℕ → Option Ty
pointed_type s t = option_and_then (type_at s) (pointee s t)

-- `p->f`
abbrev pub pointed : Environment → ℕ → Name → Operand → Result Operand Fault
pointed env at f x = with_value at (value env.scope x) (λ p. field_at env at f p (pointed_type env.scope p.ty))

abbrev pub is_whole : Standing → Bool
is_whole standing.Whole = true
is_whole _ = false

-- `s.f`
abbrev pub member : Environment → ℕ → Name → Operand → Result Operand Fault
member env at f x = if is_whole x.standing then field_at env at f (of_type x.ty x.tree) (pointed_type env.scope x.ty) else Err (bad_type at)

-- ---- arithmetic and comparisons

-- an operation and the type of what it gives
pub record Combined : Type 0 where
  pub operation : Operation
  pub own : ℕ

abbrev pub combined : Operation → ℕ → Combined
combined op t = record { operation = op; own = t }

-- a pointer that an integer moves, on either side of `+`; or two integers
abbrev pub sum : Scope → ℕ → ℕ → Combined
sum s a b = elim (pointee s a) as (λ _. Combined) [
  | (Some e) ↦ combined (operation.ElementAfter e) a
  | None ↦ elim (pointee s b) as (λ _. Combined) [ (Some e) ↦ combined (operation.ElementAfter e) b | None ↦ combined operation.Add (common a b) ]
]

-- a pointer and an integer, two pointers, or two integers
abbrev pub difference : Scope → ℕ → ℕ → Combined
difference s a b = elim (pointee s a) as (λ _. Combined) [
  | (Some e) ↦ if is_pointer s b then combined (operation.ElementsBetween e) long_type else combined (operation.ElementBefore e) a
  | None ↦ combined operation.Subtract (common a b)
]

-- what an operator does with two values of these types; `&&` and `||` are no operations
abbrev pub combination : Scope → BinaryOperator → ℕ → ℕ → Option Combined
combination s binary.Add a b = Some (sum s a b)
combination s binary.Subtract a b = Some (difference s a b)
combination s binary.Multiply a b = Some (combined operation.Multiply (common a b))
combination s binary.Divide a b = Some (combined operation.Divide (common a b))
combination s binary.Remainder a b = Some (combined operation.Remainder (common a b))
combination s binary.Less a b = Some (combined operation.Less int_type)
combination s binary.Greater a b = Some (combined operation.Greater int_type)
combination s binary.LessEqual a b = Some (combined operation.LessEqual int_type)
combination s binary.GreaterEqual a b = Some (combined operation.GreaterEqual int_type)
combination s binary.Equal a b = Some (combined operation.Equal int_type)
combination s binary.NotEqual a b = Some (combined operation.NotEqual int_type)
combination s binary.And a b = None
combination s binary.Or a b = None

abbrev pub combined_at : Environment → ℕ → Option Combined → Value → Value → Result Operand Fault
combined_at env at None a b = Err (bad_type at)
combined_at env at (Some c) a b = operated env at c.operation c.own (a ∷ b ∷ [])

abbrev pub of_values : Environment → ℕ → BinaryOperator → Value → Value → Result Operand Fault
of_values env at op a b = combined_at env at (combination env.scope op a.ty b.ty) a b

-- null of the type of the pointer beside it
abbrev pub null_beside : Scope → Operand → Option Value → Option Value
null_beside s x None = None
null_beside s x (Some v) = if is_pointer s v.ty then Some (null_value v.ty x) else None

-- an operand as a value beside another one, whose type null takes; null beside null is a `char *`
abbrev pub value_beside : Scope → Operand → Operand → Option Value
value_beside s x y =
    if is_null_itself x.standing then (if is_null_itself y.standing then scalar s x else null_beside s x (value s y)) else value s x

abbrev pub is_size : Standing → Bool
is_size (standing.Size at) = true
is_size _ = false

-- a count as it is in a product with a size (what is no value is no integer)
abbrev pub count_of : Scope → Operand → Value
count_of s x = elim (value s x) as (λ _. Value) [ None ↦ of_type mutex_type x.tree | (Some v) ↦ v ]

-- a count times `sizeof(T)`; a size is no count
abbrev pub times_size : Scope → Operand → Operand → Result Operand Fault
times_size s x y =
    if is_size x.standing then Err (bad_type x.at) else Ok (operand y.at (standing.Product y.ty) (count_of s x).ty (count_of s x).tree)

abbrev pub product : Environment → ℕ → Operand → Operand → Result Operand Fault
product env at a b =
    if is_size b.standing then times_size env.scope a b
    else (if is_size a.standing then times_size env.scope b a
    else with_two at (value env.scope a) (value env.scope b) (of_values env at binary.Multiply))

-- `&&` and `||`
abbrev pub logical : Environment → ℕ → (Expression → Expression → Expression) → Value → Value → Result Operand Fault
logical env at tree a b = given at (tree a.tree b.tree) (logical_kind env.scope (Some a.ty) (Some b.ty))

-- a binary operator
abbrev pub operator : Environment → ℕ → BinaryOperator → Operand → Operand → Result Operand Fault
operator env at binary.And a b = with_two at (scalar env.scope a) (scalar env.scope b) (logical env at Both)
operator env at binary.Or a b = with_two at (scalar env.scope a) (scalar env.scope b) (logical env at Either)
operator env at binary.Equal a b = with_two at (value_beside env.scope a b) (value_beside env.scope b a) (of_values env at binary.Equal)
operator env at binary.NotEqual a b = with_two at (value_beside env.scope a b) (value_beside env.scope b a) (of_values env at binary.NotEqual)
operator env at binary.Multiply a b = product env at a b
operator env at op a b = with_two at (value env.scope a) (value env.scope b) (of_values env at op)

-- the type of `c ? a : b`
abbrev pub choice_type : Scope → ℕ → ℕ → ℕ
choice_type s a b = if is_pointer s a then a else common a b

abbrev pub chosen : Environment → ℕ → Value → Value → Value → Result Operand Fault
chosen env at c a b = given at (Chosen c.tree (choice_type env.scope a.ty b.ty) a.tree b.tree)
    (choice_kind env.scope (choice_type env.scope a.ty b.ty) (Some c.ty) (Some a.ty) (Some b.ty))

-- a choice of null and null is null
abbrev pub null_if : Bool → Result Operand Fault → Result Operand Fault
null_if b (Err f) = Err f
null_if b (Ok x) = Ok (operand x.at (if b then standing.Null else x.standing) x.ty x.tree)

-- `c ? a : b`
abbrev pub choice : Environment → ℕ → Operand → Operand → Operand → Result Operand Fault
choice env at c a b = null_if (is_null_itself a.standing && is_null_itself b.standing)
    (with_value at (scalar env.scope c) (λ v. with_two at (value_beside env.scope a b) (value_beside env.scope b a) (chosen env at v)))

-- ---- assignment and the unary operators

abbrev pub compound_of : AssignOperator → Option BinaryOperator
compound_of assign.Assign = None
compound_of assign.Add = Some binary.Add
compound_of assign.Subtract = Some binary.Subtract
compound_of assign.Multiply = Some binary.Multiply
compound_of assign.Divide = Some binary.Divide
compound_of assign.Remainder = Some binary.Remainder

abbrev pub local_changed : Bool → ℕ → Expression → Expression
local_changed false x e = LocalSet x e
local_changed true x e = LocalSwapped x e

-- a local that takes a value of its type; with `true` the value of the whole is the one before
abbrev pub set_local : Environment → ℕ → Bool → ℕ → Value → Result Operand Fault
set_local env at old x v = given at (local_changed old x v.tree) (set_kind (slice_get env.scope.locals x) (Some v.ty))

-- what an operation gives, as a local of a type takes it
abbrev pub taken : Environment → ℕ → Bool → ℕ → ℕ → Result Operand Fault → Result Operand Fault
taken env at old x t (Err f) = Err f
taken env at old x t (Ok e) = with_value at (converted env.scope t (of_type e.ty e.tree)) (set_local env at old x)

-- `*p op= v`, of a cell of type t
abbrev pub modified : Environment → ℕ → Bool → ℕ → Value → Value → Option Combined → Result Operand Fault
modified env at old t p v None = Err (bad_type at)
modified env at old t p v (Some c) =
    if lacks_cells env.scope c.operation (t ∷ v.ty ∷ []) then Err (env.without_cells at)
    else given at (Modified c.operation c.own t old p.tree v.tree)
    (modified_kind env.scope c.own t (is_operation env.scope c.operation c.own) (Some p.ty) (Some v.ty))

abbrev pub cell_changed : Environment → ℕ → Bool → BinaryOperator → Value → Value → Option ℕ → Result Operand Fault
cell_changed env at old op p v None = Err (bad_type at)
cell_changed env at old op p v (Some t) = modified env at old t p v (combination env.scope op t v.ty)

-- `x op= v`, of an integer
abbrev pub changed_of : Environment → ℕ → Bool → BinaryOperator → Standing → ℕ → Expression → Value → Result Operand Fault
changed_of env at old op (standing.Local x) t e v = taken env at old x t (of_values env at op (of_type t e) v)
changed_of env at old op standing.Cell t e v = cell_changed env at old op (of_type t e) v (pointee env.scope t)
changed_of env at old op _ t e v = Err (bad_type at)

abbrev pub changed : Environment → ℕ → Bool → BinaryOperator → Operand → Value → Result Operand Fault
changed env at old op x v = if is_integer env.scope v.ty then changed_of env at old op x.standing x.ty x.tree v else Err (bad_type at)

-- a cell that takes an operand
abbrev pub stored : Environment → ℕ → Value → Operand → Option ℕ → Result Operand Fault
stored env at p y None = Err (bad_type at)
stored env at p y (Some t) = with_value at (convert env.scope t y) (λ v. requested env at request.Store (Some t) (p ∷ v ∷ []))

-- `x = y`
abbrev pub assigned_of : Environment → ℕ → Standing → ℕ → Expression → Operand → Result Operand Fault
assigned_of env at (standing.Local x) t e y = with_value at (convert env.scope t y) (set_local env at false x)
assigned_of env at standing.Cell t e y = stored env at (of_type t e) y (pointee env.scope t)
assigned_of env at _ t e y = Err (bad_type at)

-- an assignment
abbrev pub assignment : Environment → ℕ → AssignOperator → Operand → Operand → Result Operand Fault
assignment env at op x y = elim (compound_of op) as (λ _. Result Operand Fault)
    [ None ↦ assigned_of env at x.standing x.ty x.tree y | (Some o) ↦ with_value at (value env.scope y) (changed env at false o x) ]

abbrev pub one : Value
one = of_type int_type (Constant' (constant.Number (pos 1)) int_type)

abbrev pub step_operator : StepOperator → BinaryOperator
step_operator step.Increment = binary.Add
step_operator step.Decrement = binary.Subtract

-- `-a` is `0 - a`
abbrev pub negated : Environment → ℕ → Value → Result Operand Fault
negated env at v = operated env at operation.Subtract (common v.ty v.ty) (of_type int_type (Constant' (constant.Number (pos 0)) int_type) ∷ v ∷ [])

-- `*p`
abbrev pub dereferenced : Environment → ℕ → Value → Result Operand Fault
dereferenced env at p = if is_pointer env.scope p.ty then Ok (operand at (place_standing env.scope p.ty) p.ty p.tree) else Err (bad_type at)

-- `&x`, of a cell, a struct or a mutex
abbrev pub address_of : ℕ → Standing → ℕ → Expression → Result Operand Fault
address_of at standing.Cell t e = Ok (valued at t e)
address_of at standing.Whole t e = Ok (valued at t e)
address_of at _ t e = Err (bad_type at)

-- a prefix operator
abbrev pub unary : Environment → ℕ → PrefixOperator → Operand → Result Operand Fault
unary env at prefix.Negate x = with_value at (value env.scope x) (negated env at)
unary env at prefix.Not x = with_value at (scalar env.scope x) (λ v. operated env at operation.Not int_type (v ∷ []))
unary env at prefix.Dereference x = with_value at (value env.scope x) (dereferenced env at)
unary env at prefix.AddressOf x = address_of at x.standing x.ty x.tree
unary env at prefix.Increment x = changed env at false binary.Add x one
unary env at prefix.Decrement x = changed env at false binary.Subtract x one

-- a cast of a value: to an integer type, or to the pointer type that an allocation has
abbrev pub cast_value : Environment → ℕ → Bool → ℕ → Value → Result Operand Fault
cast_value env at allocates t v =
    if is_integer env.scope t then with_value at (converted env.scope t v) (λ w. Ok (valued at w.ty w.tree))
    else (if allocates && (v.ty == t) then Ok (valued at v.ty v.tree) else Err (bad_type at))

-- a cast to the type of a type name; `allocates` where it stands before an allocation
abbrev pub cast : Environment → ℕ → Bool → Option ℕ → Operand → Result Operand Fault
cast env at allocates None x = Err (bad_type at)
cast env at allocates (Some t) x = with_value at (value env.scope x) (cast_value env at allocates t)
