-- The type of each typed expression, and which statements fit where they stand.
use Rattle.std.specs.Prelude.{ℕ, ◌==◌, ◌&&◌, ◌||◌, Bool, true, false, nat_lt, List, [], ◌∷◌, length, slice_get, Option, Some, None, option_and_then, if◌then◌else◌}
use Rattle.std.specs.Option.{option_map, is_some}
use Rattle.kt_tree.specs.Tree.{Expression, Constant', LocalRead, LocalSet, LocalSwapped, Operated, Requested, Modified, Both, Either, Chosen, Called, Expressions, NoMore, More, Statement, Evaluated, Undefined, Compound, Conditional, Looped, Repeated, Returned, Broken, Continued, Statements, Done, Then}
use Rattle.kt_tree.specs.Kinds.{Scope, Head, int_type, is_scalar, is_integer, is_pointer, points_to, common, is_operation, is_request, is_constant}

-- what an expression gives: nothing, or a value of a type
pub data Kind : Type 0 where
  NoValue : Kind
  Of : ℕ → Kind

abbrev pub kind_of : Option ℕ → Kind
kind_of None = NoValue
kind_of (Some t) = Of t

-- this, where the test holds
abbrev pub if_so : {A : Type 0} → Bool → A → Option A
if_so b x = if b then Some x else None

-- the type of a value, where there is one
abbrev pub value_type : Option Kind → Option ℕ
value_type (Some (Of t)) = Some t
value_type _ = None

-- the first, where the second is there too
abbrev pub both_there : Option ℕ → Option (List ℕ) → Option (List ℕ)
both_there (Some t) (Some ts) = Some (t ∷ ts)
both_there _ _ = None

abbrev pub is_scalar_kind : Scope → Option ℕ → Bool
is_scalar_kind s None = false
is_scalar_kind s (Some t) = is_scalar s t

abbrev pub same_types : List ℕ → List ℕ → Bool
same_types [] [] = true
same_types (a ∷ as') (b ∷ bs) = (a == b) && same_types as' bs
same_types _ _ = false

-- a local of the type takes a value of that type
abbrev pub set_kind : Option ℕ → Option ℕ → Option Kind
set_kind (Some t) (Some v) = if_so (v == t) (Of t)
set_kind _ _ = None

-- the arms of `?:` are two integers, or two pointers of one type
abbrev pub is_choice : Scope → ℕ → ℕ → ℕ → Bool
is_choice s t a b = (is_integer s a && is_integer s b && (common a b == t)) || (is_pointer s t && (a == t) && (b == t))

abbrev pub choice_kind : Scope → ℕ → Option ℕ → Option ℕ → Option ℕ → Option Kind
choice_kind s t (Some c) (Some a) (Some b) = if_so (is_scalar s c && is_choice s t a b) (Of t)
choice_kind s t _ _ _ = None

abbrev pub logical_kind : Scope → Option ℕ → Option ℕ → Option Kind
logical_kind s (Some a) (Some b) = if_so (is_scalar s a && is_scalar s b) (Of int_type)
logical_kind s _ _ = None

abbrev pub call_kind : Option Head → Option (List ℕ) → Option Kind
call_kind (Some h) (Some ts) = if_so (same_types h.parameters ts) (kind_of h.result)
call_kind _ _ = None

abbrev pub operation_kind : Scope → ℕ → (List ℕ → Bool) → Option (List ℕ) → Option Kind
operation_kind s t takes None = None
operation_kind s t takes (Some ts) = if_so (takes ts) (Of t)

abbrev pub request_kind : Option ℕ → (List ℕ → Bool) → Option (List ℕ) → Option Kind
request_kind t takes None = None
request_kind t takes (Some ts) = if_so (takes ts) (kind_of t)

-- a cell of type t at a pointer of type p, an operand of type b: what the operation gives at its own type is a t, or an
-- integer that is converted to t
abbrev pub is_modified : Scope → ℕ → ℕ → (List ℕ → Bool) → ℕ → ℕ → Bool
is_modified s own t takes p b = points_to s p t && is_scalar s t && takes (t ∷ b ∷ []) && ((own == t) || (is_integer s own && is_integer s t))

abbrev pub modified_kind : Scope → ℕ → ℕ → (List ℕ → Bool) → Option ℕ → Option ℕ → Option Kind
modified_kind s own t takes (Some p) (Some b) = if_so (is_modified s own t takes p b) (Of t)
modified_kind s own t takes _ _ = None

-- what an expression gives, where it and all its parts have their types
abbrev mutual
  pub kind : Scope → Expression → Option Kind
  kind s (Constant' c t) = if_so (is_constant s c t) (Of t)
  kind s (LocalRead x) = option_map Of (slice_get s.locals x)
  kind s (LocalSet x e) = set_kind (slice_get s.locals x) (value_type (kind s e))
  kind s (LocalSwapped x e) = set_kind (slice_get s.locals x) (value_type (kind s e))
  kind s (Operated op t args) = operation_kind s t (is_operation s op t) (types s args)
  kind s (Requested r t args) = request_kind t (is_request s r t) (types s args)
  kind s (Modified op own t old a b) = modified_kind s own t (is_operation s op own) (value_type (kind s a)) (value_type (kind s b))
  kind s (Both a b) = logical_kind s (value_type (kind s a)) (value_type (kind s b))
  kind s (Either a b) = logical_kind s (value_type (kind s a)) (value_type (kind s b))
  kind s (Chosen c t a b) = choice_kind s t (value_type (kind s c)) (value_type (kind s a)) (value_type (kind s b))
  kind s (Called f args) = call_kind (slice_get s.functions f) (types s args)

  -- the types of operands, where each has one
  pub types : Scope → Expressions → Option (List ℕ)
  types s NoMore = Some []
  types s (More e rest) = both_there (value_type (kind s e)) (types s rest)

-- the expression has a scalar value, as a condition needs
abbrev pub is_condition : Scope → Expression → Bool
is_condition s c = is_scalar_kind s (value_type (kind s c))

-- a test or step that is missing fits
abbrev pub all_of : (Expression → Bool) → Option Expression → Bool
all_of test None = true
all_of test (Some e) = test e

-- what is returned is of the type of the result
abbrev pub is_result : Option ℕ → Option ℕ → Bool
is_result None (Some t) = false
is_result (Some r) (Some t) = r == t
is_result r None = false

abbrev pub fits_return : Scope → Option ℕ → Option Expression → Bool
fits_return s None None = true
fits_return s (Some r) None = false
fits_return s result (Some e) = is_result result (value_type (kind s e))

-- the statement fits into a function with this result, in a loop or not
abbrev mutual
  pub fits : Scope → Option ℕ → Bool → Statement → Bool
  fits s result in_loop (Evaluated e) = is_some (kind s e)
  fits s result in_loop (Undefined x) = nat_lt x (length s.locals)
  fits s result in_loop (Compound block) = all_fit s result in_loop block
  fits s result in_loop (Conditional c a b) = is_condition s c && fits s result in_loop a && fits s result in_loop b
  fits s result in_loop (Looped test step body) =
      all_of (is_condition s) test && all_of (λ e. is_some (kind s e)) step && fits s result true body
  fits s result in_loop (Repeated body c) = fits s result true body && is_condition s c
  fits s result in_loop (Returned e) = fits_return s result e
  fits s result in_loop Broken = in_loop
  fits s result in_loop Continued = in_loop

  pub all_fit : Scope → Option ℕ → Bool → Statements → Bool
  all_fit s result in_loop Done = true
  all_fit s result in_loop (Then a rest) = fits s result in_loop a && all_fit s result in_loop rest
