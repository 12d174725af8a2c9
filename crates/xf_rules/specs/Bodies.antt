-- What is judged of a rule's body: what is assigned, and to what.
use Rattle.std.specs.Prelude.{ℕ, zero, suc, ◌==◌, ◌&&◌, Bool, true, false, not, nat_le, List, [], ◌∷◌, ◌++◌, Option, None, Some, option_and_then, Result, Ok, Err, if◌then◌else◌}
use Rattle.kt_lex.specs.declared.number.Number.{Number}
use Rattle.kt_grammar.specs.declared.keyword.RuleWord.TheVariants as word
use Rattle.kt_grammar.specs.declared.tree.Base.{Base}
use Rattle.kt_grammar.specs.declared.tree.Base.TheVariants as base
use Rattle.kt_grammar.specs.declared.tree.Fresh.{Fresh}
use Rattle.kt_grammar.specs.declared.tree.Name.{Name}
use Rattle.kt_grammar.specs.Tree.{Term, Constant, Character, Text, Null, Eof, Named, Called, Parenthesised, SizeOf, RuleValue, OldSymbol, Transformed, NewObject, Element, Member, Pointed, Stepped, Prefixed, Converted, Operated, Chosen, Assigned}
use Rattle.kt_types.specs.declared.kinds.Ty.{Ty}
use Rattle.kt_types.specs.declared.kinds.Ty.TheVariants as ty
use Rattle.kt_tree.specs.Kinds.{char_type, int_type, long_type, mutex_type, is_integer, pointee}
use Rattle.kt_tree.specs.Version.{Program}
use Rattle.kt_typing.specs.declared.fault.Fault.{Fault}
use Rattle.kt_typing.specs.declared.fault.Kind.TheVariants as kind
use Rattle.kt_typing.specs.declared.standing.Use.TheVariants as use_as
use Rattle.kt_typing.specs.Environment.{Environment}
use Rattle.kt_typing.specs.Faults.{fault_at, unknown, bad_type}
use Rattle.kt_typing.specs.Forms.{Form}
use Rattle.kt_typing.specs.Operands.{Operand, Value, valued, value}
use Rattle.kt_typing.specs.Rules.{with_value}
use Rattle.kt_typing.specs.Terms.{form, first_token, of_one, condition}
use Rattle.xf_plan.specs.Bodies as body
use Rattle.xf_plan.specs.Plan.{Plan}
use Rattle.xf_plan.specs.Correspondence.{corresponds}
use Rattle.xf_syntax.specs.Tree as written
use Rattle.xf_rules.specs.Made.{Made, Nothing, Tree, Gives, Does, idle, nothing, block}
use Rattle.xf_rules.specs.Judgments.{Judgment, Expressed, Held, Judgments, NoMore, And}
use Rattle.xf_rules.specs.Names.{struct_named, is_defined}
use Rattle.xf_rules.specs.Types.{pointer_place, struct_place}

-- the fault where a condition doesn't hold
abbrev pub where_not : Bool → Fault → List Fault
where_not true f = []
where_not false f = f ∷ []

-- what a body is judged by: what its code is typed in, which types correspond, and the new version
pub record Context : Type 0 where
  pub environment : Environment
  pub related : Plan
  pub new : Program

-- an expression as a value, with what it has to be
abbrev pub value_by : Context → Term → (Operand → Result Operand Fault) → Form
value_by c a rule = of_one c.environment (first_token a) use_as.Value (form c.environment use_as.Value a) rule

-- ---- `$new(T, n)`

-- the place of a type of the new version

abbrev pub base_place : Program → Base → Option ℕ
base_place new base.Char = Some char_type
base_place new base.Int = Some int_type
base_place new base.Long = Some long_type
base_place new base.Mutex = Some mutex_type
base_place new (base.Struct n) = option_and_then (struct_place new.types.types) (struct_named new n.word)

abbrev pub starred_place : Program → ℕ → Option ℕ → Option ℕ
starred_place new zero t = t
starred_place new (suc n) t = option_and_then (pointer_place new.types.types) (starred_place new n t)

-- it is this one
abbrev pub is_type : ℕ → Option ℕ → Bool
is_type u None = false
is_type u (Some t) = t == u

-- a struct of the new version, which has a definition where it stands without stars
abbrev pub struct_faults : Program → Name → ℕ → Option ℕ → List Fault
struct_faults new n stars None = unknown n.at ∷ []
struct_faults new n zero (Some s) = where_not (is_defined new s) (bad_type n.at)
struct_faults new n (suc stars) (Some s) = []

abbrev pub base_faults : Program → Base → ℕ → List Fault
base_faults new (base.Struct n) stars = struct_faults new n stars (struct_named new n.word)
base_faults new b stars = []

-- 1 to 65,536 elements
abbrev pub count_faults : ℕ → Number → List Fault
count_faults at n = where_not (not (n.value == 0) && nat_le n.value 65536) (bad_type at)

-- these, or where there are none the others
abbrev pub or_else : List Fault → List Fault → List Fault
or_else [] others = others
or_else (f ∷ rest) others = f ∷ rest

-- for a pointer to the type at place u the type is that one, where nothing is wrong with it or with the number
abbrev pub new_faults : Program → ℕ → ℕ → Fresh → List Fault
new_faults new u at f =
    or_else (base_faults new f.type_name.base f.type_name.stars ++ count_faults f.at f.count)
    (where_not (is_type u (starred_place new f.type_name.stars (base_place new f.type_name.base))) (bad_type at))

-- ---- what is assigned

-- an integer, which is converted
abbrev pub integer_of : Environment → ℕ → Value → Result Operand Fault
integer_of env at v = if is_integer env.scope v.ty then Ok (valued at v.ty v.tree) else Err (bad_type at)

abbrev pub integer : Context → Term → Form
integer c a = value_by c a (λ x. with_value (first_token a) (value c.environment.scope x) (integer_of c.environment (first_token a)))

-- the operand of `$xform`, where the whole stands at this place: an old pointer to a type that corresponds to the one at place u

abbrev pub is_corresponding : Plan → ℕ → Option ℕ → Bool
is_corresponding p u None = false
is_corresponding p u (Some t) = corresponds p t u

abbrev pub pointer_of : Context → ℕ → ℕ → Value → Result Operand Fault
pointer_of c u at v = if is_corresponding c.related u (pointee c.environment.scope v.ty) then Ok (valued at v.ty v.tree) else Err (bad_type at)

abbrev pub transformed : Context → ℕ → ℕ → Term → Form
transformed c u at a = value_by c a (λ x. with_value at (value c.environment.scope x) (pointer_of c u at))

-- ---- what comes of it

abbrev pub as_number : List Made → Made
as_number (Tree e ∷ []) = Gives (body.Number e)
as_number ms = Nothing

abbrev pub as_transformed : List Made → Made
as_transformed (Tree e ∷ []) = Gives (body.Transformed e)
as_transformed ms = Nothing

abbrev pub as_chosen : List Made → Made
as_chosen (Tree e ∷ Gives a ∷ Gives b ∷ []) = Gives (body.Chosen e a b)
as_chosen ms = Nothing

abbrev pub as_assigned : List Made → Made
as_assigned (m ∷ Gives g ∷ []) = Does (body.Assigned g)
as_assigned ms = Nothing

abbrev pub as_conditional : List Made → Made
as_conditional (Tree e ∷ Does a ∷ []) = Does (body.Conditional e a idle)
as_conditional (Tree e ∷ Does a ∷ Does b ∷ []) = Does (body.Conditional e a b)
as_conditional ms = Nothing

-- ---- pointers

-- what is no pointer for `$out`
abbrev pub no_pointer : Context → Term → Judgment
no_pointer c a = Expressed (value_by c a (λ x. Err (bad_type (first_token a))))

-- what a pointer to the type at place u takes, parentheses aside: null, `$xform`, `$new`, or a choice of such
abbrev pub pointer : Context → ℕ → Term → Judgment
pointer c u (Parenthesised at a) = pointer c u a
pointer c u (Null at) = Held [] NoMore (λ ms. Gives body.Null)
pointer c u (Transformed at a) = Held [] (And (Expressed (transformed c u at a)) NoMore) as_transformed
pointer c u (NewObject at f) = Held (new_faults c.new u at f) NoMore (λ ms. Gives (body.New u f.count.value))
pointer c u (Chosen e a b) = Held [] (And (Expressed (condition c.environment e)) (And (pointer c u a) (And (pointer c u b) NoMore))) as_chosen
pointer c u (Constant at n) = no_pointer c (Constant at n)
pointer c u (Character at b) = no_pointer c (Character at b)
pointer c u (Text at bytes) = no_pointer c (Text at bytes)
pointer c u (Eof at) = no_pointer c (Eof at)
pointer c u (Named n) = no_pointer c (Named n)
pointer c u (Called n args) = no_pointer c (Called n args)
pointer c u (SizeOf at t) = no_pointer c (SizeOf at t)
pointer c u (RuleValue at w) = no_pointer c (RuleValue at w)
pointer c u (OldSymbol at n) = no_pointer c (OldSymbol at n)
pointer c u (Element a i) = no_pointer c (Element a i)
pointer c u (Member a f) = no_pointer c (Member a f)
pointer c u (Pointed a f) = no_pointer c (Pointed a f)
pointer c u (Stepped a op) = no_pointer c (Stepped a op)
pointer c u (Prefixed at op a) = no_pointer c (Prefixed at op a)
pointer c u (Converted at t a) = no_pointer c (Converted at t a)
pointer c u (Operated op a b) = no_pointer c (Operated op a b)
pointer c u (Assigned op a b) = no_pointer c (Assigned op a b)

-- ---- acts

-- what may be assigned: an integer, or a pointer to the new type at a place
pub data Target : Type 0 where
  Integer : Target
  PointerTo : ℕ → Target

-- a target that a body may have
abbrev pub target_of : Option Ty → Option Target
target_of (Some ty.Char) = Some Integer
target_of (Some ty.Int) = Some Integer
target_of (Some ty.Long) = Some Integer
target_of (Some (ty.Ptr u)) = Some (PointerTo u)
target_of _ = None

abbrev pub assigned : Context → Target → Term → Judgment
assigned c Integer a = Held [] (And (Expressed (integer c a)) NoMore) as_number
assigned c (PointerTo u) a = pointer c u a

-- `$out`, parentheses aside
abbrev pub is_out : Term → Bool
is_out (Parenthesised at a) = is_out a
is_out (RuleValue at word.Out) = true
is_out _ = false

-- any other left side is written in; it is typed like any expression
abbrev pub other_side : Context → Term → Judgment
other_side c a = Held (fault_at kind.WritesIn (first_token a) ∷ []) (And (Expressed (value_by c a (λ x. Ok x))) NoMore) nothing

abbrev pub left_side : Context → Term → Judgment
left_side c a = if is_out a then Held [] NoMore nothing else other_side c a

abbrev mutual
  pub act : Context → Target → written.Action → Judgment
  act c t (written.Compound block') = Held [] (acts c t block') block
  act c t written.Empty = Held [] NoMore block
  act c t (written.Assigned left a) = Held [] (And (left_side c left) (And (assigned c t a) NoMore)) as_assigned
  act c t (written.Conditional e a) = Held [] (And (Expressed (condition c.environment e)) (And (act c t a) NoMore)) as_conditional
  act c t (written.Alternative e a b) =
      Held [] (And (Expressed (condition c.environment e)) (And (act c t a) (And (act c t b) NoMore))) as_conditional

  pub acts : Context → Target → written.Actions → Judgments
  acts c t written.Nothing = NoMore
  acts c t (written.More a rest) = And (act c t a) (acts c t rest)
