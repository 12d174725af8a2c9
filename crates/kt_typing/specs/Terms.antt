-- Each expression as a form: its parts, what each is used as, and its rule (ISO/IEC 9899:2011, 6.5).
use Rattle.std.specs.Prelude.{ℕ, suc, pos, negsuc, if◌then◌else◌, Bool, true, false, List, [], ◌∷◌, Option, Some, None, Result, Ok, Err}
use Rattle.kt_grammar.specs.declared.operator.BinaryOperator.{BinaryOperator}
use Rattle.kt_grammar.specs.declared.operator.BinaryOperator.TheVariants as binary
use Rattle.kt_grammar.specs.declared.operator.PrefixOperator.{PrefixOperator}
use Rattle.kt_grammar.specs.declared.operator.PrefixOperator.TheVariants as prefix
use Rattle.kt_grammar.specs.declared.tree.Base.{Base}
use Rattle.kt_grammar.specs.declared.tree.Base.TheVariants as base
use Rattle.kt_grammar.specs.declared.tree.Name.{Name}
use Rattle.kt_grammar.specs.Tree.{Term, Constant, Character, Text, Null, Eof, Named, Called, Parenthesised, SizeOf, RuleValue, OldSymbol, Transformed, NewObject, Element, Member, Pointed, Stepped, Prefixed, Converted, Operated, Chosen, Assigned, Terms, Nothing, More}
use Rattle.kt_tree.specs.declared.expr.Constant.TheVariants as constant
use Rattle.kt_tree.specs.Kinds.{is_scalar, int_type}
use Rattle.kt_typing.specs.declared.builtin.Builtin.{Builtin}
use Rattle.kt_typing.specs.declared.builtin.Builtin.TheVariants as builtin
use Rattle.kt_typing.specs.declared.fault.Fault.{Fault}
use Rattle.kt_typing.specs.declared.standing.Use.{Use}
use Rattle.kt_typing.specs.declared.standing.Use.TheVariants as use_as
use Rattle.kt_typing.specs.Environment.{Environment, type_named}
use Rattle.kt_typing.specs.Faults.{bad_type}
use Rattle.kt_typing.specs.Forms.{Form, Ruled, Parts, NoPart, Part}
use Rattle.kt_typing.specs.declared.standing.Standing.{Standing}
use Rattle.kt_typing.specs.declared.standing.Standing.TheVariants as standing
use Rattle.kt_typing.specs.Operands.{Operand, Value, valued, scalar}
use Rattle.kt_typing.specs.Rules.{wrong, number, constant_at, null_at, meant, size, element, member, pointed, operator, choice, changed, step_operator, one, unary, cast, assignment, with_value, convert}
use Rattle.kt_typing.specs.Calls.{builtin_named, row, uses_of, leaf, meaning_called, row_called}

-- the place of an expression's first token
abbrev pub first_token : Term → ℕ
first_token (Constant at n) = at
first_token (Character at b) = at
first_token (Text at bytes) = at
first_token (Null at) = at
first_token (Eof at) = at
first_token (Named n) = n.at
first_token (Called n args) = n.at
first_token (Parenthesised at a) = at
first_token (SizeOf at t) = at
first_token (RuleValue at w) = at
first_token (OldSymbol at n) = at
first_token (NewObject at f) = at
first_token (Transformed at a) = at
first_token (Element a i) = first_token a
first_token (Member a f) = first_token a
first_token (Pointed a f) = first_token a
first_token (Stepped a op) = first_token a
first_token (Prefixed at op a) = at
first_token (Converted at t a) = at
first_token (Operated op a b) = first_token a
first_token (Chosen c a b) = first_token c
first_token (Assigned op a b) = first_token a

-- parentheses aside, the expression is a string, a name, an allocation

abbrev pub text_in : Term → Option (List ℕ)
text_in (Parenthesised at a) = text_in a
text_in (Text at bytes) = Some bytes
text_in _ = None

abbrev pub name_in : Term → Option Name
name_in (Parenthesised at a) = name_in a
name_in (Named n) = Some n
name_in _ = None

abbrev pub is_allocator : Option Builtin → Bool
is_allocator (Some builtin.Malloc) = true
is_allocator (Some builtin.Calloc) = true
is_allocator _ = false

abbrev pub is_allocation : Term → Bool
is_allocation (Parenthesised at a) = is_allocation a
is_allocation (Called n args) = is_allocator (builtin_named n.word)
is_allocation _ = false

-- the same of the first argument, and how many there are

abbrev pub first_text : Terms → Option (List ℕ)
first_text Nothing = None
first_text (More a rest) = text_in a

abbrev pub first_name : Terms → Option Name
first_name Nothing = None
first_name (More a rest) = name_in a

abbrev pub argument_count : Terms → ℕ
argument_count Nothing = 0
argument_count (More a rest) = suc (argument_count rest)

-- the place where a struct's name is spelled
abbrev pub struct_place : Base → ℕ → ℕ
struct_place (base.Struct n) at = n.at
struct_place _ at = at

-- what the operands of an operator are used as: in a product that counts what is allocated, one may be a size
abbrev pub factor_use : BinaryOperator → Use → Use
factor_use binary.Multiply use_as.Count = use_as.Factor
factor_use _ u = use_as.Value

abbrev pub operand_use : PrefixOperator → Use
operand_use prefix.AddressOf = use_as.Whole
operand_use _ = use_as.Value

-- ---- forms of one, two and three parts (each has as many operands as parts)

abbrev pub on_one : ℕ → (Operand → Result Operand Fault) → List Operand → Result Operand Fault
on_one at rule (x ∷ []) = rule x
on_one at rule xs = Err (bad_type at)

abbrev pub on_two : ℕ → (Operand → Operand → Result Operand Fault) → List Operand → Result Operand Fault
on_two at rule (x ∷ y ∷ []) = rule x y
on_two at rule xs = Err (bad_type at)

abbrev pub on_three : ℕ → (Operand → Operand → Operand → Result Operand Fault) → List Operand → Result Operand Fault
on_three at rule (x ∷ y ∷ z ∷ []) = rule x y z
on_three at rule xs = Err (bad_type at)

-- the parts are used so

abbrev pub of_one : Environment → ℕ → Use → Form → (Operand → Result Operand Fault) → Form
of_one env at u a rule = Ruled None (Part (wrong env u) a NoPart) (on_one at rule)

abbrev pub of_two : Environment → ℕ → Use → Form → Use → Form → (Operand → Operand → Result Operand Fault) → Form
of_two env at u a v b rule = Ruled None (Part (wrong env u) a (Part (wrong env v) b NoPart)) (on_two at rule)

abbrev pub of_three : Environment → ℕ → Use → Form → Form → Form → (Operand → Operand → Operand → Result Operand Fault) → Form
of_three env at u a b c rule = Ruled None (Part (wrong env u) a (Part (wrong env u) b (Part (wrong env u) c NoPart))) (on_three at rule)

-- a call of a built-in call or of what a name stands for
abbrev pub called : Environment → Name → ℕ → Option (List ℕ) → Option Name → Parts → Option Builtin → Form
called env n count text name parts None = meaning_called env n.at count parts (env.name n.word)
called env n count text name parts (Some b) = row_called env n.at count text name parts (row b)

-- what the arguments of a call are used as
abbrev pub argument_uses : Option Builtin → List Use
argument_uses None = []
argument_uses (Some b) = uses_of b

-- ---- expressions

-- the form of an expression that is used so
abbrev mutual
  pub form : Environment → Use → Term → Form
  form env u (Constant at n) = leaf (number env at n)
  form env u (Character at b) = leaf (constant_at env at (constant.Number (pos b)) int_type)
  form env u (Text at bytes) = leaf (constant_at env at (constant.Literal (env.literal at)) env.text)
  form env u (Null at) = leaf (Ok (null_at env at))
  form env u (Eof at) = leaf (constant_at env at (constant.Number (negsuc 0)) int_type)
  form env u (Named n) = leaf (meant n.at n.at (env.name n.word))
  form env u (Called n args) =
      called env n (argument_count args) (first_text args) (first_name args) (parts env (argument_uses (builtin_named n.word)) args) (builtin_named n.word)
  form env u (Parenthesised at a) = form env u a
  form env u (SizeOf at t) = leaf (size env at (struct_place t.base at) t)
  form env u (RuleValue at w) = leaf (meant at at (env.word w))
  form env u (OldSymbol at n) = leaf (meant at n.at (env.old_symbol n.word))
  form env u (NewObject at f) = leaf (Err (bad_type at))
  form env u (Transformed at a) = of_one env at use_as.Value (form env use_as.Value a) (λ x. Err (bad_type at))
  form env u (Element a i) =
      of_two env (first_token a) use_as.Indexed (form env use_as.Indexed a) use_as.Value (form env use_as.Value i) (element env (first_token a))
  form env u (Member a f) = of_one env (first_token a) use_as.Whole (form env use_as.Whole a) (member env (first_token a) f)
  form env u (Pointed a f) = of_one env (first_token a) use_as.Value (form env use_as.Value a) (pointed env (first_token a) f)
  form env u (Stepped a op) =
      of_one env (first_token a) use_as.Value (form env use_as.Value a) (λ x. changed env (first_token a) true (step_operator op) x one)
  form env u (Prefixed at op a) = of_one env at (operand_use op) (form env (operand_use op) a) (unary env at op)
  form env u (Converted at t a) = of_one env at use_as.Value (form env use_as.Value a) (cast env at (is_allocation a) (type_named env t))
  form env u (Operated op a b) =
      of_two env (first_token a) (factor_use op u) (form env (factor_use op u) a) (factor_use op u) (form env (factor_use op u) b) (operator env (first_token a) op)
  form env u (Chosen c a b) =
      of_three env (first_token c) use_as.Value (form env use_as.Value c) (form env use_as.Value a) (form env use_as.Value b) (choice env (first_token c))
  form env u (Assigned op a b) =
      of_two env (first_token a) use_as.Value (form env use_as.Value a) use_as.Value (form env use_as.Value b) (assignment env (first_token a) op)

  -- arguments as parts, the first ones used so, the others as values
  pub parts : Environment → List Use → Terms → Parts
  parts env us Nothing = NoPart
  parts env [] (More a rest) = Part (wrong env use_as.Value) (form env use_as.Value a) (parts env [] rest)
  parts env (u ∷ us) (More a rest) = Part (wrong env u) (form env u a) (parts env us rest)

-- ---- expressions where they stand in a statement

abbrev pub standing_alone : Environment → Term → ℕ → (Operand → Result Operand Fault) → Form
standing_alone env a at rule = of_one env at use_as.Value (form env use_as.Value a) rule

-- an expression whose value, if it has one, is not used
abbrev pub effect_of : Environment → ℕ → Operand → Standing → Result Operand Fault
effect_of env at x standing.Nothing = Ok x
effect_of env at x _ = with_value at (scalar env.scope x) (λ v. Ok (valued at v.ty v.tree))

abbrev pub effect : Environment → Term → Form
effect env a = standing_alone env a (first_token a) (λ x. effect_of env (first_token a) x x.standing)

-- a condition: an integer or a pointer, which may be null
abbrev pub tested : Environment → ℕ → Value → Result Operand Fault
tested env at v = if is_scalar env.scope v.ty then Ok (valued at v.ty v.tree) else Err (bad_type at)

abbrev pub condition : Environment → Term → Form
condition env a = standing_alone env a (first_token a) (λ x. with_value (first_token a) (scalar env.scope x) (tested env (first_token a)))

-- a value that converts to a type, as an initial value or what is returned; the fault where it doesn't is at this place
abbrev pub conversion : Environment → ℕ → ℕ → Term → Form
conversion env t at a = standing_alone env a at (λ x. with_value at (convert env.scope t x) (λ v. Ok (valued at v.ty v.tree)))
