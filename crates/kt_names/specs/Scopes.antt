-- What the code's scopes and bodies of functions stand for.
use Rattle.std.specs.Prelude.{ℕ, ◌≡◌, Bool, List, [], ◌∷◌, ◌++◌, length, map, drop, Ok, Option, Some, None}
use Rattle.std.specs.Option.{option_map}
use Rattle.kt_grammar.specs.Tree.{Term}
use Rattle.kt_syntax.specs.declared.tree.Parameter.{Parameter}
use Rattle.kt_syntax.specs.Tree.{Routine, Declaration, Start, Statement as Syntax, Declared, Compound as Block, Empty, Evaluated as Expr, Returned as Return, Broken as Break, Continued as Continue, Conditional as If, Alternative as IfElse, Looped as While, Repeated as Do, Counted as For}
use Rattle.kt_tree.specs.declared.expr.Expr.{Expr as ExprCode}
use Rattle.kt_tree.specs.declared.stmt.Stmt.{Stmt}
use Rattle.kt_tree.specs.Tree.{Expression, Statement, Function, Compound, Looped, Returned, Done, Then, expression_of, statement_of, function_of}
use Rattle.kt_tree.specs.declared.function.Fun.{Fun}
use Rattle.kt_names.specs.declared.ctype.CType.{CType}
use Rattle.kt_names.specs.declared.info.LocalInfo.{LocalInfo}
use Rattle.kt_names.specs.declared.info.FunctionInfo.{FunctionInfo}
use Rattle.kt_names.specs.declared.info.Visible.{Visible as VisibleCode}
use Rattle.kt_names.specs.declared.info.Scopes.{Scopes as ScopesCode}
use Rattle.kt_names.specs.declared.body.Body.{Body as BodyCode}
use Rattle.kt_names.specs.declared.head.Head.{Head as HeadCode}
use Rattle.kt_names.specs.Checked.{Checked, and_then, both}
use Rattle.kt_names.specs.Environment.{Environment}
use Rattle.kt_names.specs.Operands.{Operand, scalar, convert}
use Rattle.kt_names.specs.Uses.{stars_of}
use Rattle.kt_names.specs.Statements.{Body, State, here, entered, declared, base_for, held, pointer_outside, new_name, locals, before, condition, effect_of, perhaps, start, statement}
use Rattle.kt_types.specs.declared.kinds.FieldDecl.{FieldDecl}
use Rattle.kt_names.specs.Tables.{DeclaredLocal, view_of}
use Rattle.kt_names.specs.Views.{latest_first, visible_of, environment_of}

-- the names of what is visible
abbrev pub names_of : List VisibleCode → List (List ℕ)
names_of vs = map (λ v. v.name.items) vs

abbrev pub state_of : ScopesCode → State
state_of s = record {
  visible = map visible_of (latest_first s.visible);
  own = names_of (latest_first (drop s.start s.visible));
  next = s.next;
}

-- what is visible is what was visible; only the number of locals may have grown
abbrev pub Kept : ScopesCode → ScopesCode → Type 0
Kept old new = (new.visible ≡ old.visible) × (new.start ≡ old.start)

-- names were declared in the innermost scope
abbrev pub Grown : ScopesCode → ScopesCode → Type 0
Grown old new = (more : List VisibleCode) × (new.visible ≡ old.visible ++ more) × (new.start ≡ old.start)

-- a local as the syntax has it
abbrev pub declared_as : LocalInfo → DeclaredLocal
declared_as l = record { name = l.name.now; ty = l.ty; base = l.base.now; pointer = l.pointer.now }

abbrev pub local_names : List LocalInfo → List (List ℕ)
local_names ls = map (λ l. l.name.now) ls

-- the parts of a local
abbrev pub part_of : {A B C : Type 0} → A × (B × (C × Stmt)) → Unit {0} × (Unit {0} × (Unit {0} × Statement))
part_of x = (tt, (tt, (tt, statement_of x.1.1.1)))

abbrev pub body_of : BodyCode → Body
body_of b = record {
  environment = record (environment_of b.outside.now) { locals = b.types.now; noted = b.noted };
  result = b.result;
  names = local_names b.locals.now;
}

-- an integer or a pointer, as an expression
abbrev pub scalar_of : Environment → ℕ → Operand → Checked Expression
scalar_of env at x = and_then (scalar env at at x) (λ v. Ok v.expression)

-- the return of a value of a type
abbrev pub returned_of : Environment → CType → ℕ → Operand → Checked Statement
returned_of env t at x = and_then (convert env t at at x) (λ v. Ok (Returned (Some v)))

-- ---- statements

-- the locals that a statement declares, if it is a declaration
abbrev pub declared_in : Syntax → Option Declaration
declared_in (Declared d) = Some d
declared_in (Block es) = None
declared_in Empty = None
declared_in (Expr e) = None
declared_in (Return at e) = None
declared_in (Break at) = None
declared_in (Continue at) = None
declared_in (If c a) = None
declared_in (IfElse c a b) = None
declared_in (While c a) = None
declared_in (Do a c) = None
declared_in (For first test step a) = None

-- a declaration of locals where a statement stands
abbrev pub alone : Body → State → Declaration → Checked (Statement × ℕ)
alone body s x = and_then (locals body (entered s) x) (λ d. Ok (Compound (before d.0 Done), d.1.next))

-- a condition and the statement behind it
abbrev pub tested_in : Body → Bool → State → Term → Syntax → Checked ((Expression × Statement) × ℕ)
tested_in body in_loop s c a = and_then (condition (here body s) c) (λ v. and_then (statement body in_loop s a) (λ x. Ok ((v, x.0), x.1)))

pub record Heading : Type 0 where
  pub first : List Statement
  pub test : Option Expression
  pub step : Option Expression

-- ... with what is evaluated after each body
abbrev pub heading : List Statement → Option Expression → Option Expression → Checked Heading
heading first test step = Ok (record { first = first; test = test; step = step })

-- ... with its test
abbrev pub heading_tested : Environment → List Statement → Option Term → Option Expression → Checked Heading
heading_tested env first step test = and_then (perhaps (effect_of env) step) (heading first test)

-- what stands before the body of a `for`, and the scope behind it
abbrev pub head_in : Body → State → Start → Option Term → Option Term → Checked (Heading × State)
head_in body s first test step =
    and_then (start body s first)
    (λ f. and_then (perhaps (condition (here body f.1)) test)
    (λ t. and_then (perhaps (effect_of (here body f.1)) step) (λ u. Ok (record { first = f.0; test = t; step = u }, f.1))))

-- a `for` as a block: what stands before the loop, and the loop
abbrev pub for_of : Heading → Statement → Statement
for_of h inner = Compound (before h.first (Then (Looped h.test h.step inner) Done))

abbrev pub head_of : HeadCode → Heading
head_of h = record { first = map statement_of h.first; test = option_map expression_of h.test; step = option_map expression_of h.step }

abbrev pub pair_of : ExprCode × Stmt → Expression × Statement
pair_of p = (expression_of p.0, statement_of p.1)

-- ---- functions

-- the body of a function of which this is known
abbrev pub body_by : Environment → FunctionInfo → Body
body_by env f = record { environment = record env { locals = f.types.items; noted = f.noted }; result = f.result; names = local_names f.locals.items }

-- the parts of a parameter
abbrev pub parameter_parts : Body → State → Parameter → Checked (Unit {0} × (Unit {0} × Unit {0}))
parameter_parts body s p = both (held body.environment p.base p.pointer p.name) (both (pointer_outside body.environment p.pointer) (new_name body s p.name))

-- ... and the scope behind it
abbrev pub parameter_behind : Body → State → Parameter → Checked State
parameter_behind body s p = and_then (parameter_parts body s p) (λ x. Ok (declared s p.name.word))

-- one parameter, and the scope behind it
abbrev pub parameter_in : Body → State → Parameter → Checked State
parameter_in body s p = and_then (base_for body.environment p.base (stars_of p.pointer ∷ [])) (λ y. and_then (parameter_parts body s p) (λ x. Ok (declared s p.name.word)))

-- a local as the version has it
abbrev pub local_field : Environment → DeclaredLocal → FieldDecl
local_field env l = record { name = l.name; ty = env.place l.ty; view = view_of env.outer l.base l.pointer }

-- a function of which this is known, with its body
abbrev pub typed_by : Environment → Routine → FunctionInfo → Statement → Function
typed_by env r f body = record {
  name = r.name.word;
  result = option_map env.place f.result;
  params = length r.parameters;
  noted = f.noted;
  locals = map (λ l. local_field env (declared_as l)) f.locals.items;
  body = body;
}

-- a function, if there is one
abbrev pub functions_of : Option Fun → List Function
functions_of None = []
functions_of (Some f) = function_of f ∷ []
