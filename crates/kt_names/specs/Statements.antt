-- The typing of statements and blocks (ISO/IEC 9899:2011, 6.2.1 and 6.8).
use Rattle.std.specs.Prelude.{ℕ, suc, ◌==◌, ◌&&◌, ◌||◌, not, nat_le, Bool, true, false, List, [], ◌∷◌, take, map, Ok, Option, Some, None, if◌then◌else◌}
use Rattle.std.specs.Option.{is_some}
use Rattle.std.specs.List.{list_any}
use Rattle.std.specs.Str.{bytes_eq}
use Rattle.kt_grammar.specs.declared.tree.Base.{Base}
use Rattle.kt_grammar.specs.declared.tree.Base.TheVariants as base
use Rattle.kt_grammar.specs.declared.tree.Name.{Name}
use Rattle.kt_grammar.specs.Tree.{Term}
use Rattle.kt_syntax.specs.declared.tree.Extent.{Extent}
use Rattle.kt_syntax.specs.declared.tree.Extent.TheVariants as extent
use Rattle.kt_syntax.specs.declared.tree.Pointer.{Pointer}
use Rattle.kt_syntax.specs.Tree.{Local, Declaration, Start, NoStart, Declares, Evaluates, Statement as Syntax, Declared, Compound as Block, Empty, Evaluated as Expr, Returned as Return, Broken as Break, Continued as Continue, Conditional as If, Alternative as IfElse, Looped as While, Repeated as Do, Counted as For, Statements as Entries, Nothing as NoEntries, More as Entry}
use Rattle.kt_names.specs.declared.ctype.CType.{CType}
use Rattle.kt_tree.specs.Tree.{Expression, LocalSet, Statement, Evaluated, Undefined, Compound, Conditional, Looped, Repeated, Returned, Broken, Continued, Statements, Done, Then}
use Rattle.kt_names.specs.declared.fault.CheckFault.TheVariants.{Unknown, Twice, BadType, Incomplete, Note}
use Rattle.kt_names.specs.Checked.{Checked, fault, and_then, both, holds}
use Rattle.kt_names.specs.Environment.{Environment, Visible, Outer, Global, is_complete}
use Rattle.kt_names.specs.Operands.{Operand, NoResult as NoValue, scalar, convert}
use Rattle.kt_names.specs.Builtins.{builtin_named}
use Rattle.kt_names.specs.Terms.{typing, first_token}
use Rattle.kt_names.specs.Types.{is_integer, is_scalar, ctype}
use Rattle.kt_names.specs.Uses.{stars_of}

-- what holds in the whole body of a function: its result, the names of its locals in the order of their declarations
pub record Body : Type 0 where
  pub environment : Environment
  pub result : Option CType
  pub names : List (List ℕ)

-- where a body is typed: the locals in scope, the names of the innermost scope, and how many locals were declared before
pub record State : Type 0 where
  pub visible : List Visible
  pub own : List (List ℕ)
  pub next : ℕ

abbrev pub here : Body → State → Environment
here body s = record body.environment { visible = s.visible }

-- a new scope inside
abbrev pub entered : State → State
entered s = record s { own = [] }

abbrev pub contains : List (List ℕ) → List ℕ → Bool
contains names n = list_any (λ m. bytes_eq m n) names

-- a name is declared as the next local
abbrev pub declared : State → List ℕ → State
declared s n = record { visible = record { name = n; local = s.next } ∷ s.visible; own = n ∷ s.own; next = suc s.next }

-- ---- declarators

-- the place of a declarator's first token
abbrev pub declarator_place : Option Pointer → Name → ℕ
declarator_place None n = n.at
declarator_place (Some p) n = p.stars.at

-- where a base names a struct
abbrev pub struct_place : Base → ℕ
struct_place (base.Struct n) = n.at
struct_place _ = 0

-- A struct that one of these declarators declares by value is defined before; they have so many stars. (The struct's name
-- stands before all of them.)
abbrev pub base_for : Environment → Base → List ℕ → Checked (Unit {0})
base_for env b stars = holds (not (list_any (λ n. n == 0) stars) || is_complete env (ctype env.names b 0)) (Incomplete (struct_place b))

-- what a function may hold: an integer or a pointer
abbrev pub held : Environment → Base → Option Pointer → Name → Checked (Unit {0})
held env b p n = holds (is_scalar (ctype env.names b (stars_of p))) (BadType (declarator_place p n))

-- an integer global that is no array
abbrev pub is_count : Option Outer → Bool
is_count (Some (Global g t array)) = not array && is_integer t
is_count _ = false

-- `E_PTRARRAY` outside a struct names a global or a number of at most 65,536
abbrev pub extent_outside : Environment → Extent → Checked (Unit {0})
extent_outside env (extent.Name n) = holds (is_count (env.outer n.word)) (Unknown n.at)
extent_outside env (extent.Number at n) = holds (nat_le n.value 65536) (Unknown at)

-- a pointer's extent outside a struct (the parser gives no pointer without a star)
abbrev pub pointer_outside : Environment → Option Pointer → Checked (Unit {0})
pointer_outside env None = Ok tt
pointer_outside env (Some p) =
    if p.stars.count == 0 then fault (BadType p.stars.at)
    else (elim p.extent as (λ _. Checked (Unit {0})) [ None ↦ Ok tt | (Some e) ↦ extent_outside env e ])

-- a local's or parameter's name: no built-in call's, once in its scope, once in a function with `E_NOTELOCALS`
abbrev pub new_name : Body → State → Name → Checked (Unit {0})
new_name body s n =
    if is_some (builtin_named n.word) || contains s.own n.word then fault (Twice n.at)
    else holds (not (body.environment.noted && contains (take s.next body.names) n.word)) (Note n.at)

-- a local's initial value, in whose scope the local is
abbrev pub initial : Body → State → ℕ → CType → ℕ → Option Term → Checked Statement
initial body s x t up None = Ok (Undefined x)
initial body s x t up (Some e) =
    and_then (typing (here body s) e)
    (λ o. and_then (convert (here body s) t (first_token e) up o) (λ v. Ok (Evaluated (LocalSet x v))))

-- one local, and the scope behind it
abbrev pub local : Body → State → Base → Local → Checked (Statement × State)
local body s b l =
    and_then
    (both (held (here body s) b l.pointer l.name)
    (both (pointer_outside (here body s) l.pointer)
    (both (new_name body s l.name)
    (initial body (declared s l.name.word) s.next (ctype body.environment.names b (stars_of l.pointer)) (declarator_place l.pointer l.name) l.initial))))
    (λ x. Ok (x.1.1.1, declared s l.name.word))

abbrev pub locals_from : Body → State → Base → List Local → Checked (List Statement × State)
locals_from body s b [] = Ok ([], s)
locals_from body s b (l ∷ rest) = and_then (local body s b l) (λ x. and_then (locals_from body x.1 b rest) (λ y. Ok (x.0 ∷ y.0, y.1)))

-- locals of one base
abbrev pub locals : Body → State → Declaration → Checked (List Statement × State)
locals body s d = and_then (base_for (here body s) d.base (map (λ l. stars_of l.pointer) d.locals)) (λ x. locals_from body s d.base d.locals)

abbrev pub before : List Statement → Statements → Statements
before [] rest = rest
before (s ∷ more) rest = Then s (before more rest)

-- ---- expressions as parts of statements

-- an expression whose value, if it has one, is dropped
abbrev pub effect : Environment → ℕ → Operand → Checked Expression
effect env at (NoValue e) = Ok e
effect env at x = and_then (scalar env at at x) (λ v. Ok v.expression)

abbrev pub effect_of : Environment → Term → Checked Expression
effect_of env e = and_then (typing env e) (effect env (first_token e))

-- a condition is an integer or a pointer
abbrev pub condition : Environment → Term → Checked Expression
condition env e = and_then (typing env e) (λ o. and_then (scalar env (first_token e) (first_token e) o) (λ v. Ok v.expression))

abbrev pub perhaps : {A B : Type 0} → (A → Checked B) → Option A → Checked (Option B)
perhaps f None = Ok None
perhaps f (Some x) = and_then (f x) (λ y. Ok (Some y))

-- what is returned, in a function with a result or without
abbrev pub returned : Body → State → ℕ → Option Term → Checked Statement
returned body s at None = if is_some body.result then fault (BadType at) else Ok (Returned None)
returned body s at (Some e) = elim body.result as (λ _. Checked Statement) [
  | None ↦ fault (BadType at)
  | (Some t) ↦ and_then (typing (here body s) e) (λ o. and_then (convert (here body s) t (first_token e) (first_token e) o) (λ v. Ok (Returned (Some v))))
]

-- ---- statements

-- what stands first in a `for`, and the scope behind it
abbrev pub start : Body → State → Start → Checked (List Statement × State)
start body s NoStart = Ok ([], s)
start body s (Declares x) = locals body s x
start body s (Evaluates e) = and_then (effect_of (here body s) e) (λ v. Ok (Evaluated v ∷ [], s))

-- The typing of a statement, with the number of locals declared behind it; in a loop or not. What stands behind a fault is
-- not judged: its places are greater.
abbrev mutual
  pub statement : Body → Bool → State → Syntax → Checked (Statement × ℕ)
  -- (a declaration is an entry of a block alone)
  statement body in_loop s (Declared x) = and_then (locals body (entered s) x) (λ d. Ok (Compound (before d.0 Done), d.1.next))
  statement body in_loop s (Block es) = and_then (entries body in_loop (entered s) es) (λ x. Ok (Compound x.0, x.1))
  statement body in_loop s Empty = Ok (Compound Done, s.next)
  statement body in_loop s (Expr e) = and_then (effect_of (here body s) e) (λ v. Ok (Evaluated v, s.next))
  statement body in_loop s (Return at e) = and_then (returned body s at e) (λ r. Ok (r, s.next))
  statement body in_loop s (Break at) = if in_loop then Ok (Broken, s.next) else fault (BadType at)
  statement body in_loop s (Continue at) = if in_loop then Ok (Continued, s.next) else fault (BadType at)
  statement body in_loop s (If c a) =
      and_then (condition (here body s) c) (λ v. and_then (statement body in_loop s a) (λ x. Ok (Conditional v x.0 (Compound Done), x.1)))
  statement body in_loop s (IfElse c a b) =
      and_then (condition (here body s) c)
      (λ v. and_then (statement body in_loop s a) (λ x. and_then (statement body in_loop (record s { next = x.1 }) b) (λ y. Ok (Conditional v x.0 y.0, y.1))))
  statement body in_loop s (While c a) =
      and_then (condition (here body s) c) (λ v. and_then (statement body true s a) (λ x. Ok (Looped (Some v) None x.0, x.1)))
  statement body in_loop s (Do a c) =
      and_then (statement body true s a) (λ x. and_then (condition (here body s) c) (λ v. Ok (Repeated x.0 v, x.1)))
  statement body in_loop s (For first test step a) =
      and_then (start body (entered s) first)
      (λ f. and_then (perhaps (condition (here body f.1)) test)
      (λ t. and_then (perhaps (effect_of (here body f.1)) step)
      (λ u. and_then (statement body true f.1 a) (λ x. Ok (Compound (before f.0 (Then (Looped t u x.0) Done)), x.1)))))

  -- the entries of a block
  pub entries : Body → Bool → State → Entries → Checked (Statements × ℕ)
  entries body in_loop s NoEntries = Ok (Done, s.next)
  entries body in_loop s (Entry (Declared x) rest) =
      and_then (locals body s x) (λ d. and_then (entries body in_loop d.1 rest) (λ y. Ok (before d.0 y.0, y.1)))
  entries body in_loop s (Entry e rest) =
      and_then (statement body in_loop s e) (λ x. and_then (entries body in_loop (record s { next = x.1 }) rest) (λ y. Ok (Then x.0 y.0, y.1)))
