-- What is judged of statements, and what they give (ISO/IEC 9899:2011, 6.7 and 6.8).
use Rattle.std.specs.Prelude.{ℕ, ◌+◌, not, List, [], ◌∷◌, length, map, slice_get, Option, Some, None}
use Rattle.std.specs.Option.{is_some}
use Rattle.kt_grammar.specs.declared.tree.Base.{Base}
use Rattle.kt_grammar.specs.Tree.{Term}
use Rattle.kt_syntax.specs.Tree.{Local, Declaration, Start, NoStart, Declares, Evaluates, Statement, Declared, Compound, Empty, Evaluated, Returned, Broken, Continued, Conditional, Alternative, Looped, Repeated, Counted, Statements, Nothing, More}
use Rattle.kt_tree.specs.Tree as typed
use Rattle.kt_tree.specs.Tree.{LocalSet}
use Rattle.kt_typing.specs.declared.fault.Fault.{Fault}
use Rattle.kt_typing.specs.Environment.{Environment}
use Rattle.kt_typing.specs.Faults.{fault_at, bad_type}
use Rattle.kt_typing.specs.declared.fault.Kind.TheVariants as kind
use Rattle.kt_typing.specs.Terms.{effect, condition, conversion, first_token}
use Rattle.kt_program.specs.Declarators.{where_not, declarator_place, base_fault, held_fault, extent_fault, extent_of}
use Rattle.kt_program.specs.Judgments.{Judgment, Expressed, Held, Judgments, NoMore, And}
use Rattle.kt_program.specs.Mentioned.{stars_of}
use Rattle.kt_program.specs.Made.{Made, Value, Lines, as_one, joined, block, the_one}
use Rattle.kt_program.specs.Scopes.{Body, Place, here, entered, looped, declared, passed, is_new, is_noted_once}

-- ---- what comes of parts

abbrev pub one_line : typed.Statement → List Made → Made
one_line s ms = Lines (s ∷ [])

abbrev pub evaluated : List Made → Made
evaluated (Value e ∷ []) = Lines (typed.Evaluated e ∷ [])
evaluated ms = Lines []

abbrev pub set_local : ℕ → List Made → Made
set_local x (Value e ∷ []) = Lines (typed.Evaluated (LocalSet x e) ∷ [])
set_local x ms = Lines []

abbrev pub returned : List Made → Made
returned (Value e ∷ []) = Lines (typed.Returned (Some e) ∷ [])
returned ms = Lines []

abbrev pub conditional : List Made → Made
conditional (Value c ∷ Lines a ∷ []) = Lines (typed.Conditional c (as_one a) (typed.Compound typed.Done) ∷ [])
conditional (Value c ∷ Lines a ∷ Lines b ∷ []) = Lines (typed.Conditional c (as_one a) (as_one b) ∷ [])
conditional ms = Lines []

abbrev pub while_loop : List Made → Made
while_loop (Value c ∷ Lines a ∷ []) = Lines (typed.Looped (Some c) None (as_one a) ∷ [])
while_loop ms = Lines []

abbrev pub repeated : List Made → Made
repeated (Lines a ∷ Value c ∷ []) = Lines (typed.Repeated (as_one a) c ∷ [])
repeated ms = Lines []

abbrev pub value_of : Made → Option typed.Expression
value_of (Value e) = Some e
value_of (Lines xs) = None

-- what stands first, the test, the step and the body; a test or step that isn't there gives no value
abbrev pub for_loop : List Made → Made
for_loop (Lines first ∷ test ∷ step ∷ Lines a ∷ []) =
    block (Lines first ∷ Lines (typed.Looped (value_of test) (value_of step) (as_one a) ∷ []) ∷ [])
for_loop ms = Lines []

-- ---- judgments of one part

-- a judgment, under a condition
abbrev pub under : Option Fault → Judgment → Judgment
under broken j = Held broken (And j NoMore) the_one

abbrev pub of_expression : (List Made → Made) → Judgment → Judgment
of_expression how j = Held None (And j NoMore) how

-- nothing where there is nothing
abbrev pub absent : Judgment
absent = Held None NoMore joined

abbrev pub perhaps : (Term → Judgment) → Option Term → Judgment
perhaps judge None = absent
perhaps judge (Some e) = judge e

-- ---- locals

abbrev pub twice_fault : Place → List ℕ → ℕ → Option Fault
twice_fault p n at = where_not (is_new p n) (fault_at kind.Twice at)

abbrev pub note_fault : Body → Place → List ℕ → ℕ → Option Fault
note_fault body p n at = where_not (is_noted_once body p n) (fault_at kind.Note at)

-- an initial value converts to the type of the local
abbrev pub initial_by : Environment → ℕ → ℕ → Term → Option ℕ → Judgment
initial_by env x at e None = Expressed (effect env e)
initial_by env x at e (Some t) = of_expression (set_local x) (Expressed (conversion env t at e))

abbrev pub initial : Body → Place → ℕ → ℕ → Option Term → Judgment
initial body p x at None = Held None NoMore (one_line (typed.Undefined x))
initial body p x at (Some e) = initial_by (here body p) x at e (slice_get body.environment.scope.locals x)

-- a local, which is in scope in its own initial value
abbrev pub local : Body → Place → Base → Local → Judgment
local body p b l =
    under (held_fault body.environment b l.pointer l.name)
    (under (extent_fault body.environment (extent_of l.pointer))
    (under (twice_fault p l.name.word l.name.at)
    (under (note_fault body p l.name.word l.name.at)
    (initial body (declared p l.name.word) p.next (declarator_place l.pointer l.name) l.initial))))

abbrev pub locals : Body → Place → Base → List Local → Judgments
locals body p b [] = NoMore
locals body p b (l ∷ rest) = And (local body p b l) (locals body (declared p l.name.word) b rest)

abbrev pub behind_locals : Place → List Local → Place
behind_locals p [] = p
behind_locals p (l ∷ rest) = behind_locals (declared p l.name.word) rest

abbrev pub declaration : Body → Place → Declaration → Judgment
declaration body p d = Held (base_fault body.environment d.base (map (λ l. stars_of l.pointer) d.locals)) (locals body p d.base d.locals) joined

-- ---- statements

abbrev pub start : Body → Place → Start → Judgment
start body p NoStart = absent
start body p (Declares d) = declaration body p d
start body p (Evaluates e) = of_expression evaluated (Expressed (effect (here body p) e))

abbrev pub behind_start : Place → Start → Place
behind_start p NoStart = p
behind_start p (Declares d) = behind_locals p d.locals
behind_start p (Evaluates e) = p

abbrev pub start_locals : Start → ℕ
start_locals NoStart = 0
start_locals (Declares d) = length d.locals
start_locals (Evaluates e) = 0

-- how many locals are declared in a statement
abbrev mutual
  pub locals_in : Statement → ℕ
  locals_in (Declared d) = length d.locals
  locals_in (Compound es) = locals_among es
  locals_in (Conditional c a) = locals_in a
  locals_in (Alternative c a b) = locals_in a + locals_in b
  locals_in (Looped c a) = locals_in a
  locals_in (Repeated a c) = locals_in a
  locals_in (Counted first test step a) = start_locals first + locals_in a
  locals_in _ = 0

  pub locals_among : Statements → ℕ
  locals_among Nothing = 0
  locals_among (More s rest) = locals_in s + locals_among rest

-- behind an entry of a block
abbrev pub behind : Place → Statement → Place
behind p (Declared d) = behind_locals p d.locals
behind p s = passed p (locals_in s)

-- what is returned: an expression exactly where the function has a result, to whose type it converts
abbrev pub returned_value : Environment → ℕ → Option Term → Option ℕ → Judgment
returned_value env at None result = Held (where_not (not (is_some result)) (bad_type at)) NoMore (one_line (typed.Returned None))
returned_value env at (Some e) None = under (Some (bad_type at)) (Expressed (effect env e))
returned_value env at (Some e) (Some t) = of_expression returned (Expressed (conversion env t (first_token e) e))

abbrev mutual
  pub statement : Body → Place → Statement → Judgment
  statement body p (Declared d) = declaration body p d
  statement body p (Compound es) = Held None (entries body (entered p) es) block
  statement body p Empty = Held None NoMore block
  statement body p (Evaluated e) = of_expression evaluated (Expressed (effect (here body p) e))
  statement body p (Returned at e) = returned_value (here body p) at e body.result
  statement body p (Broken at) = Held (where_not p.in_loop (bad_type at)) NoMore (one_line typed.Broken)
  statement body p (Continued at) = Held (where_not p.in_loop (bad_type at)) NoMore (one_line typed.Continued)
  statement body p (Conditional c a) = Held None (And (Expressed (condition (here body p) c)) (And (statement body p a) NoMore)) conditional
  statement body p (Alternative c a b) =
      Held None (And (Expressed (condition (here body p) c)) (And (statement body p a) (And (statement body (passed p (locals_in a)) b) NoMore))) conditional
  statement body p (Looped c a) = Held None (And (Expressed (condition (here body p) c)) (And (statement body (looped p) a) NoMore)) while_loop
  statement body p (Repeated a c) = Held None (And (statement body (looped p) a) (And (Expressed (condition (here body p) c)) NoMore)) repeated
  -- (a block for the locals of its header)
  statement body p (Counted first test step a) =
      let q = behind_start (entered p) first in
      Held None
      (And (start body (entered p) first)
      (And (perhaps (λ e. Expressed (condition (here body q) e)) test)
      (And (perhaps (λ e. Expressed (effect (here body q) e)) step)
      (And (statement body (looped q) a) NoMore)))) for_loop

  pub entries : Body → Place → Statements → Judgments
  entries body p Nothing = NoMore
  entries body p (More s rest) = And (statement body p s) (entries body (behind p s) rest)
