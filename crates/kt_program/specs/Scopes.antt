-- What names stand for inside a function (ISO/IEC 9899:2011, 6.2.1).
use Rattle.std.specs.Prelude.{ℕ, suc, ◌+◌, Bool, true, ◌&&◌, not, List, [], ◌∷◌, take, slice_get, Option, Some, None, if◌then◌else◌}
use Rattle.std.specs.List.{list_any}
use Rattle.std.specs.Str.{bytes_eq}
use Rattle.std.specs.Option.{is_some}
use Rattle.kt_tree.specs.Tree.{LocalRead}
use Rattle.kt_typing.specs.declared.standing.Standing.TheVariants as standing
use Rattle.kt_typing.specs.Calls.{builtin_named}
use Rattle.kt_typing.specs.Environment.{Environment, Meaning, Missing, Stands}

-- a name that is in scope, and the number of its local
pub record Visible : Type 0 where
  pub name : List ℕ
  pub local : ℕ

-- what holds in all of a function: the environment of what stands outside its locals, with the types of these; the type of its
-- result; and the names of its locals, parameters first, in the order of their declarations
pub record Body : Type 0 where
  pub environment : Environment
  pub result : Option ℕ
  pub names : List (List ℕ)

-- a place in a function: the locals in scope, the innermost first; the names that the innermost scope has declared; how many
-- locals were declared before; and whether a loop is around it
pub record Place : Type 0 where
  pub visible : List Visible
  pub own : List (List ℕ)
  pub next : ℕ
  pub in_loop : Bool

-- the local that a name stands for: the innermost one hides the others
abbrev pub local_named : List Visible → List ℕ → Option ℕ
local_named [] name = None
local_named (v ∷ rest) name = if bytes_eq v.name name then Some v.local else local_named rest name

-- a local is a place of its type
abbrev pub local_place : ℕ → Option ℕ → Meaning
local_place x None = Missing
local_place x (Some t) = Stands (standing.Local x) t (LocalRead x)

-- what a name stands for: a local that is in scope, or else what it stands for outside
abbrev pub meaning : Environment → Option ℕ → Meaning → Meaning
meaning env None outer = outer
meaning env (Some x) outer = local_place x (slice_get env.scope.locals x)

-- the environment of an expression at a place
abbrev pub here : Body → Place → Environment
here body p = record body.environment { name = λ n. meaning body.environment (local_named p.visible n) (body.environment.name n) }

-- a scope inside
abbrev pub entered : Place → Place
entered p = record p { own = [] }

abbrev pub looped : Place → Place
looped p = record p { in_loop = true }

-- behind a declarator
abbrev pub declared : Place → List ℕ → Place
declared p n = record p { visible = record { name = n; local = p.next } ∷ p.visible; own = n ∷ p.own; next = suc p.next }

-- behind scopes in which so many locals are declared
abbrev pub passed : Place → ℕ → Place
passed p n = record p { next = p.next + n }

abbrev pub contains : List (List ℕ) → List ℕ → Bool
contains names n = list_any (λ m. bytes_eq m n) names

-- a name stands once in a scope, and no built-in call can be declared
abbrev pub is_new : Place → List ℕ → Bool
is_new p n = not (is_some (builtin_named n)) && not (contains p.own n)

-- in a function with `E_NOTELOCALS` each name of a local stands once
abbrev pub is_noted_once : Body → Place → List ℕ → Bool
is_noted_once body p n = not (body.environment.scope.noted && contains (take p.next body.names) n)
