-- What the code keeps of a function and of a place in it.
use Rattle.std.specs.Prelude.{◌≡◌, ◌≤◌, ◌<◌, ◌^◌, ℕ, ◌-◌, List, [], ◌∷◌, ◌++◌, map, take, drop, length, slice_get, Some, if◌then◌else◌, Option, None}
use Rattle.std.specs.Map.{lookup}
use Rattle.std.specs.Str.{bytes_eq}
use Rattle.std.specs.Global.{Vec}
use Rattle.kt_tree.specs.Tree.{LocalRead}
use Rattle.kt_typing.specs.declared.standing.Standing.TheVariants as standing
use Rattle.kt_typing.specs.Environment.{Meaning, Stands}
use Rattle.kt_operands.specs.declared.meaning.Meaning.{Meaning as MeaningCode}
use Rattle.kt_operands.specs.Views.{environment_of, meaning_of, meant_by}
use Rattle.kt_program.specs.Scopes.{Visible, Body, Place}
use Rattle.kt_program.specs.Statements.{behind}
use Rattle.kt_syntax.specs.Tree.{Statements, Nothing, More}
use Rattle.kt_statements.specs.declared.scopes.Body.{Body as BodyCode}
use Rattle.kt_statements.specs.declared.scopes.Local.{Local as LocalCode}
use Rattle.kt_statements.specs.declared.scopes.Scopes.{Scopes as ScopesCode}
use Rattle.kt_statements.specs.declared.mark.Mark.{Mark}

abbrev pub body_of : BodyCode → Body
body_of b = record { environment = environment_of b.environment; result = b.result; names = map (λ l. l.name) b.locals.now }

-- what came last, first
abbrev pub latest_first : {A : Type 0} → List A → List A
latest_first [] = []
latest_first (x ∷ xs) = latest_first xs ++ x ∷ []

abbrev pub visible_of : LocalCode → Visible
visible_of l = record { name = l.name.now; local = l.number }

-- the innermost scope begins behind so many locals
abbrev pub place_of : ScopesCode → Place
place_of s = record {
  visible = map visible_of (latest_first s.locals.items);
  own = map (λ l. l.name.now) (latest_first (drop s.start s.locals.items));
  next = s.next;
  in_loop = s.in_loop;
}

-- what names mean by a map
abbrev pub meaning_in : List (Vec ℕ × MeaningCode) → List ℕ → Meaning
meaning_in es n = meant_by (lookup (λ k. bytes_eq n k.items) es)

-- what names mean where one has this meaning
abbrev pub with : (List ℕ → Meaning) → List ℕ → Meaning → List ℕ → Meaning
with before n m q = if bytes_eq n q then m else before q

-- The names mean the locals in scope, the latest first, each until its meaning is put back; and without all of these what stands
-- outside.
abbrev pub Shows : List ℕ → (List ℕ → Meaning) → (List ℕ → Meaning) → List LocalCode → Type 0
Shows types outer now [] = now ≡ outer
Shows types outer now (l ∷ rest) =
    ((t : ℕ) × (slice_get types l.number ≡ Some t) × (now l.name.now ≡ Stands (standing.Local l.number) t (LocalRead l.number)))
    × Shows types outer (with now l.name.now (meaning_of l.hides)) rest

-- names mean what stands in scope in the function
abbrev pub Shown : BodyCode → ScopesCode → Type 0
Shown b s = Shows (body_of b).environment.scope.locals (body_of b).environment.name (meaning_in s.names.entries) (latest_first s.locals.items)

-- the place of the first of these that has the name; the last of them has the place 0
abbrev pub latest_place : List LocalCode → List ℕ → Option ℕ
latest_place [] name = None
latest_place (l ∷ rest) name = if bytes_eq l.name.now name then Some (length rest) else latest_place rest name

-- under the number of each of these locals its place is kept
abbrev pub Placed : List LocalCode → List ℕ → Type 0
Placed locals places = (p : ℕ) (l : LocalCode) → slice_get locals p ≡ Some l → slice_get places l.number ≡ Some p

pub record Fits (b : BodyCode) (s : ScopesCode) : Type 0 where
  pub start : s.start ≤ length s.locals.items
  pub count : length (body_of b).environment.scope.locals < 2 ^ 32
  pub shown : Shown b s
  pub placed : Placed s.locals.items s.places.items
  pub told : length s.places.items ≡ s.next

-- the mark tells the scope of this place
pub record IsMark (m : Mark) (p : Place) : Type 0 where
  pub count : m.count ≡ length p.visible
  pub start : m.start ≤ m.count
  pub own : p.own ≡ map (λ (v : Visible). v.name) (take (m.count - m.start) p.visible)
  pub in_loop : m.in_loop ≡ p.in_loop

-- what a scope is again behind one inside
abbrev pub left : Mark → Place → Place
left m q =
    let visible = drop (length q.visible - m.count) q.visible in
    record { visible = visible; own = map (λ (v : Visible). v.name) (take (m.count - m.start) visible); next = q.next; in_loop = m.in_loop }

-- behind entries of a block
abbrev pub behind_entries : Place → Statements → Place
behind_entries p Nothing = p
behind_entries p (More s rest) = behind_entries (behind p s) rest
