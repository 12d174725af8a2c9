-- What is typed, or its faults.
use Rattle.std.specs.Prelude.{ℕ, Bool, true, false, nat_lt, ◌==◌, ◌&&◌, ◌||◌, List, [], ◌∷◌, ◌++◌, Result, Ok, Err, Option, Some, None, if◌then◌else◌}
use Rattle.kt_names.specs.declared.fault.CheckFault.{CheckFault}
use Rattle.kt_names.specs.declared.fault.CheckFault.TheVariants.{Unknown, Twice, BadType, Incomplete, TooBig, Entry, Note, NoMain, NoMemory}

-- one fault or more
pub record Faults : Type 0 where
  pub one : CheckFault
  pub more : List CheckFault

abbrev pub Checked : Type 0 → Type 0
Checked A = Result A Faults

-- the faults of the one and of the other
abbrev pub with_faults : Faults → Faults → Faults
with_faults f g = record { one = f.one; more = f.more ++ g.one ∷ g.more }

-- a fault alone
abbrev pub fault : {A : Type 0} → CheckFault → Checked A
fault f = Err (record { one = f; more = [] })

-- what depends on what was typed before
abbrev pub and_then : {A B : Type 0} → Checked A → (A → Checked B) → Checked B
and_then (Ok x) f = f x
and_then (Err faults) f = Err faults

-- two parts that are judged both
unfoldable pub both : {A B : Type 0} → Checked A → Checked B → Checked (A × B)
both (Ok x) (Ok y) = Ok (x, y)
both (Ok x) (Err g) = Err g
both (Err f) (Ok y) = Err f
both (Err f) (Err g) = Err (with_faults f g)

-- all of a list
abbrev pub all : {A : Type 0} → List (Checked A) → Checked (List A)
all [] = Ok []
all (c ∷ rest) = and_then (both c (all rest)) (λ x. Ok (x.0 ∷ x.1))

-- the fault, unless the test holds
abbrev pub holds : Bool → CheckFault → Checked (Unit {0})
holds true f = Ok tt
holds false f = fault f

-- the value, where it is there; else the fault
abbrev pub found : {A : Type 0} → Option A → CheckFault → Checked A
found None f = fault f
found (Some x) f = Ok x

-- ---- the first fault

abbrev pub place_of : CheckFault → ℕ
place_of (Unknown at) = at
place_of (Twice at) = at
place_of (BadType at) = at
place_of (Incomplete at) = at
place_of (TooBig at) = at
place_of (Entry at) = at
place_of (Note at) = at
place_of (NoMain at) = at
place_of NoMemory = 0

abbrev pub rank_of : CheckFault → ℕ
rank_of (Unknown at) = 0
rank_of (Twice at) = 1
rank_of (BadType at) = 2
rank_of (Incomplete at) = 3
rank_of (TooBig at) = 4
rank_of (Entry at) = 5
rank_of (Note at) = 6
rank_of (NoMain at) = 7
rank_of NoMemory = 8

-- of a lesser place, or at one place of an earlier kind
abbrev pub is_before : CheckFault → CheckFault → Bool
is_before f g = nat_lt (place_of f) (place_of g) || ((place_of f == place_of g) && nat_lt (rank_of f) (rank_of g))

abbrev pub least : CheckFault → List CheckFault → CheckFault
least f [] = f
least f (g ∷ rest) = least (if is_before g f then g else f) rest

-- what is typed, or the first of its faults
abbrev pub first : {A : Type 0} → Checked A → Result A CheckFault
first (Ok x) = Ok x
first (Err faults) = Err (least faults.one faults.more)
