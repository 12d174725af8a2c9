-- Which heap objects and literals an update reaches.
use Rattle.std.specs.Prelude.{◌≡◌, ℕ, zero, suc, ◌<◌, Bool, true, false, List, [], ◌∷◌, ◌++◌, flat_map, Option, None, Some, Result, Ok, if◌then◌else◌}
use Rattle.std.specs.List.{list_any}
use Rattle.kt_mem.specs.declared.memory.Name.{Name}
use Rattle.kt_mem.specs.declared.memory.Name.TheVariants.{Glob, Lit, Heap}
use Rattle.kt_mem.specs.declared.memory.Value.TheVariants.{Ptr}
use Rattle.kt_mem.specs.declared.steps.Trap.{Trap}
use Rattle.kt_mem.specs.Memory.{Memory, Object}
use Rattle.kt_mem.specs.Values.{name_eq}
use Rattle.xf_plan.specs.Plan.{Plan}
use Rattle.xf_plan.specs.Spots.{Spot, fault_at, heap_spots, root_spots}
use Rattle.xf_plan.specs.declared.place.Root.{Root}
use Rattle.xf_plan.specs.declared.place.Why.{Why}
use Rattle.xf_plan.specs.declared.value.PreValue.{PreValue}
use Rattle.xf_plan.specs.declared.value.PreValue.TheVariants.{OldPointer}

-- ---- where places lead

-- a global isn't reached: it has its own in the new version
abbrev pub is_moved : Name → Bool
is_moved (Glob g) = false
is_moved (Lit v i) = true
is_moved (Heap a) = true

abbrev pub if_live : Name → Option Object → List Name
if_live n None = []
if_live n (Some o) = if is_moved n then n ∷ [] else []

abbrev pub pointed : Memory → Result PreValue Trap → List Name
pointed m (Ok (OldPointer (Ptr n k))) = if_live n (m.at n)
pointed m v = []

abbrev pub unless_faulty : Option Why → List Name → List Name
unless_faulty None names = names
unless_faulty (Some w) names = []

-- the live heap object or literal to which the faultless pre-value at a place points
abbrev pub target : Plan → Memory → Spot → List Name
target p m s = unless_faulty (fault_at p m s) (pointed m s.pre)

abbrev pub targets : Plan → Memory → List Spot → List Name
targets p m spots = flat_map (target p m) spots

abbrev pub is_among : List Name → Name → Bool
is_among names n = list_any (name_eq n) names

-- ---- paths

-- a root place leads to the object, or a place of the image of a heap object that is reached does
pub data IsReached (p : Plan) (m : Memory) (roots : List Root) : Name → Type 0 where
  ByRoot : (n : Name) → is_among (targets p m (root_spots p m roots)) n ≡ true → IsReached p m roots n
  Onward : (a : ℕ) (n : Name) → IsReached p m roots (Heap a) → is_among (targets p m (heap_spots p m a)) n ≡ true → IsReached p m roots n

-- ---- the same, counted by steps

abbrev pub heap_targets : Plan → Memory → Name → List Name
heap_targets p m (Heap a) = targets p m (heap_spots p m a)
heap_targets p m n = []

-- what at most n steps beyond the roots lead to
abbrev pub reached_within : Plan → Memory → List Root → ℕ → List Name
reached_within p m roots zero = targets p m (root_spots p m roots)
reached_within p m roots (suc n) = reached_within p m roots n ++ flat_map (heap_targets p m) (reached_within p m roots n)

-- as many steps as there are heap numbers lead to all that is reached
abbrev pub reached : Plan → Memory → List Root → List Name
reached p m roots = reached_within p m roots m.next

-- a list without its repeats: of equal names the last one stays
abbrev pub distinct : List Name → List Name
distinct [] = []
distinct (n ∷ names) = if is_among names n then distinct names else n ∷ distinct names

-- ---- the law

-- live heap objects have numbers below the next one
abbrev pub IsNumbered : Memory → Type 0
IsNumbered m = (a : ℕ) (o : Object) → m.at (Heap a) ≡ Some o → a < m.next

-- what as many steps lead to is what paths lead to
pub record ReachesAll (p : Plan) (m : Memory) (roots : List Root) (n : Name) : Type 0 where
  pub sound : is_among (reached p m roots) n ≡ true → IsReached p m roots n
  pub complete : IsReached p m roots n → is_among (reached p m roots) n ≡ true

abbrev pub StepsArePaths : Type 0
StepsArePaths = (p : Plan) (m : Memory) (roots : List Root) (n : Name) → IsNumbered m → ReachesAll p m roots n
