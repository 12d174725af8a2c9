-- What refuses a closing: the first of five kinds.
use Rattle.std.specs.Prelude.{ℕ, zero, suc, ◌||◌, not, Bool, true, false, List, [], ◌∷◌, length, Option, None, Some, is_none, option_and_then, slice_get, if◌then◌else◌}
use Rattle.std.specs.List.{list_any}
use Rattle.std.specs.Option.{option_map}
use Rattle.kt_types.specs.declared.kinds.FieldDecl.{FieldDecl}
use Rattle.kt_mem.specs.declared.memory.Name.TheVariants.{Glob, Heap}
use Rattle.kt_mem.specs.declared.memory.Value.{Value}
use Rattle.kt_mem.specs.declared.memory.Value.TheVariants.{Held}
use Rattle.kt_mem.specs.declared.steps.Act.{Act}
use Rattle.kt_mem.specs.declared.steps.Act.TheVariants as act
use Rattle.kt_mem.specs.Memory.{Memory, Object, Cell}
use Rattle.kt_tree.specs.Names.{place_of}
use Rattle.kt_tree.specs.Version.{Program, update_points}
use Rattle.kt_meaning.specs.Steps.{Step, Quiet, Acts, Traps, Ends}
use Rattle.xf_plan.specs.Correspondence.{converts}
use Rattle.xf_plan.specs.Images.{below, faults, first_fault, fresh_places, is_too_big, sizes}
use Rattle.xf_plan.specs.Reached.{reached, distinct}
use Rattle.xf_plan.specs.declared.place.Root.{Root}
use Rattle.kt_world.specs.declared.mark.Closed.{Closed}
use Rattle.kt_world.specs.declared.mark.Closed.TheVariants as closed
use Rattle.kt_world.specs.Job.{Passage}
use Rattle.kt_world.specs.Roots.{new_parameter, old_parameter}
use Rattle.kt_world.specs.World.{Engine, Thread, World, lives}

-- ---- a mutex is held

abbrev pub is_held : Value → Bool
is_held (Held thread) = true
is_held v = false

abbrev pub holds : Option Object → Bool
holds None = false
holds (Some o) = list_any (λ (c : Cell). is_held c.value) o.cells

-- some live cell of a global or heap object is a mutex that is held; a literal has none
abbrev pub any_held : Program → Memory → Bool
any_held p m = list_any (λ i. holds (m.at (Glob i))) (below (length p.globals)) || list_any (λ a. holds (m.at (Heap a))) (below m.next)

-- ---- a point is missing

-- the point of the new version with the name of this point of the old one
abbrev pub new_point : Passage → ℕ → Option ℕ
new_point j p = option_and_then (λ name. place_of name (update_points j.new)) (slice_get j.old.points.names p)

-- the point at which a thread stands
abbrev pub point_of_act : Act → Option ℕ
point_of_act (act.Point p) = Some p
point_of_act _ = None

abbrev pub point_of : {X : Type 0} → Step X → Option ℕ
point_of (Quiet x) = None
point_of (Acts a go) = point_of_act a
point_of (Traps t) = None
point_of (Ends a) = None

-- the point of the new version that corresponds to the one at which the thread stands
abbrev pub next_point : {X : Type 0} → Engine X → ℕ → Passage → Thread X → Option ℕ
next_point e v j th = option_and_then (new_point j) (point_of (e.step v th.state))

-- the least of these threads, counted from t, that is such
abbrev pub least : {X : Type 0} → (ℕ → Thread X → Bool) → ℕ → List (Thread X) → Option ℕ
least is t [] = None
least is t (th ∷ rest) = if is t th then Some t else least is (suc t) rest

abbrev pub lacks_point : {X : Type 0} → Engine X → ℕ → Passage → ℕ → Thread X → Bool
lacks_point e v j t th = if lives th.standing then is_none (next_point e v j th) else false

-- ---- an entry is missing

-- the old parameter converts to the new one
abbrev pub may_enter : Passage → Option FieldDecl → Option FieldDecl → Bool
may_enter j (Some old) (Some new) = converts j.plan old.ty new.ty
may_enter j old new = false

-- a thread above 0 whose entry function is no `void` function of one parameter in the new version, or whose argument does not
-- convert to that parameter
abbrev pub lacks_entry : {X : Type 0} → Passage → ℕ → Thread X → Bool
lacks_entry j zero th = false
lacks_entry j (suc t) th = if lives th.standing then not (may_enter j (old_parameter j th.entry) (new_parameter j th.entry)) else false

-- ---- the first refusal

abbrev pub first_of : Option Closed → Option Closed → Option Closed
first_of None later = later
first_of (Some c) later = Some c

abbrev pub if_held : Bool → Option Closed
if_held true = Some closed.Held
if_held false = None

abbrev pub if_too_big : Bool → Option Closed
if_too_big true = Some closed.Size
if_too_big false = None

abbrev pub size_refusal : Passage → Memory → List Root → Option Closed
size_refusal j m roots = if_too_big (is_too_big (sizes j.plan m (distinct (reached j.plan m roots)) (fresh_places j.plan m roots)))

-- a mutex is held; else the least thread whose point, and then whose entry, the new version lacks; else the least place at which
-- something is wrong; else a size
abbrev pub refusal : {X : Type 0} → Engine X → Passage → World X → List Root → Option Closed
refusal e j w roots =
    let s = w.shared in
    first_of (if_held (any_held j.old s.memory))
    (first_of (option_map closed.Point (least (lacks_point e s.version j) 0 w.threads))
    (first_of (option_map closed.Entry (least (lacks_entry j) 0 w.threads))
    (first_of (option_map closed.At (first_fault (faults j.plan s.memory roots)))
    (size_refusal j s.memory roots))))
