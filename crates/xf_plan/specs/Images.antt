-- What an update makes of memory: the images of what is reached, the objects of fresh places, the values that are kept; and what
-- refuses it at a place or by its size.
use Rattle.std.specs.Prelude.{ℕ, zero, suc, ◌+◌, ◌-◌, ◌*◌, ◌==◌, ◌&&◌, ◌||◌, nat_lt, Bool, true, false, List, [], ◌∷◌, ◌++◌, map, filter, flat_map, length, position, slice_get, sum, Option, None, Some, unwrap_or, Result, Ok, Err, if◌then◌else◌}
use Rattle.std.specs.List.{list_any}
use Rattle.std.specs.Option.{option_map}
use Rattle.kt_types.specs.Layout.{cells}
use Rattle.kt_mem.specs.declared.memory.Name.{Name}
use Rattle.kt_mem.specs.declared.memory.Name.TheVariants.{Glob, Heap}
use Rattle.kt_mem.specs.declared.memory.Value.{Value}
use Rattle.kt_mem.specs.declared.memory.Value.TheVariants.{Ptr, Undef}
use Rattle.kt_mem.specs.declared.steps.Trap.{Trap}
use Rattle.kt_mem.specs.Memory.{Memory, Object, Cell, fresh_object}
use Rattle.xf_plan.specs.Plan.{Plan, GlobalRule}
use Rattle.xf_plan.specs.Correspondence.{new_type}
use Rattle.xf_plan.specs.Sources.{width, global_sources}
use Rattle.xf_plan.specs.PreValues.{origin}
use Rattle.xf_plan.specs.Extents.{global_cells}
use Rattle.xf_plan.specs.Spots.{Spot, fault_at, heap_spots, new_global, root_spots, spots_of}
use Rattle.xf_plan.specs.Reached.{reached, is_among, distinct}
use Rattle.xf_plan.specs.declared.place.Fault.{Fault}
use Rattle.xf_plan.specs.declared.place.Place.{Place}
use Rattle.xf_plan.specs.declared.place.Place.TheVariants.{GlobalCell, Argument, Local, HeapCell}
use Rattle.xf_plan.specs.declared.place.Root.{Root}
use Rattle.xf_plan.specs.declared.place.Why.{Why}
use Rattle.xf_plan.specs.declared.value.PreValue.{PreValue}
use Rattle.xf_plan.specs.declared.value.PreValue.TheVariants.{Plain, OldPointer, Fresh}

-- ---- all places, in their order

-- the numbers below n, in order
abbrev pub below : ℕ → List ℕ
below zero = []
below (suc n) = below n ++ n ∷ []

-- the heap objects among these, by number
abbrev pub heap_numbers : Memory → List Name → List ℕ
heap_numbers m names = filter (λ a. is_among names (Heap a)) (below m.next)

-- the roots, and then the cells of the images of reached heap objects
abbrev pub all_spots : Plan → Memory → List Root → List Spot
all_spots p m roots = root_spots p m roots ++ flat_map (heap_spots p m) (heap_numbers m (reached p m roots))

-- ---- faults

abbrev pub told : Place → Option Why → List Fault
told place None = []
told place (Some w) = record { place = place; why = w } ∷ []

-- all faults, in the order of their places
abbrev pub faults : Plan → Memory → List Root → List Fault
faults p m roots = flat_map (λ s. told s.place (fault_at p m s)) (all_spots p m roots)

abbrev pub first_fault : List Fault → Option Fault
first_fault [] = None
first_fault (f ∷ rest) = Some f

-- ---- fresh places

pub record FreshPlace : Type 0 where
  pub place : Place
  pub ty : ℕ
  pub count : ℕ

abbrev pub fresh_in : Place → Result PreValue Trap → List FreshPlace
fresh_in place (Ok (Fresh t n)) = record { place = place; ty = t; count = n } ∷ []
fresh_in place v = []

-- in the order of their places
abbrev pub fresh_places : Plan → Memory → List Root → List FreshPlace
fresh_places p m roots = flat_map (λ s. fresh_in s.place s.pre) (all_spots p m roots)

abbrev pub place_eq : Place → Place → Bool
place_eq (GlobalCell g c) (GlobalCell h d) = (g == h) && (c == d)
place_eq (Argument t) (Argument u) = t == u
place_eq (Local t f x) (Local u g y) = (t == u) && (f == g) && (x == y)
place_eq (HeapCell a c) (HeapCell b d) = (a == b) && (c == d)
place_eq _ _ = false

-- ---- new values

abbrev pub to_global : Option ℕ → ℕ → Value
to_global None k = Undef
to_global (Some g) k = Ptr (Glob g) k

abbrev pub if_lives : Option Object → Value → Value
if_lives None v = Undef
if_lives (Some o) v = v

-- what becomes of an old pointer: one to a live heap object or literal stays, one to a global goes to the corresponding global, one to
-- a dead object is undefined
abbrev pub moved : Plan → Memory → Value → Value
moved p m (Ptr (Glob g) k) = to_global (new_global p g) k
moved p m (Ptr n k) = if_lives (m.at n) (Ptr n k)
moved p m v = v

-- the heap number of the object of a fresh place: the next one, and as many more as there are fresh places before it
abbrev pub fresh_number : Memory → List FreshPlace → Place → Option ℕ
fresh_number m fresh place = option_map (λ k. m.next + k) (position (λ f. place_eq f.place place) fresh)

abbrev pub to_fresh : Option ℕ → Value
to_fresh None = Undef
to_fresh (Some a) = Ptr (Heap a) 0

-- the value at a place; where no closing is refused, none traps
abbrev pub new_value : Plan → Memory → List FreshPlace → Place → Result PreValue Trap → Value
new_value p m fresh place (Ok (Plain v)) = v
new_value p m fresh place (Ok (OldPointer v)) = moved p m v
new_value p m fresh place (Ok (Fresh t n)) = to_fresh (fresh_number m fresh place)
new_value p m fresh place (Err t) = Undef

abbrev pub value_at : Plan → Memory → List FreshPlace → Spot → Value
value_at p m fresh s = new_value p m fresh s.place s.pre

-- ---- images

abbrev pub cell_at : Plan → Memory → List FreshPlace → Spot → Cell
cell_at p m fresh s = record { ty = s.ty; value = value_at p m fresh s }

-- the image of an object: its number, the corresponding element type, the same count; the new cells
abbrev pub image : Plan → Object → List Cell → Object
image p o new = record { number = o.number; ty = unwrap_or (new_type p o.ty) 0; count = o.count; cells = new }

abbrev pub heap_image : Plan → Memory → List FreshPlace → ℕ → Object → Object
heap_image p m fresh a o = image p o (map (cell_at p m fresh) (heap_spots p m a))

-- a literal's cells are `char`, which points nowhere
abbrev pub image_of : Plan → Memory → List FreshPlace → Name → Object → Object
image_of p m fresh (Heap a) o = heap_image p m fresh a o
image_of p m fresh n o = image p o o.cells

abbrev pub fresh_made : Plan → Memory → ℕ → FreshPlace → Object
fresh_made p m k f = fresh_object (m.next + k) f.ty (cells p.new f.ty) f.count true

-- the objects of fresh places, counted from k, by number
abbrev pub fresh_objects : Plan → Memory → ℕ → List FreshPlace → List Object
fresh_objects p m k [] = []
fresh_objects p m k (f ∷ rest) = fresh_made p m k f ∷ fresh_objects p m (suc k) rest

-- ---- sizes

-- the cells that an image has
abbrev pub image_size : Plan → Object → ℕ
image_size p o = o.count * width p.new (unwrap_or (new_type p o.ty) 0)

abbrev pub size_at : Plan → Option Object → ℕ
size_at p None = 0
size_at p (Some o) = image_size p o

-- the cells of each image, and of each fresh object
abbrev pub sizes : Plan → Memory → List Name → List FreshPlace → List ℕ
sizes p m names fresh = map (λ n. size_at p (m.at n)) names ++ map (λ f. f.count * width p.new f.ty) fresh

-- an object would have over 65,536 cells, or all of them together over 4,194,304
abbrev pub is_too_big : List ℕ → Bool
is_too_big sizes = list_any (nat_lt 65536) sizes || nat_lt 4194304 (sum sizes)

-- ---- the new memory

-- how many images there are, of heap objects and of literals
abbrev pub image_count : Plan → Memory → List Root → ℕ
image_count p m roots = length (distinct (reached p m roots))

abbrev pub if_reached : Plan → Memory → List Name → List FreshPlace → Name → Option Object → Option Object
if_reached p m names fresh n o = if is_among names n then option_map (image_of p m fresh n) o else None

-- under each reached object's own name its image, and the objects of fresh places behind the old heap numbers
abbrev pub moved_object : Plan → Memory → List Name → List FreshPlace → Name → Option Object
moved_object p m names fresh (Heap a) =
    if nat_lt a m.next then if_reached p m names fresh (Heap a) (m.at (Heap a))
    else slice_get (fresh_objects p m 0 fresh) (a - m.next)
moved_object p m names fresh n = if_reached p m names fresh n (m.at n)

-- the cells of heap objects, which count as live
abbrev pub live_cells : Plan → Memory → List Name → List FreshPlace → ℕ
live_cells p m names fresh =
    sum (map (λ a. size_at p (m.at (Heap a))) (heap_numbers m names)) + sum (map (λ f. f.count * width p.new f.ty) fresh)

-- ---- kept values

-- the values of a mapped global's cells; none where the global isn't mapped
abbrev pub kept_cells : Plan → Memory → List FreshPlace → ℕ → GlobalRule → Option (List Value)
kept_cells p m fresh i g =
    option_map (λ sources. map (value_at p m fresh) (spots_of p m (GlobalCell i) (origin g.source) (global_cells p.new g) (Some sources)))
    (global_sources p g g.source)

-- by the number of the global, counted from i
abbrev pub kept_globals : Plan → Memory → List FreshPlace → ℕ → List GlobalRule → List (Option (List Value))
kept_globals p m fresh i [] = []
kept_globals p m fresh i (g ∷ rest) = kept_cells p m fresh i g ∷ kept_globals p m fresh (suc i) rest
