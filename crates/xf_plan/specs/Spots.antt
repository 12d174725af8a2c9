-- Places of an update with all that is told of them: the type of the new value, its pre-value, and how many elements it is to
-- point to; what is wrong there. A place is that of a cell of a mapped global or of an image, or one of the roots that threads add.
use Rattle.std.specs.Prelude.{ℕ, ℤ, pos, suc, ◌==◌, ◌&&◌, Bool, true, false, List, [], ◌∷◌, ◌++◌, position, slice_get, Option, None, Some, option_and_then, Result, Ok, Err, if◌then◌else◌}
use Rattle.kt_types.specs.declared.kinds.Ty.{Ty}
use Rattle.kt_types.specs.declared.kinds.Ty.TheVariants as ty
use Rattle.kt_mem.specs.declared.memory.Name.{Name}
use Rattle.kt_mem.specs.declared.memory.Name.TheVariants.{Glob, Heap}
use Rattle.kt_mem.specs.declared.memory.Value.{Value}
use Rattle.kt_mem.specs.declared.memory.Value.TheVariants.{Num, Ptr}
use Rattle.kt_mem.specs.declared.steps.Trap.{Trap}
use Rattle.kt_mem.specs.declared.steps.Trap.TheVariants as trap
use Rattle.kt_mem.specs.Memory.{Memory, Object}
use Rattle.kt_mem.specs.Values.{int_eq}
use Rattle.kt_tree.specs.declared.global.Init.{Init}
use Rattle.kt_tree.specs.declared.global.Init.TheVariants as init
use Rattle.xf_plan.specs.Plan.{Plan, GlobalRule, GlobalSource, Unmapped, OldGlobal, GlobalBody}
use Rattle.xf_plan.specs.Correspondence.{corresponds, new_type}
use Rattle.xf_plan.specs.Sources.{Source, object_sources, global_sources}
use Rattle.xf_plan.specs.PreValues.{pre_value, origin}
use Rattle.xf_plan.specs.Extents.{Extent, Whole, Elements, AsGlobal, AsCell, NewCell, extent_of, object_cells, global_cells}
use Rattle.xf_plan.specs.declared.place.Place.{Place}
use Rattle.xf_plan.specs.declared.place.Place.TheVariants.{GlobalCell, HeapCell}
use Rattle.xf_plan.specs.declared.place.Root.{Root}
use Rattle.xf_plan.specs.declared.place.Why.{Why}
use Rattle.xf_plan.specs.declared.place.Why.TheVariants.{Rule, Interior, Gone, Retyped}
use Rattle.xf_plan.specs.declared.place.Why.TheVariants as why
use Rattle.xf_plan.specs.declared.value.PreValue.{PreValue}
use Rattle.xf_plan.specs.declared.value.PreValue.TheVariants.{Plain, OldPointer, Fresh}

-- ---- how many elements

pub data Wanted : Type 0 where
  AnyCount : Wanted
  Exactly : ℤ → Wanted
  -- what is to say it is no number: no object has as many
  NoCount : Wanted

abbrev pub meets : Wanted → ℕ → Bool
meets AnyCount n = true
meets (Exactly z) n = int_eq z (pos n)
meets NoCount n = false

abbrev pub number_in : Result PreValue Trap → Wanted
number_in (Ok (Plain (Num z))) = Exactly z
number_in v = NoCount

abbrev pub initial_number : Init → Wanted
initial_number init.Zero = Exactly (pos 0)
initial_number (init.Number z) = Exactly z
initial_number i = NoCount

-- ---- pre-values of the cells of a thing

abbrev pub pre_of : Plan → Memory → Name → Option NewCell → Option Source → Result PreValue Trap
pre_of p m n (Some c) (Some s) = pre_value p m n c.ty s
pre_of p m n _ _ = Err trap.Uninit

-- of the cell of that number
abbrev pub pre_at : Plan → Memory → Name → List NewCell → List Source → ℕ → Result PreValue Trap
pre_at p m n cells sources i = pre_of p m n (slice_get cells i) (slice_get sources i)

-- the number that the new global of that number says: its pre-value, or its initial value where it isn't mapped
abbrev pub count_of_mapped : Plan → Memory → GlobalRule → Option (List Source) → Wanted
count_of_mapped p m g None = initial_number g.init
count_of_mapped p m g (Some sources) = number_in (pre_at p m (origin g.source) (global_cells p.new g) sources 0)

abbrev pub count_of_global : Plan → Memory → Option GlobalRule → Wanted
count_of_global p m None = NoCount
count_of_global p m (Some g) = count_of_mapped p m g (global_sources p g g.source)

-- what an extent asks for, where `pre` gives the pre-values of the thing's cells
abbrev pub wanted_by : Plan → Memory → (ℕ → Result PreValue Trap) → Extent → Wanted
wanted_by p m pre Whole = AnyCount
wanted_by p m pre (Elements n) = Exactly (pos n)
wanted_by p m pre (AsGlobal g) = count_of_global p m (slice_get p.globals g)
wanted_by p m pre (AsCell k) = number_in (pre k)

-- ---- spots

pub record Spot : Type 0 where
  pub place : Place
  pub ty : Ty
  pub pre : Result PreValue Trap
  pub wanted : Wanted

-- the spots of cells that are counted from i, each with its source; `pre` gives the pre-values of all cells of the thing
abbrev pub spots_from : Plan → Memory → (ℕ → Result PreValue Trap) → (ℕ → Place) → ℕ → List NewCell → List Spot
spots_from p m pre place i [] = []
spots_from p m pre place i (c ∷ cells) =
    record { place = place i; ty = c.ty; pre = pre i; wanted = wanted_by p m pre c.extent } ∷ spots_from p m pre place (suc i) cells

abbrev pub spots_of : Plan → Memory → (ℕ → Place) → Name → List NewCell → Option (List Source) → List Spot
spots_of p m place n cells None = []
spots_of p m place n cells (Some sources) = spots_from p m (pre_at p m n cells sources) place 0 cells

-- of the mapped globals among these, counted from i
abbrev pub global_spots : Plan → Memory → ℕ → List GlobalRule → List Spot
global_spots p m i [] = []
global_spots p m i (g ∷ rest) =
    spots_of p m (GlobalCell i) (origin g.source) (global_cells p.new g) (global_sources p g g.source) ++ global_spots p m (suc i) rest

-- of the image of a heap object, by the new type to which its own corresponds
abbrev pub image_spots : Plan → Memory → ℕ → Object → Option ℕ → List Spot
image_spots p m a o None = []
image_spots p m a o (Some b) =
    spots_of p m (HeapCell o.number) (Heap a) (object_cells p.new b o.count) (object_sources p o.ty b o.count)

abbrev pub spots_at : Plan → Memory → ℕ → Option Object → List Spot
spots_at p m a None = []
spots_at p m a (Some o) = image_spots p m a o (new_type p o.ty)

abbrev pub heap_spots : Plan → Memory → ℕ → List Spot
heap_spots p m a = spots_at p m a (m.at (Heap a))

-- of a root that a thread adds: an argument or a noted local
abbrev pub root_spot : Plan → Memory → Root → Spot
root_spot p m r =
    record { place = r.place; ty = r.ty; pre = r.value; wanted = wanted_by p m (λ k. Err trap.Uninit) (extent_of p.new [] 0 r.view) }

abbrev pub added_spots : Plan → Memory → List Root → List Spot
added_spots p m [] = []
added_spots p m (r ∷ rest) = root_spot p m r ∷ added_spots p m rest

-- all spots from which an update begins, in the order of their places: mapped globals, and what threads add
abbrev pub root_spots : Plan → Memory → List Root → List Spot
root_spots p m roots = global_spots p m 0 p.globals ++ added_spots p m roots

-- ---- what is wrong

abbrev pub comes_from : ℕ → GlobalSource → Bool
comes_from g Unmapped = false
comes_from g (OldGlobal h a n) = h == g
comes_from g (GlobalBody None body) = false
comes_from g (GlobalBody (Some h) body) = h == g

-- the number of the new global to which an old one corresponds
abbrev pub new_global : Plan → ℕ → Option ℕ
new_global p g = position (λ r. comes_from g r.source) p.globals

abbrev pub points_to : Ty → Option ℕ
points_to (ty.Ptr b) = Some b
points_to t = None

-- a pointer of the new type at these cells points to the start of an old object, whose type corresponds to the pointee
abbrev pub is_start : Plan → Option ℕ → ℕ → Object → Bool
is_start p None k o = false
is_start p (Some b) k o = (k == 0) && corresponds p o.ty b

abbrev pub unless_met : Wanted → ℕ → Option Why
unless_met w n = if meets w n then None else Some why.Extent

abbrev pub is_pointee : Option ℕ → ℕ → Bool
is_pointee None b = false
is_pointee (Some c) b = c == b

-- of a pointer to an old global that becomes this new one
abbrev pub global_fault : Option ℕ → Wanted → Option GlobalRule → Option Why
global_fault t w None = Some Gone
global_fault t w (Some g) = if is_pointee t g.ty then unless_met w g.count else Some Retyped

-- of a pointer to an old object that lives
abbrev pub object_fault : Plan → Option ℕ → Wanted → Name → ℕ → Object → Option Why
object_fault p t w (Glob g) k o =
    if is_start p t k o then global_fault t w (option_and_then (slice_get p.globals) (new_global p g)) else Some Interior
object_fault p t w n k o = if is_start p t k o then unless_met w o.count else Some Interior

-- a pointer to a dead object is nowhere a fault
abbrev pub pointed_fault : Plan → Option ℕ → Wanted → Name → ℕ → Option Object → Option Why
pointed_fault p t w n k None = None
pointed_fault p t w n k (Some o) = object_fault p t w n k o

abbrev pub pointer_fault : Plan → Memory → Option ℕ → Wanted → Value → Option Why
pointer_fault p m t w (Ptr n k) = pointed_fault p t w n k (m.at n)
pointer_fault p m t w v = None

abbrev pub value_fault : Plan → Memory → Option ℕ → Wanted → Result PreValue Trap → Option Why
value_fault p m t w (Err cause) = Some (Rule cause)
value_fault p m t w (Ok (Plain v)) = None
value_fault p m t w (Ok (OldPointer v)) = pointer_fault p m t w v
value_fault p m t w (Ok (Fresh u n)) = unless_met w n

-- what is wrong at a place: the first of a trap, a pointer that isn't to the start of an object of the type, a global that is gone or
-- has another type, a count other than the declaration says
abbrev pub fault_at : Plan → Memory → Spot → Option Why
fault_at p m s = value_fault p m (points_to s.ty) s.wanted s.pre
