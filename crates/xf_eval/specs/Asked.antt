-- What each call is asked for, by the definition of pre-values.
use Rattle.std.specs.Prelude.{◌≡◌, ℕ, ◌*◌, ◌%◌, ◌<◌, ◌≤◌, ◌==◌, ◌&&◌, List, [], ◌∷◌, slice_get, Option, None, Some, option_and_then, Result, Ok, Err, if◌then◌else◌}
use Rattle.std.specs.Option.{option_map}
use Rattle.kt_mem.specs.declared.memory.Value.{Value}
use Rattle.kt_mem.specs.declared.steps.Trap.{Trap}
use Rattle.kt_mem.specs.declared.memory.Name.{Name}
use Rattle.kt_mem.specs.Memory.{Memory, Object}
use Rattle.kt_types.specs.declared.kinds.Ty.{Ty}
use Rattle.kt_types.specs.Layout.{cells}
use Rattle.xf_plan.specs.Correspondence.{new_type}
use Rattle.xf_plan.specs.Plan.{Plan, GlobalRule, LocalRule, LocalSource}
use Rattle.xf_plan.specs.PreValues.{origin, pre_local, pre_value}
use Rattle.xf_plan.specs.Sources.{Source, moved_by, sources, global_sources, width}
use Rattle.xf_plan.specs.declared.value.PreValue.{PreValue}
use Rattle.xf_eval.specs.declared.faults.PreFault.{PreFault}
use Rattle.xf_eval.specs.declared.faults.PreFault.TheVariants.{Trapped, NoMemory}

-- the answer is that of the definition, trap for trap; memory may be wanting at any time
abbrev pub Answers : Result PreValue PreFault → Result PreValue Trap → Type 0
Answers (Ok v) told = told ≡ Ok v
Answers (Err (Trapped t)) told = told ≡ Err t
Answers (Err NoMemory) told = Unit {0}

-- ---- noted locals

-- the rule of a local of a function
abbrev pub local_rule : List LocalRule → ℕ → ℕ → Option LocalRule
local_rule [] f x = None
local_rule (r ∷ rest) f x = if (r.function == f) && (r.local == x) then Some r else local_rule rest f x

-- what its source gives, where the old local holds v
abbrev pub source_value : Plan → Memory → Value → LocalRule → LocalSource → Option (Result PreValue Trap)
source_value p m v r s = option_map (λ t. pre_local p m t s.body v) (slice_get p.new.types r.ty)

-- the pre-value of a noted local, where the plan has a source for it
abbrev pub local_value : Plan → Memory → ℕ → ℕ → Value → Option (Result PreValue Trap)
local_value p m f x v = option_and_then (λ r. option_and_then (source_value p m v r) r.source) (local_rule p.locals f x)

-- ---- cells

abbrev pub at_place : Option (List Source) → ℕ → Option Source
at_place sources i = option_and_then (λ (xs : List Source). slice_get xs i) sources

-- the source of the i-th cell of a new thing of the type at place b that comes from an old one of the type at place a
abbrev pub source_at : Plan → ℕ → ℕ → ℕ → Option Source
source_at p a b i = at_place (sources p a b) i

-- the pre-value of a cell, by its type and its source, where it has both; its old thing is the object of a name
abbrev pub cell_of : Plan → Memory → Name → Option Ty → Option Source → Option (Result PreValue Trap)
cell_of p m n t s = option_and_then (λ u. option_map (pre_value p m n u) s) t

-- of the i-th cell of an element of a thing of the type at place a, in what comes of it at the new type at place b
abbrev pub part_cell : Plan → Memory → Name → ℕ → ℕ → ℕ → ℕ → Option (Result PreValue Trap)
part_cell p m n element i a b = cell_of p m n (slice_get (cells p.new b) i) (option_map (moved_by (element * width p.old a)) (source_at p a b i))

abbrev pub element_cell : Plan → Memory → Name → ℕ → ℕ → Object → Option (Result PreValue Trap)
element_cell p m n element i o = option_and_then (part_cell p m n element i o.ty) (new_type p o.ty)

-- the pre-value of the i-th cell of an element of the image of the object under a name
abbrev pub cell_value : Plan → Memory → Name → ℕ → ℕ → Option (Result PreValue Trap)
cell_value p m n element i = option_and_then (element_cell p m n element i) (m.at n)

-- the element is one of the object, which has at most 65,536 cells
pub record IsElement (p : Plan) (element : ℕ) (o : Object) : Type 0 where
  pub within : element < o.count
  pub few : o.count * width p.old o.ty ≤ 65536

-- ---- globals

-- the type of the i-th cell of a global: those of its elements follow one another
abbrev pub global_type : Plan → GlobalRule → ℕ → Option Ty
global_type p g i = slice_get (cells p.new g.ty) (i % width p.new g.ty)

abbrev pub global_cell : Plan → Memory → ℕ → GlobalRule → Option (Result PreValue Trap)
global_cell p m i g = cell_of p m (origin g.source) (global_type p g i) (at_place (global_sources p g g.source) i)

-- the pre-value of the i-th cell of a new global, where it is mapped
abbrev pub global_value : Plan → Memory → ℕ → ℕ → Option (Result PreValue Trap)
global_value p m g i = option_and_then (global_cell p m i) (slice_get p.globals g)
