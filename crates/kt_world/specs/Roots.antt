-- What threads add to the places from which an update begins: their arguments, and their noted locals.
use Rattle.std.specs.Prelude.{ℕ, suc, ◌==◌, Bool, true, false, List, [], ◌∷◌, ◌++◌, Option, None, Some, option_and_then, slice_get, Result, Ok, if◌then◌else◌}
use Rattle.std.specs.Option.{option_map}
use Rattle.kt_types.specs.declared.kinds.FieldDecl.{FieldDecl}
use Rattle.kt_types.specs.declared.kinds.Ty.{Ty}
use Rattle.kt_mem.specs.declared.memory.Value.{Value}
use Rattle.kt_mem.specs.declared.steps.Trap.{Trap}
use Rattle.kt_mem.specs.Memory.{Memory}
use Rattle.kt_tree.specs.Names.{place_of}
use Rattle.kt_tree.specs.Tree.{Function}
use Rattle.kt_tree.specs.Version.{Program, function_names}
use Rattle.xf_plan.specs.Plan.{LocalRule, LocalSource}
use Rattle.xf_plan.specs.PreValues.{pre_argument, pre_local}
use Rattle.xf_plan.specs.declared.place.Place.{Place}
use Rattle.xf_plan.specs.declared.place.Place.TheVariants.{Argument, Local}
use Rattle.xf_plan.specs.declared.place.Root.{Root}
use Rattle.xf_plan.specs.declared.value.PreValue.{PreValue}
use Rattle.kt_world.specs.Job.{Passage}
use Rattle.kt_world.specs.World.{Call, Engine, Thread, lives}

abbrev pub if_root : Option Root → List Root
if_root None = []
if_root (Some r) = r ∷ []

-- ---- entries

-- the number of the function of the new version that has the name of this one of the old version
abbrev pub new_function : Passage → ℕ → Option ℕ
new_function j f = option_and_then (λ (g : Function). place_of g.name (function_names j.new)) (slice_get j.old.functions f)

abbrev pub function_at : Program → ℕ → Option Function
function_at p f = slice_get p.functions f

-- where there is no result and one parameter
abbrev pub if_entry : Option ℕ → Bool → Option FieldDecl → Option FieldDecl
if_entry None true d = d
if_entry r b d = None

-- the parameter of a `void` function of one parameter
abbrev pub only_parameter : Function → Option FieldDecl
only_parameter f = if_entry f.result (f.params == 1) (slice_get f.locals 0)

-- the parameter of a thread's entry function, in the new version and in the old one
abbrev pub new_parameter : Passage → ℕ → Option FieldDecl
new_parameter j f = option_and_then (λ g. option_and_then only_parameter (function_at j.new g)) (new_function j f)

abbrev pub old_parameter : Passage → ℕ → Option FieldDecl
old_parameter j f = option_and_then only_parameter (function_at j.old f)

-- ---- arguments

abbrev pub root : Place → Ty → Result PreValue Trap → FieldDecl → Root
root place t value d = record { place = place; ty = t; value = value; view = d.view }

abbrev pub argument_as : Passage → ℕ → Value → FieldDecl → Option Root
argument_as j t a d = option_map (λ u. root (Argument t) u (Ok (pre_argument u a)) d) (slice_get j.plan.new.types d.ty)

abbrev pub argument_root : Passage → ℕ → ℕ → List Value → Option Root
argument_root j t f [] = None
argument_root j t f (a ∷ more) = option_and_then (argument_as j t a) (new_parameter j f)

-- `main` has none, and a thread that ended keeps none
abbrev pub argument_of : {X : Type 0} → Passage → ℕ → Thread X → List Root
argument_of j t th = if lives th.standing then if_root (argument_root j t th.entry th.arguments) else []

abbrev pub arguments_of : {X : Type 0} → Passage → ℕ → List (Thread X) → List Root
arguments_of j t [] = []
arguments_of j t (th ∷ rest) = argument_of j t th ++ arguments_of j (suc t) rest

-- ---- noted locals

-- the call, where there is no older one and it is of the function
abbrev pub or_this : Option Call → Bool → Call → Option Call
or_this (Some d) b c = Some d
or_this None true c = Some c
or_this None false c = None

-- the oldest call of a function
abbrev pub oldest : ℕ → List Call → Option Call
oldest f [] = None
oldest f (c ∷ older) = or_this (oldest f older) (c.function == f) c

-- what a local of the oldest call of a function holds
abbrev pub old_local : List Call → LocalSource → Option Value
old_local calls s = option_and_then (λ (c : Call). slice_get c.locals s.local) (oldest s.function calls)

abbrev pub local_as : Passage → Memory → ℕ → LocalRule → LocalSource → Value → Option Root
local_as j m t r s v =
    option_map (λ u. record { place = Local t r.function r.local; ty = u; value = pre_local j.plan m u s.body v; view = r.view })
    (slice_get j.plan.new.types r.ty)

abbrev pub local_root : Passage → Memory → ℕ → List Call → LocalRule → Option Root
local_root j m t calls r = option_and_then (λ s. option_and_then (local_as j m t r s) (old_local calls s)) r.source

-- by new function and new local: the order of the plan
abbrev pub locals_by : Passage → Memory → ℕ → List Call → List LocalRule → List Root
locals_by j m t calls [] = []
locals_by j m t calls (r ∷ rest) = if_root (local_root j m t calls r) ++ locals_by j m t calls rest

abbrev pub locals_of : {X : Type 0} → Engine X → Passage → Memory → ℕ → List (Thread X) → List Root
locals_of e j m t [] = []
locals_of e j m t (th ∷ rest) = locals_by j m t (e.calls th.state) j.plan.locals ++ locals_of e j m (suc t) rest

-- ---- all

-- the arguments of live threads, by number, and then the noted locals, by thread
abbrev pub thread_roots : {X : Type 0} → Engine X → Passage → Memory → List (Thread X) → List Root
thread_roots e j m threads = arguments_of j 0 threads ++ locals_of e j m 0 threads
