-- A closing: the update, or the refusal (whole-program update as in Kitsune; OOPSLA 2012, section 3).
use Rattle.std.specs.Prelude.{ℕ, pos, negsuc, nat_lt, suc, ◌+◌, ◌-◌, ◌==◌, List, [], ◌∷◌, ◌++◌, map, flat_map, length, Option, Some, None, unwrap_or, if◌then◌else◌, slice_get}
use Rattle.std.specs.Option.{option_map}
use Rattle.kt_types.specs.declared.kinds.Ty.{Ty}
use Rattle.kt_types.specs.declared.kinds.Ty.TheVariants as ty
use Rattle.kt_types.specs.Layout.{cells}
use Rattle.kt_types.specs.Table.{Table}
use Rattle.kt_mem.specs.declared.memory.Name.{Name}
use Rattle.kt_mem.specs.declared.memory.Name.TheVariants.{Glob, Lit, Heap}
use Rattle.kt_mem.specs.declared.memory.Value.{Value}
use Rattle.kt_mem.specs.declared.memory.Value.TheVariants.{Num, Null, Ptr, Free}
use Rattle.kt_mem.specs.declared.steps.Reply.TheVariants.{Done}
use Rattle.kt_mem.specs.declared.thread.KeptLocal.{KeptLocal}
use Rattle.kt_mem.specs.declared.thread.Mode.{Mode}
use Rattle.kt_mem.specs.declared.thread.Mode.TheVariants.{Normal, Updating}
use Rattle.kt_mem.specs.Memory.{Cell, Object, Memory, repeated, zero_value}
use Rattle.kt_tree.specs.declared.global.GlobalDecl.{GlobalDecl}
use Rattle.kt_tree.specs.declared.global.Init.{Init}
use Rattle.kt_tree.specs.declared.global.Init.TheVariants as init
use Rattle.kt_tree.specs.Kinds.{char_type}
use Rattle.kt_tree.specs.Version.{Program}
use Rattle.kt_meaning.specs.Thread.{Restart}
use Rattle.kt_phase.specs.declared.counters.Phase.TheVariants.{Run, Main}
use Rattle.xf_plan.specs.Images.{FreshPlace, fresh_places, image_count, kept_globals, live_cells, moved_object, new_value}
use Rattle.xf_plan.specs.Plan.{Plan}
use Rattle.xf_plan.specs.Reached.{reached}
use Rattle.xf_plan.specs.declared.place.Place.{Place}
use Rattle.xf_plan.specs.declared.place.Place.TheVariants.{Argument, Local}
use Rattle.xf_plan.specs.declared.place.Root.{Root}
use Rattle.kt_world.specs.declared.mark.Closed.{Closed}
use Rattle.kt_world.specs.declared.mark.Closed.TheVariants as closed
use Rattle.kt_world.specs.declared.mark.Mark.TheVariants.{Close}
use Rattle.kt_world.specs.Acts.{gone_on}
use Rattle.kt_world.specs.Job.{Passage}
use Rattle.kt_world.specs.Refusals.{next_point, refusal}
use Rattle.kt_world.specs.Roots.{new_function, thread_roots}
use Rattle.kt_world.specs.World.{Engine, Standing, Live, Waiter, Parked, Ended, Thread, World, marked}

-- ---- the memory with which a version begins

-- what a cell of a global of version v starts with; without an initialiser it is zero, null or free
-- (ISO/IEC 9899:2011, 6.7.9, paragraph 10)
abbrev pub initial_value : ℕ → Init → Ty → Value
initial_value v init.Zero t = zero_value t
initial_value v (init.Number n) t = Num n
initial_value v init.Null t = Null
initial_value v (init.Literal n) t = Ptr (Lit v n) 0
initial_value v init.Free t = Free

abbrev pub initial_cell : ℕ → Init → Ty → Cell
initial_cell v i t = record { ty = t; value = initial_value v i t }

abbrev pub global_object : ℕ → Table → GlobalDecl → Object
global_object v types g =
    record { number = 0; ty = g.ty; count = g.count; cells = repeated g.count (map (initial_cell v g.init) (cells types g.ty)) }

-- a byte as a `char`, which is signed and has 8 bits
abbrev pub char_value : ℕ → Value
char_value b = Num (if nat_lt b 128 then pos b else negsuc (255 - b))

abbrev pub char_cell : ℕ → Cell
char_cell b = record { ty = ty.Char; value = char_value b }

-- the bytes of a string literal, and a zero behind them (6.4.5, paragraph 6)
abbrev pub literal_object : List ℕ → Object
literal_object bytes = record { number = 0; ty = char_type; count = length bytes + 1; cells = map char_cell (bytes ++ 0 ∷ []) }

abbrev pub global_at : ℕ → Program → ℕ → Option Object
global_at v p i = option_map (global_object v p.types) (slice_get p.globals i)

-- the globals and the literals of a program, which is version v, beside other literals and heap objects
abbrev pub object_at : ℕ → Program → (Name → Option Object) → Name → Option Object
object_at v p others (Glob i) = global_at v p i
object_at v p others (Lit w i) = if w == v then option_map literal_object (slice_get p.literals i) else others (Lit w i)
object_at v p others (Heap a) = others (Heap a)

-- ---- the new memory

-- the new version's globals with their initial values and its literals, the images of what is reached, the objects of fresh places
abbrev pub new_memory : ℕ → Passage → Memory → List Root → Memory
new_memory v j m roots =
    let names = reached j.plan m roots in
    let fresh = fresh_places j.plan m roots in
    record { at = object_at v j.new (moved_object j.plan m names fresh); next = m.next + length fresh; live = live_cells j.plan m names fresh }

-- ---- threads that begin again

-- the new values at the places of these roots that such a test tells, with what it tells of each

abbrev pub kept_local : ℕ → ℕ → Value → KeptLocal
kept_local f x v = record { function = f; local = x; value = v }

abbrev pub kept_at : Plan → Memory → List FreshPlace → ℕ → Root → Place → List KeptLocal
kept_at p m fresh t r (Local u f x) = if u == t then kept_local f x (new_value p m fresh r.place r.value) ∷ [] else []
kept_at p m fresh t r place = []

-- the kept values of a thread's noted locals
abbrev pub kept_locals : Plan → Memory → List FreshPlace → List Root → ℕ → List KeptLocal
kept_locals p m fresh roots t = flat_map (λ (r : Root). kept_at p m fresh t r r.place) roots

abbrev pub argument_at : Plan → Memory → List FreshPlace → ℕ → Root → Place → List Value
argument_at p m fresh t r (Argument u) = if u == t then new_value p m fresh r.place r.value ∷ [] else []
argument_at p m fresh t r place = []

-- the argument of a thread, moved; `main` has none
abbrev pub moved_arguments : Plan → Memory → List FreshPlace → List Root → ℕ → List Value
moved_arguments p m fresh roots t = flat_map (λ (r : Root). argument_at p m fresh t r r.place) roots

abbrev pub updating_from : Option ℕ → Mode
updating_from None = Normal
updating_from (Some p) = Updating p

-- a thread at its entry in the new version, on the way to the point from which it was updated
abbrev pub begun_again : {X : Type 0} → Engine X → ℕ → ℕ → List Value → Restart → Thread X
begun_again e v f arguments r = record { entry = f; arguments = arguments; state = e.settle v (e.entry v f arguments r); standing = Live }

abbrev pub restarted : {X : Type 0} → Engine X → ℕ → Passage → Memory → List Root → ℕ → Thread X → Thread X
restarted e v j m roots t th =
    let fresh = fresh_places j.plan m roots in
    begun_again e (suc v) (unwrap_or (new_function j th.entry) 0) (moved_arguments j.plan m fresh roots t)
    (record { mode = updating_from (next_point e v j th); kept = kept_locals j.plan m fresh roots t })

-- what a closing does to threads: it changes those that are parked; all others have ended
abbrev pub if_parked : {X : Type 0} → Standing → Thread X → Thread X → Thread X
if_parked Live th changed = th
if_parked (Waiter n k) th changed = th
if_parked Parked th changed = changed
if_parked Ended th changed = th

abbrev pub all_restarted : {X : Type 0} → Engine X → ℕ → Passage → Memory → List Root → ℕ → List (Thread X) → List (Thread X)
all_restarted e v j m roots t [] = []
all_restarted e v j m roots t (th ∷ rest) =
    if_parked th.standing th (restarted e v j m roots t th) ∷ all_restarted e v j m roots (suc t) rest

-- ---- the closing

-- the update: new memory, the old values kept aside, `main` at its entry and then the others at theirs
abbrev pub updated : {X : Type 0} → Engine X → Passage → World X → List Root → World X
updated e j w roots =
    let s = w.shared in
    record {
      shared = marked (Close s.turns s.requests (closed.Ok (image_count j.plan s.memory roots))) (record s {
        version = suc s.version;
        memory = new_memory (suc s.version) j s.memory roots;
        kept = kept_globals j.plan s.memory (fresh_places j.plan s.memory roots) 0 j.plan.globals;
        phase = Main;
      });
      threads = all_restarted e s.version j s.memory roots 0 w.threads;
    }

-- after a refusal a parked thread goes on past its point
abbrev pub let_go : {X : Type 0} → Engine X → ℕ → Thread X → Thread X
let_go e v th = if_parked th.standing th (record (gone_on e v th Done) { standing = Live })

-- a refusal: memory and code stay
abbrev pub refused : {X : Type 0} → Engine X → Closed → World X → World X
refused e c w =
    let s = w.shared in
    record { shared = marked (Close s.turns s.requests c) (record s { phase = Run }); threads = map (let_go e s.version) w.threads }

abbrev pub decided : {X : Type 0} → Engine X → Passage → World X → List Root → Option Closed → World X
decided e j w roots None = updated e j w roots
decided e j w roots (Some c) = refused e c w

abbrev pub closed_from : {X : Type 0} → Engine X → Passage → World X → List Root → World X
closed_from e j w roots = decided e j w roots (refusal e j w roots)

-- where there is a next version
abbrev pub closing : {X : Type 0} → Engine X → Option Passage → World X → World X
closing e None w = w
closing e (Some j) w = closed_from e j w (thread_roots e j w.shared.memory w.threads)
