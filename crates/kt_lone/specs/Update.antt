-- A closing: what refuses it, and the update (whole-program update as in Kitsune; OOPSLA 2012, section 3).
use Rattle.std.specs.Prelude.{ℕ, pos, negsuc, nat_lt, ◌+◌, ◌-◌, ◌==◌, ◌&&◌, not, Bool, false, List, [], ◌∷◌, ◌++◌, map, length, Option, Some, None, option_and_then, is_none, Result, Ok, Err, if◌then◌else◌, slice_get}
use Rattle.std.specs.Option.{option_map}
use Rattle.kt_types.specs.declared.kinds.Ty.{Ty}
use Rattle.kt_types.specs.declared.kinds.Ty.TheVariants as ty
use Rattle.kt_types.specs.Layout.{cells}
use Rattle.kt_types.specs.Table.{Table}
use Rattle.kt_mem.specs.declared.memory.Name.{Name}
use Rattle.kt_mem.specs.declared.memory.Name.TheVariants.{Glob, Lit, Heap}
use Rattle.kt_mem.specs.declared.memory.Value.{Value}
use Rattle.kt_mem.specs.declared.memory.Value.TheVariants.{Num, Null, Ptr, Free}
use Rattle.kt_mem.specs.declared.steps.Act.{Act}
use Rattle.kt_mem.specs.declared.steps.Act.TheVariants as act
use Rattle.kt_mem.specs.declared.steps.Reply.TheVariants.{Done}
use Rattle.kt_mem.specs.declared.steps.Trap.{Trap}
use Rattle.kt_mem.specs.declared.thread.Mode.{Mode}
use Rattle.kt_mem.specs.declared.thread.Mode.TheVariants.{Normal, Updating}
use Rattle.kt_mem.specs.Memory.{Cell, Object, Memory, load, store, repeated, zero_value}
use Rattle.kt_tree.specs.declared.global.GlobalDecl.{GlobalDecl}
use Rattle.kt_tree.specs.declared.global.Init.{Init}
use Rattle.kt_tree.specs.declared.global.Init.TheVariants as init
use Rattle.kt_tree.specs.Kinds.{char_type, int_type}
use Rattle.kt_tree.specs.Names.{place_of}
use Rattle.kt_tree.specs.Version.{Program, global_names, update_points}
use Rattle.kt_meaning.specs.Steps.{Step, Quiet, Acts, Traps, Ends, after_reply}
use Rattle.kt_lone.specs.declared.mark.Closed.TheVariants as closed
use Rattle.kt_lone.specs.declared.mark.Mark.{Mark}
use Rattle.kt_lone.specs.declared.mark.Mark.TheVariants.{Close}
use Rattle.kt_lone.specs.declared.mark.Phase.TheVariants.{Run, Main}
use Rattle.kt_lone.specs.Job.{Job, version_at}
use Rattle.kt_lone.specs.World.{Engine, Standing, Live, Parked, Ended, Shared, Thread, World}

-- ---- the memory with which a version begins

-- what a cell of a global of version v starts with; without an initialiser it is zero, null or free
-- (ISO/IEC 9899:2011, 6.7.9, paragraph 10)
abbrev pub initial_value : ℕ → Init → Ty → Value
initial_value v init.Zero t = zero_value t
initial_value v (init.Number n) t = Num n
initial_value v init.Null t = Null
initial_value v (init.Literal n) t = Ptr (Lit v n) 0
initial_value v init.Free t = Free

abbrev pub initial_cell : ℕ → Init → Ty → Cell
initial_cell v i t = record { ty = t; value = initial_value v i t }

abbrev pub global_object : ℕ → Table → GlobalDecl → Object
global_object v types g =
    record { number = 0; ty = g.ty; count = g.count; cells = repeated g.count (map (initial_cell v g.init) (cells types g.ty)) }

-- a byte as a `char`, which is signed and has 8 bits
abbrev pub char_value : ℕ → Value
char_value b = Num (if nat_lt b 128 then pos b else negsuc (255 - b))

abbrev pub char_cell : ℕ → Cell
char_cell b = record { ty = ty.Char; value = char_value b }

-- the bytes of a string literal, and a zero behind them (6.4.5, paragraph 6)
abbrev pub literal_object : List ℕ → Object
literal_object bytes = record { number = 0; ty = char_type; count = length bytes + 1; cells = map char_cell (bytes ++ 0 ∷ []) }

-- the globals and the literals of a program, which is version v
abbrev pub first_object : ℕ → Program → Name → Option Object
first_object v p (Glob i) = option_map (global_object v p.types) (slice_get p.globals i)
first_object v p (Lit w i) = if w == v then option_map literal_object (slice_get p.literals i) else None
first_object v p (Heap a) = None

-- memory without a heap object, where `next` is the next heap number
abbrev pub first_memory : ℕ → Program → ℕ → Memory
first_memory v p next = record { at = first_object v p; next = next; live = 0 }

-- ---- globals that correspond

-- a global of type `int`, and no array
abbrev pub is_int : GlobalDecl → Bool
is_int g = (g.ty == int_type) && not g.array

abbrev pub int_at : List GlobalDecl → ℕ → Option ℕ
int_at globals i = option_and_then (λ g. if is_int g then Some i else None) (slice_get globals i)

-- the old global to which a new one corresponds: it has the same name, and both are of type `int`
abbrev pub old_global : Program → GlobalDecl → Option ℕ
old_global old g = if is_int g then option_and_then (int_at old.globals) (place_of g.name (global_names old)) else None

abbrev pub value_if : Result Value Trap → Option Value
value_if (Ok v) = Some v
value_if (Err t) = None

-- what a global of type `int` holds
abbrev pub value_of_global : Memory → ℕ → Option Value
value_of_global m i = value_if (load m (Ptr (Glob i) 0) ty.Int)

-- what is kept for a new global: the value of the old one to which it corresponds
abbrev pub kept_value : Program → Memory → GlobalDecl → Option Value
kept_value old m g = option_and_then (value_of_global m) (old_global old g)

abbrev pub kept_values : Program → Memory → Program → List (Option Value)
kept_values old m new = map (kept_value old m) new.globals

abbrev pub or_same : Memory → Result Memory Trap → Memory
or_same m (Ok n) = n
or_same m (Err t) = m

-- a kept value is stored into the global of that number
abbrev pub placed_one : ℕ → Option Value → Memory → Memory
placed_one i None m = m
placed_one i (Some v) m = or_same m (store m (Ptr (Glob i) 0) ty.Int v)

-- the kept values, each in the global of its number, counted from i
abbrev pub placed_from : ℕ → List (Option Value) → Memory → Memory
placed_from i [] m = m
placed_from i (k ∷ kept) m = placed_from (i + 1) kept (placed_one i k m)

abbrev pub placed : List (Option Value) → Memory → Memory
placed kept m = placed_from 0 kept m

-- ---- points

-- the point of the new version with the name of this point of the old one
abbrev pub new_point : Program → Program → ℕ → Option ℕ
new_point old new p = option_and_then (λ name. place_of name (update_points new)) (slice_get old.points.names p)

-- the point at which a thread stands
abbrev pub point_of_act : Act → Option ℕ
point_of_act (act.Point p) = Some p
point_of_act _ = None

abbrev pub point_of : {X : Type 0} → Step X → Option ℕ
point_of (Quiet x) = None
point_of (Acts a go) = point_of_act a
point_of (Traps t) = None
point_of (Ends a) = None

-- the point of the new version that corresponds to the one at which the thread stands
abbrev pub next_point : {X : Type 0} → Program → Program → Step X → Option ℕ
next_point old new s = option_and_then (new_point old new) (point_of s)

-- ---- threads

-- what a closing does to a thread: it changes those that are parked
abbrev pub if_parked : {X : Type 0} → Standing → Thread X → Thread X → Thread X
if_parked Live th changed = th
if_parked Parked th changed = changed
if_parked Ended th changed = th

-- the new version lacks the point at which the thread is parked
abbrev pub is_lost : {X : Type 0} → Program → Program → Standing → Step X → Bool
is_lost old new Live s = false
is_lost old new Parked s = is_none (next_point old new s)
is_lost old new Ended s = false

-- the least thread, counted from t, whose point the new version lacks
abbrev pub lost_point : {X : Type 0} → Engine X → ℕ → Program → Program → ℕ → List (Thread X) → Option ℕ
lost_point e v old new t [] = None
lost_point e v old new t (th ∷ rest) =
    if is_lost old new th.standing (e.step v th.state) then Some t else lost_point e v old new (t + 1) rest

-- after a refusal: past its point
abbrev pub let_go : {X : Type 0} → Engine X → ℕ → Thread X → Thread X
let_go e v th = if_parked th.standing th (record { state = e.settle v (after_reply th.state (e.step v th.state) Done); standing = Live })

abbrev pub updating_from : Option ℕ → Mode
updating_from None = Normal
updating_from (Some p) = Updating p

-- after an update: at the entry of the new version, on the way to the point from which it was updated
abbrev pub restarted : {X : Type 0} → Engine X → ℕ → Program → Program → Thread X → Thread X
restarted e v old new th = if_parked th.standing th (record {
  state = e.settle (v + 1) (e.entry (v + 1) (updating_from (next_point old new (e.step v th.state))));
  standing = Live;
})

-- ---- the closing

abbrev pub marked : Mark → Shared → Shared
marked m s = record s { marks = s.marks ++ m ∷ [] }

-- the update: the new version's globals with their initial values, its literals, and the old values kept aside
abbrev pub updated : {X : Type 0} → Engine X → Program → Program → World X → World X
updated e old new w = let s = w.shared in record {
  shared = marked (Close s.turns s.requests (closed.Ok 0)) (record s {
    version = s.version + 1;
    memory = first_memory (s.version + 1) new s.memory.next;
    kept = kept_values old s.memory new;
    phase = Main;
  });
  threads = map (restarted e s.version old new) w.threads;
}

-- a refusal: memory and code stay, and the threads go on past their points
abbrev pub refused : {X : Type 0} → Engine X → ℕ → World X → World X
refused e t w = let s = w.shared in record {
  shared = marked (Close s.turns s.requests (closed.Point t)) (record s { phase = Run });
  threads = map (let_go e s.version) w.threads;
}

abbrev pub decided : {X : Type 0} → Engine X → Program → Program → Option ℕ → World X → World X
decided e old new None w = updated e old new w
decided e old new (Some t) w = refused e t w

-- the closing between two versions
abbrev pub closed_between : {X : Type 0} → Engine X → Option Program → Option Program → World X → World X
closed_between e None new w = w
closed_between e (Some old) None w = w
closed_between e (Some old) (Some new) w = decided e old new (lost_point e w.shared.version old new 0 w.threads) w

abbrev pub closing : {X : Type 0} → Engine X → Job → World X → World X
closing e job w = closed_between e (version_at job w.shared.version) (version_at job (w.shared.version + 1)) w
