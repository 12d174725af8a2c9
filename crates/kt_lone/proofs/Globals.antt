-- The objects of globals: those of a version's first memory, and what acts on memory leave of them.
use Rattle.std.proofs.Common.{◌≡◌, ℕ, zero, suc, ◌+◌, Bool, true, false, cond, if◌then◌else◌, nat_lt, List, [], ◌∷◌, ◌++◌, map, length, slice_get, slice_set, Option, option_map, Some, None, Result, Ok, Err, refl, sym, ◌∙◌, ap, subst}
use Rattle.std.proofs.lemmas.List.{map-append}
use Rattle.std.proofs.lemmas.Option.{none-some}
use Rattle.kt_types.specs.declared.kinds.Ty.{Ty}
use Rattle.kt_types.specs.declared.kinds.Ty.TheVariants as ty
use Rattle.kt_types.specs.Layout.{cells}
use Rattle.kt_types.specs.Table.{Table}
use Rattle.kt_mem.specs.declared.memory.Name.{Name}
use Rattle.kt_mem.specs.declared.memory.Name.TheVariants.{Glob, Heap}
use Rattle.kt_mem.specs.declared.memory.Value.{Value}
use Rattle.kt_mem.specs.declared.memory.Value.TheVariants.{Num, Null, Ptr, Free, Held, Undef}
use Rattle.kt_mem.specs.declared.steps.Act.{Act}
use Rattle.kt_mem.specs.declared.steps.Act.TheVariants as act
use Rattle.kt_mem.specs.declared.steps.Trap.{Trap}
use Rattle.kt_mem.specs.declared.steps.Trap.TheVariants as trap
use Rattle.kt_mem.specs.Laws.{Effect, Stores, Allocates, Releases, Locks, Unlocks, Inits, effect_on}
use Rattle.kt_mem.specs.Memory.{Cell, Object, Memory, put, cell_value, value_in, value_at, load, object_with, with_value, store, lock, unlock, init_mutex, waits, repeated, alloc, release}
use Rattle.kt_mem.specs.Values.{ty_eq}
use Rattle.kt_mem.proofs.Changes.{Change, Kept, Wrote, Made, Freed, changed}
use Rattle.kt_mem.proofs.Names.{ty_eq-true, put-other, put-cases}
use Rattle.kt_tree.specs.declared.global.GlobalDecl.{GlobalDecl}
use Rattle.kt_tree.specs.declared.global.Init.{Init}
use Rattle.kt_tree.specs.Version.{Program}
use Rattle.kt_meaning.specs.Effects.{Shared, Outcome, Replies, Waits, Elsewhere, pieces_text, reads, leaves, makes, next_byte, writes, effect}
use Rattle.kt_lone.specs.Job.{types_of}
use Rattle.kt_lone.specs.Update.{initial_cell, global_object, first_memory, or_same, placed_one, placed_from, placed}
use Rattle.kt_lone.specs.Turn.{memory_if}
use Rattle.kt_lone.specs.Typed.{IsShapedAs, HasGlobals}

-- ---- shapes

pub shape-refl : (o : Object) → IsShapedAs o o
shape-refl o = record { ty = refl; count = refl; cells = refl }

pub shape-trans : (o p q : Object) → IsShapedAs o p → IsShapedAs p q → IsShapedAs o q
shape-trans o p q h k = record { ty = h.ty ∙ k.ty; count = h.count ∙ k.count; cells = h.cells ∙ k.cells }

-- the object of each global is there afterwards, with its shape
pub record KeepsGlobals (m after : Memory) : Type 0 where
  pub object : (i : ℕ) (o : Object) → m.at (Glob i) ≡ Some o → (p : Object) × (after.at (Glob i) ≡ Some p) × IsShapedAs p o

pub globals-stay : (m : Memory) → KeepsGlobals m m
globals-stay m = record { object = λ i o is. (o, is, shape-refl o) }

pub globals-trans : (m n after : Memory) → KeepsGlobals m n → KeepsGlobals n after → KeepsGlobals m after
globals-trans m n after h k = record {
  object = λ i o is.
      let first = h.object i o is in
      let last = k.object i first.0 first.1 in
      (last.0, last.1, shape-trans last.0 first.0 o last.2 first.2);
}

pub has-globals : (p : Option Program) (m after : Memory) → KeepsGlobals m after → HasGlobals p m → HasGlobals p after
has-globals p m after keeps has i g is =
    let before = has i g is in
    let now = keeps.object i before.0 before.1 in
    (now.0, now.1, shape-trans now.0 before.0 (global_object 0 (types_of p) g) now.2 before.2)

-- ---- a written cell

-- a cell is written where one of the same type was
types-set : (cs : List Cell) (k : ℕ) (t : Ty) (old new : Value) → cell_value (slice_get cs k) t ≡ Ok old →
    map (λ c. c.ty) (slice_set cs k (record { ty = t; value = new })) ≡ map (λ c. c.ty) cs
types-set [] k t old new h = refl
types-set (c ∷ cs) zero t old new h = ap (λ u. u ∷ map (λ c. c.ty) cs) (type_of (ty_eq c.ty t) refl h)
  where
    type_of : (b : Bool) → ty_eq c.ty t ≡ b → cond b (Ok c.value) (Err trap.Bounds) ≡ Ok old → t ≡ c.ty
    type_of true e h = sym (ty_eq-true c.ty t e)
    type_of false e h = cc
types-set (c ∷ cs) (suc k) t old new h = ap (λ us. c.ty ∷ us) (types-set cs k t old new h)

shape-with : (o : Object) (k : ℕ) (t : Ty) (old new : Value) → value_in (Some o) k t ≡ Ok old →
    IsShapedAs (object_with k (record { ty = t; value = new }) o) o
shape-with o k t old new h = record { ty = refl; count = refl; cells = types-set o.cells k t old new h }

-- what lies under a name with another object, which has the shape of the one that was there
put-globals : (m : Memory) (n : Name) (o : Option Object) → ((p : Object) → m.at n ≡ Some p → (q : Object) × (o ≡ Some q) × IsShapedAs q p) →
    (i : ℕ) (p : Object) → m.at (Glob i) ≡ Some p → (q : Object) × (put m.at n o (Glob i) ≡ Some q) × IsShapedAs q p
put-globals m n o shaped i p is =
    put-cases (λ x. (q : Object) × (x ≡ Some q) × IsShapedAs q p) m.at n (Glob i) o
    (λ same. shaped p (subst (λ r. m.at r ≡ Some p) same is))
    (λ other. (p, is, shape-refl p))

with_value-globals : (m : Memory) (p : Value) (t : Ty) (old new : Value) → value_at m p t ≡ Ok old → KeepsGlobals m (with_value m p t new)
with_value-globals m (Ptr n k) t old new was = record {
  object = put-globals m n (option_map (object_with k (record { ty = t; value = new })) (m.at n)) (λ o is. (
    object_with k (record { ty = t; value = new }) o,
    ap (option_map (object_with k (record { ty = t; value = new }))) is,
    shape-with o k t old new (subst (λ x. value_in x k t ≡ Ok old) is was),
  ));
}
with_value-globals m Null t old new was = globals-stay m
with_value-globals m (Num z) t old new was = globals-stay m
with_value-globals m Free t old new was = globals-stay m
with_value-globals m (Held h) t old new was = globals-stay m
with_value-globals m Undef t old new was = globals-stay m

-- ---- acts on memory

heap-globals : (m after : Memory) (a : ℕ) (o : Option Object) → after.at ≡ put m.at (Heap a) o → KeepsGlobals m after
heap-globals m after a o is = record {
  object = λ i p was. (p, ap (λ at. at (Glob i)) is ∙ put-other m.at (Heap a) (Glob i) o refl ∙ was, shape-refl p);
}

change-globals : (m after : Memory) → Change m after → KeepsGlobals m after
change-globals m after (Kept e) = subst (KeepsGlobals m) (sym e) (globals-stay m)
change-globals m after (Wrote p t old new was e) = subst (KeepsGlobals m) (sym e) (with_value-globals m p t old new was)
change-globals m after (Made o room e) = heap-globals m after m.next (Some o) (ap (λ x. x.at) e)
change-globals m after (Freed a o was e) = heap-globals m after a None (ap (λ x. x.at) e)

effect_on-globals : (m after : Memory) (e : Effect) → effect_on m e ≡ Ok after → KeepsGlobals m after
effect_on-globals m after e is = change-globals m after (changed m after e is)

-- what an outcome leaves
abbrev pub LeavesGlobals : Memory → Outcome → Type 0
LeavesGlobals m (Replies r s) = KeepsGlobals m s.memory
LeavesGlobals m Waits = Unit {0}
LeavesGlobals m Elsewhere = Unit {0}

reads-globals : (s : Shared) (r : Result Value Trap) → LeavesGlobals s.memory (reads s r)
reads-globals s (Ok v) = globals-stay s.memory
reads-globals s (Err t) = globals-stay s.memory

leaves-globals : (s : Shared) (r : Result Memory Trap) → ((m : Memory) → r ≡ Ok m → KeepsGlobals s.memory m) →
    LeavesGlobals s.memory (leaves s r)
leaves-globals s (Ok m) keeps = keeps m refl
leaves-globals s (Err t) keeps = globals-stay s.memory

makes-globals : (s : Shared) (r : Result Memory Trap) → ((m : Memory) → r ≡ Ok m → KeepsGlobals s.memory m) →
    LeavesGlobals s.memory (makes s r)
makes-globals s (Ok m) keeps = keeps m refl
makes-globals s (Err t) keeps = globals-stay s.memory

byte-globals : (s : Shared) (bytes : List ℕ) → LeavesGlobals s.memory (next_byte s bytes)
byte-globals s [] = globals-stay s.memory
byte-globals s (b ∷ rest) = globals-stay s.memory

if-globals : (m : Memory) (b : Bool) (o p : Outcome) → LeavesGlobals m o → LeavesGlobals m p → LeavesGlobals m (if b then o else p)
if-globals m true o p h k = h
if-globals m false o p h k = k

writes-globals : (s : Shared) (r : Result (List ℕ) Trap) → LeavesGlobals s.memory (writes s r)
writes-globals s (Ok bytes) =
    if-globals s.memory (nat_lt 16777216 (length s.output + length bytes)) _ _ (globals-stay s.memory) (globals-stay s.memory)
writes-globals s (Err t) = globals-stay s.memory

-- each act
pub effect-globals : (types : Table) (thread : ℕ) (a : Act) (s : Shared) → LeavesGlobals s.memory (effect types thread a s)
effect-globals types thread act.Tick s = globals-stay s.memory
effect-globals types thread (act.Load p t) s = reads-globals s (load s.memory p t)
effect-globals types thread (act.Store p t v) s =
    leaves-globals s (store s.memory p t v) (λ m is. effect_on-globals s.memory m (Stores p t v) is)
effect-globals types thread (act.Allocate e n zeros) s =
    makes-globals s (alloc s.memory e (cells types e) n zeros) (λ m is. effect_on-globals s.memory m (Allocates e (cells types e) n zeros) is)
effect-globals types thread (act.Release p) s =
    leaves-globals s (release s.memory p) (λ m is. effect_on-globals s.memory m (Releases p) is)
effect-globals types thread (act.Lock p) s =
    if-globals s.memory (waits s.memory thread p) Waits _ tt
    (leaves-globals s (lock s.memory thread p) (λ m is. effect_on-globals s.memory m (Locks thread p) is))
effect-globals types thread (act.Unlock p) s =
    leaves-globals s (unlock s.memory thread p) (λ m is. effect_on-globals s.memory m (Unlocks thread p) is)
effect-globals types thread (act.InitMutex p) s =
    leaves-globals s (init_mutex s.memory p) (λ m is. effect_on-globals s.memory m (Inits p) is)
effect-globals types thread act.GetChar s = byte-globals s s.input
effect-globals types thread (act.Wait p) s = tt
effect-globals types thread (act.Signal p all) s = tt
effect-globals types thread (act.Print ps) s = writes-globals s (pieces_text s.memory ps)
effect-globals types thread (act.MigrateLocal f n) s = globals-stay s.memory
effect-globals types thread (act.UpdatingTest n) s = globals-stay s.memory
effect-globals types thread (act.Create f v) s = tt
effect-globals types thread (act.Join n) s = tt
effect-globals types thread (act.Point n) s = tt
effect-globals types thread act.Automigrate s = tt
effect-globals types thread act.ThreadEnd s = tt
effect-globals types thread (act.MainReturn n) s = tt

-- ---- kept values

or_same-globals : (m : Memory) (r : Result Memory Trap) → ((n : Memory) → r ≡ Ok n → KeepsGlobals m n) → KeepsGlobals m (or_same m r)
or_same-globals m (Ok n) keeps = keeps n refl
or_same-globals m (Err t) keeps = globals-stay m

placed_one-globals : (i : ℕ) (k : Option Value) (m : Memory) → KeepsGlobals m (placed_one i k m)
placed_one-globals i None m = globals-stay m
placed_one-globals i (Some v) m =
    or_same-globals m (store m (Ptr (Glob i) 0) ty.Int v) (λ n is. effect_on-globals m n (Stores (Ptr (Glob i) 0) ty.Int v) is)

placed_from-globals : (i : ℕ) (kept : List (Option Value)) (m : Memory) → KeepsGlobals m (placed_from i kept m)
placed_from-globals i [] m = globals-stay m
placed_from-globals i (k ∷ kept) m =
    globals-trans m (placed_one i k m) _ (placed_one-globals i k m) (placed_from-globals (i + 1) kept (placed_one i k m))

pub placed-globals : (kept : List (Option Value)) (m : Memory) → KeepsGlobals m (placed kept m)
placed-globals kept m = placed_from-globals 0 kept m

-- ---- the first memory of a version

-- the types of initial cells are those of the version that is counted 0
initial-types : (v : ℕ) (i : Init) (ts : List Ty) → map (λ c. c.ty) (map (initial_cell v i) ts) ≡ map (λ c. c.ty) (map (initial_cell 0 i) ts)
initial-types v i [] = refl
initial-types v i (t ∷ ts) = ap (λ us. t ∷ us) (initial-types v i ts)

repeated-types : (n : ℕ) (cs ds : List Cell) → map (λ c. c.ty) cs ≡ map (λ c. c.ty) ds →
    map (λ c. c.ty) (repeated n cs) ≡ map (λ c. c.ty) (repeated n ds)
repeated-types zero cs ds same = refl
repeated-types (suc n) cs ds same =
    map-append (λ c. c.ty) cs (repeated n cs) ∙ ap (λ us. us ++ map (λ c. c.ty) (repeated n cs)) same
    ∙ ap (λ us. map (λ c. c.ty) ds ++ us) (repeated-types n cs ds same) ∙ sym (map-append (λ c. c.ty) ds (repeated n ds))

global-shape : (v : ℕ) (types : Table) (g : GlobalDecl) → IsShapedAs (global_object v types g) (global_object 0 types g)
global-shape v types g = record {
  ty = refl;
  count = refl;
  cells = repeated-types g.count (map (initial_cell v g.init) (cells types g.ty)) (map (initial_cell 0 g.init) (cells types g.ty))
      (initial-types v g.init (cells types g.ty));
}

pub first_memory-globals : (v : ℕ) (p : Program) (next : ℕ) → HasGlobals (Some p) (first_memory v p next)
first_memory-globals v p next i g is = (global_object v p.types g, ap (option_map (global_object v p.types)) is, global-shape v p.types g)

pub memory_if-globals : (o : Option Program) → HasGlobals o (memory_if o)
memory_if-globals None i g is = absurd (none-some g is)
memory_if-globals (Some p) i g is = first_memory-globals 0 p 0 i g is
