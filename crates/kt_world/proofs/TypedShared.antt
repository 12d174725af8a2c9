-- What threads share stays typed through acts on memory, input and output, a wait, a signal, and where kept values are placed.
use Rattle.std.specs.Prelude.{◌++◌, ◌+◌, nat_lt, length, ◌≡◌, ℕ, zero, suc, pos, negsuc, true, false, Bool, is_some, List, [], ◌∷◌, map, slice_get, Option, None, Some, Result, Ok, Err, refl, if◌then◌else◌}
use Rattle.std.specs.Option.{option_map}
use Rattle.std.proofs.Common.{ap, sym, subst, ◌∙◌}
use Rattle.std.proofs.lemmas.Option.{none-some, same_Some}
use Rattle.kt_types.specs.declared.kinds.Ty.{Ty}
use Rattle.kt_types.specs.declared.kinds.Ty.TheVariants as ty
use Rattle.kt_types.specs.Layout.{cells, layout, repeated}
use Rattle.kt_types.specs.Table.{Table}
use Rattle.kt_types.proofs.Parts.{cells-is}
use Rattle.kt_mem.specs.declared.memory.Name.{Name}
use Rattle.kt_mem.specs.declared.memory.Name.TheVariants.{Glob, Lit, Heap}
use Rattle.kt_mem.specs.declared.memory.Value.{Value}
use Rattle.kt_mem.specs.declared.memory.Value.TheVariants.{Num}
use Rattle.kt_mem.specs.declared.steps.Act.{Act}
use Rattle.kt_mem.specs.declared.steps.Act.TheVariants as act
use Rattle.kt_mem.specs.declared.steps.Reply.TheVariants.{Got}
use Rattle.kt_mem.specs.declared.steps.Trap.{Trap}
use Rattle.kt_mem.specs.declared.steps.Trap.TheVariants as trap
use Rattle.kt_mem.specs.declared.thread.Mode.{Mode}
use Rattle.kt_mem.specs.declared.thread.Mode.TheVariants.{Normal, Updating}
use Rattle.kt_mem.specs.Memory.{Cell, Memory, Object, alloc, init_mutex, initialised, lock, locked, release, store, unless_literal, unlock, unlocked, waits}
use Rattle.kt_tree.specs.declared.global.GlobalDecl.{GlobalDecl}
use Rattle.kt_tree.specs.Version.{Program}
use Rattle.kt_meaning.specs.Effects as outside
use Rattle.kt_meaning.specs.Effects.{Outcome, Replies, Waits, Elsewhere, leaves, makes, next_byte, pieces_text, reads, traps_with, writes}
use Rattle.kt_meaning.specs.Laws.{IsShared, IsTyped, LeavesShared}
use Rattle.kt_meaning.specs.ThreadTypes.{IsTypedAct}
use Rattle.kt_meaning.proofs.MemoryTypes.{effect-LeavesShared}
use Rattle.xf_plan.specs.KeepsTypes.{AreKeptFor, AreValuesOf, HasGlobals, IsKeptFor, IsMemoryOf, IsValueOf}
use Rattle.kt_world.specs.Acts.{migrated, placed, placed_at, placed_into, with_values}
use Rattle.kt_world.specs.Typed.{IsTypedShared}
use Rattle.kt_world.specs.World.{Shared, outside_of, with_outside}
use Rattle.kt_mem.specs.Laws.{SameShape}
use Rattle.kt_world.proofs.Formed.{IsFormed, alloc-formed, release-formed, same-form, written-formed}

-- ---- from form and cells

pub memory-of : (types : Table) (globals : List GlobalDecl) (m : Memory) → IsTyped m → IsFormed types globals m → IsMemoryOf types m
memory-of types globals m typed h = record {
  typed = typed;
  shaped = λ n o at. (h.objects n o at).shaped;
  chars = λ n o at. (h.objects n o at).chars;
  small = λ n o at. (h.objects n o at).small;
}

pub form-of : (types : Table) (globals : List GlobalDecl) (m : Memory) → IsMemoryOf types m → HasGlobals globals m → IsFormed types globals m
form-of types globals m is named = record {
  objects = λ n o at. record { shaped = is.shaped n o at; chars = is.chars n o at; small = is.small n o at };
  named = named;
}

module _ (p : Program) where
  abbrev pub Formed : Memory → Type 0
  Formed m = IsFormed p.types p.globals m

  -- what an outcome leaves is formed
  abbrev pub LeavesFormed : Outcome → Type 0
  LeavesFormed (Replies r s) = Formed s.memory
  LeavesFormed Waits = Unit {0}
  LeavesFormed Elsewhere = Unit {0}

  module _ (s : outside.Shared) (h : Formed s.memory) where
    reads-formed : (r : Result Value Trap) → LeavesFormed (reads s r)
    reads-formed (Ok v) = h
    reads-formed (Err cause) = h

    leaves-formed : (r : Result Memory Trap) → ((m : Memory) → r ≡ Ok m → Formed m) → LeavesFormed (leaves s r)
    leaves-formed (Ok m) gives = gives m refl
    leaves-formed (Err cause) gives = h

    makes-formed : (r : Result Memory Trap) → ((m : Memory) → r ≡ Ok m → Formed m) → LeavesFormed (makes s r)
    makes-formed (Ok m) gives = gives m refl
    makes-formed (Err cause) gives = h

    byte-formed : (bytes : List ℕ) → LeavesFormed (next_byte s bytes)
    byte-formed [] = h
    byte-formed (b ∷ bytes) = h

    choice-formed : (b : Bool) (x y : Outcome) → LeavesFormed x → LeavesFormed y → LeavesFormed (if b then x else y)
    choice-formed true x y i j = i
    choice-formed false x y i j = j

    writes-formed : (r : Result (List ℕ) Trap) → LeavesFormed (writes s r)
    writes-formed (Ok bytes) =
        choice-formed (nat_lt 16777216 (length s.output + length bytes)) (traps_with trap.Output s)
        (Replies (Got (Num (pos (length bytes)))) (record s { output = s.output ++ bytes })) h h
    writes-formed (Err cause) = h

    some-of : (o : Option (List Ty)) → is_some o ≡ true → (ts : List Ty) × (o ≡ Some ts)
    some-of None is = absurd cc
    some-of (Some ts) is = (ts, refl)

    alloc-so : (e : ℕ) (n : _) (zeros : Bool) → is_some (layout p.types e) ≡ true → (m : Memory) → alloc s.memory e (cells p.types e) n zeros ≡ Ok m → Formed m
    alloc-so e (pos n) zeros complete m is = alloc-formed p.types p.globals s.memory m e n zeros (some-of (layout p.types e) complete) is h
    alloc-so e (negsuc n) zeros complete m is = absurd cc

    -- an act of a thread of the version
    pub effect-formed : (t : ℕ) (a : Act) → IsTypedAct p a → LeavesFormed (outside.effect p.types t a s)
    effect-formed t act.Tick i = h
    effect-formed t (act.Load q u) i = reads-formed _
    effect-formed t (act.Store q u v) i =
        leaves-formed (store s.memory q u v) (λ m is. written-formed p.types p.globals s.memory m q u (λ old. unless_literal q v) is h)
    effect-formed t (act.Allocate e n zeros) i = makes-formed (alloc s.memory e (cells p.types e) n zeros) (alloc-so e n zeros i)
    effect-formed t (act.Release q) i = leaves-formed (release s.memory q) (λ m is. release-formed p.types p.globals s.memory m q is h)
    effect-formed t (act.Lock q) i =
        choice-formed (waits s.memory t q) Waits (leaves s (lock s.memory t q)) tt
        (leaves-formed (lock s.memory t q) (λ m is. written-formed p.types p.globals s.memory m q ty.Mutex (locked t) is h))
    effect-formed t (act.Unlock q) i = leaves-formed (unlock s.memory t q) (λ m is. written-formed p.types p.globals s.memory m q ty.Mutex (unlocked t) is h)
    effect-formed t (act.InitMutex q) i = leaves-formed (init_mutex s.memory q) (λ m is. written-formed p.types p.globals s.memory m q ty.Mutex initialised is h)
    effect-formed t act.GetChar i = byte-formed s.input
    effect-formed t (act.Print ps) i = writes-formed (pieces_text s.memory ps)
    effect-formed t (act.MigrateLocal f n) i = h
    effect-formed t (act.UpdatingTest n) i = h
    effect-formed t (act.Wait q) i = tt
    effect-formed t (act.Signal q all) i = tt
    effect-formed t (act.Create f v) i = tt
    effect-formed t (act.Join n) i = tt
    effect-formed t (act.Point n) i = tt
    effect-formed t act.Automigrate i = tt
    effect-formed t act.ThreadEnd i = tt
    effect-formed t (act.MainReturn n) i = tt

  -- ---- the world's own part

  -- with other memory, input and output
  pub outside-typed : (s : Shared) (o : outside.Shared) → IsTypedShared p s → IsShared o → Formed o.memory → IsTypedShared p (with_outside s o)
  outside-typed s o h is formed = record {
    outside = is;
    memory = memory-of p.types p.globals o.memory is.memory formed;
    globals = formed.named;
    kept = h.kept;
  }

  pub formed-of : (s : Shared) → IsTypedShared p s → Formed s.memory
  formed-of s h = form-of p.types p.globals s.memory h.memory h.globals

  -- what an act's outcome leaves
  abbrev pub LeavesTyped : Shared → Outcome → Type 0
  LeavesTyped s (Replies r o) = IsTypedShared p (with_outside s o)
  LeavesTyped s Waits = Unit {0}
  LeavesTyped s Elsewhere = Unit {0}

  leaves-typed : (s : Shared) (o : Outcome) → IsTypedShared p s → LeavesShared o → LeavesFormed o → LeavesTyped s o
  leaves-typed s (Replies r o) h shared formed = outside-typed s o h shared formed
  leaves-typed s Waits h shared formed = tt
  leaves-typed s Elsewhere h shared formed = tt

  pub effect-typed : (s : Shared) (t : ℕ) (a : Act) → IsTypedShared p s → IsTypedAct p a → LeavesTyped s (outside.effect p.types t a (outside_of s))
  effect-typed s t a h i =
      leaves-typed s (outside.effect p.types t a (outside_of s)) h (effect-LeavesShared p p.types t a (outside_of s) i h.outside)
      (effect-formed (outside_of s) (formed-of s h) t a i)

  -- another memory, as an unlock leaves it
  pub unlock-typed : (s : Shared) (t : ℕ) (q : Value) (m : Memory) → unlock s.memory t q ≡ Ok m → IsTypedShared p s → IsTypedShared p (record s { memory = m })
  unlock-typed s t q m is h = subst (LeavesTyped s) (ap (leaves (outside_of s)) is) (effect-typed s t (act.Unlock q) h tt)

-- ---- kept values are placed

abbrev ty_of : Cell → Ty
ty_of c = c.ty

abbrev Holds : Cell → Type 0
Holds c = IsValueOf c.ty c.value

-- cells keep their types
values-types : (cs : List Cell) (vs : List Value) → map ty_of (with_values cs vs) ≡ map ty_of cs
values-types [] vs = refl
values-types (c ∷ cs) [] = refl
values-types (c ∷ cs) (v ∷ vs) = ap (λ ts. c.ty ∷ ts) (values-types cs vs)

values-hold : (cs : List Cell) (vs : List Value) → AreValuesOf (map ty_of cs) vs → (k : ℕ) (c : Cell) → slice_get (with_values cs vs) k ≡ Some c → Holds c
values-hold [] vs h k c at = absurd (none-some c at)
values-hold (d ∷ cs) [] h k c at = absurd h
values-hold (d ∷ cs) (v ∷ vs) h zero c at = subst Holds (same_Some (record d { value = v }) c at) h.0
values-hold (d ∷ cs) (v ∷ vs) h (suc k) c at = values-hold cs vs h.1 k c at

-- what is kept for a global of that number
record KeptAt (types : Table) (globals : List GlobalDecl) (i : ℕ) (k : Option (List Value)) : Type 0 where
  global : GlobalDecl
  is : slice_get globals i ≡ Some global
  kept : IsKeptFor types global k

kept-at : (types : Table) (globals : List GlobalDecl) (all : List (Option (List Value))) (i : ℕ) (k : Option (List Value)) → AreKeptFor types globals all → slice_get all i ≡ Some k
    → KeptAt types globals i k
kept-at types globals [] i k h at = absurd (none-some k at)
kept-at types [] (x ∷ all) i k h at = absurd h
kept-at types (d ∷ globals) (x ∷ all) zero k h at = record { global = d; is = refl; kept = subst (IsKeptFor types d) (same_Some x k at) h.0 }
kept-at types (d ∷ globals) (x ∷ all) (suc i) k h at =
    let rest = kept-at types globals all i k h.1 at in record { global = rest.global; is = rest.is; kept = rest.kept }

module _ (p : Program) (s : Shared) (h : IsTypedShared p s) where
  abbrev m : Memory
  m = s.memory

  -- the object of a name, with what is kept for it
  record IsPlaced (n : Name) (o q : Object) : Type 0 where
    ty : q.ty ≡ o.ty
    count : q.count ≡ o.count
    number : q.number ≡ o.number
    types : map ty_of q.cells ≡ map ty_of o.cells
    hold : (k : ℕ) (c : Cell) → slice_get q.cells k ≡ Some c → Holds c

  unplaced : (n : Name) (o : Object) → m.at n ≡ Some o → IsPlaced n o o
  unplaced n o at = record { ty = refl; count = refl; number = refl; types = refl; hold = λ k c there. h.memory.typed n o k c at there }

  abbrev placed_in : List Value → Object → Object
  placed_in values o = record o { cells = with_values o.cells values }

  -- the values of a global's cells
  placed-so : (i : ℕ) (values : List Value) (o : Object) → m.at (Glob i) ≡ Some o → slice_get s.kept i ≡ Some (Some values) → IsPlaced (Glob i) o (placed_in values o)
  placed-so i values o at there =
      let k = kept-at p.types p.globals s.kept i (Some values) h.kept there in
      let d = k.global in
      let (x, x-at, x-ty, x-count) = h.globals i d k.is in
      let same : x ≡ o = same_Some x o (sym x-at ∙ at) in
      let ty : o.ty ≡ d.ty = ap (λ (y : Object). y.ty) (sym same) ∙ x-ty in
      let count : o.count ≡ d.count = ap (λ (y : Object). y.count) (sym same) ∙ x-count in
      let shaped = h.memory.shaped (Glob i) o at in
      let types : repeated d.count (cells p.types d.ty) ≡ map ty_of o.cells = by o (layout p.types o.ty) refl shaped d ty count in
      record {
        ty = refl;
        count = refl;
        number = refl;
        types = values-types o.cells values;
        hold = values-hold o.cells values (subst (λ ts. AreValuesOf ts values) types k.kept);
      }
    where
      by : (o : Object) (l : Option (List Ty)) → layout p.types o.ty ≡ l → option_map (repeated o.count) l ≡ Some (map ty_of o.cells) → (d : GlobalDecl) → o.ty ≡ d.ty → o.count ≡ d.count
          → repeated d.count (cells p.types d.ty) ≡ map ty_of o.cells
      by o None at is d ty count = absurd (none-some (map ty_of o.cells) is)
      by o (Some ts) at is d ty count =
          let own : cells p.types d.ty ≡ ts = ap (cells p.types) (sym ty) ∙ cells-is p.types o.ty ts at in
          ap (λ n. repeated n (cells p.types d.ty)) (sym count) ∙ ap (repeated o.count) own ∙ same_Some (repeated o.count ts) (map ty_of o.cells) is

  -- what stands there where the values are placed
  record Stood (n : Name) (q : Object) : Type 0 where
    object : Object
    is : m.at n ≡ Some object
    placed : IsPlaced n object q

  stood-into : (i : ℕ) (k : Option (Option (List Value))) (o : Option Object) (q : Object) → m.at (Glob i) ≡ o → slice_get s.kept i ≡ k → placed_into k o ≡ Some q → Stood (Glob i) q
  stood-into i (Some (Some values)) (Some o) q at there is =
      record { object = o; is = at; placed = subst (IsPlaced (Glob i) o) (same_Some (placed_in values o) q is) (placed-so i values o at there) }
  stood-into i (Some (Some values)) None q at there is = absurd (none-some q is)
  stood-into i (Some None) (Some o) q at there is =
      record { object = o; is = at; placed = subst (IsPlaced (Glob i) o) (same_Some o q is) (unplaced (Glob i) o at) }
  stood-into i (Some None) None q at there is = absurd (none-some q is)
  stood-into i None (Some o) q at there is =
      record { object = o; is = at; placed = subst (IsPlaced (Glob i) o) (same_Some o q is) (unplaced (Glob i) o at) }
  stood-into i None None q at there is = absurd (none-some q is)

  stood : (n : Name) (q : Object) → placed_at s.kept m n ≡ Some q → Stood n q
  stood (Glob i) q is = stood-into i (slice_get s.kept i) (m.at (Glob i)) q refl refl is
  stood (Lit v i) q is = record { object = q; is = is; placed = unplaced (Lit v i) q is }
  stood (Heap a) q is = record { object = q; is = is; placed = unplaced (Heap a) q is }

  placed-formed : IsFormed p.types p.globals (placed s.kept m)
  placed-formed = record {
    objects = λ n q at.
        let was = stood n q at in
        let same : SameShape was.object q = record { number = was.placed.number; ty = was.placed.ty; count = was.placed.count; types = was.placed.types } in
        same-form p.types n was.object q same ((formed-of p s h).objects n was.object was.is);
    named = λ i d is. named i d (h.globals i d is);
  }
    where
      into : (i : ℕ) (d : GlobalDecl) (k : Option (Option (List Value))) (o : Object) → m.at (Glob i) ≡ Some o → o.ty ≡ d.ty → o.count ≡ d.count → slice_get s.kept i ≡ k
          → (q : Object) × (placed_into k (m.at (Glob i)) ≡ Some q) × (q.ty ≡ d.ty) × (q.count ≡ d.count)
      into i d (Some (Some values)) o at ty count there = (placed_in values o, ap (placed_into (Some (Some values))) at, ty, count)
      into i d (Some None) o at ty count there = (o, ap (placed_into (Some None)) at, ty, count)
      into i d None o at ty count there = (o, ap (placed_into None) at, ty, count)

      named : (i : ℕ) (d : GlobalDecl) → (o : Object) × (m.at (Glob i) ≡ Some o) × (o.ty ≡ d.ty) × (o.count ≡ d.count)
          → (o : Object) × ((placed s.kept m).at (Glob i) ≡ Some o) × (o.ty ≡ d.ty) × (o.count ≡ d.count)
      named i d (o, at, ty, count) = into i d (slice_get s.kept i) o at ty count refl

  pub migrated-typed : (mode : Mode) → IsTypedShared p (migrated mode s)
  migrated-typed Normal = h
  migrated-typed (Updating q) =
      let typed : IsTyped (placed s.kept m) = λ n q k c at there. let was = stood n q at in was.placed.hold k c there in
      let outside = h.outside in
      record {
        outside = record { memory = typed; input = outside.input; output = outside.output };
        memory = memory-of p.types p.globals (placed s.kept m) typed placed-formed;
        globals = placed-formed.named;
        kept = tt;
      }
