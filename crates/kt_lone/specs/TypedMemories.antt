-- Memories stay typed: those with which versions begin, and those in which kept values are placed. Kept values are of `int`.
use Rattle.std.specs.Prelude.{◌≡◌, ◌⊎◌, IsTrue, ℕ, zero, suc, ◌+◌, ◌-◌, ◌<◌, ◌^◌, ◌==◌, ℤ, pos, negsuc, nat_lt, Bool, true, false, List, [], ◌∷◌, ◌++◌, map, slice_get, Option, Some, None, option_and_then, Result, Ok, Err, if◌then◌else◌, slice_index_or, refl}
use Rattle.std.specs.Option.{option_map}
use Rattle.std.specs.List.{All, AllByRecursion}
use Rattle.std.proofs.Common.{sym, subst, ◌∙◌, arith, inl, inr}
use Rattle.std.proofs.lemmas.Bool.{false≢true, lt-ltb}
use Rattle.std.proofs.lemmas.Bool.Decides.{nat_tests}
use Rattle.std.proofs.lemmas.List.Elements.{All-head, All-tail, All-map}
use Rattle.std.proofs.lemmas.Option.{none-some, same_Some}
use Rattle.kt_types.proofs.Laws.{layout-alone}
use Rattle.kt_types.proofs.Parts.{cells-is}
use Rattle.kt_types.specs.declared.kinds.Ty.{Ty}
use Rattle.kt_types.specs.declared.kinds.Ty.TheVariants as ty
use Rattle.kt_types.specs.Layout.{layout, cells}
use Rattle.kt_types.specs.Table.{Table, scalar_table}
use Rattle.kt_mem.specs.declared.memory.Name.{Name}
use Rattle.kt_mem.specs.declared.memory.Name.TheVariants.{Glob, Lit, Heap}
use Rattle.kt_mem.specs.declared.memory.Value.{Value}
use Rattle.kt_mem.specs.declared.memory.Value.TheVariants.{Num, Ptr, Undef}
use Rattle.kt_mem.specs.declared.steps.Act.TheVariants as act
use Rattle.kt_mem.specs.declared.steps.Trap.{Trap}
use Rattle.kt_mem.specs.Arithmetic.{fits}
use Rattle.kt_mem.specs.Memory.{Cell, Object, Memory, load, store, repeated}
use Rattle.kt_tree.specs.declared.global.GlobalDecl.{GlobalDecl}
use Rattle.kt_tree.specs.declared.global.Init.{Init}
use Rattle.kt_tree.specs.declared.global.Init.TheVariants as init
use Rattle.kt_tree.specs.Kinds.{fits_in}
use Rattle.kt_tree.specs.Version.{Program, program, IsProgram, IsGlobal, is_initial}
use Rattle.kt_meaning.proofs.EffectTypes.{effect-IsOutcomeOf}
use Rattle.kt_meaning.proofs.MemoryTypes.{effect-LeavesShared}
use Rattle.kt_meaning.proofs.OperationTypes.{and-true}
use Rattle.kt_meaning.specs.Effects as outside
use Rattle.kt_meaning.specs.Effects.{reads, leaves}
use Rattle.kt_meaning.specs.Laws.{IsTyped, IsShared, IsOutcomeOf, LeavesShared}
use Rattle.kt_meaning.specs.Values.{is_of}
use Rattle.kt_lone.specs.Typed.{IsIntIfSome}
use Rattle.kt_lone.specs.Update.{initial_cell, global_object, char_cell, literal_object, first_object, first_memory, old_global, value_if, value_of_global, kept_value, kept_values, or_same, placed_one, placed_from, placed}

-- ---- cells

-- a cell holds a value of its type, or the undefined one; and so does each of these
abbrev Holds : Cell → Type 0
Holds c = (c.value ≡ Undef) ⊎ IsTrue (is_of c.ty c.value)

abbrev AllHold : List Cell → Type 0
AllHold cs = (k : ℕ) (c : Cell) → slice_get cs k ≡ Some c → Holds c

none-hold : AllHold []
none-hold k c e = absurd (none-some c e)

more-hold : (c : Cell) (cs : List Cell) → Holds c → AllHold cs → AllHold (c ∷ cs)
more-hold c cs h a zero d e = subst Holds (same_Some c d e) h
more-hold c cs h a (suc k) d e = a k d e

both-hold : (cs ds : List Cell) → AllHold cs → AllHold ds → AllHold (cs ++ ds)
both-hold [] ds a b = b
both-hold (c ∷ cs) ds a b = more-hold c (cs ++ ds) (a 0 c refl) (both-hold cs ds (λ k d e. a (suc k) d e) b)

repeated-hold : (n : ℕ) (cs : List Cell) → AllHold cs → AllHold (repeated n cs)
repeated-hold zero cs a = none-hold
repeated-hold (suc n) cs a = both-hold cs (repeated n cs) a (repeated-hold n cs a)

-- ---- initial values

zero-holds : (v : ℕ) (t : Ty) → Holds (initial_cell v init.Zero t)
zero-holds v ty.Char = inr refl
zero-holds v ty.Int = inr refl
zero-holds v ty.Long = inr refl
zero-holds v ty.Mutex = inr refl
zero-holds v (ty.Ptr u) = inr refl
zero-holds v (ty.Struct s) = inl refl
zero-holds v (ty.Array e n) = inl refl

zeros-hold : (v : ℕ) (types : List Ty) → AllHold (map (initial_cell v init.Zero) types)
zeros-hold v [] = none-hold
zeros-hold v (t ∷ types) = more-hold (initial_cell v init.Zero t) (map (initial_cell v init.Zero) types) (zero-holds v t) (zeros-hold v types)

fits-same : (bits : ℕ) (z : ℤ) → fits_in bits z ≡ fits (2 ^ bits) z
fits-same bits (pos n) = refl
fits-same bits (negsuc n) = refl

number-fits : (bits : ℕ) (z : ℤ) → fits_in bits z ≡ true → fits (2 ^ bits) z ≡ true
number-fits bits z h = sym (fits-same bits z) ∙ h

-- the one cell of a scalar type
scalar-hold : (v : ℕ) (i : Init) (types : Table) (place : ℕ) (t : Ty) → layout types place ≡ Some (t ∷ []) → Holds (initial_cell v i t) →
    AllHold (map (initial_cell v i) (cells types place))
scalar-hold v i types place t is h =
    subst (λ ts. AllHold (map (initial_cell v i) ts)) (sym (cells-is types place (t ∷ []) is)) (more-hold (initial_cell v i t) [] h none-hold)

module _ (p : Program) (v place : ℕ) where
  initial-hold : (i : Init) (t : Option Ty) (array : Bool) → slice_get p.types.types place ≡ t → is_initial p t array i ≡ true →
      AllHold (map (initial_cell v i) (cells p.types place))
  initial-hold init.Zero t array at h = zeros-hold v (cells p.types place)
  initial-hold (init.Number n) (Some ty.Char) false at h =
      scalar-hold v (init.Number n) p.types place ty.Char (layout-alone p.types place ty.Char _ at (λ _. refl))
      (inr (and-true (fits (2 ^ 7) n) ∙ number-fits 7 n h))
  initial-hold (init.Number n) (Some ty.Int) false at h =
      scalar-hold v (init.Number n) p.types place ty.Int (layout-alone p.types place ty.Int _ at (λ _. refl))
      (inr (and-true (fits (2 ^ 31) n) ∙ number-fits 31 n h))
  initial-hold (init.Number n) (Some ty.Long) false at h =
      scalar-hold v (init.Number n) p.types place ty.Long (layout-alone p.types place ty.Long _ at (λ _. refl))
      (inr (and-true (fits (2 ^ 63) n) ∙ number-fits 63 n h))
  initial-hold init.Null (Some (ty.Ptr e)) false at h =
      scalar-hold v init.Null p.types place (ty.Ptr e) (layout-alone p.types place (ty.Ptr e) _ at (λ _. refl)) (inr refl)
  initial-hold (init.Literal n) (Some (ty.Ptr e)) false at h =
      scalar-hold v (init.Literal n) p.types place (ty.Ptr e) (layout-alone p.types place (ty.Ptr e) _ at (λ _. refl)) (inr refl)
  initial-hold init.Free (Some ty.Mutex) false at h =
      scalar-hold v init.Free p.types place ty.Mutex (layout-alone p.types place ty.Mutex _ at (λ _. refl)) (inr refl)
  initial-hold i t array at h = absurd (false≢true h)

global-holds : (p : Program) (v : ℕ) (g : GlobalDecl) → IsGlobal p g → AllHold (global_object v p.types g).cells
global-holds p v g i =
    repeated-hold g.count (map (initial_cell v g.init) (cells p.types g.ty))
    (initial-hold p v g.ty g.init (slice_get p.types.types g.ty) g.array refl i.initial)

-- ---- literals

char-holds : (b : ℕ) → Holds (char_cell b)
char-holds b = by_test (nat_lt b 128) refl
  where
    by_test : (c : Bool) → nat_lt b 128 ≡ c → Holds (record { ty = ty.Char; value = Num (if c then pos b else negsuc (255 - b)) })
    by_test true e = inr (and-true (nat_lt b 128) ∙ e)
    by_test false e =
        let small : 255 - b < 128 = grind (arith, nat_tests, e) in
        inr (and-true (nat_lt (255 - b) 128) ∙ lt-ltb (255 - b) 128 small)

chars-hold : (bytes : List ℕ) → AllHold (map char_cell bytes)
chars-hold [] = none-hold
chars-hold (b ∷ bytes) = more-hold (char_cell b) (map char_cell bytes) (char-holds b) (chars-hold bytes)

-- ---- first memories

global-found : (P : GlobalDecl → Type 0) (gs : List GlobalDecl) (n : ℕ) (g : GlobalDecl) → AllByRecursion P gs → slice_get gs n ≡ Some g → P g
global-found P [] n g a e = absurd (none-some g e)
global-found P (x ∷ gs) zero g a e = subst P (same_Some x g e) a.0
global-found P (x ∷ gs) (suc n) g a e = global-found P gs n g a.1 e

abbrev ObjectHolds : Option Object → Type 0
ObjectHolds o = (q : Object) → o ≡ Some q → AllHold q.cells

object-holds : (f : Object) → AllHold f.cells → ObjectHolds (Some f)
object-holds f a q e = subst (λ (x : Object). AllHold x.cells) (same_Some f q e) a

no-object-holds : ObjectHolds None
no-object-holds q e = absurd (none-some q e)

module _ (p : Program) (h : IsProgram p) (v : ℕ) where
  global-object-holds : (i : ℕ) (o : Option GlobalDecl) → slice_get p.globals i ≡ o → ObjectHolds (option_map (global_object v p.types) o)
  global-object-holds i None e = no-object-holds
  global-object-holds i (Some g) e =
      object-holds (global_object v p.types g) (global-holds p v g (global-found (IsGlobal p) p.globals i g h.globals e))

  literal-object-holds : (o : Option (List ℕ)) → ObjectHolds (option_map literal_object o)
  literal-object-holds None = no-object-holds
  literal-object-holds (Some bytes) = object-holds (literal_object bytes) (chars-hold (bytes ++ 0 ∷ []))

  own-literal-holds : (b : Bool) (o : Option (List ℕ)) → ObjectHolds (if b then option_map literal_object o else None)
  own-literal-holds true o = literal-object-holds o
  own-literal-holds false o = no-object-holds

  first-object-holds : (n : Name) → ObjectHolds (first_object v p n)
  first-object-holds (Glob i) = global-object-holds i (slice_get p.globals i) refl
  first-object-holds (Lit w i) = own-literal-holds (w == v) (slice_get p.literals i)
  first-object-holds (Heap a) = no-object-holds

  -- the memory with which a version begins
  pub first_memory-typed : (next : ℕ) → IsTyped (first_memory v p next)
  first_memory-typed next n o k c at there = first-object-holds n o at k c there

-- ---- kept values

-- a program for acts that name none
abbrev no_program : Program
no_program = program scalar_table [] [] [] (record { names = []; updates = 0 })

module _ (s : outside.Shared) (h : IsShared s) where
  loaded-int : (p : Value) (r : Result Value Trap) → IsOutcomeOf (act.Load p ty.Int) (reads s r) → IsIntIfSome (value_if r)
  loaded-int p (Ok v) i = i.1
  loaded-int p (Err e) i = tt

  global-int : (i : ℕ) → IsIntIfSome (value_of_global s.memory i)
  global-int i =
      loaded-int (Ptr (Glob i) 0) (load s.memory (Ptr (Glob i) 0) ty.Int) (effect-IsOutcomeOf scalar_table 0 (act.Load (Ptr (Glob i) 0) ty.Int) s h)

  found-int : (o : Option ℕ) → IsIntIfSome (option_and_then (value_of_global s.memory) o)
  found-int None = tt
  found-int (Some i) = global-int i

  -- what is kept for a new version
  pub kept_values-int : (old new : Program) → All IsIntIfSome (kept_values old s.memory new)
  kept_values-int old new =
      All-map IsIntIfSome (kept_value old s.memory) new.globals (λ k d in_range. found-int (old_global old (slice_index_or new.globals k d)))

  -- a store of a value of its type leaves a typed memory
  stored-typed : (r : Result Memory Trap) → LeavesShared (leaves s r) → IsTyped (or_same s.memory r)
  stored-typed (Ok m) l = l.memory
  stored-typed (Err e) l = h.memory

  placed_one-typed : (i : ℕ) (k : Option Value) → IsIntIfSome k → IsTyped (placed_one i k s.memory)
  placed_one-typed i None j = h.memory
  placed_one-typed i (Some v) j =
      stored-typed (store s.memory (Ptr (Glob i) 0) ty.Int v)
      (effect-LeavesShared no_program scalar_table 0 (act.Store (Ptr (Glob i) 0) ty.Int v) s j h)

with-memory : (s : outside.Shared) (m : Memory) → IsShared s → IsTyped m → IsShared (record s { memory = m })
with-memory s m h i = record { memory = i; input = h.input; output = h.output }

placed_from-typed : (i : ℕ) (kept : List (Option Value)) (s : outside.Shared) → IsShared s → All IsIntIfSome kept → IsTyped (placed_from i kept s.memory)
placed_from-typed i [] s h all = h.memory
placed_from-typed i (k ∷ kept) s h all =
    let m = placed_one i k s.memory in
    placed_from-typed (i + 1) kept (record s { memory = m })
    (with-memory s m h (placed_one-typed s h i k (All-head IsIntIfSome k kept all))) (All-tail IsIntIfSome k kept all)

-- what is shared, where the kept values are placed
pub placed-shared : (kept : List (Option Value)) (s : outside.Shared) → IsShared s → All IsIntIfSome kept → IsShared (record s { memory = placed kept s.memory })
placed-shared kept s h all = with-memory s (placed kept s.memory) h (placed_from-typed 0 kept s h all)
