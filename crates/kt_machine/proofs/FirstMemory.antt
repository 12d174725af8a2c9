-- The memory with which a version begins, object by object.
use Rattle.std.proofs.Common.{◌≡◌, ℕ, zero, suc, ◌+◌, ◌<◌, ◌==◌, ◌&&◌, Bool, true, false, cond, List, [], ◌∷◌, ◌++◌, length, map, take, Option, Some, None, slice_get, get_or, refl, sym, ap, subst, ◌∙◌, arith}
use Rattle.std.specs.List.{AllByRecursion}
use Rattle.std.specs.Option.{option_map}
use Rattle.std.proofs.lemmas.List.{take_all}
use Rattle.std.proofs.lemmas.Bool.Decides.{nat_tests}
use Rattle.std.proofs.lemmas.Option.{none-some, same_Some, slice_get_read}
use mathlib.Core.Path.{fun_ext}
use Rattle.kt_types.specs.declared.kinds.Ty.{Ty}
use Rattle.kt_types.specs.declared.kinds.Ty.TheVariants as ty
use Rattle.kt_types.specs.Layout.{cells}
use Rattle.kt_mem.specs.declared.memory.Name.{Name}
use Rattle.kt_mem.specs.declared.memory.Name.TheVariants.{Glob, Lit, Heap}
use Rattle.kt_mem.specs.declared.memory.Value.{Value}
use Rattle.kt_mem.specs.declared.memory.Value.TheVariants.{Num, Null, Ptr, Free, Held, Undef}
use Rattle.kt_mem.specs.Memory.{Memory, Object, Cell, no_objects, put, repeated, zero_value}
use Rattle.kt_mem.specs.Renaming.{Pairs, rename_value, renamed}
use Rattle.kt_heap.specs.ByNumber.{cell_by_number, object_by_number, object_named, by_number, WasGiven, HoldsGiven}
use Rattle.kt_heap.specs.Heap.{with_object}
use Rattle.kt_tree.specs.declared.global.GlobalDecl.{GlobalDecl}
use Rattle.kt_tree.specs.declared.global.Init.{Init}
use Rattle.kt_tree.specs.declared.global.Init.TheVariants as init
use Rattle.kt_tree.specs.Version.{Program, IsProgram, IsGlobal}
use Rattle.kt_lone.specs.Update.{initial_cell, char_cell, first_memory, first_object, global_object, literal_object}
use Rattle.kt_machine.specs.Outside.{HasCharLiterals}

-- ---- one element more of a list

-- the last of one element more
last : {X : Type 0} (xs : List X) (i : ℕ) (x : X) → slice_get xs i ≡ Some x → slice_get (take (suc i) xs) i ≡ Some x
last [] i x at = absurd (none-some x at)
last (y ∷ xs) zero x at = at
last (y ∷ xs) (suc i) x at = last xs i x at

-- the others
other : {X : Type 0} (xs : List X) (i j : ℕ) → (j ≡ i → ⊥) → slice_get (take i xs) j ≡ slice_get (take (suc i) xs) j
other [] zero j h = refl
other [] (suc i) j h = refl
other (y ∷ xs) zero zero h = absurd (h refl)
other (y ∷ xs) zero (suc j) h = refl
other (y ∷ xs) (suc i) zero h = refl
other (y ∷ xs) (suc i) (suc j) h = other xs i j (λ e. h (ap suc e))

-- what is made of one element more
one-more : {X Y : Type 0} (f : X → Y) (xs : List X) (i j : ℕ) (x : X) → slice_get xs i ≡ Some x →
    cond (j == i) (Some (f x)) (option_map f (slice_get (take i xs) j)) ≡ option_map f (slice_get (take (i + 1) xs) j)
one-more {X = X} f xs i j x at =
    let e : suc i ≡ i + 1 = omega arith in
    by_test (j == i) refl ∙ ap (λ n. option_map f (slice_get (take n xs) j)) e
  where
    by_test : (b : Bool) → (j == i) ≡ b → cond b (Some (f x)) (option_map f (slice_get (take i xs) j)) ≡ option_map f (slice_get (take (suc i) xs) j)
    by_test true e =
        let same : j ≡ i = grind (arith, nat_tests, e) in
        sym (ap (option_map f) (subst (λ (k : ℕ). slice_get (take (suc i) xs) k ≡ Some x) (sym same) (last xs i x at)))
    by_test false e = ap (option_map f) (other xs i j (λ same. grind (arith, nat_tests, e)))

-- ---- objects

module _ (v : ℕ) (p : Program) (next : ℕ) where
  -- the memory with the first globals alone, and with all globals and the first literals
  abbrev pub globals_first : ℕ → Memory
  globals_first i = first_memory v (record p { globals = take i p.globals; literals = [] }) next

  abbrev pub literals_first : ℕ → Memory
  literals_first i = first_memory v (record p { literals = take i p.literals }) next

  -- one global more
  pub globals-more : (i : ℕ) (g : GlobalDecl) → slice_get p.globals i ≡ Some g →
      with_object (globals_first i) (Glob i) (global_object v p.types g) ≡ globals_first (i + 1)
  unfolding put
  globals-more i g at = λ k. record { at = same k; next = next; live = 0 }
    where
      objects : (n : Name) → put (globals_first i).at (Glob i) (Some (global_object v p.types g)) n ≡ (globals_first (i + 1)).at n
      objects (Glob j) = one-more (global_object v p.types) p.globals i j g at
      objects (Lit w j) = refl
      objects (Heap a) = refl

      same : put (globals_first i).at (Glob i) (Some (global_object v p.types g)) ≡ (globals_first (i + 1)).at
      same = fun_ext objects

  -- one literal more
  pub literals-more : (i : ℕ) (bytes : List ℕ) → slice_get p.literals i ≡ Some bytes →
      with_object (literals_first i) (Lit v i) (literal_object bytes) ≡ literals_first (i + 1)
  unfolding put
  literals-more i bytes at = λ k. record { at = same k; next = next; live = 0 }
    where
      of_version : (b : Bool) (j : ℕ) →
          cond (b && (j == i)) (Some (literal_object bytes)) (cond b (option_map literal_object (slice_get (take i p.literals) j)) None)
          ≡ cond b (option_map literal_object (slice_get (take (i + 1) p.literals) j)) None
      of_version true j = one-more literal_object p.literals i j bytes at
      of_version false j = refl

      objects : (n : Name) → put (literals_first i).at (Lit v i) (Some (literal_object bytes)) n ≡ (literals_first (i + 1)).at n
      objects (Glob j) = refl
      objects (Lit w j) = of_version (w == v) j
      objects (Heap a) = refl

      same : put (literals_first i).at (Lit v i) (Some (literal_object bytes)) ≡ (literals_first (i + 1)).at
      same = fun_ext objects

  -- all of them
  pub globals-all : (i : ℕ) → i ≡ length p.globals → globals_first i ≡ first_memory v (record p { literals = [] }) next
  globals-all i e =
      let all : take i p.globals ≡ p.globals = take_all i p.globals (omega arith) in
      ap (λ (gs : List GlobalDecl). first_memory v (record p { globals = gs; literals = [] }) next) all

  pub literals-all : (i : ℕ) → i ≡ length p.literals → literals_first i ≡ first_memory v p next
  literals-all i e =
      let all : take i p.literals ≡ p.literals = take_all i p.literals (omega arith) in
      ap (λ (ls : List (List ℕ)). first_memory v (record p { literals = ls }) next) all

-- no object
none_if : (b : Bool) → let none : Option Object = None in none ≡ cond b none none
none_if true = refl
none_if false = refl

no-object-first : (v : ℕ) (p : Program) (n : Name) → no_objects n ≡ first_object v (record p { globals = []; literals = [] }) n
no-object-first v p (Glob j) = refl
no-object-first v p (Lit w j) = none_if (w == v)
no-object-first v p (Heap a) = refl

pub nothing-first : (v : ℕ) (p : Program) (next : ℕ) → record { at = no_objects; next = next; live = 0 } ≡ first_memory v (record p { globals = []; literals = [] }) next
nothing-first v p next =
    let same : no_objects ≡ first_object v (record p { globals = []; literals = [] }) = fun_ext (no-object-first v p) in
    λ k. record { at = same k; next = next; live = 0 }

-- ---- literals have `char` cells alone

chars : (bytes : List ℕ) → AllByRecursion (λ c. c.ty ≡ ty.Char) (map char_cell bytes)
chars [] = tt
chars (b ∷ bytes) = (refl, chars bytes)

module _ (o : Object) where
  literal-chars : (l : Option (List ℕ)) → option_map literal_object l ≡ Some o → AllByRecursion (λ c. c.ty ≡ ty.Char) o.cells
  literal-chars None e = absurd (none-some o e)
  literal-chars (Some bytes) e =
      subst (λ (q : Object). AllByRecursion (λ c. c.ty ≡ ty.Char) q.cells) (same_Some (literal_object bytes) o e) (chars (bytes ++ 0 ∷ []))

  version-chars : (b : Bool) (l : Option (List ℕ)) → cond b (option_map literal_object l) None ≡ Some o → AllByRecursion (λ c. c.ty ≡ ty.Char) o.cells
  version-chars true l e = literal-chars l e
  version-chars false l e = absurd (none-some o e)

-- in the memory with which a version begins
pub first_memory-chars : (v : ℕ) (p : Program) (next : ℕ) → HasCharLiterals (first_memory v p next)
first_memory-chars v p next w i o at = version-chars o (w == v) (slice_get p.literals i) at

-- ---- what a version has

-- what a loop over a list has at a place
pub item-at : {X : Type 0} (xs ys : List X) (i : ℕ) (x : X) → xs ≡ ys → i < length xs → x ≡ get_or xs i x → slice_get ys i ≡ Some x
item-at xs ys i x same within is =
    subst (λ zs. slice_get zs i ≡ Some x) same (slice_get_read xs (length xs) i x refl within is)

get-all : (P : GlobalDecl → Type 0) (gs : List GlobalDecl) (i : ℕ) (g : GlobalDecl) → AllByRecursion P gs → slice_get gs i ≡ Some g → P g
get-all P [] i g all at = absurd (none-some g at)
get-all P (x ∷ gs) zero g all at = subst P (same_Some x g at) all.0
get-all P (x ∷ gs) (suc i) g all at = get-all P gs i g all.1 at

pub global-is : (p : Program) → IsProgram p → (i : ℕ) (g : GlobalDecl) → slice_get p.globals i ≡ Some g → IsGlobal p g
global-is p h i g at = get-all (IsGlobal p) p.globals i g h.globals at

-- ---- no heap object, and no pointer to one

module _ (ps : Pairs) where
  abbrev AllGiven : List Cell → Type 0
  AllGiven cs = (k : ℕ) (c : Cell) → slice_get cs k ≡ Some c → WasGiven ps c.value

  none-given : AllGiven []
  none-given k c e = absurd (none-some c e)

  more-given : (c : Cell) (cs : List Cell) → WasGiven ps c.value → AllGiven cs → AllGiven (c ∷ cs)
  more-given c cs h a zero d e = subst (λ (x : Cell). WasGiven ps x.value) (same_Some c d e) h
  more-given c cs h a (suc k) d e = a k d e

  both-given : (cs ds : List Cell) → AllGiven cs → AllGiven ds → AllGiven (cs ++ ds)
  both-given [] ds a b = b
  both-given (c ∷ cs) ds a b = more-given c (cs ++ ds) (a 0 c refl) (both-given cs ds (λ k d e. a (suc k) d e) b)

  repeated-given : (n : ℕ) (cs : List Cell) → AllGiven cs → AllGiven (repeated n cs)
  repeated-given zero cs a = none-given
  repeated-given (suc n) cs a = both-given cs (repeated n cs) a (repeated-given n cs a)

  zero-given : (t : Ty) → WasGiven ps (zero_value t)
  zero-given ty.Char = tt
  zero-given ty.Int = tt
  zero-given ty.Long = tt
  zero-given ty.Mutex = tt
  zero-given (ty.Ptr e) = tt
  zero-given (ty.Struct i) = tt
  zero-given (ty.Array e n) = tt

  initial-given : (v : ℕ) (i : Init) (t : Ty) → WasGiven ps (initial_cell v i t).value
  initial-given v init.Zero t = zero-given t
  initial-given v (init.Number n) t = tt
  initial-given v init.Null t = tt
  initial-given v (init.Literal n) t = tt
  initial-given v init.Free t = tt

  mapped-given : {X : Type 0} (f : X → Cell) → ((x : X) → WasGiven ps (f x).value) → (xs : List X) → AllGiven (map f xs)
  mapped-given f h [] = none-given
  mapped-given f h (x ∷ xs) = more-given (f x) (map f xs) (h x) (mapped-given f h xs)

  module _ (v : ℕ) (p : Program) (o : Object) where
    global-given : (g : Option GlobalDecl) → option_map (global_object v p.types) g ≡ Some o → AllGiven o.cells
    global-given None e = absurd (none-some o e)
    global-given (Some g) e =
        subst (λ (x : Object). AllGiven x.cells) (same_Some (global_object v p.types g) o e)
        (repeated-given g.count (map (initial_cell v g.init) (cells p.types g.ty)) (mapped-given (initial_cell v g.init) (initial-given v g.init) (cells p.types g.ty)))

    literal-given : (b : Bool) (l : Option (List ℕ)) → cond b (option_map literal_object l) None ≡ Some o → AllGiven o.cells
    literal-given true None e = absurd (none-some o e)
    literal-given true (Some bytes) e =
        subst (λ (x : Object). AllGiven x.cells) (same_Some (literal_object bytes) o e) (mapped-given char_cell (λ b. tt) (bytes ++ 0 ∷ []))
    literal-given false l e = absurd (none-some o e)

  pub first-holds : (v : ℕ) (p : Program) (next : ℕ) → HoldsGiven ps (first_memory v p next)
  first-holds v p next (Glob i) o k c at there = global-given v p o (slice_get p.globals i) at k c there
  first-holds v p next (Lit w i) o k c at there = literal-given v p o (w == v) (slice_get p.literals i) at k c there
  first-holds v p next (Heap a) o k c at there = absurd (none-some o at)

-- where nothing was given out, everything is the same by heap number
value-same : (v : Value) → rename_value (renamed []) v ≡ v
value-same (Num z) = refl
value-same Null = refl
value-same (Ptr (Glob i) k) = refl
value-same (Ptr (Lit v i) k) = refl
value-same (Ptr (Heap a) k) = refl
value-same Free = refl
value-same (Held t) = refl
value-same Undef = refl

cells-same : (cs : List Cell) → map (cell_by_number []) cs ≡ cs
cells-same [] = refl
cells-same (c ∷ cs) = ap (λ (v : Value). record c { value = v } ∷ map (cell_by_number []) cs) (value-same c.value) ∙ ap (λ (ds : List Cell). c ∷ ds) (cells-same cs)

object-same : (o : Option Object) → option_map (object_by_number []) o ≡ o
object-same None = refl
object-same (Some o) = ap (λ (cs : List Cell). Some (record o { cells = cs })) (cells-same o.cells)

pub first-by : (v : ℕ) (p : Program) (next : ℕ) → by_number [] (first_memory v p next) ≡ first_memory v p next
first-by v p next = λ k. record { at = same k; next = next; live = 0 }
  where
    objects : (n : Name) → option_map (object_by_number []) (object_named [] (first_object v p) n) ≡ first_object v p n
    objects (Glob i) = object-same (first_object v p (Glob i))
    objects (Lit w i) = object-same (first_object v p (Lit w i))
    objects (Heap a) = refl

    same : (by_number [] (first_memory v p next)).at ≡ first_object v p
    same = fun_ext objects
