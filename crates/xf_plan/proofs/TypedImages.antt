-- What an update makes of a typed memory is typed, where the plan keeps types: the images of heap objects and literals, the objects of
-- fresh places, and the values that are kept.
use Rattle.std.specs.Prelude.{◌≡◌, ◌⊎◌, ℕ, zero, suc, ◌+◌, ◌-◌, ◌*◌, ◌≤◌, nat_lt, sum, unwrap_or, length, IsSome, ◌==◌, ◌&&◌, ◌||◌, Bool, true, false, List, [], ◌∷◌, ◌++◌, map, filter, flat_map, slice_get, Option, None, Some, Result, Ok, Err, refl, if◌then◌else◌}
use Rattle.std.specs.List.{AllByRecursion, list_any}
use Rattle.std.specs.Option.{option_map}
use Rattle.std.proofs.Common.{arith, ltb-false, ap, sym, subst, ◌∙◌, inl, inr}
use Rattle.std.proofs.lemmas.Option.{none-some, same_Some}
use Rattle.kt_types.specs.declared.kinds.Ty.{Ty}
use Rattle.kt_types.specs.declared.kinds.Ty.TheVariants as ty
use Rattle.kt_types.specs.Layout.{repeated}
use Rattle.kt_mem.specs.declared.memory.Name.{Name}
use Rattle.kt_mem.specs.declared.memory.Name.TheVariants.{Glob, Lit, Heap}
use Rattle.kt_mem.specs.declared.memory.Value.{Value}
use Rattle.kt_mem.specs.declared.memory.Value.TheVariants.{Num, Null, Ptr, Free, Held, Undef}
use Rattle.kt_mem.specs.declared.steps.Trap.{Trap}
use Rattle.kt_mem.specs.Memory.{Memory, Object, Cell, fresh_cell, fresh_object, zero_value}
use Rattle.kt_mem.specs.Memory as memory
use Rattle.xf_plan.specs.Correspondence.{corresponds, new_type}
use Rattle.kt_tree.specs.Kinds.{char_type}
use Rattle.xf_plan.specs.Images.{FreshPlace, all_spots, below, cell_at, fresh_in, fresh_made, fresh_number, fresh_objects, fresh_places, heap_image, heap_numbers, if_lives, if_reached, image_of, is_too_big, kept_cells, kept_globals, value_at, moved, moved_object, new_value, size_at, sizes, to_fresh, to_global}
use Rattle.xf_plan.specs.KeepsTypes.{AreKeptFor, AreSpotsOf, AreValuesOf, GivesOf, HasGlobals, IsKeptFor, IsMemoryOf, IsOfChars, IsSmall, IsValueOf, KeepsGlobal, KeepsGlobals, KeepsObjects}
use Rattle.xf_plan.specs.Sources.{Source, global_sources, width}
use Rattle.kt_tree.specs.declared.global.GlobalDecl.{GlobalDecl}
use Rattle.kt_tree.specs.Version.{Program}
use Rattle.xf_plan.specs.Plan.{GlobalRule}
use Rattle.xf_plan.specs.declared.place.Place.TheVariants.{GlobalCell}
use Rattle.xf_plan.specs.Extents.{global_cells}
use Rattle.xf_plan.specs.PreValues.{origin}
use Rattle.xf_plan.specs.Plan.{Plan}
use Rattle.xf_plan.specs.Reached.{distinct, heap_targets, if_live, is_among, is_moved, pointed, reached, reached_within, target, targets, unless_faulty}
use Rattle.xf_plan.specs.Spots.{Spot, Wanted, added_spots, global_spots, spots_of, fault_at, heap_spots, is_start, new_global, pointed_fault, pointer_fault, points_to, root_spots, unless_met, value_fault}
use Rattle.xf_plan.specs.declared.place.Place.{Place}
use Rattle.xf_plan.specs.declared.place.Root.{Root}
use Rattle.xf_plan.specs.declared.place.Why.{Why}
use Rattle.xf_plan.specs.declared.place.Why.TheVariants.{Interior}
use Rattle.xf_plan.specs.declared.value.PreValue.{PreValue}
use Rattle.xf_plan.specs.declared.value.PreValue.TheVariants.{Plain, OldPointer, Fresh}
use Rattle.xf_plan.proofs.Among.{among-cases, flat-given, or-cases}
use Rattle.xf_plan.proofs.NewTypes.{has-new-type}
use Rattle.kt_mem.specs.Values.{name_eq}
use Rattle.std.proofs.lemmas.List.{length-map}
use Rattle.kt_types.proofs.Cells.{length-repeated}
use Rattle.kt_types.proofs.Parts.{cells-is}
use Rattle.kt_types.specs.Layout.{cells, layout}
use Rattle.kt_types.specs.Table.{Table}
use Rattle.kt_mem.proofs.Names.{name_eq-true}

-- ---- lists

pub all-get : {A : Type 0} (P : A → Type 0) (xs : List A) (k : ℕ) (x : A) → AllByRecursion P xs → slice_get xs k ≡ Some x → P x
all-get P [] k x all at = absurd (none-some x at)
all-get P (y ∷ xs) zero x all at = subst P (same_Some y x at) all.0
all-get P (y ∷ xs) (suc k) x all at = all-get P xs k x all.1 at

pub all-append : {A : Type 0} (P : A → Type 0) (xs ys : List A) → AllByRecursion P xs → AllByRecursion P ys → AllByRecursion P (xs ++ ys)
all-append P [] ys all more = more
all-append P (x ∷ xs) ys all more = (all.0, all-append P xs ys all.1 more)

pub all-flat : {A B : Type 0} (P : A → Type 0) (Q : B → Type 0) (f : A → List B) → ((x : A) → P x → AllByRecursion Q (f x)) → (xs : List A) → AllByRecursion P xs → AllByRecursion Q (flat_map f xs)
all-flat P Q f each [] all = tt
all-flat P Q f each (x ∷ xs) all = all-append Q (f x) (flat_map f xs) (each x all.0) (all-flat P Q f each xs all.1)

-- those that pass a test
all-passing : {A : Type 0} (P : A → Type 0) (test : A → Bool) → ((x : A) → test x ≡ true → P x) → (xs : List A) → AllByRecursion P (filter test xs)
all-passing P test each [] = tt
all-passing P test each (x ∷ xs) = by (test x) refl (all-passing P test each xs)
  where
    by : (b : Bool) → test x ≡ b → AllByRecursion P (filter test xs) → AllByRecursion P (if b then x ∷ filter test xs else filter test xs)
    by true is rest = (each x is, rest)
    by false is rest = rest

any-false : {A : Type 0} (test : A → Bool) (xs : List A) → list_any test xs ≡ false → AllByRecursion (λ x. test x ≡ false) xs
any-false test [] h = tt
any-false test (x ∷ xs) h = by (test x) refl h (any-false test xs)
  where
    by : (b : Bool) → test x ≡ b → (b || list_any test xs) ≡ false → (list_any test xs ≡ false → AllByRecursion (λ y. test y ≡ false) xs)
        → (test x ≡ false) × AllByRecursion (λ y. test y ≡ false) xs
    by true is k rest = absurd cc
    by false is k rest = (is, rest k)

all-each : {A : Type 0} (P Q : A → Type 0) → ((x : A) → P x → Q x) → (xs : List A) → AllByRecursion P xs → AllByRecursion Q xs
all-each P Q each [] all = tt
all-each P Q each (x ∷ xs) all = (each x all.0, all-each P Q each xs all.1)

all-mapped : {A B : Type 0} (f : A → B) (P : B → Type 0) (xs : List A) → AllByRecursion P (map f xs) → AllByRecursion (λ x. P (f x)) xs
all-mapped f P [] all = tt
all-mapped f P (x ∷ xs) all = (all.0, all-mapped f P xs all.1)

all-front : {A : Type 0} (P : A → Type 0) (xs ys : List A) → AllByRecursion P (xs ++ ys) → AllByRecursion P xs
all-front P [] ys all = tt
all-front P (x ∷ xs) ys all = (all.0, all-front P xs ys all.1)

all-back : {A : Type 0} (P : A → Type 0) (xs ys : List A) → AllByRecursion P (xs ++ ys) → AllByRecursion P ys
all-back P [] ys all = all
all-back P (x ∷ xs) ys all = all-back P xs ys all.1

-- ---- names

among-all : (P : Name → Type 0) (names : List Name) (n : Name) → AllByRecursion P names → is_among names n ≡ true → P n
among-all P [] n all h = absurd cc
among-all P (q ∷ names) n all h =
    elim (or-cases (name_eq n q) (is_among names n) h) [
      | inl e ↦ subst P (sym (name_eq-true n q e)) all.0
      | inr k ↦ among-all P names n all.1 k
    ]

-- what is among names is among them without repeats
distinct-among : (names : List Name) (n : Name) → is_among names n ≡ true → is_among (distinct names) n ≡ true
distinct-among [] n h = absurd cc
distinct-among (q ∷ names) n h = by (is_among names q) refl (or-cases (name_eq n q) (is_among names n) h) (distinct-among names n)
  where
    by : (b : Bool) → is_among names q ≡ b → (name_eq n q ≡ true) ⊎ (is_among names n ≡ true) → (is_among names n ≡ true → is_among (distinct names) n ≡ true)
        → is_among (if b then distinct names else q ∷ distinct names) n ≡ true
    by true is (inl e) rest = rest (subst (λ x. is_among names x ≡ true) (sym (name_eq-true n q e)) is)
    by true is (inr k) rest = rest k
    by false is (inl e) rest = ap (λ b. b || is_among (distinct names) n) e
    by false is (inr k) rest = ap (λ b. name_eq n q || b) (rest k) ∙ or-true (name_eq n q)
      where
        or-true : (b : Bool) → (b || true) ≡ true
        or-true true = refl
        or-true false = refl

map-append : {A B : Type 0} (f : A → B) (xs ys : List A) → map f (xs ++ ys) ≡ map f xs ++ map f ys
map-append f [] ys = refl
map-append f (x ∷ xs) ys = ap (λ rest. f x ∷ rest) (map-append f xs ys)

-- ---- cells

-- a cell holds a value of its type, or the undefined one
abbrev pub Holds : Cell → Type 0
Holds c = IsValueOf c.ty c.value

pub all-hold : (cs : List Cell) → AllByRecursion Holds cs → (k : ℕ) (c : Cell) → slice_get cs k ≡ Some c → Holds c
all-hold cs all k c at = all-get Holds cs k c all at

pub repeated-hold : (n : ℕ) (cs : List Cell) → AllByRecursion Holds cs → AllByRecursion Holds (memory.repeated n cs)
repeated-hold zero cs all = tt
repeated-hold (suc n) cs all = all-append Holds cs (memory.repeated n cs) all (repeated-hold n cs all)

abbrev pub ty_of : Cell → Ty
ty_of c = c.ty

pub repeated-types : (n : ℕ) (cs : List Cell) → map ty_of (memory.repeated n cs) ≡ repeated n (map ty_of cs)
unfolding repeated
repeated-types zero cs = refl
repeated-types (suc n) cs = map-append ty_of cs (memory.repeated n cs) ∙ ap (λ rest. map ty_of cs ++ rest) (repeated-types n cs)

zero-holds : (t : Ty) → Holds (fresh_cell true t)
zero-holds ty.Char = inr refl
zero-holds ty.Int = inr refl
zero-holds ty.Long = inr refl
zero-holds ty.Mutex = inr refl
zero-holds (ty.Ptr u) = inr refl
zero-holds (ty.Struct s) = inl refl
zero-holds (ty.Array e n) = inl refl

zeros-hold : (ts : List Ty) → AllByRecursion Holds (map (fresh_cell true) ts)
zeros-hold [] = tt
zeros-hold (t ∷ ts) = (zero-holds t, zeros-hold ts)

-- ---- values

module _ (p : Plan) (m : Memory) where
  lives-of : (t : Ty) (o : Option Object) (v : Value) → IsValueOf t v → IsValueOf t (if_lives o v)
  lives-of t None v h = inl refl
  lives-of t (Some o) v h = h

  global-of : (b g k : ℕ) (o : Option ℕ) → IsValueOf (ty.Ptr b) (Ptr (Glob g) k) → IsValueOf (ty.Ptr b) (to_global o k)
  global-of b g k None h = inl refl
  global-of b g k (Some n) (inl e) = absurd cc
  global-of b g k (Some n) (inr h) = inr h

  moved-of : (b : ℕ) (v : Value) → IsValueOf (ty.Ptr b) v → IsValueOf (ty.Ptr b) (moved p m v)
  moved-of b (Ptr (Glob g) k) h = global-of b g k (new_global p g) h
  moved-of b (Ptr (Lit v i) k) h = lives-of (ty.Ptr b) (m.at (Lit v i)) (Ptr (Lit v i) k) h
  moved-of b (Ptr (Heap a) k) h = lives-of (ty.Ptr b) (m.at (Heap a)) (Ptr (Heap a) k) h
  moved-of b (Num z) h = h
  moved-of b Null h = h
  moved-of b Free h = h
  moved-of b (Held t) h = h
  moved-of b Undef h = h

  fresh-of : (b : ℕ) (o : Option ℕ) → IsValueOf (ty.Ptr b) (to_fresh o)
  fresh-of b None = inl refl
  fresh-of b (Some a) = inr refl

  pub new_value-of : (fresh : List FreshPlace) (place : Place) (t : Ty) (r : Result PreValue Trap) → GivesOf p t r → IsValueOf t (new_value p m fresh place r)
  new_value-of fresh place t (Ok (Plain v)) h = h
  new_value-of fresh place t (Ok (OldPointer v)) h =
      subst (λ u. IsValueOf u (moved p m v)) (sym h.1) (moved-of h.0 v (subst (λ u. IsValueOf u v) h.1 h.2))
  new_value-of fresh place t (Ok (Fresh u n)) h =
      subst (λ x. IsValueOf x (to_fresh (fresh_number m fresh place))) (sym h.1) (fresh-of h.0 (fresh_number m fresh place))
  new_value-of fresh place t (Err cause) h = inl refl

  -- ---- spots

  abbrev pub SpotGives : Spot → Type 0
  SpotGives s = GivesOf p s.ty s.pre

  pub spots-give : (ts : List Ty) (spots : List Spot) → AreSpotsOf p ts spots → AllByRecursion SpotGives spots
  spots-give [] [] h = tt
  spots-give [] (s ∷ spots) h = absurd h
  spots-give (t ∷ ts) [] h = absurd h
  spots-give (t ∷ ts) (s ∷ spots) h = (subst (λ u. GivesOf p u s.pre) (sym h.0) h.1, spots-give ts spots h.2)

  pub spots-types : (fresh : List FreshPlace) (ts : List Ty) (spots : List Spot) → AreSpotsOf p ts spots → map ty_of (map (cell_at p m fresh) spots) ≡ ts
  spots-types fresh [] [] h = refl
  spots-types fresh [] (s ∷ spots) h = absurd h
  spots-types fresh (t ∷ ts) [] h = absurd h
  spots-types fresh (t ∷ ts) (s ∷ spots) h =
      ap (λ u. u ∷ map ty_of (map (cell_at p m fresh) spots)) h.0 ∙ ap (λ rest. t ∷ rest) (spots-types fresh ts spots h.2)

  pub spots-hold : (fresh : List FreshPlace) (spots : List Spot) → AllByRecursion SpotGives spots → AllByRecursion Holds (map (cell_at p m fresh) spots)
  spots-hold fresh [] h = tt
  spots-hold fresh (s ∷ spots) h = (new_value-of fresh s.place s.ty s.pre h.0, spots-hold fresh spots h.1)

  -- ---- reached objects have a new type

  record Moves (a : ℕ) : Type 0 where
    object : Object
    is : m.at (Heap a) ≡ Some object
    to : ℕ
    type : new_type p object.ty ≡ Some to

  start-moves : (a : ℕ) (t : Option ℕ) (k : ℕ) (o : Object) → m.at (Heap a) ≡ Some o → is_start p t k o ≡ true → Moves a
  start-moves a None k o at h = absurd cc
  start-moves a (Some b) k o at h = by (k == 0) h
    where
      by : (c : Bool) → (c && corresponds p o.ty b) ≡ true → Moves a
      by true h = let is = has-new-type p o.ty b h in record { object = o; is = at; to = is.0; type = is.1 }
      by false h = absurd cc

  single : (n q : Name) → is_among (n ∷ []) q ≡ true → q ≡ n
  single n q h = elim (or-cases (name_eq q n) false h) [ inl e ↦ name_eq-true q n e | inr k ↦ absurd cc ]

  -- a pointer without a fault to a heap object that lives
  faultless-moves : (t : Option ℕ) (w : Wanted) (n : Name) (k a : ℕ) (o : Option Object) → m.at n ≡ o → pointed_fault p t w n k o ≡ None → is_among (if_live n o) (Heap a) ≡ true → Moves a
  faultless-moves t w n k a None at none h = absurd cc
  faultless-moves t w (Glob g) k a (Some o) at none h = absurd cc
  faultless-moves t w (Lit v i) k a (Some o) at none h = absurd (apart (single (Lit v i) (Heap a) h))
    where
      apart : ◌≡◌ {A = Name} (Heap a) (Lit v i) → ⊥
      apart e = absurd cc
  faultless-moves t w (Heap b) k a (Some o) at none h = by (is_start p t k o) refl none
    where
      same : ◌≡◌ {A = Name} (Heap a) (Heap b)
      same = single (Heap b) (Heap a) h

      by : (c : Bool) → is_start p t k o ≡ c → (if c then unless_met w o.count else Some Interior) ≡ None → Moves a
      by true is none = start-moves a t k o (ap m.at same ∙ at) is
      by false is none = absurd cc

  value-moves : (t : Option ℕ) (w : Wanted) (v : Value) (a : ℕ) → pointer_fault p m t w v ≡ None → is_among (pointed m (Ok (OldPointer v))) (Heap a) ≡ true → Moves a
  value-moves t w (Num z) a none h = absurd cc
  value-moves t w Null a none h = absurd cc
  value-moves t w (Ptr n k) a none h = faultless-moves t w n k a (m.at n) refl none h
  value-moves t w Free a none h = absurd cc
  value-moves t w (Held x) a none h = absurd cc
  value-moves t w Undef a none h = absurd cc

  pre-moves : (t : Option ℕ) (w : Wanted) (r : Result PreValue Trap) (a : ℕ) → value_fault p m t w r ≡ None → is_among (pointed m r) (Heap a) ≡ true → Moves a
  pre-moves t w (Ok (Plain v)) a none h = absurd cc
  pre-moves t w (Ok (OldPointer v)) a none h = value-moves t w v a none h
  pre-moves t w (Ok (Fresh u n)) a none h = absurd cc
  pre-moves t w (Err cause) a none h = absurd cc

  target-moves : (s : Spot) (a : ℕ) → is_among (target p m s) (Heap a) ≡ true → Moves a
  target-moves s a h = by (fault_at p m s) refl h
    where
      by : (o : Option Why) → fault_at p m s ≡ o → is_among (unless_faulty o (pointed m s.pre)) (Heap a) ≡ true → Moves a
      by None is h = pre-moves (points_to s.ty) s.wanted s.pre a is h
      by (Some w) is h = absurd cc

  targets-move : (spots : List Spot) (a : ℕ) → is_among (targets p m spots) (Heap a) ≡ true → Moves a
  targets-move [] a h = absurd cc
  targets-move (s ∷ spots) a h =
      elim (among-cases (target p m s) (targets p m spots) (Heap a) h) [
        | inl k ↦ target-moves s a k
        | inr k ↦ targets-move spots a k
      ]

  heap-move : (n : Name) (a : ℕ) → is_among (heap_targets p m n) (Heap a) ≡ true → Moves a
  heap-move (Heap b) a h = targets-move (heap_spots p m b) a h
  heap-move (Glob g) a h = absurd cc
  heap-move (Lit v i) a h = absurd cc

  within-moves : (roots : List Root) (n a : ℕ) → is_among (reached_within p m roots n) (Heap a) ≡ true → Moves a
  within-moves roots zero a h = targets-move (root_spots p m roots) a h
  within-moves roots (suc n) a h =
      elim (among-cases (reached_within p m roots n) (flat_map (heap_targets p m) (reached_within p m roots n)) (Heap a) h) [
        | inl k ↦ within-moves roots n a k
        | inr k ↦ let g = flat-given (heap_targets p m) (reached_within p m roots n) (Heap a) k in heap-move g.by a g.gives
      ]

  reached-moves : (roots : List Root) (a : ℕ) → is_among (reached p m roots) (Heap a) ≡ true → Moves a
  reached-moves roots a h = within-moves roots m.next a h

-- ---- objects

-- an object of a version with these types
pub record IsObjectOf (types : Table) (n : Name) (o : Object) : Type 0 where
  pub holds : AllByRecursion Holds o.cells
  pub shaped : option_map (repeated o.count) (layout types o.ty) ≡ Some (map ty_of o.cells)
  pub chars : IsOfChars n o
  pub small : IsSmall n o

some-of : {A : Type 0} (o : Option A) → IsSome o → (x : A) × (o ≡ Some x)
some-of None h = absurd cc
some-of (Some x) h = (x, refl)

-- the cells of so many elements
small-cells : (count : ℕ) (ts : List Ty) (cs : List Cell) → map ty_of cs ≡ repeated count ts → count * length ts ≤ 65536 → length cs ≤ 65536
small-cells count ts cs same le =
    let here : length cs ≡ count * length ts = sym (length-map cs ty_of) ∙ ap length same ∙ length-repeated count ts in
    omega (arith, here, le)

shaped-so : (types : Table) (a count : ℕ) (ts all : List Ty) → layout types a ≡ Some ts → all ≡ repeated count ts → option_map (repeated count) (layout types a) ≡ Some all
shaped-so types a count ts all has same = ap (option_map (repeated count)) has ∙ ap Some (sym same)

fresh-types : (zeros : Bool) (ts : List Ty) → map ty_of (map (fresh_cell zeros) ts) ≡ ts
fresh-types zeros [] = refl
fresh-types zeros (t ∷ ts) = ap (λ rest. t ∷ rest) (fresh-types zeros ts)

-- the form of a new object
pub fresh-formed : (types : Table) (number a count : ℕ) (zeros : Bool) (ts : List Ty) → layout types a ≡ Some ts → count * length (cells types a) ≤ 65536
    → (option_map (repeated count) (layout types a) ≡ Some (map ty_of (fresh_object number a (cells types a) count zeros).cells))
    × (length (fresh_object number a (cells types a) count zeros).cells ≤ 65536)
fresh-formed types number a count zeros ts has size =
    let own : cells types a ≡ ts = cells-is types a ts has in
    let made = map (fresh_cell zeros) (cells types a) in
    let same : map ty_of (memory.repeated count made) ≡ repeated count ts = repeated-types count made ∙ ap (repeated count) (fresh-types zeros (cells types a) ∙ own) in (
      shaped-so types a count ts (map ty_of (memory.repeated count made)) has same,
      small-cells count ts (memory.repeated count made) same (subst (λ n. count * n ≤ 65536) (ap length own) size),
    )

module _ (old : Program) (p : Plan) (m : Memory) (is : IsMemoryOf old.types m) where
  -- the image of a heap object
  image-of : KeepsObjects old.types p → (fresh : List FreshPlace) (a : ℕ) (o : Object) (b : ℕ) → m.at (Heap a) ≡ Some o → new_type p o.ty ≡ Some b → size_at p (Some o) ≤ 65536
      → IsObjectOf p.new (Heap a) (heap_image p m fresh a o)
  image-of keeps fresh a o b at type size =
      let (ts, has, spots) = keeps m a b o is at type in
      let to : unwrap_or (new_type p o.ty) 0 ≡ b = ap (λ x. unwrap_or x 0) type in
      let same = spots-types p m fresh (repeated o.count ts) (heap_spots p m a) spots in
      let own : layout p.new (unwrap_or (new_type p o.ty) 0) ≡ Some ts = ap (layout p.new) to ∙ has in
      let wide : width p.new (unwrap_or (new_type p o.ty) 0) ≡ length ts = ap length (cells-is p.new (unwrap_or (new_type p o.ty) 0) ts own) in
      record {
        holds = spots-hold p m fresh (heap_spots p m a) (spots-give p m (repeated o.count ts) (heap_spots p m a) spots);
        shaped = shaped-so p.new (unwrap_or (new_type p o.ty) 0) o.count ts (map ty_of (map (cell_at p m fresh) (heap_spots p m a))) own same;
        chars = tt;
        small = small-cells o.count ts (map (cell_at p m fresh) (heap_spots p m a)) same (subst (λ n. o.count * n ≤ 65536) wide size);
      }

  -- a literal that is reached
  literal-of : new_type p char_type ≡ Some char_type → layout p.new char_type ≡ layout old.types char_type → (fresh : List FreshPlace) (v i : ℕ) (o : Object) → m.at (Lit v i) ≡ Some o
      → IsObjectOf p.new (Lit v i) (image_of p m fresh (Lit v i) o)
  literal-of keeps chars fresh v i o at =
      let own : o.ty ≡ char_type = is.chars (Lit v i) o at in
      let to : unwrap_or (new_type p o.ty) 0 ≡ char_type = ap (λ x. unwrap_or (new_type p x) 0) own ∙ ap (λ x. unwrap_or x 0) keeps in
      record {
        holds = cells-hold o.cells (λ k c there. is.typed (Lit v i) o k c at there);
        shaped =
            ap (λ x. option_map (repeated o.count) (layout p.new x)) to ∙ ap (option_map (repeated o.count)) chars
            ∙ ap (λ x. option_map (repeated o.count) (layout old.types x)) (sym own) ∙ is.shaped (Lit v i) o at;
        chars = to;
        small = tt;
      }
    where
      cells-hold : (cs : List Cell) → ((k : ℕ) (c : Cell) → slice_get cs k ≡ Some c → Holds c) → AllByRecursion Holds cs
      cells-hold [] h = tt
      cells-hold (c ∷ cs) h = (h 0 c refl, cells-hold cs (λ k d there. h (suc k) d there))

  -- the object of a fresh place
  fresh-object-of : (k : ℕ) (f : FreshPlace) (a : ℕ) → IsSome (layout p.new f.ty) → f.count * width p.new f.ty ≤ 65536 → IsObjectOf p.new (Heap a) (fresh_made p m k f)
  fresh-object-of k f a complete size =
      let (ts, has) = some-of (layout p.new f.ty) complete in
      let formed = fresh-formed p.new (m.next + k) f.ty f.count true ts has size in
      record { holds = repeated-hold f.count (map (fresh_cell true) (cells p.new f.ty)) (zeros-hold (cells p.new f.ty)); shaped = formed.0; chars = tt; small = formed.1 }

  -- ---- all spots give what is of their types

  global-spots-give : HasGlobals old.globals m → (i : ℕ) (globals : List GlobalDecl) (rules : List GlobalRule) → KeepsGlobals old p i globals rules → AllByRecursion (SpotGives p m) (global_spots p m i rules)
  global-spots-give named i [] [] h = tt
  global-spots-give named i [] (g ∷ rules) h = absurd h
  global-spots-give named i (d ∷ globals) [] h = absurd h
  global-spots-give named i (d ∷ globals) (g ∷ rules) h =
      let rest = subst (λ n. AllByRecursion (SpotGives p m) (global_spots p m n rules)) (omega arith) (global-spots-give named (i + 1) globals rules h.1) in
      all-append (SpotGives p m) (spots_of p m (GlobalCell i) (origin g.source) (global_cells p.new g) (global_sources p g g.source)) (global_spots p m (suc i) rules)
      (by (global_sources p g g.source) refl) rest
    where
      by : (o : Option (List Source)) → global_sources p g g.source ≡ o → AllByRecursion (SpotGives p m) (spots_of p m (GlobalCell i) (origin g.source) (global_cells p.new g) o)
      by None at = tt
      by (Some sources) at = spots-give p m (repeated d.count (cells p.new d.ty)) _ (h.0.spots m sources is named at)

  abbrev pub RootGives : Root → Type 0
  RootGives r = GivesOf p r.ty r.value

  added-spots-give : (roots : List Root) → AllByRecursion RootGives roots → AllByRecursion (SpotGives p m) (added_spots p m roots)
  added-spots-give [] h = tt
  added-spots-give (r ∷ roots) h = (h.0, added-spots-give roots h.1)

  heap-spots-give : KeepsObjects old.types p → (a : ℕ) → Moves p m a → AllByRecursion (SpotGives p m) (heap_spots p m a)
  heap-spots-give keeps a moves =
      let o = moves.object in
      let (ts, has, spots) = keeps m a moves.to o is moves.is moves.type in
      spots-give p m (repeated o.count ts) (heap_spots p m a) spots

  module _ (roots : List Root) (globals : List GlobalDecl) (named : HasGlobals old.globals m) (keeps : KeepsObjects old.types p) (rules : KeepsGlobals old p 0 globals p.globals) (gives : AllByRecursion RootGives roots) where
    abbrev names : List Name
    names = reached p m roots

    abbrev fresh : List FreshPlace
    fresh = fresh_places p m roots

    all-spots-give : AllByRecursion (SpotGives p m) (all_spots p m roots)
    all-spots-give =
        all-append (SpotGives p m) (root_spots p m roots) (flat_map (heap_spots p m) (heap_numbers m names))
        (all-append (SpotGives p m) (global_spots p m 0 p.globals) (added_spots p m roots) (global-spots-give named 0 globals p.globals rules) (added-spots-give roots gives))
        (all-flat (Moves p m) (SpotGives p m) (heap_spots p m) (heap-spots-give keeps) (heap_numbers m names)
        (all-passing (Moves p m) (λ a. is_among names (Heap a)) (reached-moves p m roots) (below m.next)))

    abbrev IsCompletePlace : FreshPlace → Type 0
    IsCompletePlace f = IsSome (layout p.new f.ty)

    fresh-complete : AllByRecursion IsCompletePlace fresh
    fresh-complete = all-flat (SpotGives p m) IsCompletePlace (λ s. fresh_in s.place s.pre) (λ s h. by s.ty s.place s.pre h) (all_spots p m roots) all-spots-give
      where
        by : (t : Ty) (place : Place) (r : Result PreValue Trap) → GivesOf p t r → AllByRecursion IsCompletePlace (fresh_in place r)
        by t place (Ok (Plain v)) h = tt
        by t place (Ok (OldPointer v)) h = tt
        by t place (Ok (Fresh u n)) h = (h.2, tt)
        by t place (Err cause) h = tt

    -- ---- sizes

    module _ (fits : is_too_big (sizes p m (distinct names) fresh) ≡ false) where
      abbrev Low : ℕ → Type 0
      Low n = n ≤ 65536

      is-low : (n : ℕ) → nat_lt 65536 n ≡ false → Low n
      is-low n h = let lt = ltb-false 65536 n h in omega (arith, lt)

      either-false : (a b : Bool) → (a || b) ≡ false → (a ≡ false) × (b ≡ false)
      either-false true b h = absurd cc
      either-false false b h = (refl, h)

      all-low : AllByRecursion Low (sizes p m (distinct names) fresh)
      all-low =
          all-each (λ n. nat_lt 65536 n ≡ false) Low is-low (sizes p m (distinct names) fresh)
          (any-false (nat_lt 65536) (sizes p m (distinct names) fresh) (either-false (list_any (nat_lt 65536) (sizes p m (distinct names) fresh)) (nat_lt 4194304 (sum (sizes p m (distinct names) fresh))) fits).0)

      images-low : AllByRecursion (λ n. Low (size_at p (m.at n))) (distinct names)
      images-low = all-mapped (λ n. size_at p (m.at n)) Low (distinct names) (all-front Low (map (λ n. size_at p (m.at n)) (distinct names)) _ all-low)

      fresh-low : AllByRecursion (λ f. Low (f.count * width p.new f.ty)) fresh
      fresh-low = all-mapped (λ (f : FreshPlace). f.count * width p.new f.ty) Low fresh (all-back Low (map (λ n. size_at p (m.at n)) (distinct names)) _ all-low)

      image-low : (a : ℕ) → is_among names (Heap a) ≡ true → Low (size_at p (m.at (Heap a)))
      image-low a h = among-all (λ n. Low (size_at p (m.at n))) (distinct names) (Heap a) images-low (distinct-among names (Heap a) h)

      -- ---- the objects of the new memory beside its globals and its own literals

      fresh-list : (k : ℕ) (places : List FreshPlace) → AllByRecursion IsCompletePlace places → AllByRecursion (λ f. Low (f.count * width p.new f.ty)) places
          → AllByRecursion (λ o. (a : ℕ) → IsObjectOf p.new (Heap a) o) (fresh_objects p m k places)
      fresh-list k [] complete small = tt
      fresh-list k (f ∷ places) complete small = (λ a. fresh-object-of k f a complete.0 small.0, fresh-list (suc k) places complete.1 small.1)

      if-reached-of : new_type p char_type ≡ Some char_type → layout p.new char_type ≡ layout old.types char_type → (n : Name) (b : Bool) → is_among names n ≡ b → is_moved n ≡ true
          → (o q : Object) → m.at n ≡ Some o → (if b then Some (image_of p m fresh n o) else None) ≡ Some q → IsObjectOf p.new n q
      if-reached-of char chars n false none moves o q at is-it = absurd cc
      if-reached-of char chars (Glob g) true among moves o q at is-it = absurd cc
      if-reached-of char chars (Lit v i) true among moves o q at is-it =
          subst (IsObjectOf p.new (Lit v i)) (same_Some (image_of p m fresh (Lit v i) o) q is-it) (literal-of char chars fresh v i o at)
      if-reached-of char chars (Heap a) true among moves o q at is-it =
          let its = reached-moves p m roots a among in
          let same : its.object ≡ o = same_Some its.object o (sym its.is ∙ at) in
          let size = subst (λ x. Low (size_at p x)) at (image-low a among) in
          subst (IsObjectOf p.new (Heap a)) (same_Some (heap_image p m fresh a o) q is-it)
          (image-of keeps fresh a o its.to at (subst (λ (x : Object). new_type p x.ty ≡ Some its.to) same its.type) size)

      pub moved-object-of : new_type p char_type ≡ Some char_type → layout p.new char_type ≡ layout old.types char_type → (n : Name) (q : Object) → is_moved n ≡ true
          → moved_object p m names fresh n ≡ Some q → IsObjectOf p.new n q
      moved-object-of char chars (Glob g) q moves at = absurd cc
      moved-object-of char chars (Lit v i) q moves at = by-old (m.at (Lit v i)) refl at
        where
          by-old : (o : Option Object) → m.at (Lit v i) ≡ o → if_reached p m names fresh (Lit v i) o ≡ Some q → IsObjectOf p.new (Lit v i) q
          by-old None there is-it = absurd (no-object (is_among names (Lit v i)) is-it)
            where
              no-object : (b : Bool) → (if b then None else None) ≡ Some q → ⊥
              no-object true h = none-some q h
              no-object false h = none-some q h
          by-old (Some o) there is-it = if-reached-of char chars (Lit v i) (is_among names (Lit v i)) refl refl o q there is-it
      moved-object-of char chars (Heap a) q moves at = by-number (nat_lt a m.next) at
        where
          by-old : (o : Option Object) → m.at (Heap a) ≡ o → if_reached p m names fresh (Heap a) o ≡ Some q → IsObjectOf p.new (Heap a) q
          by-old None there is-it = absurd (no-object (is_among names (Heap a)) is-it)
            where
              no-object : (b : Bool) → (if b then None else None) ≡ Some q → ⊥
              no-object true h = none-some q h
              no-object false h = none-some q h
          by-old (Some o) there is-it = if-reached-of char chars (Heap a) (is_among names (Heap a)) refl refl o q there is-it

          by-number : (b : Bool) → (if b then if_reached p m names fresh (Heap a) (m.at (Heap a)) else slice_get (fresh_objects p m 0 fresh) (a - m.next)) ≡ Some q → IsObjectOf p.new (Heap a) q
          by-number true is-it = by-old (m.at (Heap a)) refl is-it
          by-number false is-it =
              all-get (λ o. (b : ℕ) → IsObjectOf p.new (Heap b) o) (fresh_objects p m 0 fresh) (a - m.next) q (fresh-list 0 fresh fresh-complete fresh-low) is-it a

  -- ---- kept values

  spots-values : (fresh : List FreshPlace) (ts : List Ty) (spots : List Spot) → AreSpotsOf p ts spots → AreValuesOf ts (map (value_at p m fresh) spots)
  spots-values fresh [] [] h = tt
  spots-values fresh [] (s ∷ spots) h = absurd h
  spots-values fresh (t ∷ ts) [] h = absurd h
  spots-values fresh (t ∷ ts) (s ∷ spots) h = (new_value-of p m fresh s.place t s.pre h.1, spots-values fresh ts spots h.2)

  kept-cells-of : HasGlobals old.globals m → (fresh : List FreshPlace) (i : ℕ) (d : GlobalDecl) (g : GlobalRule) → KeepsGlobal old p i d g → IsKeptFor p.new d (kept_cells p m fresh i g)
  kept-cells-of named fresh i d g keeps = by (global_sources p g g.source) refl
    where
      by : (o : Option (List Source)) → global_sources p g g.source ≡ o
          → IsKeptFor p.new d (option_map (λ sources. map (value_at p m fresh) (spots_of p m (GlobalCell i) (origin g.source) (global_cells p.new g) (Some sources))) o)
      by None at = tt
      by (Some sources) at = spots-values fresh (repeated d.count (cells p.new d.ty)) _ (keeps.spots m sources is named at)

  pub kept-globals-of : HasGlobals old.globals m → (fresh : List FreshPlace) (i : ℕ) (globals : List GlobalDecl) (rules : List GlobalRule) → KeepsGlobals old p i globals rules
      → AreKeptFor p.new globals (kept_globals p m fresh i rules)
  kept-globals-of named fresh i [] [] h = tt
  kept-globals-of named fresh i [] (g ∷ rules) h = absurd h
  kept-globals-of named fresh i (d ∷ globals) [] h = absurd h
  kept-globals-of named fresh i (d ∷ globals) (g ∷ rules) h =
      (kept-cells-of named fresh i d g h.0, subst (λ n. AreKeptFor p.new globals (kept_globals p m fresh n rules)) (omega arith) (kept-globals-of named fresh (i + 1) globals rules h.1))
