-- The memories with which versions begin are typed: globals with their initial values, and literals.
use Rattle.std.specs.Prelude.{◌≡◌, ℕ, ◌+◌, ◌-◌, ◌*◌, ◌<◌, ◌≤◌, ◌^◌, ◌==◌, ℤ, pos, negsuc, nat_lt, Bool, true, false, List, [], ◌∷◌, ◌++◌, length, map, slice_get, take, Option, Some, None, refl, if◌then◌else◌}
use Rattle.std.specs.List.{AllByRecursion}
use Rattle.std.specs.Option.{option_map, is_some}
use Rattle.std.proofs.Common.{ap, sym, subst, ◌∙◌, arith, inl, inr, length-append}
use Rattle.std.proofs.lemmas.Bool.{false≢true, lt-ltb}
use Rattle.std.proofs.lemmas.Bool.Decides.{nat_tests}
use Rattle.std.proofs.lemmas.List.{length-map}
use Rattle.std.proofs.lemmas.Option.{none-some, same_Some}
use Rattle.kt_types.proofs.Cells.{length-repeated}
use Rattle.kt_types.proofs.Laws.{layout-alone}
use Rattle.kt_types.proofs.Parts.{cells-is}
use Rattle.kt_types.specs.declared.kinds.Ty.{Ty}
use Rattle.kt_types.specs.declared.kinds.Ty.TheVariants as ty
use Rattle.kt_types.specs.Layout.{cells, layout, repeated}
use Rattle.kt_types.specs.Table.{Table}
use Rattle.kt_mem.specs.declared.memory.Name.{Name}
use Rattle.kt_mem.specs.declared.memory.Name.TheVariants.{Glob, Lit, Heap}
use Rattle.kt_mem.specs.declared.memory.Value.TheVariants.{Num}
use Rattle.kt_mem.specs.Arithmetic.{fits}
use Rattle.kt_mem.specs.Memory.{Cell, Memory, Object}
use Rattle.kt_mem.specs.Memory as memory
use Rattle.kt_tree.specs.declared.global.GlobalDecl.{GlobalDecl}
use Rattle.kt_tree.specs.declared.global.Init.{Init}
use Rattle.kt_tree.specs.declared.global.Init.TheVariants as init
use Rattle.kt_tree.specs.Kinds.{char_type, fits_in}
use Rattle.kt_tree.specs.Version.{IsGlobal, IsProgram, Program, is_initial}
use Rattle.kt_meaning.proofs.OperationTypes.{and-true}
use Rattle.kt_meaning.specs.Laws.{IsTyped}
use Rattle.xf_plan.specs.KeepsTypes.{HasGlobals, IsMemoryOf}
use Rattle.xf_plan.proofs.TypedImages.{Holds, IsObjectOf, all-get, all-hold, repeated-hold, repeated-types, ty_of}
use Rattle.kt_world.specs.Update.{char_cell, global_object, initial_cell, literal_object, object_at}

-- ---- initial values

zero-holds : (v : ℕ) (t : Ty) → Holds (initial_cell v init.Zero t)
zero-holds v ty.Char = inr refl
zero-holds v ty.Int = inr refl
zero-holds v ty.Long = inr refl
zero-holds v ty.Mutex = inr refl
zero-holds v (ty.Ptr u) = inr refl
zero-holds v (ty.Struct s) = inl refl
zero-holds v (ty.Array e n) = inl refl

zeros-hold : (v : ℕ) (types : List Ty) → AllByRecursion Holds (map (initial_cell v init.Zero) types)
zeros-hold v [] = tt
zeros-hold v (t ∷ types) = (zero-holds v t, zeros-hold v types)

fits-same : (bits : ℕ) (z : ℤ) → fits_in bits z ≡ fits (2 ^ bits) z
fits-same bits (pos n) = refl
fits-same bits (negsuc n) = refl

number-fits : (bits : ℕ) (z : ℤ) → fits_in bits z ≡ true → fits (2 ^ bits) z ≡ true
number-fits bits z h = sym (fits-same bits z) ∙ h

-- the one cell of a scalar type
scalar-hold : (v : ℕ) (i : Init) (types : Table) (place : ℕ) (t : Ty) → layout types place ≡ Some (t ∷ []) → Holds (initial_cell v i t)
    → AllByRecursion Holds (map (initial_cell v i) (cells types place))
scalar-hold v i types place t is h = subst (λ ts. AllByRecursion Holds (map (initial_cell v i) ts)) (sym (cells-is types place (t ∷ []) is)) (h, tt)

module _ (p : Program) (v place : ℕ) where
  initial-hold : (i : Init) (t : Option Ty) (array : Bool) → slice_get p.types.types place ≡ t → is_initial p t array i ≡ true
      → AllByRecursion Holds (map (initial_cell v i) (cells p.types place))
  initial-hold init.Zero t array at h = zeros-hold v (cells p.types place)
  initial-hold (init.Number n) (Some ty.Char) false at h =
      scalar-hold v (init.Number n) p.types place ty.Char (layout-alone p.types place ty.Char _ at (λ _. refl)) (inr (and-true (fits (2 ^ 7) n) ∙ number-fits 7 n h))
  initial-hold (init.Number n) (Some ty.Int) false at h =
      scalar-hold v (init.Number n) p.types place ty.Int (layout-alone p.types place ty.Int _ at (λ _. refl)) (inr (and-true (fits (2 ^ 31) n) ∙ number-fits 31 n h))
  initial-hold (init.Number n) (Some ty.Long) false at h =
      scalar-hold v (init.Number n) p.types place ty.Long (layout-alone p.types place ty.Long _ at (λ _. refl)) (inr (and-true (fits (2 ^ 63) n) ∙ number-fits 63 n h))
  initial-hold init.Null (Some (ty.Ptr e)) false at h =
      scalar-hold v init.Null p.types place (ty.Ptr e) (layout-alone p.types place (ty.Ptr e) _ at (λ _. refl)) (inr refl)
  initial-hold (init.Literal n) (Some (ty.Ptr e)) false at h =
      scalar-hold v (init.Literal n) p.types place (ty.Ptr e) (layout-alone p.types place (ty.Ptr e) _ at (λ _. refl)) (inr refl)
  initial-hold init.Free (Some ty.Mutex) false at h =
      scalar-hold v init.Free p.types place ty.Mutex (layout-alone p.types place ty.Mutex _ at (λ _. refl)) (inr refl)
  initial-hold i t array at h = absurd (false≢true h)

-- ---- cells of many elements

initial-types : (v : ℕ) (i : Init) (ts : List Ty) → map ty_of (map (initial_cell v i) ts) ≡ ts
initial-types v i [] = refl
initial-types v i (t ∷ ts) = ap (λ rest. t ∷ rest) (initial-types v i ts)

some-layout : (o : Option (List Ty)) → is_some o ≡ true → (ts : List Ty) × (o ≡ Some ts)
some-layout None h = absurd cc
some-layout (Some ts) h = (ts, refl)

-- ---- literals

char-holds : (b : ℕ) → Holds (char_cell b)
char-holds b = by_test (nat_lt b 128) refl
  where
    by_test : (c : Bool) → nat_lt b 128 ≡ c → Holds (record { ty = ty.Char; value = Num (if c then pos b else negsuc (255 - b)) })
    by_test true e = inr (and-true (nat_lt b 128) ∙ e)
    by_test false e =
        let small : 255 - b < 128 = grind (arith, nat_tests, e) in
        inr (and-true (nat_lt (255 - b) 128) ∙ lt-ltb (255 - b) 128 small)

chars-hold : (bytes : List ℕ) → AllByRecursion Holds (map char_cell bytes)
chars-hold [] = tt
chars-hold (b ∷ bytes) = (char-holds b, chars-hold bytes)

chars-types : (bytes : List ℕ) → map ty_of (map char_cell bytes) ≡ repeated (length bytes) (ty.Char ∷ [])
unfolding repeated
chars-types [] = refl
chars-types (b ∷ bytes) = ap (λ rest. ty.Char ∷ rest) (chars-types bytes)

-- ---- objects of a program

module _ (p : Program) (h : IsProgram p) where
  pub char-layout : layout p.types char_type ≡ Some (ty.Char ∷ [])
  char-layout = layout-alone p.types char_type ty.Char _ at (λ _. refl)
    where
      first : (ts rest : List Ty) (t : Ty) → take 4 ts ≡ t ∷ rest → slice_get ts 0 ≡ Some t
      first [] rest t is = absurd cc
      first (x ∷ ts) rest t is = cc

      at : slice_get p.types.types 0 ≡ Some ty.Char
      at = first p.types.types (ty.Int ∷ ty.Long ∷ ty.Mutex ∷ []) ty.Char h.scalars

  module _ (v : ℕ) where
    global-of : (i : ℕ) (g : GlobalDecl) → IsGlobal p g → IsObjectOf p.types (Glob i) (global_object v p.types g)
    global-of i g is =
        let (ts, has) = some-layout (layout p.types g.ty) is.complete in
        let own : cells p.types g.ty ≡ ts = cells-is p.types g.ty ts has in
        let made = map (initial_cell v g.init) (cells p.types g.ty) in
        let same : map ty_of (memory.repeated g.count made) ≡ repeated g.count ts = repeated-types g.count made ∙ ap (repeated g.count) (initial-types v g.init (cells p.types g.ty) ∙ own) in
        let wide : length (memory.repeated g.count made) ≡ g.count * length ts = sym (length-map (memory.repeated g.count made) ty_of) ∙ ap length same ∙ length-repeated g.count ts in
        let within : g.count * length ts ≤ 65536 = subst (λ n. g.count * n ≤ 65536) (ap length own) is.within in
        record {
          holds = repeated-hold g.count made (initial-hold p v g.ty g.init (slice_get p.types.types g.ty) g.array refl is.initial);
          shaped = ap (option_map (repeated g.count)) has ∙ ap Some (sym same);
          chars = tt;
          small = omega (arith, wide, within);
        }

    literal-of : (w i : ℕ) (bytes : List ℕ) → IsObjectOf p.types (Lit w i) (literal_object bytes)
    literal-of w i bytes =
        let long : length (bytes ++ 0 ∷ []) ≡ length bytes + 1 = length-append bytes (0 ∷ []) in
        record {
          holds = chars-hold (bytes ++ 0 ∷ []);
          shaped =
              ap (option_map (repeated (length bytes + 1))) char-layout
              ∙ ap (λ n. Some (repeated n (ty.Char ∷ []))) (sym long) ∙ ap Some (sym (chars-types (bytes ++ 0 ∷ [])));
          chars = refl;
          small = tt;
        }

    -- the objects of the program beside others
    module _ (others : Name → Option Object) (literals : (w i : ℕ) (o : Object) → others (Lit w i) ≡ Some o → IsObjectOf p.types (Lit w i) o)
        (objects : (a : ℕ) (o : Object) → others (Heap a) ≡ Some o → IsObjectOf p.types (Heap a) o) where
      from-global : (i : ℕ) (d : Option GlobalDecl) (o : Object) → slice_get p.globals i ≡ d → option_map (global_object v p.types) d ≡ Some o → IsObjectOf p.types (Glob i) o
      from-global i None o at is = absurd (none-some o is)
      from-global i (Some g) o at is =
          subst (IsObjectOf p.types (Glob i)) (same_Some (global_object v p.types g) o is) (global-of i g (all-get (IsGlobal p) p.globals i g h.globals at))

      from-literal : (w i : ℕ) (b : Option (List ℕ)) (o : Object) → option_map literal_object b ≡ Some o → IsObjectOf p.types (Lit w i) o
      from-literal w i None o is = absurd (none-some o is)
      from-literal w i (Some bytes) o is = subst (IsObjectOf p.types (Lit w i)) (same_Some (literal_object bytes) o is) (literal-of w i bytes)

      own-literal : (w i : ℕ) (b : Bool) (o : Object) → (if b then option_map literal_object (slice_get p.literals i) else others (Lit w i)) ≡ Some o → IsObjectOf p.types (Lit w i) o
      own-literal w i true o is = from-literal w i (slice_get p.literals i) o is
      own-literal w i false o is = literals w i o is

      object-of : (n : Name) (o : Object) → object_at v p others n ≡ Some o → IsObjectOf p.types n o
      object-of (Glob i) o is = from-global i (slice_get p.globals i) o refl is
      object-of (Lit w i) o is = own-literal w i (w == v) o is
      object-of (Heap a) o is = objects a o is

      abbrev begun_memory : ℕ → ℕ → Memory
      begun_memory next live = record { at = object_at v p others; next = next; live = live }

      pub begun-typed : (next live : ℕ) → IsTyped (begun_memory next live)
      begun-typed next live n o k c at there = all-hold o.cells (object-of n o at).holds k c there

      pub begun-memory : (next live : ℕ) → IsMemoryOf p.types (begun_memory next live)
      begun-memory next live = record {
        typed = begun-typed next live;
        shaped = λ n o at. (object-of n o at).shaped;
        chars = λ n o at. (object-of n o at).chars;
        small = λ n o at. (object-of n o at).small;
      }

      pub begun-globals : (next live : ℕ) → HasGlobals p.globals (begun_memory next live)
      begun-globals next live i d at = (global_object v p.types d, ap (option_map (global_object v p.types)) at, refl, refl)
