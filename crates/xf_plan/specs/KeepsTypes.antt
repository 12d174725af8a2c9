-- Plans that keep types: over each typed memory of the old version, the pre-values of new things are of the types that these have in
-- the new version.
use Rattle.std.specs.Prelude.{◌≡◌, ◌⊎◌, ℕ, ◌+◌, ◌≤◌, true, IsTrue, IsSome, List, [], ◌∷◌, length, slice_get, Option, None, Some, Result, Ok, Err}
use Rattle.std.specs.List.{AllByRecursion}
use Rattle.kt_types.specs.declared.kinds.FieldDecl.{FieldDecl}
use Rattle.kt_types.specs.declared.kinds.Ty.{Ty}
use Rattle.kt_types.specs.declared.kinds.Ty.TheVariants as ty
use Rattle.kt_types.specs.Layout.{cells, layout, repeated}
use Rattle.kt_types.specs.Table.{Table}
use Rattle.kt_mem.specs.declared.memory.Name.{Name}
use Rattle.kt_mem.specs.declared.memory.Name.TheVariants.{Glob, Lit, Heap}
use Rattle.kt_mem.specs.declared.memory.Value.{Value}
use Rattle.kt_mem.specs.declared.memory.Value.TheVariants.{Undef}
use Rattle.kt_mem.specs.declared.steps.Trap.{Trap}
use Rattle.kt_mem.specs.Laws.{IsShaped}
use Rattle.kt_mem.specs.Memory.{Memory, Object}
use Rattle.kt_tree.specs.declared.global.GlobalDecl.{GlobalDecl}
use Rattle.kt_tree.specs.Kinds.{char_type}
use Rattle.kt_tree.specs.Tree.{Function}
use Rattle.kt_tree.specs.Version.{Program}
use Rattle.kt_meaning.specs.Laws.{IsTyped}
use Rattle.kt_meaning.specs.Values.{is_of, IsIn}
use Rattle.xf_plan.specs.Correspondence.{converts, new_type}
use Rattle.xf_plan.specs.Extents.{global_cells}
use Rattle.xf_plan.specs.Plan.{Plan, GlobalRule, LocalRule, LocalSource}
use Rattle.xf_plan.specs.PreValues.{origin, pre_argument, pre_local}
use Rattle.xf_plan.specs.Sources.{Source, global_sources}
use Rattle.xf_plan.specs.Spots.{Spot, heap_spots, spots_of}
use Rattle.xf_plan.specs.declared.place.Place.TheVariants.{GlobalCell}
use Rattle.xf_plan.specs.declared.value.PreValue.{PreValue}
use Rattle.xf_plan.specs.declared.value.PreValue.TheVariants.{Plain, OldPointer, Fresh}

-- ---- typed memories

-- how many cells an object may have
abbrev pub IsSmall : Name → Object → Type 0
IsSmall (Lit v i) o = Unit {0}
IsSmall n o = length o.cells ≤ 65536

-- a literal is an array of `char`
abbrev pub IsOfChars : Name → Object → Type 0
IsOfChars (Lit v i) o = o.ty ≡ char_type
IsOfChars n o = Unit {0}

-- a memory of a version with these types: each cell is of its type or undefined, each object has the cells of its element type as
-- often as its count says, a literal those of `char`, any other one at most 65,536
pub record IsMemoryOf (types : Table) (m : Memory) : Type 0 where
  pub typed : IsTyped m
  pub shaped : IsShaped (layout types) m
  pub chars : (n : Name) (o : Object) → m.at n ≡ Some o → IsOfChars n o
  pub small : (n : Name) (o : Object) → m.at n ≡ Some o → IsSmall n o

-- each global has its object, of its type and count
abbrev pub HasGlobals : List GlobalDecl → Memory → Type 0
HasGlobals globals m =
    (i : ℕ) (d : GlobalDecl) → slice_get globals i ≡ Some d → (o : Object) × (m.at (Glob i) ≡ Some o) × (o.ty ≡ d.ty) × (o.count ≡ d.count)

-- ---- values

-- a value of a type, or the undefined one
abbrev pub IsValueOf : Ty → Value → Type 0
IsValueOf t v = (v ≡ Undef) ⊎ IsTrue (is_of t v)

-- values of these types, one after another
abbrev pub AreValuesOf : List Ty → List Value → Type 0
AreValuesOf [] [] = Unit {0}
AreValuesOf (t ∷ types) (v ∷ values) = IsValueOf t v × AreValuesOf types values
AreValuesOf types values = ⊥

-- where values are kept for a global, they are those of its cells
abbrev pub IsKeptFor : Table → GlobalDecl → Option (List Value) → Type 0
IsKeptFor types d None = Unit {0}
IsKeptFor types d (Some values) = AreValuesOf (repeated d.count (cells types d.ty)) values

-- what is kept for globals, by number; nothing may be kept for the last ones
abbrev pub AreKeptFor : Table → List GlobalDecl → List (Option (List Value)) → Type 0
AreKeptFor types globals [] = Unit {0}
AreKeptFor types [] (k ∷ kept) = ⊥
AreKeptFor types (d ∷ globals) (k ∷ kept) = IsKeptFor types d k × AreKeptFor types globals kept

-- ---- typed pre-values

-- a pre-value of a new cell of this type: an old pointer and a new object are for pointers alone
abbrev pub IsPreOf : Plan → Ty → PreValue → Type 0
IsPreOf p t (Plain v) = IsValueOf t v
IsPreOf p t (OldPointer v) = (b : ℕ) × (t ≡ ty.Ptr b) × IsValueOf t v
IsPreOf p t (Fresh u n) = (b : ℕ) × (t ≡ ty.Ptr b) × IsSome (layout p.new u)

-- unless there was a trap
abbrev pub GivesOf : Plan → Ty → Result PreValue Trap → Type 0
GivesOf p t (Ok v) = IsPreOf p t v
GivesOf p t (Err cause) = Unit {0}

-- the spots of cells of these types
abbrev pub AreSpotsOf : Plan → List Ty → List Spot → Type 0
AreSpotsOf p [] [] = Unit {0}
AreSpotsOf p (t ∷ types) (s ∷ spots) = (s.ty ≡ t) × GivesOf p t s.pre × AreSpotsOf p types spots
AreSpotsOf p types spots = ⊥

-- ---- plans

-- the image of a heap object has the cells of the new element type, as often as its count says
abbrev pub KeepsObjects : Table → Plan → Type 0
KeepsObjects old p =
    (m : Memory) (a b : ℕ) (o : Object) → IsMemoryOf old m → m.at (Heap a) ≡ Some o → new_type p o.ty ≡ Some b
    → (ts : List Ty) × (layout p.new b ≡ Some ts) × AreSpotsOf p (repeated o.count ts) (heap_spots p m a)

-- a mapped global, which is the new version's of that number, has its cells
pub record KeepsGlobal (old : Program) (p : Plan) (i : ℕ) (d : GlobalDecl) (g : GlobalRule) : Type 0 where
  pub ty : g.ty ≡ d.ty
  pub count : g.count ≡ d.count
  pub spots :
      (m : Memory) (sources : List Source) → IsMemoryOf old.types m → HasGlobals old.globals m → global_sources p g g.source ≡ Some sources
      → AreSpotsOf p (repeated d.count (cells p.new d.ty)) (spots_of p m (GlobalCell i) (origin g.source) (global_cells p.new g) (Some sources))

-- the rules of the new version's globals, counted from i
abbrev pub KeepsGlobals : Program → Plan → ℕ → List GlobalDecl → List GlobalRule → Type 0
KeepsGlobals old p i [] [] = Unit {0}
KeepsGlobals old p i (d ∷ globals) (g ∷ rules) = KeepsGlobal old p i d g × KeepsGlobals old p (i + 1) globals rules
KeepsGlobals old p i globals rules = ⊥

-- an argument that converts
abbrev pub KeepsArguments : Table → Plan → Type 0
KeepsArguments old p =
    (a b : ℕ) (u : Ty) (v : Value) → converts p a b ≡ true → slice_get p.new.types b ≡ Some u → IsIn old a v → IsPreOf p u (pre_argument u v)

-- the local of a version that is named so
pub record IsLocalOf (program : Program) (f x : ℕ) (d : FieldDecl) : Type 0 where
  pub function : Function
  pub function_is : slice_get program.functions f ≡ Some function
  pub local_is : slice_get function.locals x ≡ Some d

-- what a noted local comes from is a local of the old version, and each value of that gives one of the new one
pub record KeepsLocal (old : Program) (p : Plan) (r : LocalRule) (s : LocalSource) : Type 0 where
  pub local : FieldDecl
  pub is : IsLocalOf old s.function s.local local
  pub gives :
      (m : Memory) (u : Ty) (v : Value) → IsMemoryOf old.types m → IsIn old.types local.ty v → slice_get p.new.types r.ty ≡ Some u
      → GivesOf p u (pre_local p m u s.body v)

abbrev pub KeepsSource : Program → Plan → LocalRule → Option LocalSource → Type 0
KeepsSource old p r None = Unit {0}
KeepsSource old p r (Some s) = KeepsLocal old p r s

pub record KeepsNoted (old new : Program) (p : Plan) (r : LocalRule) : Type 0 where
  pub local : FieldDecl
  pub is : IsLocalOf new r.function r.local local
  pub ty : r.ty ≡ local.ty
  pub source : KeepsSource old p r r.source

-- A plan from an old version to a new one that keeps types.
pub record KeepsTypes (old new : Program) (p : Plan) : Type 0 where
  pub types : p.new ≡ new.types
  -- `char` corresponds to itself
  pub chars : new_type p char_type ≡ Some char_type
  pub objects : KeepsObjects old.types p
  pub globals : KeepsGlobals old p 0 new.globals p.globals
  pub arguments : KeepsArguments old.types p
  pub locals : AllByRecursion (KeepsNoted old new p) p.locals
