-- Pre-values of cells, globals and noted locals by heap number are those by address.
use Rattle.std.specs.Prelude.{IsSome, IfSome, option_and_then}
use Rattle.std.proofs.lemmas.Bool.{false≢true}
use Rattle.kt_types.proofs.Complete.{value-of}
use Rattle.std.specs.Option.{option_map}
use Rattle.std.proofs.Common.{◌≡◌, ◌∷◌, ◌*◌, ℕ, [], slice_get, Option, None, Some, Result, Ok, Err, refl, sym, ap, subst, ◌∙◌}
use Rattle.std.proofs.lemmas.Option.{slice_get-map}
use Rattle.kt_types.specs.declared.kinds.Ty.{Ty}
use Rattle.kt_types.specs.declared.kinds.Ty.TheVariants as ty
use Rattle.kt_types.specs.Layout.{cells}
use Rattle.kt_mem.specs.declared.memory.Name.{Name}
use Rattle.kt_mem.specs.declared.memory.Name.TheVariants.{Glob, Lit, Heap}
use Rattle.kt_mem.specs.declared.memory.Value.{Value}
use Rattle.kt_mem.specs.declared.memory.Value.TheVariants.{Num, Null, Ptr, Free, Held, Undef}
use Rattle.kt_mem.specs.declared.steps.Trap.{Trap}
use Rattle.kt_mem.specs.Memory.{Memory, Object, Cell, zero_value}
use Rattle.kt_heap.specs.Heap.{IsPairing}
use Rattle.kt_mem.specs.Renaming.{Pairs, rename_name, rename_value, renamed}
use Rattle.kt_heap.specs.ByNumber.{cell_by_number, object_by_number, by_number, WasGiven, HoldsGiven}
use Rattle.kt_heap.proofs.Renamed.{NameGiven, name_given, object_there}
use Rattle.xf_plan.specs.Bodies.{Actions}
use Rattle.xf_plan.specs.Correspondence.{new_type}
use Rattle.xf_plan.specs.Plan.{Plan, GlobalRule, GlobalSource, Unmapped, OldGlobal, GlobalBody, LocalRule, LocalSource}
use Rattle.xf_plan.specs.PreValues.{let_go, by_default, stored, old_value, pointer_to, pre_value, pre_local, origin}
use Rattle.xf_plan.specs.Sources.{Source, FromCell, Zero, FromBody, moved_by, global_sources, width}
use Rattle.xf_plan.specs.declared.value.PreValue.{PreValue}
use Rattle.xf_plan.specs.declared.value.PreValue.TheVariants.{Plain}
use Rattle.xf_eval.specs.declared.faults.PreFault.{PreFault}
use Rattle.xf_eval.specs.declared.faults.PreFault.TheVariants.{Trapped, NoMemory}
use Rattle.xf_eval.specs.Asked.{Answers, at_place, source_at, cell_of, part_cell, element_cell, cell_value, global_type, global_cell, local_rule, source_value}
use Rattle.xf_eval.specs.ByNumber.{pre_by_number, told_by_number, answered_by_number, CellsByNumber, GlobalsByNumber, LocalsByNumber}
use Rattle.xf_eval.proofs.Numbered.{body-same}

let_go-by : (pairs : Pairs) (v : Value) → let_go (rename_value (renamed pairs) v) ≡ rename_value (renamed pairs) (let_go v)
let_go-by pairs (Num z) = refl
let_go-by pairs Null = refl
let_go-by pairs (Ptr n k) = refl
let_go-by pairs Free = refl
let_go-by pairs (Held w) = refl
let_go-by pairs Undef = refl

default-by : (pairs : Pairs) (t : Ty) (v : Value) → by_default t (rename_value (renamed pairs) v) ≡ pre_by_number pairs (by_default t v)
default-by pairs ty.Char v = refl
default-by pairs ty.Int v = refl
default-by pairs ty.Long v = refl
default-by pairs ty.Mutex v = ap Plain (let_go-by pairs v)
default-by pairs (ty.Struct s) v = refl
default-by pairs (ty.Array e n) v = refl
default-by pairs (ty.Ptr u) v = refl

zero-by : (pairs : Pairs) (t : Ty) → Plain (zero_value t) ≡ pre_by_number pairs (Plain (zero_value t))
zero-by pairs ty.Char = refl
zero-by pairs ty.Int = refl
zero-by pairs ty.Long = refl
zero-by pairs ty.Mutex = refl
zero-by pairs (ty.Struct s) = refl
zero-by pairs (ty.Array e n) = refl
zero-by pairs (ty.Ptr u) = refl

module _ (pairs : Pairs) (m : Memory) (kept : IsPairing pairs m) (holds : HoldsGiven pairs m) (p : Plan) where
  stored-by : (c : Option Cell) → stored (option_map (cell_by_number pairs) c) ≡ rename_value (renamed pairs) (stored c)
  stored-by None = refl
  stored-by (Some c) = refl

  held-by : (o : Option Object) (k : ℕ) →
      stored (option_and_then (λ (x : Object). slice_get x.cells k) (option_map (object_by_number pairs) o))
      ≡ rename_value (renamed pairs) (stored (option_and_then (λ (x : Object). slice_get x.cells k) o))
  held-by None k = refl
  held-by (Some o) k = ap stored (slice_get-map (cell_by_number pairs) o.cells k) ∙ stored-by (slice_get o.cells k)

  old-by : (n : Name) (k : ℕ) → NameGiven pairs n → old_value (by_number pairs m) (rename_name (renamed pairs) n) k ≡ rename_value (renamed pairs) (old_value m n k)
  old-by n k g =
      ap (λ (o : Option Object). stored (option_and_then (λ (x : Object). slice_get x.cells k) (option_map (object_by_number pairs) o))) (object_there pairs m m.at n kept g)
      ∙ held-by (m.at n) k

  pointer-by : (n : Name) (o : Option ℕ) → pointer_to (rename_name (renamed pairs) n) o ≡ rename_value (renamed pairs) (pointer_to n o)
  pointer-by n None = refl
  pointer-by n (Some k) = refl

  pointer-given : (n : Name) (o : Option ℕ) → NameGiven pairs n → WasGiven pairs (pointer_to n o)
  pointer-given n None g = tt
  pointer-given (Glob i) (Some k) g = tt
  pointer-given (Lit v i) (Some k) g = tt
  pointer-given (Heap a) (Some k) g = g

  pub pre_value-by : (n : Name) (t : Ty) (s : Source) → NameGiven pairs n →
      pre_value p (by_number pairs m) (rename_name (renamed pairs) n) t s ≡ told_by_number pairs (pre_value p m n t s)
  pre_value-by n t (FromCell k) g = ap (λ v. Ok (by_default t v)) (old-by n k g) ∙ ap (λ v. Ok v) (default-by pairs t (old_value m n k))
  pre_value-by n t Zero g = ap (λ v. Ok v) (zero-by pairs t)
  pre_value-by n t (FromBody source base body) g =
      let first = pointer_to n source in
      let second = pointer_to n base in
      rw (pointer-by n source, pointer-by n base)
      (body-same pairs m kept holds p.old (first ∷ second ∷ []) (pointer-given n source g, (pointer-given n base g, tt)) t body)

  cell_of-by : (n : Name) (t : Option Ty) (s : Option Source) → NameGiven pairs n →
      cell_of p (by_number pairs m) (rename_name (renamed pairs) n) t s ≡ option_map (told_by_number pairs) (cell_of p m n t s)
  cell_of-by n None s g = refl
  cell_of-by n (Some u) None g = refl
  cell_of-by n (Some u) (Some s) g = ap (λ r. Some r) (pre_value-by n u s g)

  part-by : (n : Name) (element i a : ℕ) (b : Option ℕ) → NameGiven pairs n →
      option_and_then (part_cell p (by_number pairs m) (rename_name (renamed pairs) n) element i a) b
      ≡ option_map (told_by_number pairs) (option_and_then (part_cell p m n element i a) b)
  part-by n element i a None g = refl
  part-by n element i a (Some b) g =
      cell_of-by n (slice_get (cells p.new b) i) (option_map (moved_by (element * width p.old a)) (source_at p a b i)) g

  object-by : (n : Name) (element i : ℕ) (o : Option Object) → NameGiven pairs n →
      option_and_then (element_cell p (by_number pairs m) (rename_name (renamed pairs) n) element i) (option_map (object_by_number pairs) o)
      ≡ option_map (told_by_number pairs) (option_and_then (element_cell p m n element i) o)
  object-by n element i None g = refl
  object-by n element i (Some o) g = part-by n element i o.ty (new_type p o.ty) g

  pub cell-by : (n : Name) (element i : ℕ) → NameGiven pairs n →
      cell_value p (by_number pairs m) (rename_name (renamed pairs) n) element i ≡ option_map (told_by_number pairs) (cell_value p m n element i)
  cell-by n element i g =
      ap (λ (o : Option Object). option_and_then (element_cell p (by_number pairs m) (rename_name (renamed pairs) n) element i) (option_map (object_by_number pairs) o)) (object_there pairs m m.at n kept g)
      ∙ object-by n element i (m.at n) g

  -- ---- globals

  origin-by : (s : GlobalSource) → rename_name (renamed pairs) (origin s) ≡ origin s
  origin-by Unmapped = refl
  origin-by (OldGlobal g a n) = refl
  origin-by (GlobalBody None body) = refl
  origin-by (GlobalBody (Some g) body) = refl

  origin-given : (s : GlobalSource) → NameGiven pairs (origin s)
  origin-given Unmapped = tt
  origin-given (OldGlobal g a n) = tt
  origin-given (GlobalBody None body) = tt
  origin-given (GlobalBody (Some g) body) = tt

  pub global-by : (i : ℕ) (g : Option GlobalRule) →
      option_and_then (global_cell p (by_number pairs m) i) g ≡ option_map (told_by_number pairs) (option_and_then (global_cell p m i) g)
  global-by i None = refl
  global-by i (Some g) =
      let t = global_type p g i in
      let s = at_place (global_sources p g g.source) i in
      ap (λ n. cell_of p (by_number pairs m) n t s) (sym (origin-by g.source)) ∙ cell_of-by (origin g.source) t s (origin-given g.source)

  -- ---- noted locals

  pre_local-by : (t : Ty) (acts : Option Actions) (v : Value) → WasGiven pairs v →
      pre_local p (by_number pairs m) t acts (rename_value (renamed pairs) v) ≡ told_by_number pairs (pre_local p m t acts v)
  pre_local-by t None v g = ap (λ r. Ok r) (default-by pairs t v)
  pre_local-by t (Some acts) v g = body-same pairs m kept holds p.old (v ∷ Undef ∷ []) (g, (tt, tt)) t acts

  typed-by : (t : Option Ty) (acts : Option Actions) (v : Value) → WasGiven pairs v →
      option_map (λ u. pre_local p (by_number pairs m) u acts (rename_value (renamed pairs) v)) t ≡ option_map (told_by_number pairs) (option_map (λ u. pre_local p m u acts v) t)
  typed-by None acts v g = refl
  typed-by (Some u) acts v g = ap (λ r. Some r) (pre_local-by u acts v g)

  source-by : (r : LocalRule) (s : Option LocalSource) (v : Value) → WasGiven pairs v →
      option_and_then (source_value p (by_number pairs m) (rename_value (renamed pairs) v) r) s ≡ option_map (told_by_number pairs) (option_and_then (source_value p m v r) s)
  source-by r None v g = refl
  source-by r (Some s) v g = typed-by (slice_get p.new.types r.ty) s.body v g

  pub local-by : (r : Option LocalRule) (v : Value) → WasGiven pairs v →
      option_and_then (λ (x : LocalRule). option_and_then (source_value p (by_number pairs m) (rename_value (renamed pairs) v) x) x.source) r
      ≡ option_map (told_by_number pairs) (option_and_then (λ (x : LocalRule). option_and_then (source_value p m v x) x.source) r)
  local-by None v g = refl
  local-by (Some r) v g = source-by r r.source v g

pub cells_by_number : CellsByNumber
cells_by_number pairs m p n element i kept holds g = cell-by pairs m kept holds p n element i (name_given pairs n 0 g)

pub globals_by_number : GlobalsByNumber
globals_by_number pairs m p g i kept holds = global-by pairs m kept holds p i (slice_get p.globals g)

pub locals_by_number : LocalsByNumber
locals_by_number pairs m p f x v kept holds g = local-by pairs m kept holds p (local_rule p.locals f x) v g

-- ---- answers

told-by : (pairs : Pairs) (r : Result PreValue PreFault) (told : Result PreValue Trap) → Answers r told → Answers (answered_by_number pairs r) (told_by_number pairs told)
told-by pairs (Ok v) told h = ap (told_by_number pairs) h
told-by pairs (Err (Trapped t)) told h = ap (told_by_number pairs) h
told-by pairs (Err NoMemory) told h = tt

pub answers-by : (pairs : Pairs) (r : Result PreValue PreFault) (told' told : Option (Result PreValue Trap)) → told' ≡ option_map (told_by_number pairs) told →
    IfSome told (Answers r) → IfSome told' (Answers (answered_by_number pairs r))
answers-by pairs r told' None is h = subst (λ (o : Option (Result PreValue Trap)). IfSome o (Answers (answered_by_number pairs r))) (sym is) tt
answers-by pairs r told' (Some told) is h =
    subst (λ (o : Option (Result PreValue Trap)). IfSome o (Answers (answered_by_number pairs r))) (sym is) (told-by pairs r told h)

-- the name of a live object was given out
pub live-given : (pairs : Pairs) (m : Memory) (a : ℕ) → IsPairing pairs m → IsSome (m.at (Heap a)) → WasGiven pairs (Ptr (Heap a) 0)
live-given pairs m a kept h = let (o, is) = value-of (m.at (Heap a)) h in (o.number, kept.live a o is)

-- what is told of an object is told of one that lives
pub cell-lives : (p : Plan) (m : Memory) (n : Name) (element i : ℕ) → IsSome (cell_value p m n element i) → IsSome (m.at n)
cell-lives p m n element i h = by (m.at n) h
  where
    by : (o : Option Object) → IsSome (option_and_then (element_cell p m n element i) o) → IsSome o
    by None h = absurd (false≢true h)
    by (Some o) h = refl
