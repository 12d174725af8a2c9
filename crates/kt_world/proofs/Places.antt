-- Where something may be wrong at a closing: at cells of globals of the new version, at arguments of threads, at noted locals of the
-- new version, and at cells of heap objects.
use Rattle.std.specs.Prelude.{ℕ, suc, Bool, true, false, List, [], ◌∷◌, ◌++◌, flat_map, length, Option, None, Some, option_and_then, slice_get, Result, Ok, if◌then◌else◌}
use Rattle.std.specs.List.{AllByRecursion}
use Rattle.std.specs.Option.{option_map}
use Rattle.std.proofs.Common.{◌+◌, ◌≤◌, ◌<◌, arith}
use Rattle.kt_types.specs.declared.kinds.FieldDecl.{FieldDecl}
use Rattle.kt_types.specs.declared.kinds.Ty.{Ty}
use Rattle.kt_mem.specs.declared.memory.Name.{Name}
use Rattle.kt_mem.specs.declared.memory.Name.TheVariants.{Heap}
use Rattle.kt_mem.specs.declared.memory.Value.{Value}
use Rattle.kt_mem.specs.declared.steps.Trap.{Trap}
use Rattle.kt_mem.specs.Memory.{Memory, Object}
use Rattle.xf_plan.specs.Correspondence.{new_type}
use Rattle.xf_plan.specs.Extents.{NewCell, global_cells, object_cells}
use Rattle.xf_plan.specs.Images.{all_spots, faults, heap_numbers, told}
use Rattle.xf_plan.specs.Plan.{GlobalRule, LocalRule, LocalSource, Plan}
use Rattle.xf_plan.specs.PreValues.{origin, pre_argument, pre_local}
use Rattle.xf_plan.specs.Reached.{reached}
use Rattle.xf_plan.specs.Sources.{Source, global_sources, object_sources}
use Rattle.xf_plan.specs.Spots.{Spot, added_spots, fault_at, global_spots, heap_spots, image_spots, pre_at, spots_at, spots_from, spots_of}
use Rattle.xf_plan.specs.declared.place.Fault.{Fault}
use Rattle.xf_plan.specs.declared.place.Place.{Place}
use Rattle.xf_plan.specs.declared.place.Place.TheVariants.{GlobalCell, Argument, Local, HeapCell}
use Rattle.xf_plan.specs.declared.place.Root.{Root}
use Rattle.xf_plan.specs.declared.place.Why.{Why}
use Rattle.xf_plan.specs.declared.value.PreValue.{PreValue}
use Rattle.kt_world.specs.Job.{Passage}
use Rattle.kt_world.specs.Roots.{argument_as, argument_of, argument_root, arguments_of, if_root, local_as, local_root, locals_by, locals_of, new_parameter, old_local, root, thread_roots}
use Rattle.kt_world.specs.World.{Call, Engine, Thread, lives}

-- ---- lists

both : {A : Type 0} (P : A → Type 0) (xs ys : List A) → AllByRecursion P xs → AllByRecursion P ys → AllByRecursion P (xs ++ ys)
both P [] ys h k = k
both P (x ∷ xs) ys h k = (h.0, both P xs ys h.1 k)

flat : {A B : Type 0} (P : A → Type 0) (Q : B → Type 0) (f : A → List B) → ((x : A) → P x → AllByRecursion Q (f x)) → (xs : List A) → AllByRecursion P xs
    → AllByRecursion Q (flat_map f xs)
flat P Q f gives [] all = tt
flat P Q f gives (x ∷ xs) all = both Q (f x) (flat_map f xs) (gives x all.0) (flat P Q f gives xs all.1)

every : {A B : Type 0} (Q : B → Type 0) (f : A → List B) → ((x : A) → AllByRecursion Q (f x)) → (xs : List A) → AllByRecursion Q (flat_map f xs)
every Q f gives [] = tt
every Q f gives (x ∷ xs) = both Q (f x) (flat_map f xs) (gives x) (every Q f gives xs)

-- ---- places of faults

module _ (P : Place → Type 0) (p : Plan) (m : Memory) where
  -- what stands there has such a place
  abbrev At : Spot → Type 0
  At s = P s.place

  from-at : (pre : ℕ → Result PreValue Trap) (place : ℕ → Place) → ((i : ℕ) → P (place i)) → (i : ℕ) (cells : List NewCell)
      → AllByRecursion At (spots_from p m pre place i cells)
  from-at pre place holds i [] = tt
  from-at pre place holds i (c ∷ cells) = (holds i, from-at pre place holds (suc i) cells)

  spots-at : (place : ℕ → Place) → ((i : ℕ) → P (place i)) → (n : Name) (cells : List NewCell) (o : Option (List Source))
      → AllByRecursion At (spots_of p m place n cells o)
  spots-at place holds n cells None = tt
  spots-at place holds n cells (Some sources) = from-at (pre_at p m n cells sources) place holds 0 cells

  -- globals that are counted from i
  globals-at : (all i : ℕ) (gs : List GlobalRule) → ((g cell : ℕ) → g < all → P (GlobalCell g cell)) → i + length gs ≤ all
      → AllByRecursion At (global_spots p m i gs)
  globals-at all i [] holds within = tt
  globals-at all i (g ∷ gs) holds within =
      both At (spots_of p m (GlobalCell i) (origin g.source) (global_cells p.new g) (global_sources p g g.source)) (global_spots p m (suc i) gs)
      (spots-at (GlobalCell i) (λ cell. holds i cell (omega (arith, within))) (origin g.source) (global_cells p.new g) (global_sources p g g.source))
      (globals-at all (suc i) gs holds (omega (arith, within)))

  heap-at : ((number cell : ℕ) → P (HeapCell number cell)) → (a : ℕ) → AllByRecursion At (heap_spots p m a)
  heap-at holds a = by (m.at (Heap a))
    where
      by-type : (o : Object) (t : Option ℕ) → AllByRecursion At (image_spots p m a o t)
      by-type o None = tt
      by-type o (Some b) =
          spots-at (HeapCell o.number) (holds o.number) (Heap a) (object_cells p.new b o.count) (object_sources p o.ty b o.count)

      by : (o : Option Object) → AllByRecursion At (spots_at p m a o)
      by None = tt
      by (Some o) = by-type o (new_type p o.ty)

  added-at : (roots : List Root) → AllByRecursion (λ (r : Root). P r.place) roots → AllByRecursion At (added_spots p m roots)
  added-at [] all = tt
  added-at (r ∷ roots) all = (all.0, added-at roots all.1)

  told-at : (s : Spot) (o : Option Why) → At s → AllByRecursion (λ (f : Fault). P f.place) (told s.place o)
  told-at s None h = tt
  told-at s (Some w) h = (h, tt)

  pub faults-at : (roots : List Root) → AllByRecursion (λ (r : Root). P r.place) roots → ((g cell : ℕ) → g < length p.globals → P (GlobalCell g cell))
      → ((number cell : ℕ) → P (HeapCell number cell)) → AllByRecursion (λ (f : Fault). P f.place) (faults p m roots)
  faults-at roots all globals heap =
      flat At (λ (f : Fault). P f.place) (λ s. told s.place (fault_at p m s)) (λ s h. told-at s (fault_at p m s) h) (all_spots p m roots)
      (both At (global_spots p m 0 p.globals ++ added_spots p m roots) (flat_map (heap_spots p m) (heap_numbers m (reached p m roots)))
      (both At (global_spots p m 0 p.globals) (added_spots p m roots) (globals-at (length p.globals) 0 p.globals globals (omega arith)) (added-at roots all))
      (every At (heap_spots p m) (heap-at heap) (heap_numbers m (reached p m roots))))

-- ---- places that threads add

module _ {X : Type 0} (P : Place → Type 0) (e : Engine X) (j : Passage) (m : Memory) where
  abbrev AtRoot : Root → Type 0
  AtRoot r = P r.place

  argument-at : (t : ℕ) → P (Argument t) → (th : Thread X) → AllByRecursion AtRoot (argument_of j t th)
  argument-at t holds th = by-life (lives th.standing)
    where
      by-type : (a : Value) (d : FieldDecl) (o : Option Ty) → AllByRecursion AtRoot (if_root (option_map (λ u. root (Argument t) u (Ok (pre_argument u a)) d) o))
      by-type a d None = tt
      by-type a d (Some u) = (holds, tt)

      by-parameter : (a : Value) (o : Option FieldDecl) → AllByRecursion AtRoot (if_root (option_and_then (argument_as j t a) o))
      by-parameter a None = tt
      by-parameter a (Some d) = by-type a d (slice_get j.plan.new.types d.ty)

      by-values : (values : List Value) → AllByRecursion AtRoot (if_root (argument_root j t th.entry values))
      by-values [] = tt
      by-values (a ∷ more) = by-parameter a (new_parameter j th.entry)

      by-life : (b : Bool) → AllByRecursion AtRoot (if b then if_root (argument_root j t th.entry th.arguments) else [])
      by-life true = by-values th.arguments
      by-life false = tt

  arguments-at : (all i : ℕ) (threads : List (Thread X)) → ((t : ℕ) → t < all → P (Argument t)) → i + length threads ≤ all
      → AllByRecursion AtRoot (arguments_of j i threads)
  arguments-at all i [] holds within = tt
  arguments-at all i (th ∷ threads) holds within =
      both AtRoot (argument_of j i th) (arguments_of j (suc i) threads) (argument-at i (holds i (omega (arith, within))) th)
      (arguments-at all (suc i) threads holds (omega (arith, within)))

  local-at : (t : ℕ) (calls : List Call) (r : LocalRule) → P (Local t r.function r.local) → AllByRecursion AtRoot (if_root (local_root j m t calls r))
  local-at t calls r holds = by-source r.source
    where
      by-type : (s : LocalSource) (v : Value) (o : Option Ty) → AllByRecursion AtRoot (if_root (option_map (λ u. record { place = Local t r.function r.local; ty = u; value = pre_local j.plan m u s.body v; view = r.view }) o))
      by-type s v None = tt
      by-type s v (Some u) = (holds, tt)

      by-value : (s : LocalSource) (o : Option Value) → AllByRecursion AtRoot (if_root (option_and_then (local_as j m t r s) o))
      by-value s None = tt
      by-value s (Some v) = by-type s v (slice_get j.plan.new.types r.ty)

      by-source : (o : Option LocalSource) → AllByRecursion AtRoot (if_root (option_and_then (λ s. option_and_then (local_as j m t r s) (old_local calls s)) o))
      by-source None = tt
      by-source (Some s) = by-value s (old_local calls s)

  rules-at : (t : ℕ) (calls : List Call) (rules : List LocalRule) → AllByRecursion (λ (r : LocalRule). P (Local t r.function r.local)) rules
      → AllByRecursion AtRoot (locals_by j m t calls rules)
  rules-at t calls [] all = tt
  rules-at t calls (r ∷ rules) all =
      both AtRoot (if_root (local_root j m t calls r)) (locals_by j m t calls rules) (local-at t calls r all.0) (rules-at t calls rules all.1)

  locals-at : (all i : ℕ) (threads : List (Thread X)) → ((t : ℕ) → t < all → AllByRecursion (λ (r : LocalRule). P (Local t r.function r.local)) j.plan.locals)
      → i + length threads ≤ all → AllByRecursion AtRoot (locals_of e j m i threads)
  locals-at all i [] holds within = tt
  locals-at all i (th ∷ threads) holds within =
      both AtRoot (locals_by j m i (e.calls th.state) j.plan.locals) (locals_of e j m (suc i) threads)
      (rules-at i (e.calls th.state) j.plan.locals (holds i (omega (arith, within))))
      (locals-at all (suc i) threads holds (omega (arith, within)))

  pub roots-at : (threads : List (Thread X)) → ((t : ℕ) → t < length threads → P (Argument t))
      → ((t : ℕ) → t < length threads → AllByRecursion (λ (r : LocalRule). P (Local t r.function r.local)) j.plan.locals)
      → AllByRecursion AtRoot (thread_roots e j m threads)
  roots-at threads arguments locals =
      both AtRoot (arguments_of j 0 threads) (locals_of e j m 0 threads) (arguments-at (length threads) 0 threads arguments (omega arith))
      (locals-at (length threads) 0 threads locals (omega arith))
