-- The laws of memory, by the ways in which it changes.
use Rattle.std.proofs.Common.{◌≡◌, ◌≢◌, ℕ, zero, suc, ◌+◌, ◌<◌, ◌≤◌, ◌⊎◌, inl, inr, true, false, Bool, List, [], ◌∷◌, map, length, Option, Some, None, Result, Ok, Err, refl, sym, ◌∙◌, ap, subst, arith, add-one, cond}
use Rattle.std.proofs.lemmas.Bool.Decides.{eqb_tells, leb_tells}
use Rattle.std.proofs.lemmas.List.{length-set}
use Rattle.std.specs.Result.{result_unwrap_or}
use Rattle.std.specs.Prelude.{slice_get, slice_set}
use Rattle.std.specs.Option.{option_map}
use Rattle.kt_types.specs.declared.kinds.Ty.{Ty}
use Rattle.kt_mem.specs.declared.memory.Name.{Name}
use Rattle.kt_mem.specs.declared.memory.Name.TheVariants.{Glob, Lit, Heap}
use Rattle.kt_mem.specs.declared.memory.Value.{Value}
use Rattle.kt_mem.specs.declared.memory.Value.TheVariants.{Num, Null, Ptr, Free, Held, Undef}
use Rattle.kt_mem.specs.declared.steps.Trap.{Trap}
use Rattle.kt_mem.specs.declared.steps.Trap.TheVariants as trap
use Rattle.kt_mem.specs.Values.{ty_eq}
use Rattle.kt_mem.specs.Memory.{Memory, Object, Cell, no_objects, put, cell_value, value_in, value_at, object_with, with_value, and_then, unless_literal, store, fresh_object, without}
use Rattle.kt_mem.specs.Laws.{LoadsWhatWasStored, StoreKeepsOthers, IsDead, ReleaseEnds, ReleaseKeepsOthers, Effect, effect_on, memory_after, AllocTakesNext, NumbersNeverReturn, SameShape, cell_count, cells_below, IsCounted, StartsCounted, StaysCounted, StaysSmall, ShapesStay}
use Rattle.kt_mem.proofs.Names.{ty_eq-true, same_name, put-same, put-other, put-cases}
use Rattle.kt_mem.proofs.Places.{value_at-with_same, value_at-with_other}
use Rattle.kt_mem.proofs.Changes.{Change, Kept, Wrote, Made, Freed, written_ok, and_then_ok, changed, alloc_ok, release_ok}

-- ---- load and store

unless_literal_ok : (p v new : Value) → unless_literal p v ≡ Ok new → new ≡ v
unless_literal_ok (Ptr (Glob i) k) v new h = cc
unless_literal_ok (Ptr (Lit w i) k) v new h = cc
unless_literal_ok (Ptr (Heap a) k) v new h = cc
unless_literal_ok (Num z) v new h = cc
unless_literal_ok Null v new h = cc
unless_literal_ok Free v new h = cc
unless_literal_ok (Held w) v new h = cc
unless_literal_ok Undef v new h = cc

store_ok : (m after : Memory) (p : Value) (t : Ty) (v : Value) → store m p t v ≡ Ok after → (old : Value) × (value_at m p t ≡ Ok old) × (after ≡ with_value m p t v)
store_ok m after p t v h =
    let w = written_ok m after p t (and_then (value_at m p t) (λ old. unless_literal p v)) h in
    let a = and_then_ok (value_at m p t) (λ old. unless_literal p v) w.0 w.1 in
    (a.0, a.1, w.2 ∙ ap (with_value m p t) (unless_literal_ok p v w.0 a.2))

pub loads_what_was_stored : LoadsWhatWasStored
loads_what_was_stored m after p t v h =
    let s = store_ok m after p t v h in rw (s.2, value_at-with_same m p t s.0 v s.1)

pub store_keeps_others : StoreKeepsOthers
store_keeps_others m after p q t u v h ne =
    let s = store_ok m after p t v h in rw (s.2, value_at-with_other m p q t u v ne)

-- ---- release

dead : (m : Memory) (n : Name) → m.at n ≡ None → IsDead m n
dead m n e =
    record {
      load = λ k t. rw e;
      store = λ k t v. rw e;
      release = λ k. rw e;
      lock = λ thread k. rw e;
      unlock = λ thread k. rw e;
      init_mutex = λ k. rw e;
    }

gone_is_dead : (m after : Memory) (n : Name) (a : ℕ) (o : Object) → n ≡ Heap a → after ≡ without m a o → IsDead after n
gone_is_dead m after n a o e h = rw e (dead after (Heap a) (rw (h, put-same m.at (Heap a) None)))

pub release_ends : ReleaseEnds
release_ends m after n k h =
    let r = release_ok m after n k h in gone_is_dead m after n r.0 r.1 r.2 r.4

pub release_keeps_others : ReleaseKeepsOthers
release_keeps_others m after n q k h ne =
    let r = release_ok m after n k h in
    rw r.4 (put-cases (λ x. x ≡ m.at q) m.at (Heap r.0) q None (λ e. absurd (ne (e ∙ sym r.2))) (λ _. refl))

-- ---- heap numbers

pub alloc_takes_next : AllocTakesNext
alloc_takes_next m after place count types zeros h =
    let a = alloc_ok m after place count types zeros h in
    (rw a.1, rw (a.1, put-same m.at (Heap m.next) (Some (fresh_object m.next place types count zeros))))

-- what holds of a memory and, whatever the pointer, with another value there
wrote_by : (P : Memory → Type 0) (m : Memory) (p : Value) (t : Ty) (new : Value) → P m → ((n : Name) (k : ℕ) → p ≡ Ptr n k → P (with_value m (Ptr n k) t new)) → P (with_value m p t new)
wrote_by P m (Ptr n k) t new kept wrote = wrote n k refl
wrote_by P m (Num z) t new kept wrote = kept
wrote_by P m Null t new kept wrote = kept
wrote_by P m Free t new kept wrote = kept
wrote_by P m (Held w) t new kept wrote = kept
wrote_by P m Undef t new kept wrote = kept

-- a dead number below the next one stays so at each change
stays_dead : (m after : Memory) (a : ℕ) → Change m after → a < m.next → m.at (Heap a) ≡ None → (a < after.next) × (after.at (Heap a) ≡ None)
stays_dead m after a (Kept e) below gone = rw e (below, gone)
stays_dead m after a (Wrote p t old new was e) below gone =
    rw e (wrote_by (λ x. (a < x.next) × (x.at (Heap a) ≡ None)) m p t new (below, gone) (λ n k _. (below, put-cases (λ x. x ≡ None) m.at n (Heap a) (option_map (object_with k (record { ty = t; value = new })) (m.at n)) (λ same. rw (← same, gone)) (λ _. gone))))
stays_dead m after a (Made o small e) below gone =
    let differs : Heap a ≢ Heap m.next = λ same. let n : a ≡ m.next = cc in omega arith in
    rw e (omega arith, put-cases (λ x. x ≡ None) m.at (Heap m.next) (Heap a) (Some o) (λ same. absurd (differs same)) (λ _. gone))
stays_dead m after a (Freed b o was e) below gone =
    rw e (below, put-cases (λ x. x ≡ None) m.at (Heap b) (Heap a) None (λ _. refl) (λ _. gone))

-- one act, also one that traps, keeps what every change keeps
pub each_act : (P : Memory → Type 0) (m : Memory) (e : Effect) → ((after : Memory) → Change m after → P after) → P (result_unwrap_or (effect_on m e) m)
each_act P m e kept = by_answer (effect_on m e) refl
  where
    by_answer : (r : Result Memory Trap) → effect_on m e ≡ r → P (result_unwrap_or r m)
    by_answer (Ok after) h = kept after (changed m after e h)
    by_answer (Err t) h = kept m (Kept refl)

pub numbers_never_return : NumbersNeverReturn
numbers_never_return m [] a below gone = (below, gone)
numbers_never_return m (e ∷ es) a below gone =
    let next = each_act (λ after. (a < after.next) × (after.at (Heap a) ≡ None)) m e (λ after c. stays_dead m after a c below gone) in
    numbers_never_return (result_unwrap_or (effect_on m e) m) es a next.0 next.1

-- ---- the count of live cells

cells_below-same : (f g : Name → Option Object) (n : ℕ) → ((a : ℕ) → a < n → cell_count (g (Heap a)) ≡ cell_count (f (Heap a))) → cells_below g n ≡ cells_below f n
cells_below-same f g zero same = refl
cells_below-same f g (suc n) same =
    omega (arith, cells_below-same f g n (λ a h. same a (omega arith)), same n (omega arith))

-- without one of the objects
cells_below-without : (f g : Name → Option Object) (n a : ℕ) → a < n → g (Heap a) ≡ None → ((b : ℕ) → b ≢ a → g (Heap b) ≡ f (Heap b)) → cells_below g n + cell_count (f (Heap a)) ≡ cells_below f n
cells_below-without f g zero a h gone same = absurd (omega arith)
cells_below-without f g (suc n) a h gone same =
    elim (eqb_tells n a) [ inl p ↦ omega (arith, cells_below-same f g n (λ b under. ap cell_count (same b (omega (arith, p.1)))), here p.1, there p.1) | inr p ↦ omega (arith, cells_below-without f g n a (omega (arith, p.1)) gone same, ap cell_count (same n p.1)) ]
  where
    here : n ≡ a → cell_count (g (Heap n)) ≡ 0
    here e = rw (e, gone)

    there : n ≡ a → cell_count (f (Heap n)) ≡ cell_count (f (Heap a))
    there e = rw e

pub starts_counted : StartsCounted
starts_counted next = record { numbered = λ a h. refl; sum = sym (none next) }
  where
    none : (n : ℕ) → cells_below no_objects n ≡ 0
    none zero = refl
    none (suc n) = omega (arith, none n)

cell_count-with : (o : Option Object) (k : ℕ) (c : Cell) → cell_count (option_map (object_with k c) o) ≡ cell_count o
cell_count-with None k c = refl
cell_count-with (Some o) k c = length-set o.cells k c

heap_name : (a b : ℕ) → Heap a ≡ Heap b → a ≡ b
heap_name a b e = cc

-- with one object more, and with one less
cells_below-made : (at : Name → Option Object) (n : ℕ) (o : Object) → cells_below (put at (Heap n) (Some o)) (n + 1) ≡ cells_below at n + length o.cells
cells_below-made at n o =
    let others = cells_below-same at (put at (Heap n) (Some o)) n (λ a h. put-cases (λ x. cell_count x ≡ cell_count (at (Heap a))) at (Heap n) (Heap a) (Some o) (λ same. absurd (omega (arith, heap_name a n same))) (λ _. refl)) in
    rw add-one (omega (arith, others, ap cell_count (put-same at (Heap n) (Some o))))

cells_below-freed : (at : Name → Option Object) (n a : ℕ) (o : Object) → a < n → at (Heap a) ≡ Some o → cells_below (put at (Heap a) None) n + length o.cells ≡ cells_below at n
cells_below-freed at n a o h was =
    let rest = cells_below-without at (put at (Heap a) None) n a h (put-same at (Heap a) None) (λ b ne. put-cases (λ x. x ≡ at (Heap b)) at (Heap a) (Heap b) None (λ same. absurd (ne (heap_name b a same))) (λ _. refl)) in
    omega (arith, rest, ap cell_count was)

-- a live object has a number below the next one
pub live_below : (m : Memory) (a : ℕ) (o : Object) → IsCounted m → m.at (Heap a) ≡ Some o → a < m.next
live_below m a o i was =
    elim (leb_tells m.next a) [ inl p ↦ absurd (gone (i.numbered a p.1) was) | inr p ↦ p.1 ]
  where
    gone : m.at (Heap a) ≡ None → m.at (Heap a) ≡ Some o → ⊥
    gone h k = cc

counted : (m after : Memory) → Change m after → IsCounted m → IsCounted after
counted m after (Kept e) i = rw e i
counted m after (Wrote p t old new was e) i = rw e (wrote_by IsCounted m p t new i wrote)
  where
    wrote : (n : Name) (k : ℕ) → p ≡ Ptr n k → IsCounted (with_value m (Ptr n k) t new)
    wrote n k _ =
        let o = option_map (object_with k (record { ty = t; value = new })) (m.at n) in
        record {
          numbered = λ a h. put-cases (λ x. x ≡ None) m.at n (Heap a) o (λ same. rw (← same, i.numbered a h)) (λ _. i.numbered a h);
          sum =
              i.sum ∙ sym (cells_below-same m.at (put m.at n o) m.next (λ a h. put-cases (λ x. cell_count x ≡ cell_count (m.at (Heap a))) m.at n (Heap a) o (λ same. rw (← same) (cell_count-with (m.at (Heap a)) k _)) (λ _. refl)));
        }
counted m after (Made o small e) i =
    rw e (record {
      numbered = λ a h. put-cases (λ x. x ≡ None) m.at (Heap m.next) (Heap a) (Some o) (λ same. absurd (omega (arith, heap_name a m.next same))) (λ _. i.numbered a (omega arith));
      sum = omega (arith, i.sum, cells_below-made m.at m.next o);
    })
counted m after (Freed a o was e) i =
    rw e (record {
      numbered = λ b h. put-cases (λ x. x ≡ None) m.at (Heap a) (Heap b) None (λ _. refl) (λ _. i.numbered b h);
      sum = omega (arith, i.sum, cells_below-freed m.at m.next a o (live_below m a o i was) was);
    })

pub stays_counted : StaysCounted
stays_counted m [] i = i
stays_counted m (e ∷ es) i =
    stays_counted (result_unwrap_or (effect_on m e) m) es (each_act IsCounted m e (λ after c. counted m after c i))

small_still : (m after : Memory) → Change m after → m.live ≤ 4194304 → after.live ≤ 4194304
small_still m after (Kept e) h = rw e h
small_still m after (Wrote p t old new was e) h =
    rw e (wrote_by (λ x. x.live ≤ 4194304) m p t new h (λ n k _. h))
small_still m after (Made o small e) h = rw e small
small_still m after (Freed a o was e) h = rw e (omega arith)

pub stays_small : StaysSmall
stays_small m [] h = h
stays_small m (e ∷ es) h =
    stays_small (result_unwrap_or (effect_on m e) m) es (each_act (λ x. x.live ≤ 4194304) m e (λ after c. small_still m after c h))

-- ---- shapes

-- the object is there, with its shape, or is gone for good
abbrev StaysOrGoes : Memory → Name → Object → Type 0
StaysOrGoes m n o =
    ((p : Object) × (m.at n ≡ Some p) × SameShape o p) ⊎ ((a : ℕ) × (n ≡ Heap a) × (a < m.next) × (m.at (Heap a) ≡ None))

same_shape : (o : Object) → SameShape o o
same_shape o = record { number = refl; ty = refl; count = refl; types = refl }

same_shape_trans : (o p q : Object) → SameShape o p → SameShape p q → SameShape o q
same_shape_trans o p q h k =
    record { number = k.number ∙ h.number; ty = k.ty ∙ h.ty; count = k.count ∙ h.count; types = k.types ∙ h.types }

types-set : (cs : List Cell) (k : ℕ) (t : Ty) (old new : Value) → cell_value (slice_get cs k) t ≡ Ok old → map (λ c. c.ty) (slice_set cs k (record { ty = t; value = new })) ≡ map (λ c. c.ty) cs
types-set [] k t old new h = refl
types-set (c ∷ cs) zero t old new h = ap (λ u. u ∷ map (λ c. c.ty) cs) (type_of (ty_eq c.ty t) refl h)
  where
    type_of : (b : Bool) → ty_eq c.ty t ≡ b → cond b (Ok c.value) (Err trap.Bounds) ≡ Ok old → t ≡ c.ty
    type_of true e h = sym (ty_eq-true c.ty t e)
    type_of false e h = cc
types-set (c ∷ cs) (suc k) t old new h = ap (λ us. c.ty ∷ us) (types-set cs k t old new h)

pub same_shape-with : (o : Object) (k : ℕ) (t : Ty) (old new : Value) → value_in (Some o) k t ≡ Ok old → SameShape o (object_with k (record { ty = t; value = new }) o)
same_shape-with o k t old new h =
    record { number = refl; ty = refl; count = refl; types = types-set o.cells k t old new h }

stays_or_goes : (m after : Memory) (n : Name) (o : Object) → Change m after → IsCounted m → m.at n ≡ Some o → StaysOrGoes after n o
stays_or_goes m after n o (Kept e) i was = inl (o, rw (e, was), same_shape o)
stays_or_goes m after n o (Wrote p t old new h e) i was =
    rw e (wrote_by (λ x. StaysOrGoes x n o) m p t new (inl (o, was, same_shape o)) wrote)
  where
    now : (q : Name) (k : ℕ) → n ≡ q → put m.at q (option_map (object_with k (record { ty = t; value = new })) (m.at q)) n ≡ Some (object_with k (record { ty = t; value = new }) o)
    now q k same =
        let there : m.at q ≡ Some o = rw (← same) was in
        rw (same, put-same m.at q (option_map (object_with k (record { ty = t; value = new })) (m.at q)), there)

    shape : (q : Name) (k : ℕ) → p ≡ Ptr q k → n ≡ q → SameShape o (object_with k (record { ty = t; value = new }) o)
    shape q k is same =
        let there : m.at q ≡ Some o = rw (← same) was in
        let held : value_in (m.at q) k t ≡ Ok old = subst (λ (x : Value). value_at m x t ≡ Ok old) is h in
        same_shape-with o k t old new (subst (λ (x : Option Object). value_in x k t ≡ Ok old) there held)

    wrote : (q : Name) (k : ℕ) → p ≡ Ptr q k → StaysOrGoes (with_value m (Ptr q k) t new) n o
    wrote q k is =
        let c : Cell = record { ty = t; value = new } in
        elim (same_name n q) [ inl same ↦ inl (object_with k c o, now q k same, shape q k is same) | inr other ↦ inl (o, put-other m.at q n _ other ∙ was, same_shape o) ]
stays_or_goes m after n o (Made q small e) i was =
    rw e (inl (o, put-cases (λ x. x ≡ Some o) m.at (Heap m.next) n (Some q) (λ same. absurd (omega (arith, live_below m m.next o i (rw (← same) was)))) (λ _. was), same_shape o))
stays_or_goes m after n o (Freed a q here e) i was =
    elim (same_name n (Heap a)) [ inl same ↦ inr (a, same, rw e (live_below m a q i here), rw (e, put-same m.at (Heap a) None)) | inr other ↦ inl (o, rw (e, put-other m.at (Heap a) n None other) was, same_shape o) ]

none_some : (o : Option Object) (p : Object) → o ≡ None → o ≡ Some p → ⊥
none_some o p h k = cc

some_same : (x : Option Object) (o p : Object) → x ≡ Some o → x ≡ Some p → o ≡ p
some_same x o p h k = cc

pub shapes_stay : ShapesStay
shapes_stay m [] n o p i was now =
    subst (λ (q : Object). SameShape o q) (some_same (m.at n) o p was now) (same_shape o)
shapes_stay m (e ∷ es) n o p i was now =
    let next = result_unwrap_or (effect_on m e) m in
    let after = each_act (λ x. StaysOrGoes x n o) m e (λ after c. stays_or_goes m after n o c i was) in
    let still = each_act IsCounted m e (λ after c. counted m after c i) in
    elim after [ inl s ↦ same_shape_trans o s.0 p s.2 (shapes_stay next es n s.0 p still s.1 now) | inr g ↦ absurd (none_some ((memory_after next es).at n) p (rw g.1 (numbers_never_return next es g.0 g.2 g.3).1) now) ]
