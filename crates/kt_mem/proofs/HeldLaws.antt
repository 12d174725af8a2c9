-- Whether a mutex is held is decided over the names that can be there.
use Rattle.std.proofs.Common.{◌≡◌, ◌⊎◌, ℕ, zero, suc, ◌<◌, ◌≤◌, Bool, true, false, ◌&&◌, ◌||◌, cond, List, [], ◌∷◌, Option, None, Some, Ok, Err, refl, sym, ◌∙◌, ap, subst, arith, inl, inr}
use Rattle.std.specs.Prelude.{slice_get}
use Rattle.std.specs.List.{AllByRecursion}
use Rattle.kt_types.specs.declared.kinds.Ty.{Ty}
use Rattle.kt_types.specs.declared.kinds.Ty.TheVariants as ty
use Rattle.kt_mem.specs.declared.memory.Name.{Name}
use Rattle.kt_mem.specs.declared.memory.Name.TheVariants.{Glob, Lit, Heap}
use Rattle.kt_mem.specs.declared.memory.Value.{Value}
use Rattle.kt_mem.specs.declared.memory.Value.TheVariants.{Num, Null, Ptr, Free, Held, Undef}
use Rattle.kt_mem.specs.declared.steps.Trap.TheVariants as trap
use Rattle.kt_mem.specs.Values.{ty_eq}
use Rattle.kt_mem.specs.Memory.{Object, Cell, cell_value, value_in, value_at}
use Rattle.kt_mem.specs.Held.{IsSomeHeld, is_held, any_held, object_held, held_below, some_held, HeldIsDecided}

either : (a b : Bool) → (a || b) ≡ true → (a ≡ true) ⊎ (b ≡ true)
either true b h = inl refl
either false b h = inr h

or_left : (a b : Bool) → a ≡ true → (a || b) ≡ true
or_left a b h = rw h refl

or_right : (a b : Bool) → b ≡ true → (a || b) ≡ true
or_right true b h = refl
or_right false b h = h

-- ---- cells

-- what is held at an offset is held in the list
held_in : (cs : List Cell) (k thread : ℕ) → cell_value (slice_get cs k) ty.Mutex ≡ Ok (Held thread) → any_held cs ≡ true
held_in [] k thread h = cc
held_in (c ∷ cs) zero thread h = or_left (ty_eq c.ty ty.Mutex && is_held c.value) (any_held cs) (by_type (ty_eq c.ty ty.Mutex) h)
  where
    by_type : (b : Bool) → cond b (Ok c.value) (Err trap.Bounds) ≡ Ok (Held thread) → (b && is_held c.value) ≡ true
    by_type true e = let same : c.value ≡ Held thread = cc in ap is_held same
    by_type false e = cc
held_in (c ∷ cs) (suc k) thread h = or_right (ty_eq c.ty ty.Mutex && is_held c.value) (any_held cs) (held_in cs k thread h)

holder : (v : Value) → is_held v ≡ true → (thread : ℕ) × (v ≡ Held thread)
holder (Held w) h = (w, refl)
holder (Ptr n k) h = cc
holder Null h = cc
holder (Num z) h = cc
holder Free h = cc
holder Undef h = cc

-- and what is held in the list is held at an offset
held_at : (cs : List Cell) → any_held cs ≡ true → (k : ℕ) × (thread : ℕ) × (cell_value (slice_get cs k) ty.Mutex ≡ Ok (Held thread))
held_at [] h = cc
held_at (c ∷ cs) h =
    elim (either (ty_eq c.ty ty.Mutex && is_held c.value) (any_held cs) h) [ inl here ↦ first (ty_eq c.ty ty.Mutex) refl here | inr rest ↦ (let r = held_at cs rest in (suc r.0, r.1, r.2)) ]
  where
    first : (b : Bool) → ty_eq c.ty ty.Mutex ≡ b → (b && is_held c.value) ≡ true → (k : ℕ) × (thread : ℕ) × (cell_value (slice_get (c ∷ cs) k) ty.Mutex ≡ Ok (Held thread))
    first true e g =
        let w = holder c.value g in
        (zero, w.0, ap (λ (b : Bool). cond b (Ok c.value) (Err trap.Bounds)) e ∙ ap Ok w.1)
    first false e g = cc

-- characters are no mutexes
no_mutex : (cs : List Cell) (k thread : ℕ) → AllByRecursion (λ c. c.ty ≡ ty.Char) cs → cell_value (slice_get cs k) ty.Mutex ≡ Ok (Held thread) → ⊥
no_mutex [] k thread all h = cc
no_mutex (c ∷ cs) zero thread all h =
    let char : ty_eq c.ty ty.Mutex ≡ false = ap (λ (t : Ty). ty_eq t ty.Mutex) all.0 in
    never (sym (ap (λ (b : Bool). cond b (Ok c.value) (Err trap.Bounds)) char) ∙ h)
  where
    never : Err trap.Bounds ≡ Ok (Held thread) → ⊥
    never e = cc
no_mutex (c ∷ cs) (suc k) thread all h = no_mutex cs k thread all.1 h

-- ---- objects

object_there : (o : Option Object) (k thread : ℕ) → value_in o k ty.Mutex ≡ Ok (Held thread) → object_held o ≡ true
object_there None k thread h = cc
object_there (Some o) k thread h = held_in o.cells k thread h

there_object : (o : Option Object) → object_held o ≡ true → (k : ℕ) × (thread : ℕ) × (value_in o k ty.Mutex ≡ Ok (Held thread))
there_object None h = cc
there_object (Some o) h = held_at o.cells h

below : (at : ℕ → Option Object) (n i : ℕ) → i < n → object_held (at i) ≡ true → held_below at n ≡ true
below at zero i l h = absurd (omega arith)
below at (suc n) i l h =
    elim (last i n l) [ inl same ↦ or_left (object_held (at n)) (held_below at n) (subst (λ (j : ℕ). object_held (at j) ≡ true) same h) | inr less ↦ or_right (object_held (at n)) (held_below at n) (below at n i less h) ]
  where
    last : (i n : ℕ) → i < suc n → (i ≡ n) ⊎ (i < n)
    last zero zero l = inl refl
    last zero (suc n) l = inr (omega arith)
    last (suc i) zero l = absurd (omega arith)
    last (suc i) (suc n) l = elim (last i n (omega arith)) [ inl e ↦ inl (ap suc e) | inr m ↦ inr (omega (arith, m)) ]

found : (at : ℕ → Option Object) (n : ℕ) → held_below at n ≡ true → (i : ℕ) × (object_held (at i) ≡ true)
found at zero h = cc
found at (suc n) h = elim (either (object_held (at n)) (held_below at n) h) [ inl e ↦ (n, e) | inr e ↦ found at n e ]

-- an object with a mutex that is held is one of a number below the first that has none
within : (at : ℕ → Option Object) (n i : ℕ) → ((j : ℕ) → n ≤ j → at j ≡ None) → object_held (at i) ≡ true → i < n
within at n i past h = elim (order i n) [ inl less ↦ less | inr more ↦ absurd (none (at i) (past i more) h) ]
  where
    order : (i n : ℕ) → (i < n) ⊎ (n ≤ i)
    order zero zero = inr (omega arith)
    order zero (suc n) = inl (omega arith)
    order (suc i) zero = inr (omega arith)
    order (suc i) (suc n) = elim (order i n) [ inl l ↦ inl (omega (arith, l)) | inr m ↦ inr (omega (arith, m)) ]

    none : (o : Option Object) → o ≡ None → object_held o ≡ true → ⊥
    none None e h = cc
    none (Some o) e h = cc

-- ---- the law

pub held_is_decided : HeldIsDecided
held_is_decided m globals has = (to, from)
  where
    globals_held : Bool
    globals_held = held_below (λ i. m.at (Glob i)) globals

    heap_held : Bool
    heap_held = held_below (λ a. m.at (Heap a)) m.next

    literal : (o : Option Object) (v i k thread : ℕ) → m.at (Lit v i) ≡ o → value_in o k ty.Mutex ≡ Ok (Held thread) → ⊥
    literal None v i k thread e h = cc
    literal (Some o) v i k thread e h = no_mutex o.cells k thread (has.literals v i o e) h

    named : (n : Name) (k thread : ℕ) → value_at m (Ptr n k) ty.Mutex ≡ Ok (Held thread) → some_held m globals ≡ true
    named (Glob i) k thread h =
        let there = object_there (m.at (Glob i)) k thread h in
        or_left globals_held heap_held (below (λ j. m.at (Glob j)) globals i (within (λ j. m.at (Glob j)) globals i has.globals there) there)
    named (Heap a) k thread h =
        let there = object_there (m.at (Heap a)) k thread h in
        or_right globals_held heap_held (below (λ b. m.at (Heap b)) m.next a (within (λ b. m.at (Heap b)) m.next a has.numbers there) there)
    named (Lit v i) k thread h = absurd (literal (m.at (Lit v i)) v i k thread refl h)

    to : IsSomeHeld m → some_held m globals ≡ true
    to h = named h.0 h.1 h.2 h.3

    from : some_held m globals ≡ true → IsSomeHeld m
    from h =
        elim (either globals_held heap_held h) [
          | inl g ↦ (let i = found (λ j. m.at (Glob j)) globals g in let there = there_object (m.at (Glob i.0)) i.1 in (Glob i.0, there.0, there.1, there.2))
          | inr g ↦ (let a = found (λ b. m.at (Heap b)) m.next g in let there = there_object (m.at (Heap a.0)) a.1 in (Heap a.0, there.0, there.1, there.2))
        ]
