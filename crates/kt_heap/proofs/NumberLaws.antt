-- The acts of memory by heap number are those by address.
use Rattle.std.proofs.Common.{◌≡◌, ℕ, zero, suc, ◌+◌, ◌-◌, ◌==◌, Bool, true, false, cond, [], ◌∷◌, ◌++◌, map, length, Option, None, Some, Result, Ok, Err, refl, sym, ◌∙◌, ap, subst, arith}
use Rattle.std.specs.Option.{option_map, option_and_then}
use Rattle.std.proofs.lemmas.List.{length-map}
use mathlib.Core.Path.{fun_ext}
use Rattle.kt_types.specs.declared.kinds.Ty.{Ty}
use Rattle.kt_types.specs.declared.kinds.Ty.TheVariants as ty
use Rattle.kt_mem.specs.declared.memory.Name.{Name}
use Rattle.kt_mem.specs.declared.memory.Name.TheVariants.{Glob, Lit, Heap}
use Rattle.kt_mem.specs.declared.memory.Value.{Value}
use Rattle.kt_mem.specs.declared.memory.Value.TheVariants.{Num, Null, Ptr, Free, Held, Undef}
use Rattle.kt_mem.specs.declared.steps.Trap.{Trap}
use Rattle.kt_mem.specs.declared.steps.Trap.TheVariants as trap
use Rattle.kt_mem.specs.Values.{name_eq, defined}
use Rattle.kt_mem.specs.Memory.{Memory, Object, Cell, no_objects, put, value_at, and_then, written, with_value, object_with, unless_literal, locked, unlocked, initialised, held_by_other, released, without, fresh_object}
use Rattle.kt_heap.specs.Heap.{Paired, IsNew, IsPairing}
use Rattle.kt_mem.specs.Renaming.{Pairs, rename_name, rename_value, renamed}
use Rattle.kt_heap.specs.ByNumber.{address_paired, cell_by_number, object_by_number, object_named, by_number, answer_by, WasGiven, HoldsGiven, StartsByNumber, LoadsByNumber, StoresByNumber, ReleasesByNumber, LocksByNumber, UnlocksByNumber, InitsByNumber, WaitsByNumber, AllocsByNumber, GrowsByNumber, LooksByNumber, CarriesNumber}
use Rattle.kt_heap.proofs.Places.{by_test}
use Rattle.kt_heap.proofs.Pairs.{number_there, address_there, address_is_paired, address_kept, address_pushed}
use Rattle.kt_heap.proofs.Renamed.{NameGiven, name_given, object_there, value_at_by, defined_by, object_with_by, fresh_object_by, value_pushed, object_pushed}

-- ---- a memory after a change under one name

seen : Pairs → (Name → Option Object) → Name → Option Object
seen pairs at n = option_map (object_by_number pairs) (object_named pairs at n)

seen_if : (pairs : Pairs) (b : Bool) (o p : Option Object) → option_map (object_by_number pairs) (cond b o p) ≡ cond b (option_map (object_by_number pairs) o) (option_map (object_by_number pairs) p)
seen_if pairs true o p = refl
seen_if pairs false o p = refl

-- addresses are one where their numbers are
same_test : (pairs : Pairs) (m : Memory) (a b k n : ℕ) → IsPairing pairs m → Paired pairs a k → Paired pairs b n → (b == a) ≡ (n == k)
same_test pairs m a b k n kept p q =
    by_test (λ t. t ≡ (n == k)) b a (λ e. by_test (λ t. true ≡ t) n k (λ _. refl) (λ ne. absurd (ne (kept.numbers a n k (subst (λ (x : ℕ). Paired pairs x n) e q) p)))) (λ ne. by_test (λ t. false ≡ t) n k (λ e. absurd (ne (kept.addresses b a k (subst (λ (x : ℕ). Paired pairs b x) e q) p))) (λ _. refl))

module _ (pairs : Pairs) (m : Memory) (kept : IsPairing pairs m) where
  -- under a heap number
  put_heap : (at : Name → Option Object) (q : Name) (o : Option Object) (n : ℕ) → NameGiven pairs q → seen pairs (put at q o) (Heap n) ≡ put (seen pairs at) (rename_name (renamed pairs) q) (option_map (object_by_number pairs) o) (Heap n)
  unfolding seen put
  put_heap at (Glob i) o n g = refl
  put_heap at (Lit v i) o n g = refl
  put_heap at (Heap a) o n g = by_address (address_paired pairs n) refl
    where
      number : renamed pairs a ≡ g.0
      number = number_there pairs m a g.0 kept g.1

      by_address : (b : Option ℕ) → address_paired pairs n ≡ b → option_map (object_by_number pairs) (option_and_then (λ c. cond (c == a) o (at (Heap c))) b) ≡ cond (n == renamed pairs a) (option_map (object_by_number pairs) o) (option_map (object_by_number pairs) (option_and_then (λ c. at (Heap c)) b))
      by_address None e =
          by_test (λ t. None ≡ cond t (option_map (object_by_number pairs) o) None) n (renamed pairs a) (λ same. let there = address_there pairs m a n kept (subst (λ (k : ℕ). Paired pairs a k) (sym (same ∙ number)) g.1) in let never : ⊥ = cc in absurd never) (λ _. refl)
      by_address (Some b) e =
          seen_if pairs (b == a) o (at (Heap b)) ∙ ap (λ (t : Bool). cond t (option_map (object_by_number pairs) o) (option_map (object_by_number pairs) (at (Heap b)))) (same_test pairs m a b g.0 n kept g.1 (address_is_paired pairs n b e) ∙ ap (λ (k : ℕ). n == k) (sym number))

  -- under any name
  put_by : (at : Name → Option Object) (q : Name) (o : Option Object) → NameGiven pairs q → (n : Name) → seen pairs (put at q o) n ≡ put (seen pairs at) (rename_name (renamed pairs) q) (option_map (object_by_number pairs) o) n
  unfolding seen put
  put_by at q o g (Heap n) = put_heap at q o n g
  put_by at (Glob i) o g (Glob j) = seen_if pairs (j == i) o (at (Glob j))
  put_by at (Lit v i) o g (Glob j) = refl
  put_by at (Heap a) o g (Glob j) = refl
  put_by at (Glob i) o g (Lit w j) = refl
  put_by at (Lit v i) o g (Lit w j) = seen_if pairs (name_eq (Lit w j) (Lit v i)) o (at (Lit w j))
  put_by at (Heap a) o g (Lit w j) = refl

  -- as a map
  put_all : (q : Name) (o : Option Object) → NameGiven pairs q → seen pairs (put m.at q o) ≡ put (seen pairs m.at) (rename_name (renamed pairs) q) (option_map (object_by_number pairs) o)
  put_all q o g = fun_ext (put_by m.at q o g)

  -- ---- a value that is written

  with_value_by : (p : Value) (t : Ty) (v : Value) → WasGiven pairs p → with_value (by_number pairs m) (rename_value (renamed pairs) p) t (rename_value (renamed pairs) v) ≡ by_number pairs (with_value m p t v)
  unfolding seen
  with_value_by (Ptr q k) t v g =
      let given = name_given pairs q k g in
      let c : Cell = record { ty = t; value = v } in
      let there : seen pairs m.at (rename_name (renamed pairs) q) ≡ option_map (object_by_number pairs) (m.at q) = ap (option_map (object_by_number pairs)) (object_there pairs m m.at q kept given) in
      let object : option_map (object_with k (cell_by_number pairs c)) (seen pairs m.at (rename_name (renamed pairs) q)) ≡ option_map (object_by_number pairs) (option_map (object_with k c) (m.at q)) = ap (option_map (object_with k (cell_by_number pairs c))) there ∙ sym (object_with_by pairs k c (m.at q)) in
      ap (λ (at : Name → Option Object). record m { at = at }) (ap (put (seen pairs m.at) (rename_name (renamed pairs) q)) object ∙ sym (put_all q (option_map (object_with k c) (m.at q)) given))
  with_value_by Null t v g = refl
  with_value_by (Num z) t v g = refl
  with_value_by Free t v g = refl
  with_value_by (Held w) t v g = refl
  with_value_by Undef t v g = refl

  written_by : (p : Value) (t : Ty) (r : Result Value Trap) → WasGiven pairs p → written (by_number pairs m) (rename_value (renamed pairs) p) t (answer_by (rename_value (renamed pairs)) r) ≡ answer_by (by_number pairs) (written m p t r)
  written_by p t (Ok v) g = ap Ok (with_value_by p t v g)
  written_by p t (Err e) g = refl

  -- what is made of the value at a pointer
  changes_by : (p : Value) (t : Ty) (f h : Value → Result Value Trap) → ((v : Value) → f (rename_value (renamed pairs) v) ≡ answer_by (rename_value (renamed pairs)) (h v)) → WasGiven pairs p → written (by_number pairs m) (rename_value (renamed pairs) p) t (and_then (value_at (by_number pairs m) (rename_value (renamed pairs) p) t) f) ≡ answer_by (by_number pairs) (written m p t (and_then (value_at m p t) h))
  changes_by p t f h same g =
      ap (λ (r : Result Value Trap). written (by_number pairs m) (rename_value (renamed pairs) p) t (and_then r f)) (value_at_by pairs m p t kept g) ∙ ap (written (by_number pairs m) (rename_value (renamed pairs) p) t) (by_answer (value_at m p t)) ∙ written_by p t (and_then (value_at m p t) h) g
    where
      by_answer : (r : Result Value Trap) → and_then (answer_by (rename_value (renamed pairs)) r) f ≡ answer_by (rename_value (renamed pairs)) (and_then r h)
      by_answer (Ok v) = same v
      by_answer (Err e) = refl

  -- ---- release

  without_by : (a : ℕ) (o : Object) → NameGiven pairs (Heap a) → without (by_number pairs m) (renamed pairs a) (object_by_number pairs o) ≡ by_number pairs (without m a o)
  unfolding seen
  without_by a o g =
      let cells : length (map (cell_by_number pairs) o.cells) ≡ length o.cells = length-map o.cells (cell_by_number pairs) in
      let objects : put (seen pairs m.at) (Heap (renamed pairs a)) None ≡ seen pairs (put m.at (Heap a) None) = sym (put_all (Heap a) None g) in
      λ i. record { at = objects i; next = m.next; live = m.live - cells i }

  released_by : (n : Name) (k : ℕ) (o : Option Object) → NameGiven pairs n → released (by_number pairs m) (rename_name (renamed pairs) n) k (option_map (object_by_number pairs) o) ≡ answer_by (by_number pairs) (released m n k o)
  released_by n k None g = refl
  released_by (Heap a) zero (Some o) g = ap Ok (without_by a o g)
  released_by (Heap a) (suc k) (Some o) g = refl
  released_by (Glob i) k (Some o) g = refl
  released_by (Lit v i) k (Some o) g = refl

-- ---- the laws

pub starts_by_number : StartsByNumber
starts_by_number next =
    ap (λ (at : Name → Option Object). record { at = at; next = next; live = 0 }) (fun_ext nothing)
  where
    nothing : (n : Name) → option_map (object_by_number []) (object_named [] no_objects n) ≡ None
    nothing (Heap a) = refl
    nothing (Glob i) = refl
    nothing (Lit v i) = refl

pub loads_by_number : LoadsByNumber
loads_by_number pairs m p t kept g =
    ap (λ (r : Result Value Trap). and_then r defined) (value_at_by pairs m p t kept g) ∙ by_answer (value_at m p t)
  where
    by_answer : (r : Result Value Trap) → and_then (answer_by (rename_value (renamed pairs)) r) defined ≡ answer_by (rename_value (renamed pairs)) (and_then r defined)
    by_answer (Ok v) = defined_by pairs v
    by_answer (Err e) = refl

-- whether a literal is written is asked of the name alone
literal_by : (pairs : Pairs) (p v : Value) → unless_literal (rename_value (renamed pairs) p) (rename_value (renamed pairs) v) ≡ answer_by (rename_value (renamed pairs)) (unless_literal p v)
literal_by pairs (Ptr (Lit w i) k) v = refl
literal_by pairs (Ptr (Glob i) k) v = refl
literal_by pairs (Ptr (Heap a) k) v = refl
literal_by pairs Null v = refl
literal_by pairs (Num z) v = refl
literal_by pairs Free v = refl
literal_by pairs (Held w) v = refl
literal_by pairs Undef v = refl

pub stores_by_number : StoresByNumber
stores_by_number t v pairs m p kept g =
    changes_by pairs m kept p t (λ _. unless_literal (rename_value (renamed pairs) p) (rename_value (renamed pairs) v)) (λ _. unless_literal p v) (λ _. literal_by pairs p v) g

-- what locks, unlocks and inits make of a value names nothing
locked_by : (pairs : Pairs) (thread : ℕ) (v : Value) → locked thread (rename_value (renamed pairs) v) ≡ answer_by (rename_value (renamed pairs)) (locked thread v)
locked_by pairs thread Free = refl
locked_by pairs thread (Held w) = by_holder (w == thread)
  where
    by_holder : (b : Bool) → cond b (Err trap.Mutex) (Ok (Held w)) ≡ answer_by (rename_value (renamed pairs)) (cond b (Err trap.Mutex) (Ok (Held w)))
    by_holder true = refl
    by_holder false = refl
locked_by pairs thread (Ptr n k) = refl
locked_by pairs thread Null = refl
locked_by pairs thread (Num z) = refl
locked_by pairs thread Undef = refl

unlocked_by : (pairs : Pairs) (thread : ℕ) (v : Value) → unlocked thread (rename_value (renamed pairs) v) ≡ answer_by (rename_value (renamed pairs)) (unlocked thread v)
unlocked_by pairs thread Free = refl
unlocked_by pairs thread (Held w) = by_holder (w == thread)
  where
    by_holder : (b : Bool) → cond b (Ok Free) (Err trap.Mutex) ≡ answer_by (rename_value (renamed pairs)) (cond b (Ok Free) (Err trap.Mutex))
    by_holder true = refl
    by_holder false = refl
unlocked_by pairs thread (Ptr n k) = refl
unlocked_by pairs thread Null = refl
unlocked_by pairs thread (Num z) = refl
unlocked_by pairs thread Undef = refl

initialised_by : (pairs : Pairs) (v : Value) → initialised (rename_value (renamed pairs) v) ≡ answer_by (rename_value (renamed pairs)) (initialised v)
initialised_by pairs (Held w) = refl
initialised_by pairs Free = refl
initialised_by pairs (Ptr n k) = refl
initialised_by pairs Null = refl
initialised_by pairs (Num z) = refl
initialised_by pairs Undef = refl

pub locks_by_number : LocksByNumber
locks_by_number thread pairs m p kept g =
    changes_by pairs m kept p ty.Mutex (locked thread) (locked thread) (locked_by pairs thread) g

pub unlocks_by_number : UnlocksByNumber
unlocks_by_number thread pairs m p kept g =
    changes_by pairs m kept p ty.Mutex (unlocked thread) (unlocked thread) (unlocked_by pairs thread) g

pub inits_by_number : InitsByNumber
inits_by_number pairs m p kept g =
    changes_by pairs m kept p ty.Mutex initialised initialised (initialised_by pairs) g

pub waits_by_number : WaitsByNumber
waits_by_number pairs m thread p kept g =
    ap (held_by_other thread) (value_at_by pairs m p ty.Mutex kept g) ∙ by_answer (value_at m p ty.Mutex)
  where
    by_value : (v : Value) → held_by_other thread (Ok (rename_value (renamed pairs) v)) ≡ held_by_other thread (Ok v)
    by_value Free = refl
    by_value (Held w) = refl
    by_value (Ptr n k) = refl
    by_value Null = refl
    by_value (Num z) = refl
    by_value Undef = refl

    by_answer : (r : Result Value Trap) → held_by_other thread (answer_by (rename_value (renamed pairs)) r) ≡ held_by_other thread r
    by_answer (Ok v) = by_value v
    by_answer (Err e) = refl

pub releases_by_number : ReleasesByNumber
releases_by_number pairs m (Ptr n k) kept g =
    let given = name_given pairs n k g in
    ap (λ (o : Option Object). released (by_number pairs m) (rename_name (renamed pairs) n) k (option_map (object_by_number pairs) o)) (object_there pairs m m.at n kept given) ∙ released_by pairs m kept n k (m.at n) given
releases_by_number pairs m Null kept g = refl
releases_by_number pairs m (Num z) kept g = refl
releases_by_number pairs m Free kept g = refl
releases_by_number pairs m (Held w) kept g = refl
releases_by_number pairs m Undef kept g = refl

-- the objects after an allocation
allocated : (pairs : Pairs) (m : Memory) (a : ℕ) (o : Object) → IsPairing pairs m → HoldsGiven pairs m → IsNew pairs a → object_by_number (pairs ++ (a, m.next) ∷ []) o ≡ o → (n : Name) → seen (pairs ++ (a, m.next) ∷ []) (put m.at (Heap a) (Some o)) n ≡ put (seen pairs m.at) (Heap m.next) (Some o) n
unfolding seen put
allocated pairs m a o kept holds new fixed (Glob i) =
    object_pushed pairs a m.next (m.at (Glob i)) new (λ x k c e. holds (Glob i) x k c e)
allocated pairs m a o kept holds new fixed (Lit v i) =
    object_pushed pairs a m.next (m.at (Lit v i)) new (λ x k c e. holds (Lit v i) x k c e)
allocated pairs m a o kept holds new fixed (Heap n) = by_address (address_paired pairs n) refl
  where
    more : Pairs
    more = pairs ++ (a, m.next) ∷ []

    found : Option ℕ → Option Object
    found x = option_map (object_by_number more) (option_and_then (λ c. cond (c == a) (Some o) (m.at (Heap c))) x)

    by_address : (x : Option ℕ) → address_paired pairs n ≡ x → found (address_paired more n) ≡ cond (n == m.next) (Some o) (option_map (object_by_number pairs) (option_and_then (λ c. m.at (Heap c)) x))
    by_address None e =
        ap found (address_pushed pairs a m.next n e) ∙ by_test (λ t. found (cond t (Some a) None) ≡ cond (n == m.next) (Some o) None) m.next n (λ same. by_test (λ t. found (Some a) ≡ cond t (Some o) None) n m.next (λ _. by_test (λ t. option_map (object_by_number more) (cond t (Some o) (m.at (Heap a))) ≡ Some o) a a (λ _. ap Some fixed) (λ ne. absurd (ne refl))) (λ ne. absurd (ne (sym same)))) (λ other. by_test (λ t. None ≡ cond t (Some o) None) n m.next (λ same. absurd (other (sym same))) (λ _. refl))
    by_address (Some b) e =
        let paired = address_is_paired pairs n b e in
        let below = kept.below b n paired in
        ap found (address_kept pairs a m.next n b e) ∙ by_test (λ t. option_map (object_by_number more) (cond t (Some o) (m.at (Heap b))) ≡ cond (n == m.next) (Some o) (option_map (object_by_number pairs) (m.at (Heap b)))) b a (λ same. absurd (new n (subst (λ (x : ℕ). Paired pairs x n) same paired))) (λ _. by_test (λ t. option_map (object_by_number more) (m.at (Heap b)) ≡ cond t (Some o) (option_map (object_by_number pairs) (m.at (Heap b)))) n m.next (λ same. absurd (omega (arith, below, same))) (λ _. object_pushed pairs a m.next (m.at (Heap b)) new (λ x k c there. holds (Heap b) x k c there)))

pub allocs_by_number : AllocsByNumber
unfolding seen
allocs_by_number pairs m a place count types zeros kept holds new =
    let o : Object = fresh_object m.next place types count zeros in
    let fixed = fresh_object_by (pairs ++ (a, m.next) ∷ []) m.next place count types zeros in
    ap (λ (at : Name → Option Object). record { at = at; next = m.next + 1; live = m.live + length o.cells }) (fun_ext (allocated pairs m a o kept holds new fixed))

pub carries_number : CarriesNumber
carries_number pairs m kept n o there = by_address (address_paired pairs n) refl there
  where
    number : (b : ℕ) (x : Option Object) → m.at (Heap b) ≡ x → Paired pairs b n → option_map (object_by_number pairs) x ≡ Some o → o.number ≡ n
    number b None e p h = let never : ⊥ = cc in absurd never
    number b (Some x) e p h =
        let same : object_by_number pairs x ≡ o = cc in
        sym (ap (λ (y : Object). y.number) same) ∙ kept.numbers b x.number n (kept.live b x e) p

    by_address : (x : Option ℕ) → address_paired pairs n ≡ x → option_map (object_by_number pairs) (option_and_then (λ c. m.at (Heap c)) x) ≡ Some o → o.number ≡ n
    by_address None e h = let never : ⊥ = cc in absurd never
    by_address (Some b) e h = number b (m.at (Heap b)) refl (address_is_paired pairs n b e) h

-- ---- looking, and one pair more

pub grows_by_number : GrowsByNumber
grows_by_number = value_pushed

pub looks_by_number : LooksByNumber
looks_by_number pairs m n kept g =
    ap (option_map (object_by_number pairs)) (object_there pairs m m.at n kept (name_given pairs n 0 g))
