-- The map from heap numbers to addresses after a change of the heap objects.
use Rattle.std.proofs.Common.{◌≡◌, ◌≢◌, ◌==◌, ℕ, cond, [], ◌∷◌, ◌++◌, Option, None, Some, refl, sym, ◌∙◌, ap, subst}
use Rattle.std.specs.Option.{option_map}
use Rattle.kt_mem.specs.Memory.{Object, Cell}
use Rattle.kt_heap.specs.declared.object.Obj.{Obj}
use Rattle.kt_heap.specs.Objects.{shown, obj_with}
use Rattle.kt_heap.specs.Keyed.{Keyed, obj_at, IsPut}
use Rattle.kt_heap.specs.Heap.{State, memory, Paired, number_at}
use Rattle.kt_heap.specs.Inside.{IsHeap, HasNumbers}
use Rattle.kt_heap.proofs.Places.{by_test}
use Rattle.kt_heap.proofs.Keeps.{put_here, put_there}

-- the heap number of an object
serial_of : Option Obj → Option ℕ
serial_of o = option_map (λ (x : Object). x.number) (option_map shown o)

some_nat : (a b : ℕ) → ◌≡◌ {A = Option ℕ} (Some a) (Some b) → a ≡ b
some_nat a b e = cc

-- a live object's number is that of its pair
pub number_paired : (s : State) (b n : ℕ) → IsHeap s → number_at (memory s) b ≡ Some n → Paired s.pairs b n
unfolding memory
number_paired s b n kept e = by_object (option_map shown (obj_at s.objects b)) refl e
  where
    by_object : (o : Option Object) → option_map shown (obj_at s.objects b) ≡ o → option_map (λ (x : Object). x.number) o ≡ Some n → Paired s.pairs b n
    by_object None is h = let never : ⊥ = cc in absurd never
    by_object (Some x) is h = subst (λ (k : ℕ). Paired s.pairs b k) (some_nat x.number n h) (kept.pairing.live b x is)

-- one object more
pub numbers_given : (s : State) (h : Keyed) (next used a : ℕ) (o : Obj) (find found : ℕ → Option ℕ) → IsHeap s → HasNumbers find s → IsPut s.objects h a (Some o) → obj_at s.objects a ≡ None → ((b : ℕ) → Paired s.pairs b o.serial → ⊥) → ((n : ℕ) → found n ≡ cond (o.serial == n) (Some a) (find n)) → HasNumbers found (record s { objects = h; next = next; used = used; pairs = s.pairs ++ (a, o.serial) ∷ [] })
unfolding memory serial_of
numbers_given s h next used a o find found kept numbers put unused unpaired put_in b n =
    (to, from)
  where
    at_new : serial_of (obj_at h a) ≡ Some o.serial
    at_new = ap serial_of (put_here s.objects h a (Some o) put)

    was_none : b ≡ a → serial_of (obj_at s.objects b) ≡ Some n → ⊥
    was_none e h = let none : serial_of (obj_at s.objects b) ≡ None = ap (λ (c : ℕ). serial_of (obj_at s.objects c)) e ∙ ap serial_of unused in cc

    to : found n ≡ Some b → serial_of (obj_at h b) ≡ Some n
    to e = by_test (λ t. found n ≡ cond t (Some a) (find n) → serial_of (obj_at h b) ≡ Some n) o.serial n same other (put_in n)
      where
        same : o.serial ≡ n → found n ≡ Some a → serial_of (obj_at h b) ≡ Some n
        same is f =
            let at : a ≡ b = some_nat a b (sym f ∙ e) in
            ap (λ (c : ℕ). serial_of (obj_at h c)) (sym at) ∙ at_new ∙ ap Some is

        other : o.serial ≢ n → found n ≡ find n → serial_of (obj_at h b) ≡ Some n
        other ne f =
            let live = (numbers b n).0 (sym f ∙ e) in
            ap serial_of (put_there s.objects h a (Some o) put b (λ is. was_none is live)) ∙ live

    from : serial_of (obj_at h b) ≡ Some n → found n ≡ Some b
    from e = by_test (λ _. found n ≡ Some b) b a same other
      where
        same : b ≡ a → found n ≡ Some b
        same is =
            let number : o.serial ≡ n = some_nat o.serial n (sym at_new ∙ ap (λ (c : ℕ). serial_of (obj_at h c)) (sym is) ∙ e) in
            put_in n ∙ by_test (λ t. cond t (Some a) (find n) ≡ Some b) o.serial n (λ _. ap Some (sym is)) (λ ne. absurd (ne number))

        other : b ≢ a → found n ≡ Some b
        other ne =
            let live : serial_of (obj_at s.objects b) ≡ Some n = ap serial_of (sym (put_there s.objects h a (Some o) put b ne)) ∙ e in
            put_in n ∙ by_test (λ t. cond t (Some a) (find n) ≡ Some b) o.serial n (λ is. absurd (unpaired b (subst (λ (k : ℕ). Paired s.pairs b k) (sym is) (number_paired s b n kept live)))) (λ _. (numbers b n).1 live)

-- one object less
pub numbers_freed : (s : State) (h : Keyed) (used a : ℕ) (o : Obj) (find found : ℕ → Option ℕ) → IsHeap s → HasNumbers find s → IsPut s.objects h a None → obj_at s.objects a ≡ Some o → ((n : ℕ) → found n ≡ cond (o.serial == n) None (find n)) → HasNumbers found (record s { objects = h; used = used })
unfolding memory serial_of
numbers_freed s h used a o find found kept numbers put was put_in b n = (to, from)
  where
    none_some : (x : Option ℕ) (k : ℕ) → x ≡ None → x ≡ Some k → ⊥
    none_some x k e f = cc

    there : serial_of (obj_at s.objects a) ≡ Some o.serial
    there = ap serial_of was

    to : found n ≡ Some b → serial_of (obj_at h b) ≡ Some n
    to e = by_test (λ t. found n ≡ cond t None (find n) → serial_of (obj_at h b) ≡ Some n) o.serial n (λ is f. absurd (none_some (found n) b f e)) other (put_in n)
      where
        other : o.serial ≢ n → found n ≡ find n → serial_of (obj_at h b) ≡ Some n
        other ne f =
            let live = (numbers b n).0 (sym f ∙ e) in
            let elsewhere : b ≢ a = λ is. ne (some_nat o.serial n (sym there ∙ ap (λ (c : ℕ). serial_of (obj_at s.objects c)) (sym is) ∙ live)) in
            ap serial_of (put_there s.objects h a None put b elsewhere) ∙ live

    from : serial_of (obj_at h b) ≡ Some n → found n ≡ Some b
    from e = by_test (λ _. found n ≡ Some b) b a (λ is. absurd (none_some (serial_of (obj_at h b)) n (ap (λ (c : ℕ). serial_of (obj_at h c)) is ∙ ap serial_of (put_here s.objects h a None put)) e)) other
      where
        other : b ≢ a → found n ≡ Some b
        other ne =
            let live : serial_of (obj_at s.objects b) ≡ Some n = ap serial_of (sym (put_there s.objects h a None put b ne)) ∙ e in
            let here = number_paired s a o.serial kept there in
            put_in n ∙ by_test (λ t. cond t None (find n) ≡ Some b) o.serial n (λ is. absurd (ne (kept.pairing.addresses b a n (number_paired s b n kept live) (subst (λ (k : ℕ). Paired s.pairs a k) is here)))) (λ _. (numbers b n).1 live)

-- another cell
pub numbers_stored : (s : State) (h : Keyed) (a k : ℕ) (c : Cell) (find : ℕ → Option ℕ) → HasNumbers find s → IsPut s.objects h a (option_map (obj_with k c) (obj_at s.objects a)) → HasNumbers find (record s { objects = h })
unfolding memory serial_of
numbers_stored s h a k c find numbers put b n =
    (λ e. same ∙ (numbers b n).0 e, λ e. (numbers b n).1 (sym same ∙ e))
  where
    with_cell : (o : Option Obj) → serial_of (option_map (obj_with k c) o) ≡ serial_of o
    with_cell None = refl
    with_cell (Some o) = refl

    same : serial_of (obj_at h b) ≡ serial_of (obj_at s.objects b)
    same =
        by_test (λ _. serial_of (obj_at h b) ≡ serial_of (obj_at s.objects b)) b a (λ is. ap (λ (d : ℕ). serial_of (obj_at h d)) is ∙ ap serial_of (put_here s.objects h a (option_map (obj_with k c) (obj_at s.objects a)) put) ∙ with_cell (obj_at s.objects a) ∙ ap (λ (d : ℕ). serial_of (obj_at s.objects d)) (sym is)) (λ ne. ap serial_of (put_there s.objects h a (option_map (obj_with k c) (obj_at s.objects a)) put b ne))

-- other entries in another order
pub numbers_same : (s : State) (find found : ℕ → Option ℕ) → HasNumbers find s → ((n : ℕ) → found n ≡ find n) → HasNumbers found s
numbers_same s find found numbers same a n =
    (λ e. (numbers a n).0 (sym (same n) ∙ e), λ e. same n ∙ (numbers a n).1 e)
