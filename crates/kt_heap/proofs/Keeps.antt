-- What a heap keeps after a change of its heap objects.
use Rattle.std.proofs.Common.{◌≡◌, ◌≢◌, ◌⊎◌, ℕ, ◌+◌, ◌<◌, ◌≤◌, cond, List, [], ◌∷◌, ◌++◌, length, Option, None, Some, IsSome, refl, sym, ◌∙◌, ap, subst, arith, inl, inr}
use Rattle.std.proofs.lemmas.List.{length_push}
use Rattle.std.proofs.lemmas.List.Elements.{Contains-append_left, Contains-push, Contains-push_cases}
use Rattle.std.specs.Option.{option_map}
use Rattle.kt_mem.specs.declared.memory.Name.TheVariants.{Heap}
use Rattle.kt_mem.specs.Memory.{Object, Cell}
use Rattle.kt_heap.specs.declared.object.Obj.{Obj}
use Rattle.kt_heap.specs.Objects.{shown, obj_with}
use Rattle.kt_heap.specs.Keys.{key_of, generation_of, place_at, AreAllUsed, IsKeyTaken}
use Rattle.kt_heap.specs.Keyed.{Keyed, obj_at, IsPut}
use Rattle.kt_heap.specs.Heap.{State, memory, given, Paired, IsNew}
use Rattle.kt_heap.specs.Inside.{IsFilled, HasDead, IsHeap}
use Rattle.kt_heap.proofs.Places.{by_test}
use Rattle.kt_heap.proofs.Pairs.{once_pushed}

-- the object at an address after a change there, and elsewhere
pub put_here : (old new : Keyed) (a : ℕ) (o : Option Obj) → IsPut old new a o → obj_at new a ≡ o
put_here old new a o put =
    put a ∙ by_test (λ t. cond t o (obj_at old a) ≡ o) a a (λ _. refl) (λ ne. absurd (ne refl))

pub put_there : (old new : Keyed) (a : ℕ) (o : Option Obj) → IsPut old new a o → (b : ℕ) → b ≢ a → obj_at new b ≡ obj_at old b
put_there old new a o put b ne =
    put b ∙ by_test (λ t. cond t o (obj_at old b) ≡ obj_at old b) b a (λ e. absurd (ne e)) (λ _. refl)

some_is : (x : Option Object) (o p : Object) → x ≡ Some o → x ≡ Some p → o ≡ p
some_is x o p a b = cc

none_some : (x : Option Object) (o : Object) → x ≡ None → x ≡ Some o → ⊥
none_some x o a b = cc

pair_is : (b n a k : ℕ) → ◌≡◌ {A = ℕ × ℕ} (a, k) (b, n) → (b ≡ a) × (n ≡ k)
pair_is b n a k e = (sym (ap (λ (p : ℕ × ℕ). p.0) e), sym (ap (λ (p : ℕ × ℕ). p.1) e))

-- a heap number, a count of live cells and the pairs, as the fields have them
pub next_in : (s t : State) (P : ℕ → Type 0) → s ≡ t → P (memory t).next → P s.next
unfolding memory
next_in s t P e h = subst (λ (x : State). P x.next) (sym e) h

pub live_in : (s t : State) (P : ℕ → Type 0) → s ≡ t → P (memory t).live → P s.used
unfolding memory
live_in s t P e h = subst (λ (x : State). P x.used) (sym e) h

pub pairs_in : (s t : State) (P : List (ℕ × ℕ) → Type 0) → s ≡ t → P (given t) → P s.pairs
unfolding given
pairs_in s t P e h = subst (λ (x : State). P x.pairs) (sym e) h

-- ---- one address more is given out

-- an address of the next generation was not given out
pub address_is_new : (s : State) (a : ℕ) → IsHeap s → generation_of a ≡ length s.pairs → IsNew s.pairs a
address_is_new s a kept generation n p = let earlier = kept.generations a n p in omega (arith, earlier, generation)

module _ (s : State) (h : Keyed) (next used a : ℕ) (o : Obj) (kept : IsHeap s) (put : IsPut s.objects h a (Some o)) (unused : obj_at s.objects a ≡ None) (generation : generation_of a ≡ length s.pairs) (free : place_at s.objects.keys (key_of a) ≡ None) (taken : IsKeyTaken s.objects.keys h.keys (key_of a)) (all_used : AreAllUsed s.objects.keys → AreAllUsed h.keys) (unpaired : (b : ℕ) → Paired s.pairs b o.serial → ⊥) (below : o.serial < next) (later : s.next ≤ next) (room : used ≤ 4194304) where
  after : State
  after = record s { objects = h; next = next; used = used; pairs = s.pairs ++ (a, o.serial) ∷ [] }

  cases : (b n : ℕ) → Paired (s.pairs ++ (a, o.serial) ∷ []) b n → Paired s.pairs b n ⊎ ((b ≡ a) × (n ≡ o.serial))
  cases b n p =
      elim (Contains-push_cases s.pairs (a, o.serial) (b, n) p) [ inl q ↦ inl q | inr e ↦ inr (pair_is b n a o.serial e) ]

  old : (b n : ℕ) → Paired s.pairs b n → Paired (s.pairs ++ (a, o.serial) ∷ []) b n
  old b n p = Contains-append_left s.pairs ((a, o.serial) ∷ []) (b, n) p

  not_new : (b n : ℕ) → Paired s.pairs b n → b ≡ a → ⊥
  not_new b n p e = address_is_new s a kept generation n (subst (λ (x : ℕ). Paired s.pairs x n) e p)

  no_number : (b n : ℕ) → Paired s.pairs b n → n ≡ o.serial → ⊥
  no_number b n p e = unpaired b (subst (λ (x : ℕ). Paired s.pairs b x) e p)

  one_number : (b n k : ℕ) → Paired (s.pairs ++ (a, o.serial) ∷ []) b n → Paired (s.pairs ++ (a, o.serial) ∷ []) b k → n ≡ k
  one_number b n k p q =
      elim (cases b n p) [
        | inl x ↦ elim (cases b k q) [ inl y ↦ kept.pairing.numbers b n k x y | inr y ↦ absurd (not_new b n x y.0) ]
        | inr x ↦ elim (cases b k q) [ inl y ↦ absurd (not_new b k y x.0) | inr y ↦ x.1 ∙ sym y.1 ]
      ]

  one_address : (b d n : ℕ) → Paired (s.pairs ++ (a, o.serial) ∷ []) b n → Paired (s.pairs ++ (a, o.serial) ∷ []) d n → b ≡ d
  one_address b d n p q =
      elim (cases b n p) [
        | inl x ↦ elim (cases d n q) [ inl y ↦ kept.pairing.addresses b d n x y | inr y ↦ absurd (no_number b n x y.1) ]
        | inr x ↦ elim (cases d n q) [ inl y ↦ absurd (no_number d n y x.1) | inr y ↦ x.0 ∙ sym y.0 ]
      ]

  numbers_below : (b n : ℕ) → Paired (s.pairs ++ (a, o.serial) ∷ []) b n → n < next
  unfolding memory
  numbers_below b n p =
      elim (cases b n p) [ inl x ↦ lower (kept.pairing.below b n x) | inr x ↦ omega (arith, x.1, below) ]
    where
      lower : n < (memory s).next → n < next
      lower h = omega (arith, h, later)

  live_paired : (b : ℕ) (x : Object) → (memory after).at (Heap b) ≡ Some x → Paired (s.pairs ++ (a, o.serial) ∷ []) b x.number
  unfolding memory after
  live_paired b x e =
      by_test (λ _. Paired (s.pairs ++ (a, o.serial) ∷ []) b x.number) b a (λ same. here same) (λ ne. old b x.number (kept.pairing.live b x (ap (option_map shown) (sym (put_there s.objects h a (Some o) put b ne)) ∙ e)))
    where
      here : b ≡ a → Paired (s.pairs ++ (a, o.serial) ∷ []) b x.number
      here same =
          let now : option_map shown (obj_at h b) ≡ Some (shown o) = ap (λ (c : ℕ). option_map shown (obj_at h c)) same ∙ ap (option_map shown) (put_here s.objects h a (Some o) put) in
          let is : shown o ≡ x = some_is (option_map shown (obj_at h b)) (shown o) x now e in
          subst (λ (c : ℕ). Paired (s.pairs ++ (a, o.serial) ∷ []) c x.number) (sym same) (subst (λ (y : Object). Paired (s.pairs ++ (a, o.serial) ∷ []) a y.number) is (Contains-push s.pairs (a, o.serial)))

  earlier_generations : (b n : ℕ) → Paired (s.pairs ++ (a, o.serial) ∷ []) b n → generation_of b < length (s.pairs ++ (a, o.serial) ∷ [])
  earlier_generations b n p =
      let long = length_push s.pairs (a, o.serial) in
      elim (cases b n p) [ inl x ↦ omega (arith, long, kept.generations b n x) | inr x ↦ omega (arith, long, generation, ap generation_of x.0) ]

  still_filled : IsFilled s ⊎ HasDead s → IsFilled after ⊎ HasDead after
  unfolding memory after
  still_filled (inl f) = by_key taken
    where
      full : key_of a < length s.objects.keys → ⊥
      full h = none_is_some (place_at s.objects.keys (key_of a)) free (f.1 (key_of a) h)
        where
          none_is_some : (x : Option ℕ) → x ≡ None → IsSome x → ⊥
          none_is_some None e i = cc
          none_is_some (Some y) e i = cc

      by_key : ((key_of a < length s.objects.keys) × (length h.keys ≡ length s.objects.keys)) ⊎ ((key_of a ≡ length s.objects.keys) × (length h.keys ≡ length s.objects.keys + 1) × AreAllUsed s.objects.keys) → IsFilled after ⊎ HasDead after
      by_key (inl t) = absurd (full t.0)
      by_key (inr t) = inl (omega (arith, t.1, f.0, length_push s.pairs (a, o.serial)), all_used t.2)
  still_filled (inr d) =
      inr (d.0, d.1, old d.0 d.1 d.2, ap (option_map shown) (put_there s.objects h a (Some o) put d.0 (λ e. not_new d.0 d.1 d.2 e)) ∙ d.3)

  pub keeps_given : IsHeap (record s { objects = h; next = next; used = used; pairs = s.pairs ++ (a, o.serial) ∷ [] })
  unfolding memory after
  keeps_given =
      record {
        pairing = record { numbers = one_number; addresses = one_address; below = numbers_below; live = live_paired };
        once = once_pushed s.pairs a o.serial kept.once (address_is_new s a kept generation) unpaired;
        generations = earlier_generations;
        filled = still_filled kept.filled;
        room = room;
      }

-- ---- one object less

pub keeps_freed : (s : State) (h : Keyed) (used a : ℕ) (o : Obj) → IsHeap s → IsPut s.objects h a None → obj_at s.objects a ≡ Some o → used ≤ 4194304 → IsHeap (record s { objects = h; used = used })
unfolding memory
keeps_freed s h used a o kept put was room =
    record {
      pairing = record { numbers = kept.pairing.numbers; addresses = kept.pairing.addresses; below = kept.pairing.below; live = live };
      once = kept.once;
      generations = kept.generations;
      filled = inr (a, o.serial, kept.pairing.live a (shown o) (ap (option_map shown) was), ap (option_map shown) (put_here s.objects h a None put));
      room = room;
    }
  where
    live : (b : ℕ) (x : Object) → option_map shown (obj_at h b) ≡ Some x → Paired s.pairs b x.number
    live b x e =
        by_test (λ _. Paired s.pairs b x.number) b a (λ same. absurd (none_some (option_map shown (obj_at h b)) x (ap (λ (c : ℕ). option_map shown (obj_at h c)) same ∙ ap (option_map shown) (put_here s.objects h a None put)) e)) (λ ne. kept.pairing.live b x (ap (option_map shown) (sym (put_there s.objects h a None put b ne)) ∙ e))

-- ---- another cell

pub keeps_stored : (s : State) (h : Keyed) (a k : ℕ) (c : Cell) → IsHeap s → IsPut s.objects h a (option_map (obj_with k c) (obj_at s.objects a)) → h.keys ≡ s.objects.keys → IsHeap (record s { objects = h })
unfolding memory
keeps_stored s h a k c kept put keys =
    record {
      pairing = record { numbers = kept.pairing.numbers; addresses = kept.pairing.addresses; below = kept.pairing.below; live = live };
      once = kept.once;
      generations = kept.generations;
      filled = still_filled kept.filled;
      room = kept.room;
    }
  where
    o : Option Obj
    o = option_map (obj_with k c) (obj_at s.objects a)

    with_cell : (b : ℕ) (q : Option Obj) → obj_at s.objects b ≡ q → (x : Object) → option_map shown (option_map (obj_with k c) q) ≡ Some x → Paired s.pairs b x.number
    with_cell b None e x h = let never : ⊥ = cc in absurd never
    with_cell b (Some y) e x h =
        let is : shown (obj_with k c y) ≡ x = cc in
        subst (λ (z : Object). Paired s.pairs b z.number) is (kept.pairing.live b (shown y) (ap (option_map shown) e))

    live : (b : ℕ) (x : Object) → option_map shown (obj_at h b) ≡ Some x → Paired s.pairs b x.number
    live b x e =
        by_test (λ _. Paired s.pairs b x.number) b a (λ same. with_cell b (obj_at s.objects b) refl x (ap (λ (d : ℕ). option_map shown (option_map (obj_with k c) (obj_at s.objects d))) same ∙ ap (option_map shown) (sym (put_here s.objects h a (option_map (obj_with k c) (obj_at s.objects a)) put)) ∙ ap (λ (d : ℕ). option_map shown (obj_at h d)) (sym same) ∙ e)) (λ ne. kept.pairing.live b x (ap (option_map shown) (sym (put_there s.objects h a (option_map (obj_with k c) (obj_at s.objects a)) put b ne)) ∙ e))

    dead : (b : ℕ) (q : Option Obj) → obj_at s.objects b ≡ q → option_map shown q ≡ None → option_map shown (option_map (obj_with k c) q) ≡ None
    dead b None e h = refl
    dead b (Some y) e h = let never : ⊥ = cc in absurd never

    still_filled : IsFilled s ⊎ HasDead s → IsFilled (record s { objects = h }) ⊎ HasDead (record s { objects = h })
    still_filled (inl f) = inl (subst (λ (ks : List (Option ℕ)). (length ks ≡ length s.pairs) × AreAllUsed ks) (sym keys) f)
    still_filled (inr d) =
        inr (d.0, d.1, d.2, by_test (λ _. option_map shown (obj_at h d.0) ≡ None) d.0 a (λ same. ap (λ (b : ℕ). option_map shown (obj_at h b)) same ∙ ap (option_map shown) (put_here s.objects h a (option_map (obj_with k c) (obj_at s.objects a)) put) ∙ dead a (obj_at s.objects a) refl (ap (λ (b : ℕ). option_map shown (obj_at s.objects b)) (sym same) ∙ d.3)) (λ ne. ap (option_map shown) (put_there s.objects h a (option_map (obj_with k c) (obj_at s.objects a)) put d.0 ne) ∙ d.3))

-- ---- globals and literals

pub keeps_globals : (s : State) (ys : List (Option Obj)) → IsHeap s → IsHeap (record s { globals = ys })
unfolding memory
keeps_globals s ys kept =
    record {
      pairing = record { numbers = kept.pairing.numbers; addresses = kept.pairing.addresses; below = kept.pairing.below; live = kept.pairing.live };
      once = kept.once;
      generations = kept.generations;
      filled = kept.filled;
      room = kept.room;
    }

pub keeps_literals : (s : State) (ys : List (List (Option Obj))) → IsHeap s → IsHeap (record s { literals = ys })
unfolding memory
keeps_literals s ys kept =
    record {
      pairing = record { numbers = kept.pairing.numbers; addresses = kept.pairing.addresses; below = kept.pairing.below; live = kept.pairing.live };
      once = kept.once;
      generations = kept.generations;
      filled = kept.filled;
      room = kept.room;
    }
