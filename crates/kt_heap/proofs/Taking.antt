-- The key and the address that an object more takes.
use Rattle.std.proofs.Common.{◌≡◌, ◌⊎◌, ℕ, length, Option, None, Some, IsSome, refl, sym, ◌∙◌, ap, subst, arith, inl, inr}
use Rattle.std.specs.Option.{option_map}
use Rattle.kt_mem.specs.declared.memory.Name.TheVariants.{Heap}
use Rattle.kt_mem.specs.Memory.{Object}
use Rattle.kt_heap.specs.Keys.{key_of, generation_of, place_at, AreAllUsed, IsKeyTaken}
use Rattle.kt_heap.specs.Keyed.{Keyed, HaveObjects}
use Rattle.kt_heap.specs.Heap.{State, memory, given, Paired, AreAllLive, TakesKey, place_address, number_at}
use Rattle.kt_heap.specs.Inside.{IsFilled, HasDead, IsHeap}
use Rattle.kt_heap.proofs.Addresses.{address_is}

pub takes_key : (s : State) (h : Keyed) (a : ℕ) → IsKeyTaken s.objects.keys h.keys (key_of a) → (AreAllUsed s.objects.keys → HaveObjects s.objects) → TakesKey (memory s) (length s.objects.keys) (length h.keys) a
unfolding memory
takes_key s h a (inl t) objects = inl t
takes_key s h a (inr t) objects = inr (t.0, t.1, objects t.2)

none_is_some : {X : Type 0} (x : Option X) → x ≡ None → IsSome x → ⊥
none_is_some None e i = cc
none_is_some (Some y) e i = cc

-- in a heap from which nothing was released the key is the next one
pub address_of_next : (s : State) (h : Keyed) (a : ℕ) → IsFilled s ⊎ HasDead s → generation_of a ≡ length s.pairs → place_at s.objects.keys (key_of a) ≡ None → IsKeyTaken s.objects.keys h.keys (key_of a) → AreAllLive s.pairs (memory s) → a ≡ place_address (length s.pairs)
unfolding place_address
address_of_next s h a (inr d) generation free taken live = absurd (none_is_some ((memory s).at (Heap d.0)) d.3 (live d.0 d.1 d.2))
address_of_next s h a (inl f) generation free (inl t) live = absurd (none_is_some (place_at s.objects.keys (key_of a)) free (f.1 (key_of a) t.0))
address_of_next s h a (inl f) generation free (inr t) live =
    omega (arith, address_is a (length s.pairs) (length s.pairs) (t.0 ∙ f.0) generation)

-- where all addresses that were given out live, a number that no live object has is none of a pair
pub place_unpaired : (s t : State) (n : ℕ) → s ≡ t → IsHeap s → ((a : ℕ) → number_at (memory t) a ≡ Some n → ⊥) → AreAllLive (given t) (memory t) → (a : ℕ) → Paired (given t) a n → ⊥
unfolding given
place_unpaired s t n e kept not_live live =
    unpaired t (subst IsHeap e kept) not_live live
  where
    unpaired : (t : State) → IsHeap t → ((a : ℕ) → number_at (memory t) a ≡ Some n → ⊥) → AreAllLive t.pairs (memory t) → (a : ℕ) → Paired t.pairs a n → ⊥
    unpaired t kept not_live live a p = by_object ((memory t).at (Heap a)) refl (live a n p)
      where
        by_object : (o : Option Object) → (memory t).at (Heap a) ≡ o → IsSome o → ⊥
        by_object None e some = none_is_some {X = Object} None refl some
        by_object (Some x) e some =
            let number : n ≡ x.number = kept.pairing.numbers a n x.number p (kept.pairing.live a x e) in
            not_live a (ap (option_map (λ (y : Object). y.number)) e ∙ ap Some (sym number))

-- the next heap number is none of a pair
pub next_unpaired : (s t : State) → s ≡ t → IsHeap s → (a : ℕ) → Paired (given t) a (memory t).next → ⊥
unfolding given
next_unpaired s t e kept a p =
    let still = subst IsHeap e kept in
    let below = still.pairing.below a (memory t).next p in
    omega arith
