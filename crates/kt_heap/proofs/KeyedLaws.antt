-- What stands at a key, and the objects by address.
use Rattle.std.proofs.Common.{◌≡◌, ◌↔◌, ℕ, zero, suc, ◌<◌, cond, List, [], ◌∷◌, length, Option, None, Some, IsSome, refl, sym, ◌∙◌, ap, subst, arith}
use Rattle.std.specs.Option.{option_map}
use Rattle.kt_heap.specs.declared.keyed.Entry.{Entry}
use Rattle.kt_heap.specs.Objects.{shown}
use Rattle.kt_heap.specs.Keys.{place_at, key_of, AreAllUsed}
use Rattle.kt_heap.specs.Keyed.{Keyed, entry_in, entry_at, obj_of, obj_at, IsKeyed, IsObjectAt, HaveObjects}
use Rattle.kt_heap.proofs.Places.{by_test}
use Rattle.kt_heap.proofs.Inserts.{obj_there}

-- a key with a place was made
place_below : (keys : List (Option ℕ)) (k p : ℕ) → place_at keys k ≡ Some p → k < length keys
place_below [] k p h = let never : ⊥ = cc in absurd never
place_below (x ∷ xs) zero p h = omega arith
place_below (x ∷ xs) (suc k) p h = omega (arith, place_below xs k p h)

-- the place of an object's key
pub object_place : (h : Keyed) (a : ℕ) → IsSome (option_map shown (obj_at h a)) → (place : ℕ) × (place_at h.keys (key_of a) ≡ Some place)
object_place h a some = by_place (place_at h.keys (key_of a)) refl
  where
    by_place : (p : Option ℕ) → place_at h.keys (key_of a) ≡ p → (place : ℕ) × (place_at h.keys (key_of a) ≡ Some place)
    by_place None e =
        let lost : IsSome (option_map shown (obj_of a (entry_in h.slots None))) = subst (λ (q : Option ℕ). IsSome (option_map shown (obj_of a (entry_in h.slots q)))) e some in
        let never : ⊥ = cc in
        absurd never
    by_place (Some place) e = (place, e)

pub key_below : (h : Keyed) (a : ℕ) → IsSome (option_map shown (obj_at h a)) → key_of a < length h.keys
key_below h a some = let there = object_place h a some in place_below h.keys (key_of a) there.0 there.1

-- what stands at a place of a key is an object of that key
pub object_at_place : (h : Keyed) (key place : ℕ) → IsKeyed h → place_at h.keys key ≡ Some place → (e : Entry) × (entry_at h key ≡ Some e) × IsObjectAt h key e.address
object_at_place h key place keyed at =
    let there = keyed key place at in
    let e = there.0 in
    let own = ap (place_at h.keys) there.2 ∙ at in
    (e, ap (entry_in h.slots) at ∙ there.1, (rw (obj_there h e.address place e own there.1 refl) refl, there.2))

pub all_have_objects : (h : Keyed) → IsKeyed h → AreAllUsed h.keys → HaveObjects h
all_have_objects h keyed used key within = by_place (place_at h.keys key) refl (used key within)
  where
    by_place : (p : Option ℕ) → place_at h.keys key ≡ p → IsSome p → (a : ℕ) × IsObjectAt h key a
    by_place None e some = let never : ⊥ = cc in absurd never
    by_place (Some place) e some =
        let there = object_at_place h key place keyed e in (there.0.address, there.2)

some_is : (a b : ℕ) → ◌≡◌ {A = Option ℕ} (Some a) (Some b) → a ≡ b
some_is a b e = cc

-- the address of what stands at a key is that of the object there
pub at_key_exact : (h : Keyed) (key : ℕ) → IsKeyed h → (a : ℕ) → (option_map (λ (e : Entry). e.address) (entry_at h key) ≡ Some a) ↔ IsObjectAt h key a
at_key_exact h key keyed a = (to (place_at h.keys key) refl, from)
  where
    to : (p : Option ℕ) → place_at h.keys key ≡ p → option_map (λ (e : Entry). e.address) (entry_at h key) ≡ Some a → IsObjectAt h key a
    to None e h2 =
        let none : entry_at h key ≡ None = ap (entry_in h.slots) e in
        let lost : option_map (λ (x : Entry). x.address) None ≡ Some a = subst (λ (o : Option Entry). option_map (λ (x : Entry). x.address) o ≡ Some a) none h2 in
        let never : ⊥ = cc in
        absurd never
    to (Some place) e h2 =
        let there = object_at_place h key place keyed e in
        let same : there.0.address ≡ a = some_is there.0.address a (ap (option_map (λ (x : Entry). x.address)) (sym there.1) ∙ h2) in
        subst (IsObjectAt h key) same there.2

    by_entry : (o : Option Entry) → IsSome (option_map shown (obj_of a o)) → option_map (λ (e : Entry). e.address) o ≡ Some a
    by_entry None some = let never : ⊥ = cc in absurd never
    by_entry (Some e) some =
        by_test (λ t. IsSome (option_map shown (cond t (Some e.obj) None)) → Some e.address ≡ Some a) e.address a (λ same _. ap Some same) (λ _ lost. let never : ⊥ = cc in absurd never) some

    from : IsObjectAt h key a → option_map (λ (e : Entry). e.address) (entry_at h key) ≡ Some a
    from is =
        by_entry (entry_at h key) (subst (λ (k : ℕ). IsSome (option_map shown (obj_of a (entry_at h k)))) is.1 is.0)
