-- The chain of free keys after a key is used, is made and is freed.
use Rattle.std.proofs.Common.{◌≡◌, ◌≢◌, ◌<◌, ◌≤◌, ℕ, zero, suc, List, [], ◌∷◌, ◌++◌, map, length, cond, Option, None, Some, IsSome, refl, sym, ◌∙◌, ap, subst, arith, inl, inr}
use Rattle.std.specs.Prelude.{slice_get, slice_set}
use Rattle.std.specs.Option.{option_flatten, option_map}
use Rattle.std.proofs.lemmas.List.{length-map, length-set}
use Rattle.kt_heap.specs.declared.keys.Key.{Key}
use Rattle.kt_heap.specs.declared.keys.Key.TheVariants.{Used, Free}
use Rattle.kt_heap.specs.Keys.{place_at, IsKeyPut, AreAllUsed}
use Rattle.kt_heap.specs.Chain.{place_of, link_of, IsAway, IsIn, IsChain, IsChained}
use Rattle.kt_heap.proofs.Places.{by_test, slice_get-set_same, slice_get-set_other, slice_get-push_same, slice_get-push_other}

-- ---- what is read at a key

-- a key that reads something is one of the list
pub get_within : {X : Type 0} (xs : List X) (k : ℕ) (x : X) → slice_get xs k ≡ Some x → k < length xs
get_within [] k x h = let never : ⊥ = cc in absurd never
get_within (y ∷ ys) zero x h = omega arith
get_within (y ∷ ys) (suc k) x h = omega (arith, get_within ys k x h)

-- what a key below the length reads
pub get_there : {X : Type 0} (xs : List X) (k : ℕ) → k < length xs → (x : X) × (slice_get xs k ≡ Some x)
get_there [] k h = absurd (omega arith)
get_there (y ∷ ys) zero h = (y, refl)
get_there (y ∷ ys) (suc k) h = get_there ys k (omega arith)

get_map : (keys : List Key) (k : ℕ) (x : Key) → slice_get keys k ≡ Some x → slice_get (map place_of keys) k ≡ Some (place_of x)
get_map [] k x h = let never : ⊥ = cc in absurd never
get_map (y ∷ ys) zero x h = ap (λ (o : Option Key). option_map place_of o) h
get_map (y ∷ ys) (suc k) x h = get_map ys k x h

-- the place of what is kept at a key
pub place_there : (keys : List Key) (k : ℕ) (x : Key) → slice_get keys k ≡ Some x → place_at (map place_of keys) k ≡ place_of x
place_there keys k x h = ap option_flatten (get_map keys k x h)

pub place_past : (keys : List Key) (k : ℕ) → length keys ≤ k → place_at (map place_of keys) k ≡ None
place_past [] k h = refl
place_past (y ∷ ys) zero h = absurd (omega arith)
place_past (y ∷ ys) (suc k) h = place_past ys k (omega arith)

-- the places after a write and after a push
pub put_set : (keys : List Key) (key : ℕ) (x : Key) → key < length keys → IsKeyPut (map place_of keys) (map place_of (slice_set keys key x)) key (place_of x)
put_set keys key x h k =
    by_test (λ b. place_at (map place_of (slice_set keys key x)) k ≡ cond b (place_of x) (place_at (map place_of keys) k)) k key (λ e. rw e (place_there (slice_set keys key x) key x (slice_get-set_same keys key x h))) (λ ne. other (slice_get keys k) refl ne)
  where
    get_none : (xs : List Key) (k : ℕ) → slice_get xs k ≡ None → length xs ≤ k
    get_none [] k h = omega arith
    get_none (y ∷ ys) zero h = let never : ⊥ = cc in absurd never
    get_none (y ∷ ys) (suc k) h = omega (arith, get_none ys k h)

    other : (o : Option Key) → slice_get keys k ≡ o → k ≢ key → place_at (map place_of (slice_set keys key x)) k ≡ place_at (map place_of keys) k
    other None e ne =
        let past : length keys ≤ k = get_none keys k e in
        place_past (slice_set keys key x) k (omega (arith, length-set keys key x)) ∙ sym (place_past keys k past)
    other (Some y) e ne =
        place_there (slice_set keys key x) k y (slice_get-set_other keys key x k ne ∙ e) ∙ sym (place_there keys k y e)

pub put_push : (keys : List Key) (x : Key) → IsKeyPut (map place_of keys) (map place_of (keys ++ x ∷ [])) (length keys) (place_of x)
put_push keys x k =
    by_test (λ b. place_at (map place_of (keys ++ x ∷ [])) k ≡ cond b (place_of x) (place_at (map place_of keys) k)) k (length keys) (λ e. rw e (place_there (keys ++ x ∷ []) (length keys) x (slice_get-push_same keys x))) (λ ne. other (slice_get keys k) refl ne)
  where
    past : (ys : List Key) (k : ℕ) → slice_get ys k ≡ None → k ≢ length ys → slice_get (ys ++ x ∷ []) k ≡ None
    past ys k e ne = slice_get-push_other ys x k ne ∙ e

    none : (ys : List Key) (k : ℕ) → slice_get ys k ≡ None → place_at (map place_of ys) k ≡ None
    none [] k e = refl
    none (y ∷ ys) zero e = let never : ⊥ = cc in absurd never
    none (y ∷ ys) (suc k) e = none ys k e

    other : (o : Option Key) → slice_get keys k ≡ o → k ≢ length keys → place_at (map place_of (keys ++ x ∷ [])) k ≡ place_at (map place_of keys) k
    other None e ne = none (keys ++ x ∷ []) k (past keys k e ne) ∙ sym (none keys k e)
    other (Some y) e ne =
        place_there (keys ++ x ∷ []) k y (slice_get-push_other keys x k ne ∙ e) ∙ sym (place_there keys k y e)

-- ---- the chain

-- it names keys of the list alone, and says nothing of a key that is none of it
chain_set : (keys : List Key) (key : ℕ) (x : Key) (ks : List ℕ) (first : Option ℕ) → IsAway key ks → IsChain keys ks first → IsChain (slice_set keys key x) ks first
chain_set keys key x [] first away chain = chain
chain_set keys key x (k ∷ ks) first away chain =
    (chain.0, chain.1, chain.2, slice_get-set_other keys key x k (λ e. away.0 (sym e)) ∙ chain.3, chain_set keys key x ks chain.2 away.1 chain.4)

chain_push : (keys : List Key) (x : Key) (ks : List ℕ) (first : Option ℕ) → IsChain keys ks first → IsChain (keys ++ x ∷ []) ks first
chain_push keys x [] first chain = chain
chain_push keys x (k ∷ ks) first chain =
    let within = get_within keys k (Free chain.2) chain.3 in
    (chain.0, chain.1, chain.2, slice_get-push_other keys x k (λ e. omega arith) ∙ chain.3, chain_push keys x ks chain.2 chain.4)

-- a key with a place is none of the chain
used_is_away : (keys : List Key) (key place : ℕ) (ks : List ℕ) (first : Option ℕ) → slice_get keys key ≡ Some (Used place) → IsChain keys ks first → IsAway key ks
used_is_away keys key place [] first used chain = tt
used_is_away keys key place (k ∷ ks) first used chain =
    (λ e. differs (subst (λ (j : ℕ). slice_get keys j ≡ Some (Used place)) e used) chain.3, used_is_away keys key place ks chain.2 used chain.4)
  where
    differs : slice_get keys k ≡ Some (Used place) → slice_get keys k ≡ Some (Free chain.2) → ⊥
    differs h l = cc

-- the first key leaves the chain
pub chained_use : (keys : List Key) (key place : ℕ) → IsChained keys (Some key) → (next : Option ℕ) → next ≡ link_of (slice_get keys key) → IsChained (slice_set keys key (Used place)) next
chained_use keys key place c next is = by_free c.free c.chain c.all
  where
    some_is : (a b : ℕ) → ◌≡◌ {A = Option ℕ} (Some a) (Some b) → a ≡ b
    some_is a b e = cc

    in_rest : {k : ℕ} (ks : List ℕ) (j : ℕ) (n : Option ℕ) → key ≡ k → key < length keys → ((i : ℕ) (n : Option ℕ) → slice_get keys i ≡ Some (Free n) → IsIn i (k ∷ ks)) → slice_get (slice_set keys key (Used place)) j ≡ Some (Free n) → IsIn j ks
    in_rest {k} ks j n same within all h =
        let other : j ≢ key = λ e. used_not_free (slice_get-set_same keys key (Used place) within) (subst (λ (i : ℕ). slice_get (slice_set keys key (Used place)) i ≡ Some (Free n)) e h) in
        elim (all j n (sym (slice_get-set_other keys key (Used place) j other) ∙ h)) [ inl e ↦ absurd (other (e ∙ sym same)) | inr rest ↦ rest ]
      where
        used_not_free : slice_get (slice_set keys key (Used place)) key ≡ Some (Used place) → slice_get (slice_set keys key (Used place)) key ≡ Some (Free n) → ⊥
        used_not_free a b = cc

    by_free : (free : List ℕ) → IsChain keys free (Some key) → ((k : ℕ) (n : Option ℕ) → slice_get keys k ≡ Some (Free n) → IsIn k free) → IsChained (slice_set keys key (Used place)) next
    by_free [] chain all = let never : ⊥ = cc in absurd never
    by_free (k ∷ ks) chain all =
        let same : key ≡ k = some_is key k chain.0 in
        let away : IsAway key ks = subst (λ (j : ℕ). IsAway j ks) (sym same) chain.1 in
        let there : slice_get keys key ≡ Some (Free chain.2) = subst (λ (j : ℕ). slice_get keys j ≡ Some (Free chain.2)) (sym same) chain.3 in
        let links : next ≡ chain.2 = is ∙ ap link_of there in
        record {
          free = ks;
          chain = subst (λ (n : Option ℕ). IsChain (slice_set keys key (Used place)) ks n) (sym links) (chain_set keys key (Used place) ks chain.2 away chain.4);
          all = λ j n h. in_rest ks j n same (get_within keys key (Free chain.2) there) all h;
        }

-- a key more
pub chained_push : (keys : List Key) (first : Option ℕ) (place : ℕ) → IsChained keys first → IsChained (keys ++ Used place ∷ []) first
chained_push keys first place c =
    record {
      free = c.free;
      chain = chain_push keys (Used place) c.free first c.chain;
      all = λ k n h. c.all k n (below k n h);
    }
  where
    not_free : (n : Option ℕ) → slice_get (keys ++ Used place ∷ []) (length keys) ≡ Some (Used place) → slice_get (keys ++ Used place ∷ []) (length keys) ≡ Some (Free n) → ⊥
    not_free n a b = cc

    below : (k : ℕ) (n : Option ℕ) → slice_get (keys ++ Used place ∷ []) k ≡ Some (Free n) → slice_get keys k ≡ Some (Free n)
    below k n h =
        let other : k ≢ length keys = λ e. not_free n (slice_get-push_same keys (Used place)) (subst (λ (i : ℕ). slice_get (keys ++ Used place ∷ []) i ≡ Some (Free n)) e h) in
        sym (slice_get-push_other keys (Used place) k other) ∙ h

-- a key that had a place joins the chain at its head
pub chained_free : (keys : List Key) (first : Option ℕ) (key place : ℕ) → slice_get keys key ≡ Some (Used place) → IsChained keys first → IsChained (slice_set keys key (Free first)) (Some key)
chained_free keys first key place used c =
    let away = used_is_away keys key place c.free first used c.chain in
    let within = get_within keys key (Used place) used in
    record {
      free = key ∷ c.free;
      chain = (refl, away, first, slice_get-set_same keys key (Free first) within, chain_set keys key (Free first) c.free first away c.chain);
      all = λ k n h. by_test (λ b. IsIn k (key ∷ c.free)) k key (λ e. inl e) (λ ne. inr (c.all k n (sym (slice_get-set_other keys key (Free first) k ne) ∙ h)));
    }

-- where no key is first, all are used
pub all_used : (keys : List Key) → IsChained keys None → AreAllUsed (map place_of keys)
all_used keys c k within =
    let there = get_there keys k (omega (arith, length-map keys place_of)) in by_key there.0 there.1
  where
    no_free : (n : Option ℕ) → slice_get keys k ≡ Some (Free n) → ⊥
    no_free n h = by_free c.free c.chain (c.all k n h)
      where
        by_free : (free : List ℕ) → IsChain keys free None → IsIn k free → ⊥
        by_free [] chain is = is
        by_free (j ∷ js) chain is = let bad = chain.0 in cc

    by_key : (x : Key) → slice_get keys k ≡ Some x → IsSome (place_at (map place_of keys) k)
    by_key (Used place) h = rw (place_there keys k (Used place) h) refl
    by_key (Free n) h = absurd (no_free n h)

-- the first key is free
pub first_is_free : (keys : List Key) (key : ℕ) → IsChained keys (Some key) → (next : Option ℕ) × (slice_get keys key ≡ Some (Free next))
first_is_free keys key c = by_free c.free c.chain
  where
    some_is : (a b : ℕ) → ◌≡◌ {A = Option ℕ} (Some a) (Some b) → a ≡ b
    some_is a b e = cc

    by_free : (free : List ℕ) → IsChain keys free (Some key) → (next : Option ℕ) × (slice_get keys key ≡ Some (Free next))
    by_free [] chain = let never : ⊥ = cc in absurd never
    by_free (k ∷ ks) chain =
        (chain.2, subst (λ (j : ℕ). slice_get keys j ≡ Some (Free chain.2)) (sym (some_is key k chain.0)) chain.3)

-- a key with a place has it
pub used_there : (keys : List Key) (key : ℕ) → place_at (map place_of keys) key ≢ None → (place : ℕ) × (slice_get keys key ≡ Some (Used place))
used_there keys key some = by_get (slice_get keys key) refl
  where
    none : (ys : List Key) (k : ℕ) → slice_get ys k ≡ None → place_at (map place_of ys) k ≡ None
    none [] k e = refl
    none (y ∷ ys) zero e = let never : ⊥ = cc in absurd never
    none (y ∷ ys) (suc k) e = none ys k e

    by_get : (o : Option Key) → slice_get keys key ≡ o → (place : ℕ) × (slice_get keys key ≡ Some (Used place))
    by_get None e = absurd (some (none keys key e))
    by_get (Some (Used place)) e = (place, e)
    by_get (Some (Free n)) e = absurd (some (place_there keys key (Free n) e))
