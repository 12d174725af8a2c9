-- The objects by address after an object was put, was written or was taken away.
use Rattle.std.proofs.Common.{◌≡◌, ◌≢◌, ℕ, ◌+◌, ◌<◌, ◌⊎◌, inl, inr, cond, zero, suc, List, [], ◌∷◌, length, Option, None, Some, IsSome, refl, sym, ◌∙◌, ap, subst, arith}
use Rattle.std.specs.Prelude.{slice_index_or, slice_set}
use Rattle.std.specs.Option.{option_map}
use Rattle.kt_mem.specs.Memory.{Cell}
use Rattle.kt_heap.specs.declared.object.Obj.{Obj}
use Rattle.kt_heap.specs.declared.keyed.Entry.{Entry}
use Rattle.kt_heap.specs.Objects.{obj_with}
use Rattle.kt_heap.specs.Keys.{place_at, key_of, IsKeyPut, AreAllUsed, IsKeyTaken}
use Rattle.kt_heap.specs.Keyed.{Keyed, entry_in, entry_at, obj_of, obj_at, IsPut, IsKeyed}
use Rattle.kt_heap.proofs.Places.{by_test}
use Rattle.kt_heap.proofs.Addresses.{KeepsOthers, entry_changed, keyed_changed, vacant_alone, place_alone, put_by_key, objects_more, objects_other, objects_less}

-- a key's place after a change of that key, and of others
put_here : (old new : List (Option ℕ)) (key : ℕ) (p : Option ℕ) → IsKeyPut old new key p → place_at new key ≡ p
put_here old new key p put =
    put key ∙ by_test (λ t. cond t p (place_at old key) ≡ p) key key (λ _. refl) (λ ne. absurd (ne refl))

put_there : (old new : List (Option ℕ)) (key : ℕ) (p : Option ℕ) → IsKeyPut old new key p → (k : ℕ) → k ≢ key → place_at new k ≡ place_at old k
put_there old new key p put k ne =
    put k ∙ by_test (λ t. cond t p (place_at old k) ≡ place_at old k) k key (λ e. absurd (ne e)) (λ _. refl)

some_is : (a b : ℕ) → ◌≡◌ {A = Option ℕ} (Some a) (Some b) → a ≡ b
some_is a b e = cc

none_is_no : (p : ℕ) → ◌≡◌ {A = Option ℕ} None (Some p) → ⊥
none_is_no p e = cc

-- ---- an object more

module _ (h : Keyed) (slots : List (Option Entry)) (keys : List (Option ℕ)) (key place : ℕ) (e : Entry) (keyed : IsKeyed h) (free : place_at h.keys key ≡ None) (vacant : slice_index_or h.slots place None ≡ None) (there : slice_index_or slots place None ≡ Some e) (slots_kept : (p : ℕ) → p ≢ place → slice_index_or slots p None ≡ slice_index_or h.slots p None) (put : IsKeyPut h.keys keys key (Some place)) (own : key_of e.address ≡ key) where
  insert_keeps : KeepsOthers h slots keys key place
  insert_keeps =
      record {
        keys_kept = put_there h.keys keys key (Some place) put;
        slots_kept = slots_kept;
        alone = λ k ne. vacant_alone h place k keyed vacant;
      }

  insert_here : entry_in slots (place_at keys key) ≡ Some e
  insert_here = ap (entry_in slots) (put_here h.keys keys key (Some place) put) ∙ there

  pub inserted_put : IsPut h (record { slots = slots; keys = keys }) e.address (Some e.obj)
  inserted_put =
      put_by_key h (record { slots = slots; keys = keys }) key e.address (Some e) (Some e.obj) (entry_changed h slots keys key place (Some e) insert_keeps insert_here) own (λ b. objects_more b e (entry_at h key) (ap (entry_in h.slots) free))

  pub inserted_keyed : IsKeyed (record { slots = slots; keys = keys })
  inserted_keyed =
      keyed_changed h slots keys key place insert_keeps keyed (λ p at. (e, ap (λ q. slice_index_or slots q None) (sym (some_is place p (sym (put_here h.keys keys key (Some place) put) ∙ at))) ∙ there, own))

-- a key that is taken leaves none free where none was
pub stays_used : (old new : List (Option ℕ)) (key place : ℕ) → IsKeyPut old new key (Some place) → IsKeyTaken old new key → AreAllUsed old → AreAllUsed new
stays_used old new key place put taken used k within =
    by_test (λ _. IsSome (place_at new k)) k key (λ same. rw (same, put_here old new key (Some place) put) refl) (λ ne. rw (put_there old new key (Some place) put k ne) (used k (below taken ne)))
  where
    below : ((key < length old) × (length new ≡ length old)) ⊎ ((key ≡ length old) × (length new ≡ length old + 1) × AreAllUsed old) → k ≢ key → k < length old
    below (inl t) ne = omega (arith, t.1)
    below (inr t) ne = omega (arith, t.0, t.1)

-- nothing is at an address whose key is free
pub unused_at : (h : Keyed) (a : ℕ) → place_at h.keys (key_of a) ≡ None → obj_at h a ≡ None
unused_at h a free = ap (λ p. obj_of a (entry_in h.slots p)) free

-- ---- an object less

module _ (h : Keyed) (slots : List (Option Entry)) (keys : List (Option ℕ)) (a place : ℕ) (e : Entry) (keyed : IsKeyed h) (used : place_at h.keys (key_of a) ≡ Some place) (was : slice_index_or h.slots place None ≡ Some e) (own : e.address ≡ a) (slots_kept : (p : ℕ) → p ≢ place → slice_index_or slots p None ≡ slice_index_or h.slots p None) (put : IsKeyPut h.keys keys (key_of a) None) where
  take_keeps : KeepsOthers h slots keys (key_of a) place
  take_keeps =
      record {
        keys_kept = put_there h.keys keys (key_of a) None put;
        slots_kept = slots_kept;
        alone = λ k ne. place_alone h (key_of a) place k keyed used ne;
      }

  pub taken_put : IsPut h (record { slots = slots; keys = keys }) a None
  taken_put =
      put_by_key h (record { slots = slots; keys = keys }) (key_of a) a None None (entry_changed h slots keys (key_of a) place None take_keeps (ap (entry_in slots) (put_here h.keys keys (key_of a) None put))) refl (λ b. objects_less b a e (entry_at h (key_of a)) (ap (entry_in h.slots) used ∙ was) own)

  pub taken_keyed : IsKeyed (record { slots = slots; keys = keys })
  taken_keyed =
      keyed_changed h slots keys (key_of a) place take_keeps keyed (λ p at. absurd (none_is_no p (sym (put_here h.keys keys (key_of a) None put) ∙ at)))

-- ---- another object

module _ (h : Keyed) (slots : List (Option Entry)) (a place : ℕ) (e x : Entry) (keyed : IsKeyed h) (used : place_at h.keys (key_of a) ≡ Some place) (was : slice_index_or h.slots place None ≡ Some e) (own : e.address ≡ a) (same : x.address ≡ a) (there : slice_index_or slots place None ≡ Some x) (slots_kept : (p : ℕ) → p ≢ place → slice_index_or slots p None ≡ slice_index_or h.slots p None) where
  write_keeps : KeepsOthers h slots h.keys (key_of a) place
  write_keeps =
      record { keys_kept = λ k ne. refl; slots_kept = slots_kept; alone = λ k ne. place_alone h (key_of a) place k keyed used ne }

  pub written_put : IsPut h (record { slots = slots; keys = h.keys }) a (Some x.obj)
  written_put =
      put_by_key h (record { slots = slots; keys = h.keys }) (key_of a) a (Some x) (Some x.obj) (entry_changed h slots h.keys (key_of a) place (Some x) write_keeps (ap (entry_in slots) used ∙ there)) refl (λ b. objects_other b a e x (entry_at h (key_of a)) (ap (entry_in h.slots) used ∙ was) own same)

  pub written_keyed : IsKeyed (record { slots = slots; keys = h.keys })
  written_keyed =
      keyed_changed h slots h.keys (key_of a) place write_keeps keyed (λ p at. (x, ap (λ q. slice_index_or slots q None) (sym (some_is place p (sym used ∙ at))) ∙ there, ap key_of same))

-- what was taken away is the object there
pub obj_there : (h : Keyed) (a place : ℕ) (e : Entry) → place_at h.keys (key_of a) ≡ Some place → slice_index_or h.slots place None ≡ Some e → e.address ≡ a → obj_at h a ≡ Some e.obj
obj_there h a place e used was own =
    ap (obj_of a) (ap (entry_in h.slots) used ∙ was) ∙ by_test (λ t. cond t (Some e.obj) None ≡ Some e.obj) e.address a (λ _. refl) (λ ne. absurd (ne own))

-- ---- a write through a reference to a place

set_same : (xs : List (Option Entry)) (i : ℕ) (e x : Entry) → slice_index_or xs i None ≡ Some e → slice_index_or (slice_set xs i (Some x)) i None ≡ Some x
set_same [] i e x h = let never : ⊥ = cc in absurd never
set_same (y ∷ ys) zero e x h = refl
set_same (y ∷ ys) (suc i) e x h = set_same ys i e x h

set_other : (xs : List (Option Entry)) (i : ℕ) (o : Option Entry) (p : ℕ) → p ≢ i → slice_index_or (slice_set xs i o) p None ≡ slice_index_or xs p None
set_other [] i o p ne = refl
set_other (y ∷ ys) zero o zero ne = absurd (ne refl)
set_other (y ∷ ys) zero o (suc p) ne = refl
set_other (y ∷ ys) (suc i) o zero ne = refl
set_other (y ∷ ys) (suc i) o (suc p) ne = set_other ys i o p (λ e. ne (ap suc e))

set_back : (xs : List (Option Entry)) (i : ℕ) (e : Entry) → slice_index_or xs i None ≡ Some e → slice_set xs i (Some e) ≡ xs
set_back [] i e h = refl
set_back (y ∷ ys) zero e h = ap (λ z. z ∷ ys) (sym h)
set_back (y ∷ ys) (suc i) e h = ap (λ zs. y ∷ zs) (set_back ys i e h)

module _ (h : Keyed) (a place : ℕ) (e x : Entry) (keyed : IsKeyed h) (used : place_at h.keys (key_of a) ≡ Some place) (was : slice_index_or h.slots place None ≡ Some e) where
  -- what the address has is what stands there
  pub stands_at : obj_at h a ≡ obj_of a (Some e)
  stands_at = ap (obj_of a) (ap (entry_in h.slots) used ∙ was)

  pub stored_keyed : x.address ≡ e.address → IsKeyed (record { slots = slice_set h.slots place (Some x); keys = h.keys })
  stored_keyed same =
      keyed_changed h (slice_set h.slots place (Some x)) h.keys (key_of a) place (record { keys_kept = λ k ne. refl; slots_kept = λ p ne. set_other h.slots place (Some x) p ne; alone = λ k ne. place_alone h (key_of a) place k keyed used ne }) keyed (λ p at. (x, ap (λ q. slice_index_or (slice_set h.slots place (Some x)) q None) (sym (some_is place p (sym used ∙ at))) ∙ set_same h.slots place e x was, ap key_of same ∙ own))
    where
      one : (o : Option Entry) (y z : Entry) → o ≡ Some y → o ≡ Some z → y ≡ z
      one o y z f g = cc

      own : key_of e.address ≡ key_of a
      own =
          let there = keyed (key_of a) place used in
          ap (λ (y : Entry). key_of y.address) (one (slice_index_or h.slots place None) e there.0 was there.1) ∙ there.2

  pub stored_put : (k : ℕ) (c : Cell) → x ≡ record e { obj = obj_with k c e.obj } → e.address ≡ a → IsPut h (record { slots = slice_set h.slots place (Some x); keys = h.keys }) a (option_map (obj_with k c) (obj_at h a))
  stored_put k c is own =
      subst (λ (o : Option Obj). IsPut h (record { slots = slice_set h.slots place (Some x); keys = h.keys }) a o) same (written_put h (slice_set h.slots place (Some x)) a place e x keyed used was own (ap (λ (y : Entry). y.address) is ∙ own) (set_same h.slots place e x was) (λ p ne. set_other h.slots place (Some x) p ne))
    where
      same : Some x.obj ≡ option_map (obj_with k c) (obj_at h a)
      same =
          ap (λ (y : Entry). Some y.obj) is ∙ ap (option_map (obj_with k c)) (sym (obj_there h a place e used was own))

  pub stored_back : x ≡ e → ◌≡◌ {A = Keyed} (record { slots = slice_set h.slots place (Some x); keys = h.keys }) h
  stored_back is =
      ap (λ (y : Entry). record { slots = slice_set h.slots place (Some y); keys = h.keys }) is ∙ ap (λ (xs : List (Option Entry)). record { slots = xs; keys = h.keys }) (set_back h.slots place e was)

-- ---- what is taken away

-- the object at an address is that of what stands there
pub own_of : (a : ℕ) (e : Entry) (o : Obj) → obj_of a (Some e) ≡ Some o → e.address ≡ a
own_of a e o h =
    by_test (λ t. cond t (Some e.obj) None ≡ Some o → e.address ≡ a) e.address a (λ same _. same) (λ _ lost. let never : ⊥ = cc in absurd never) h

-- where nothing is at an address, it may be taken away
pub nothing_taken : (h : Keyed) (a : ℕ) → obj_at h a ≡ None → IsPut h h a None
nothing_taken h a none b =
    by_test (λ t. obj_at h b ≡ cond t None (obj_at h b)) b a (λ same. ap (obj_at h) same ∙ none) (λ _. refl)
