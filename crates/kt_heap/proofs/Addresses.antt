-- What stands at each key, and the objects by address, after a change at one key.
use Rattle.std.proofs.Common.{◌≡◌, ◌≢◌, ℕ, ◌==◌, ◌+◌, ◌*◌, ◌/◌, ◌%◌, ◌<◌, Bool, true, false, cond, List, Option, None, Some, refl, sym, ◌∙◌, ap, subst, arith}
use Rattle.std.specs.Prelude.{slice_index_or}
use Rattle.std.proofs.lemmas.Nat.{div-add-mod', div-mul-add, mod-mul-add}
use Rattle.kt_heap.specs.declared.object.Obj.{Obj}
use Rattle.kt_heap.specs.declared.keyed.Entry.{Entry}
use Rattle.kt_heap.specs.Keys.{place_at, key_of, generation_of}
use Rattle.kt_heap.specs.Keyed.{Keyed, entry_in, entry_at, obj_of, obj_at, IsPut, IsKeyed}
use Rattle.kt_heap.proofs.Places.{by_test}

-- ---- addresses

pub key_of_address : (key generation : ℕ) → key < 4294967296 → key_of (key + 4294967296 * generation) ≡ key
key_of_address key generation h =
    ap (λ n. n % 4294967296) (turned key generation) ∙ mod-mul-add generation 4294967296 key h
  where
    turned : (k g : ℕ) → k + 4294967296 * g ≡ g * 4294967296 + k
    turned k g = omega arith

pub generation_of_address : (key generation : ℕ) → key < 4294967296 → generation_of (key + 4294967296 * generation) ≡ generation
generation_of_address key generation h =
    ap (λ n. n / 4294967296) (turned key generation) ∙ div-mul-add generation 4294967296 key h
  where
    turned : (k g : ℕ) → k + 4294967296 * g ≡ g * 4294967296 + k
    turned k g = omega arith

-- an address is its key and its generation
pub address_is : (a key generation : ℕ) → key_of a ≡ key → generation_of a ≡ generation → a ≡ key + 4294967296 * generation
address_is a key generation k g = omega (arith, div-add-mod' a 4294967296, k, g)

-- ---- one key changes

-- what stands at each key, where one key and one place change, and no other key has that place
module _ (h : Keyed) (slots : List (Option Entry)) (keys : List (Option ℕ)) (key place : ℕ) where
  -- the other keys keep their places, and the other places what stands there
  pub record KeepsOthers : Type 0 where
    pub keys_kept : (k : ℕ) → k ≢ key → place_at keys k ≡ place_at h.keys k
    pub slots_kept : (p : ℕ) → p ≢ place → slice_index_or slots p None ≡ slice_index_or h.slots p None
    pub alone : (k : ℕ) → k ≢ key → place_at h.keys k ≡ Some place → ⊥

  entry_other : KeepsOthers → (k : ℕ) → k ≢ key → entry_in slots (place_at keys k) ≡ entry_at h k
  entry_other o k ne = ap (entry_in slots) (o.keys_kept k ne) ∙ by_place (place_at h.keys k) refl
    where
      by_place : (p : Option ℕ) → place_at h.keys k ≡ p → entry_in slots p ≡ entry_in h.slots p
      by_place None e = refl
      by_place (Some p) e =
          o.slots_kept p (λ same. o.alone k ne (subst (λ (q : ℕ). place_at h.keys k ≡ Some q) same e))

  pub entry_changed : (x : Option Entry) → KeepsOthers → entry_in slots (place_at keys key) ≡ x → (k : ℕ) → entry_at (record { slots = slots; keys = keys }) k ≡ cond (k == key) x (entry_at h k)
  entry_changed x o here k =
      by_test (λ b. entry_in slots (place_at keys k) ≡ cond b x (entry_at h k)) k key (λ e. rw e here) (λ ne. entry_other o k ne)

  pub keyed_changed : KeepsOthers → IsKeyed h → ((p : ℕ) → place_at keys key ≡ Some p → (e : Entry) × (slice_index_or slots p None ≡ Some e) × (key_of e.address ≡ key)) → IsKeyed (record { slots = slots; keys = keys })
  keyed_changed o keyed here k p e =
      by_test (λ _. (x : Entry) × (slice_index_or slots p None ≡ Some x) × (key_of x.address ≡ k)) k key (λ same. rw same (here p (ap (place_at keys) (sym same) ∙ e))) other
    where
      other : k ≢ key → (x : Entry) × (slice_index_or slots p None ≡ Some x) × (key_of x.address ≡ k)
      other ne =
          let was : place_at h.keys k ≡ Some p = sym (o.keys_kept k ne) ∙ e in
          let there = keyed k p was in
          (there.0, o.slots_kept p (λ same. o.alone k ne (subst (λ (q : ℕ). place_at h.keys k ≡ Some q) same was)) ∙ there.1, there.2)

-- a place at which nothing stands is no key's
pub vacant_alone : (h : Keyed) (place k : ℕ) → IsKeyed h → slice_index_or h.slots place None ≡ None → place_at h.keys k ≡ Some place → ⊥
vacant_alone h place k keyed vacant e =
    let there = keyed k place e in none_some (slice_index_or h.slots place None) there.0 vacant there.1
  where
    none_some : (o : Option Entry) (x : Entry) → o ≡ None → o ≡ Some x → ⊥
    none_some o x a b = cc

-- a place is one key's
pub place_alone : (h : Keyed) (key place k : ℕ) → IsKeyed h → place_at h.keys key ≡ Some place → k ≢ key → place_at h.keys k ≡ Some place → ⊥
place_alone h key place k keyed here ne e =
    let there = keyed k place e in
    let own = keyed key place here in
    ne (sym there.2 ∙ ap (λ (x : Entry). key_of x.address) (one (slice_index_or h.slots place None) there.0 own.0 there.1 own.1) ∙ own.2)
  where
    one : (o : Option Entry) (x y : Entry) → o ≡ Some x → o ≡ Some y → x ≡ y
    one o x y a b = cc

-- ---- the objects by address

-- what stands at a key is the object of one address
pub obj_of_own : (b a : ℕ) (e : Entry) → e.address ≡ a → obj_of b (Some e) ≡ cond (b == a) (Some e.obj) None
obj_of_own b a e is =
    by_test (λ t. obj_of b (Some e) ≡ cond t (Some e.obj) None) b a (λ same. by_test (λ t. cond t (Some e.obj) None ≡ Some e.obj) e.address b (λ _. refl) (λ ne. absurd (ne (is ∙ sym same)))) (λ other. by_test (λ t. cond t (Some e.obj) None ≡ None) e.address b (λ same. absurd (other (sym same ∙ is))) (λ _. refl))

-- a change of what stands at one key is a change at one address
pub put_by_key : (h new : Keyed) (key a : ℕ) (x : Option Entry) (o : Option Obj) → ((k : ℕ) → entry_at new k ≡ cond (k == key) x (entry_at h k)) → key_of a ≡ key → ((b : ℕ) → obj_of b x ≡ cond (b == a) o (obj_of b (entry_at h key))) → IsPut h new a o
put_by_key h new key a x o changed own objects b =
    ap (obj_of b) (changed (key_of b)) ∙ by_test (λ t. obj_of b (cond t x (entry_at h (key_of b))) ≡ cond (b == a) o (obj_at h b)) (key_of b) key (λ same. objects b ∙ ap (λ (k : ℕ). cond (b == a) o (obj_of b (entry_at h k))) (sym same)) other
  where
    other : key_of b ≢ key → obj_at h b ≡ cond (b == a) o (obj_at h b)
    other ne =
        by_test (λ t. obj_at h b ≡ cond t o (obj_at h b)) b a (λ same. absurd (ne (ap key_of same ∙ own))) (λ _. refl)

-- an object more, another object, and one less
pub objects_more : (b : ℕ) (e : Entry) (was : Option Entry) → was ≡ None → obj_of b (Some e) ≡ cond (b == e.address) (Some e.obj) (obj_of b was)
objects_more b e was none = rw none (obj_of_own b e.address e refl)

pub objects_other : (b a : ℕ) (e x : Entry) (was : Option Entry) → was ≡ Some e → e.address ≡ a → x.address ≡ a → obj_of b (Some x) ≡ cond (b == a) (Some x.obj) (obj_of b was)
objects_other b a e x was some is own =
    obj_of_own b a x own ∙ twice (b == a) (Some x.obj) (Some e.obj) ∙ ap (cond (b == a) (Some x.obj)) (sym (ap (obj_of b) some ∙ obj_of_own b a e is))
  where
    twice : (t : Bool) (o p : Option Obj) → cond t o None ≡ cond t o (cond t p None)
    twice true o p = refl
    twice false o p = refl

pub objects_less : (b a : ℕ) (e : Entry) (was : Option Entry) → was ≡ Some e → e.address ≡ a → obj_of b None ≡ cond (b == a) None (obj_of b was)
objects_less b a e was some is =
    twice (b == a) (Some e.obj) ∙ ap (cond (b == a) None) (sym (ap (obj_of b) some ∙ obj_of_own b a e is))
  where
    twice : (t : Bool) (p : Option Obj) → None ≡ cond t None (cond t p None)
    twice true p = refl
    twice false p = refl
