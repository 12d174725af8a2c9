-- What names mean in a map where one means something else.
use Rattle.std.proofs.Common.{if◌then◌else◌, zero, suc, ◌≡◌, ℕ, ◌<◌, Bool, true, false, List, [], ◌∷◌, length, get_or, Option, Some, refl, sym, ap, ◌∙◌, arith, true≢false}
use Rattle.std.specs.List.{position}
use Rattle.std.specs.Map.{lookup, keys_of}
use Rattle.std.specs.Str.{bytes_eq}
use Rattle.std.specs.Global.{Vec}
use Rattle.std.proofs.lemmas.Slice.Eq.{bytes_eq-Decides}
use Rattle.std.proofs.lemmas.Option.{none-some}
use Rattle.std.proofs.lemmas.List.Quantifiers.{position-Some}
use Rattle.indexmap.specs.IndexMap.{insert_entry, set_value_at}
use Rattle.kt_operands.specs.declared.meaning.Meaning.{Meaning}
use Rattle.kt_operands.specs.Views.{meaning_of, meant_by}
use Rattle.kt_statements.specs.Scopes.{meaning_in, with}

abbrev Names : Type 0
Names = List (Vec ℕ × Meaning)

abbrev found : Names → List ℕ → Option Meaning
found es name = lookup (λ k. bytes_eq name k.items) es

pub same : (a b : List ℕ) → bytes_eq a b ≡ true → a ≡ b
same a b e = (bytes_eq-Decides a b).0 e

pub itself : (a : List ℕ) → bytes_eq a a ≡ true
itself a = (bytes_eq-Decides a a).1 refl

differs : (a b : List ℕ) → (a ≡ b → ⊥) → bytes_eq a b ≡ false
differs a b apart = by (bytes_eq a b) refl
  where
    by : (x : Bool) → bytes_eq a b ≡ x → bytes_eq a b ≡ false
    by true e = absurd (apart (same a b e))
    by false e = e

meant-if : (b : Bool) (m : Meaning) (o : Option Meaning) → meant_by (if b then Some m else o) ≡ (if b then meaning_of m else meant_by o)
meant-if true m o = refl
meant-if false m o = refl

-- a write under the first key that is the name
module _ (name : List ℕ) (m : Meaning) (q : List ℕ) where
  abbrev is_name : Vec ℕ → Bool
  is_name k = bytes_eq name k.items

  abbrev written : Names → Option Meaning
  written es = if bytes_eq name q then Some m else found es q

  write-first : (x : Vec ℕ × Meaning) (es : Names) → is_name x.0 ≡ true → found ((x.0, m) ∷ es) q ≡ written (x ∷ es)
  write-first x es e = by (bytes_eq name q) refl
    where
      by : (b : Bool) → bytes_eq name q ≡ b → found ((x.0, m) ∷ es) q ≡ written (x ∷ es)
      by true t = rw (t, ap (λ n. bytes_eq n x.0.items) (sym (same name q t)) ∙ e) refl
      by false t = rw (t, not-same t) refl
        where
          not-same : bytes_eq name q ≡ false → bytes_eq q x.0.items ≡ false
          not-same t = differs q x.0.items (λ h. true≢false (sym ((bytes_eq-Decides name q).1 (same name x.0.items e ∙ sym h)) ∙ t))

  write-more : (x : Vec ℕ × Meaning) (es fs : Names) → is_name x.0 ≡ false → found fs q ≡ written es → found (x ∷ fs) q ≡ written (x ∷ es)
  write-more x es fs e h = by (bytes_eq q x.0.items) refl
    where
      by : (b : Bool) → bytes_eq q x.0.items ≡ b → found (x ∷ fs) q ≡ written (x ∷ es)
      by true t =
          let other : bytes_eq name q ≡ false = differs name q (λ i. true≢false (sym ((bytes_eq-Decides name x.0.items).1 (i ∙ same q x.0.items t)) ∙ e)) in
          rw (t, other) refl
      by false t = rw t h

  write-at : (es : Names) (i : ℕ) (d : Vec ℕ) → i < length (keys_of es) → is_name (get_or (keys_of es) i d) ≡ true → ((k : ℕ) → k < i → is_name (get_or (keys_of es) k d) ≡ false) → found (set_value_at es i m) q ≡ written es
  write-at [] i d within here before = absurd (omega arith)
  write-at (x ∷ es) zero d within here before = write-first x es here
  write-at (x ∷ es) (suc i) d within here before =
      write-more x es (set_value_at es i m) (before 0 (omega arith)) (write-at es i d (omega arith) here (λ k h. before (suc k) (omega arith)))

  write-found : (es : Names) (i : ℕ) → Some i ≡ position is_name (keys_of es) → found (set_value_at es i m) q ≡ written es
  write-found [] i e = absurd (none-some i (sym e))
  write-found (x ∷ es) i e =
      let (within, here, before) = position-Some is_name (keys_of (x ∷ es)) i x.0 (sym e) in
      write-at (x ∷ es) i x.0 within here before

pub written-is : (es fs : Names) (name : List ℕ) (i : ℕ) (m : Meaning) → Some i ≡ position (λ k. bytes_eq name k.items) (keys_of es) → fs ≡ set_value_at es i m
    → meaning_in fs ≡ with (meaning_in es) name (meaning_of m)
written-is es fs name i m e w =
    let is : (q : List ℕ) → meaning_in fs q ≡ with (meaning_in es) name (meaning_of m) q =
    λ q. ap (λ (xs : Names). meaning_in xs q) w ∙ ap meant_by (write-found name m q es i e) ∙ meant-if (bytes_eq name q) m (found es q) in
    λ j q. is q j

flip-if : (a b : Bool) (x y : Option Meaning) → a ≡ b → (if a then x else y) ≡ (if b then x else y)
flip-if a b x y e = ap (λ c. if c then x else y) e

-- a name that is added
module _ (name : List ℕ) (key : Vec ℕ) (m : Meaning) where
  abbrev inserted : Names → Names
  inserted es = insert_entry (λ a b. bytes_eq a.items b.items) es key m

  found-inserted : (q : List ℕ) (es : Names) → found (inserted es) q ≡ (if bytes_eq q key.items then Some m else found es q)
  found-inserted q [] = refl
  found-inserted q (e ∷ es) = by (bytes_eq key.items e.0.items) (bytes_eq q e.0.items) (bytes_eq q key.items) refl refl refl (found-inserted q es)
    where
      by : (a b c : Bool) → bytes_eq key.items e.0.items ≡ a → bytes_eq q e.0.items ≡ b → bytes_eq q key.items ≡ c → found (inserted es) q ≡ (if bytes_eq q key.items then Some m else found es q)
          → found (inserted (e ∷ es)) q ≡ (if bytes_eq q key.items then Some m else found (e ∷ es) q)
      by true true true i j k later = rw (i, k, j) refl
      by true true false i j k later = absurd (true≢false (sym j ∙ ap (bytes_eq q) (sym (same key.items e.0.items i)) ∙ k))
      by true false true i j k later = absurd (true≢false (sym k ∙ ap (bytes_eq q) (same key.items e.0.items i) ∙ j))
      by true false false i j k later = rw (i, k, j) refl
      by false true true i j k later = absurd (true≢false (sym ((bytes_eq-Decides key.items e.0.items).1 (sym (same q key.items k) ∙ same q e.0.items j)) ∙ i))
      by false true false i j k later = rw (i, k, j) refl
      by false false true i j k later = rw (i, j, later, k) refl
      by false false false i j k later = rw (i, j, later, k) refl

  turned : (q : List ℕ) → key.items ≡ name → bytes_eq q key.items ≡ bytes_eq name q
  turned q is = by (bytes_eq name q) refl
    where
      by : (b : Bool) → bytes_eq name q ≡ b → bytes_eq q key.items ≡ b
      by true t = ap (λ n. bytes_eq n key.items) (sym (same name q t) ∙ sym is) ∙ itself key.items
      by false t = differs q key.items (λ h. true≢false (sym (ap (bytes_eq name) (h ∙ is) ∙ itself name) ∙ t))

  pub added-is : (es fs : Names) → key.items ≡ name → fs ≡ inserted es → meaning_in fs ≡ with (meaning_in es) name (meaning_of m)
  added-is es fs is grows =
      let at : (q : List ℕ) → meaning_in fs q ≡ with (meaning_in es) name (meaning_of m) q =
      λ q. ap (λ (xs : Names). meaning_in xs q) grows ∙ ap meant_by (found-inserted q es) ∙ meant-if (bytes_eq q key.items) m (found es q)
      ∙ ap (λ (b : Bool). if b then meaning_of m else meaning_in es q) (turned q is) in
      λ j q. at q j
