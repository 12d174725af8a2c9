-- Names that are kept.
use Rattle.std.proofs.Common.{if◌then◌else◌, ◌≡◌, ℕ, Bool, true, false, not, ◌||◌, List, [], ◌∷◌, ◌++◌, map, refl, sym, ap, ◌∙◌, true≢false}
use Rattle.std.specs.List.{list_any}
use Rattle.std.specs.Str.{bytes_eq}
use Rattle.std.specs.Global.{Vec}
use Rattle.std.proofs.lemmas.Slice.Eq.{bytes_eq-Decides}
use Rattle.indexmap.specs.IndexSet.{insert_key}
use Rattle.kt_program.specs.Scopes.{contains}

same : (a b : List ℕ) → bytes_eq a b ≡ true → a ≡ b
same a b e = (bytes_eq-Decides a b).0 e

flip : (a b : List ℕ) → bytes_eq a b ≡ bytes_eq b a
flip a b = by (bytes_eq a b) (bytes_eq b a) refl refl
  where
    by : (x y : Bool) → bytes_eq a b ≡ x → bytes_eq b a ≡ y → bytes_eq a b ≡ bytes_eq b a
    by true true p q = p ∙ sym q
    by false false p q = p ∙ sym q
    by true false p q = absurd (true≢false (sym ((bytes_eq-Decides b a).1 (sym (same a b p))) ∙ q))
    by false true p q = absurd (true≢false (sym ((bytes_eq-Decides a b).1 (sym (same b a q))) ∙ p))

abbrev pub names_in : List (Vec ℕ) → List (List ℕ)
names_in keys = map (λ (k : Vec ℕ). k.items) keys

pub has-name : (keys : List (Vec ℕ)) (n : List ℕ) → list_any (λ k. bytes_eq n k.items) keys ≡ contains (names_in keys) n
has-name [] n = refl
has-name (k ∷ keys) n = rw (flip n k.items, has-name keys n) refl

or-swap : (a b c : Bool) → (a || (b || c)) ≡ (b || (a || c))
or-swap true true c = refl
or-swap true false c = refl
or-swap false b c = refl

contains-push : (keys : List (Vec ℕ)) (k : Vec ℕ) (n : List ℕ) → contains (names_in (keys ++ k ∷ [])) n ≡ (bytes_eq k.items n || contains (names_in keys) n)
contains-push [] k n = refl
contains-push (x ∷ keys) k n = ap (λ b. bytes_eq x.items n || b) (contains-push keys k n) ∙ or-swap (bytes_eq x.items n) (bytes_eq k.items n) (contains (names_in keys) n)

contains-again : (ns : List (List ℕ)) (m n : List ℕ) → contains ns m ≡ true → contains ns n ≡ (bytes_eq m n || contains ns n)
contains-again ns m n e = by (bytes_eq m n) refl
  where
    by : (b : Bool) → bytes_eq m n ≡ b → contains ns n ≡ (b || contains ns n)
    by true t = ap (contains ns) (sym (same m n t)) ∙ e
    by false t = refl

abbrev eq : Vec ℕ → Vec ℕ → Bool
eq a b = bytes_eq a.items b.items

pub key-added : (keys after : List (Vec ℕ)) (k : Vec ℕ) (name : List ℕ) → k.items ≡ name → after ≡ insert_key eq keys k
    → (n : List ℕ) → contains (names_in after) n ≡ (bytes_eq name n || contains (names_in keys) n)
key-added keys after k name is grows n = by (list_any (eq k) keys) refl
  where
    by : (b : Bool) → list_any (eq k) keys ≡ b → contains (names_in after) n ≡ (bytes_eq name n || contains (names_in keys) n)
    by true t =
        ap (λ ks. contains (names_in ks) n) (grows ∙ ap (λ (c : Bool). if c then keys else keys ++ k ∷ []) t)
        ∙ contains-again (names_in keys) name n (sym (has-name keys name) ∙ ap (λ m. list_any (λ x. bytes_eq m x.items) keys) (sym is) ∙ t)
    by false t =
        ap (λ ks. contains (names_in ks) n) (grows ∙ ap (λ (c : Bool). if c then keys else keys ++ k ∷ []) t)
        ∙ contains-push keys k n ∙ ap (λ m. bytes_eq m n || contains (names_in keys) n) is

pub key-new : (keys : List (Vec ℕ)) (k : Vec ℕ) (name : List ℕ) → k.items ≡ name → not (list_any (eq k) keys) ≡ not (contains (names_in keys) name)
key-new keys k name is = ap not (ap (λ m. list_any (λ x. bytes_eq m x.items) keys) is ∙ has-name keys name)
