-- Maps in which what came first under a key stays.
use Rattle.std.proofs.Common.{◌≡◌, ℕ, ◌+◌, ◌==◌, Bool, true, false, cond, if◌then◌else◌, List, [], ◌∷◌, ◌++◌, length, ◌≤◌, Option, None, Some, refl, sym, ap, subst, ◌∙◌, arith, true≢false}
use Rattle.std.specs.Option.{option_or}
use Rattle.std.specs.List.{position_from}
use Rattle.std.specs.Map.{lookup}
use Rattle.std.specs.Global.{Vec}
use Rattle.std.specs.Str.{bytes_eq}
use Rattle.std.proofs.lemmas.Bool.Decides.{Decides-eqb}
use Rattle.std.proofs.lemmas.Cmp.{nat_list_eq_equiv}
use Rattle.std.proofs.lemmas.Slice.Eq.{bytes_eq-Decides}
use Rattle.std.proofs.lemmas.List.{length-append}
use Rattle.kt_names.specs.Types.{has_by, with_name, with_names}
use Rattle.kt_names.specs.Tables.{Written, Literal, Updates, Asks, literals_in, literal_places, updates_in, asks_in}

or-none : {A : Type 0} (o : Option A) → o ≡ option_or o None
or-none None = refl
or-none (Some x) = refl

pub or-step : {A : Type 0} (o : Option A) (b : Bool) (x : A) (r : Option A) → option_or (option_or o (if b then Some x else None)) r ≡ option_or o (if b then Some x else r)
or-step (Some y) b x r = refl
or-step None true x r = refl
or-step None false x r = refl

lookup-push : {K V : Type 0} (test : K → Bool) (es : List (K × V)) (k : K) (v : V) → lookup test (es ++ (k, v) ∷ []) ≡ option_or (lookup test es) (if test k then Some v else None)
lookup-push test [] k v = refl
lookup-push test (e ∷ es) k v = by (test e.0) refl (lookup-push test es k v)
  where
    by : (b : Bool) → test e.0 ≡ b → lookup test (es ++ (k, v) ∷ []) ≡ option_or (lookup test es) (if test k then Some v else None) → lookup test ((e ∷ es) ++ (k, v) ∷ []) ≡ option_or (lookup test (e ∷ es)) (if test k then Some v else None)
    by true t h = rw t refl
    by false t h = rw t h

-- ---- numbers as keys

pub flip-eq : (a b : ℕ) → (a == b) ≡ (b == a)
flip-eq a b = two (a == b) (b == a) refl refl
  where
    two : (x y : Bool) → (a == b) ≡ x → (b == a) ≡ y → (a == b) ≡ (b == a)
    two true true i j = i ∙ sym j
    two false false i j = i ∙ sym j
    two true false i j = absurd (true≢false (sym ((Decides-eqb b a).1 (sym ((Decides-eqb a b).0 i))) ∙ j))
    two false true i j = absurd (true≢false (sym ((Decides-eqb a b).1 (sym ((Decides-eqb b a).0 j))) ∙ i))

pub noted-before : (es : List (ℕ × ℕ)) (at n v : ℕ) → Some v ≡ lookup (λ k. at == k) es
    → (q : ℕ) → lookup (λ k. q == k) es ≡ option_or (lookup (λ k. q == k) es) (if at == q then Some n else None)
noted-before es at n v h q = by (at == q) refl
  where
    by : (b : Bool) → (at == q) ≡ b → lookup (λ k. q == k) es ≡ option_or (lookup (λ k. q == k) es) (if at == q then Some n else None)
    by true i = subst (λ o. o ≡ option_or o (if at == q then Some n else None)) (subst (λ a. Some v ≡ lookup (λ k. a == k) es) ((Decides-eqb at q).0 i) h) refl
    by false i = rw i (or-none (lookup (λ k. q == k) es))

pub noted-now : (es : List (ℕ × ℕ)) (at n q : ℕ) → lookup (λ k. q == k) (es ++ (at, n) ∷ []) ≡ option_or (lookup (λ k. q == k) es) (if at == q then Some n else None)
noted-now es at n q = lookup-push (λ k. q == k) es at n ∙ ap (λ b. option_or (lookup (λ k. q == k) es) (if b then Some n else None)) (flip-eq q at)

-- ---- names as keys

module _ {V : Type 0} where
  pub put-before : (es : List (Vec ℕ × V)) (name : List ℕ) (v w : V) → Some w ≡ lookup (λ k. bytes_eq name k.items) es
      → (q : List ℕ) → lookup (λ k. bytes_eq q k.items) es ≡ option_or (lookup (λ k. bytes_eq q k.items) es) (if bytes_eq name q then Some v else None)
  put-before es name v w h q = by (bytes_eq name q) refl
    where
      by : (b : Bool) → bytes_eq name q ≡ b → lookup (λ k. bytes_eq q k.items) es ≡ option_or (lookup (λ k. bytes_eq q k.items) es) (if bytes_eq name q then Some v else None)
      by true i = subst (λ o. o ≡ option_or o (if bytes_eq name q then Some v else None)) (subst (λ a. Some w ≡ lookup (λ k. bytes_eq a k.items) es) ((bytes_eq-Decides name q).0 i) h) refl
      by false i = rw i (or-none (lookup (λ k. bytes_eq q k.items) es))

  pub put-now : (es : List (Vec ℕ × V)) (name : Vec ℕ) (v : V) (q : List ℕ)
      → lookup (λ k. bytes_eq q k.items) (es ++ (name, v) ∷ []) ≡ option_or (lookup (λ k. bytes_eq q k.items) es) (if bytes_eq name.items q then Some v else None)
  put-now es name v q =
      lookup-push (λ (k : Vec ℕ). bytes_eq q k.items) es name v
      ∙ ap (λ b. option_or (lookup (λ k. bytes_eq q k.items) es) (if b then Some v else None)) (nat_list_eq_equiv.symm q name.items)

-- ---- strings

pub literals-more : (w : Written) (ws : List Written) → literals_in (w ∷ ws) ≡ literals_in (w ∷ []) ++ literals_in ws
literals-more (Literal at bytes) ws = refl
literals-more (Updates bytes) ws = refl
literals-more (Asks bytes) ws = refl

pub updates-more : (w : Written) (ws : List Written) → updates_in (w ∷ ws) ≡ updates_in (w ∷ []) ++ updates_in ws
updates-more (Literal at bytes) ws = refl
updates-more (Updates bytes) ws = refl
updates-more (Asks bytes) ws = refl

pub asks-more : (w : Written) (ws : List Written) → asks_in (w ∷ ws) ≡ asks_in (w ∷ []) ++ asks_in ws
asks-more (Literal at bytes) ws = refl
asks-more (Updates bytes) ws = refl
asks-more (Asks bytes) ws = refl

with-name-grows : (names : List (List ℕ)) (n : List ℕ) (b : Bool) → length names ≤ length (if b then names else names ++ n ∷ [])
with-name-grows names n true = omega arith
with-name-grows names n false = omega (arith, length-append names (n ∷ []))

pub with-names-grows : (names more : List (List ℕ)) → length names ≤ length (with_names names more)
with-names-grows names [] = omega arith
with-names-grows names (n ∷ more) =
    let one = with-name-grows names n (has_by (λ m. bytes_eq m n) names) in
    let rest = with-names-grows (with_name names n) more in
    omega arith

pub ruleset strings = (literals-more, updates-more, asks-more)
