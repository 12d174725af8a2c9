-- The places of types in the table that a file's text gives: what was put in has its place, and keeps it as the table grows.
use Rattle.std.proofs.Common.{◌≡◌, ℕ, zero, suc, ◌+◌, ◌==◌, ◌&&◌, Bool, true, false, List, [], ◌∷◌, ◌++◌, slice_get, Option, Some, None, refl, sym, ap, ◌∙◌, subst, arith, append_assoc, append-nil, true≢false}
use Rattle.std.specs.Option.{is_some}
use Rattle.std.specs.List.{position_from, AllByRecursion}
use Rattle.std.specs.Prelude.{flat_map}
use Rattle.std.proofs.lemmas.Option.{none-some, same_Some}
use Rattle.std.proofs.lemmas.Bool.Decides.{Decides-eqb}
use Rattle.kt_types.specs.declared.kinds.Ty.{Ty}
use Rattle.kt_types.specs.declared.kinds.Ty.TheVariants as ty
use Rattle.kt_names.specs.declared.ctype.Root.{Root}
use Rattle.kt_names.specs.Uses.{Use, Starred, Arrayed}
use Rattle.kt_names.specs.Types.{has_by, same_type, place_of_type, with_type, root_type, root_of, starred_place, with_starred, with_use, with_uses}
use Rattle.kt_terms.proofs.Agrees.{HasStars, HasUse}

-- ---- the first that passes a test

module _ {A : Type 0} (test : A → Bool) where
  -- where the first that passes stands
  pub found-at : (i : ℕ) (xs : List A) (n : ℕ) → position_from test i xs ≡ Some n → (k : ℕ) × (x : A) × (n ≡ i + k) × (slice_get xs k ≡ Some x) × (test x ≡ true)
  found-at i [] n e = absurd (none-some n e)
  found-at i (x ∷ xs) n e = by (test x) refl (found-at (i + 1) xs n)
    where
      by : (b : Bool) → test x ≡ b → (position_from test (i + 1) xs ≡ Some n → (k : ℕ) × (y : A) × (n ≡ i + 1 + k) × (slice_get xs k ≡ Some y) × (test y ≡ true))
          → (k : ℕ) × (y : A) × (n ≡ i + k) × (slice_get (x ∷ xs) k ≡ Some y) × (test y ≡ true)
      by true t later = (0, x, omega (arith, same_Some i n (rw t at e)), refl, t)
      by false t later = let (k, y, is, at, passes) = later (rw t at e) in (suc k, y, omega (arith, is), at, passes)

  -- it stays the first where more stand behind
  pub found-before : (i : ℕ) (xs ys : List A) (n : ℕ) → position_from test i xs ≡ Some n → position_from test i (xs ++ ys) ≡ Some n
  found-before i [] ys n e = absurd (none-some n e)
  found-before i (x ∷ xs) ys n e = by (test x) refl (found-before (i + 1) xs ys n)
    where
      by : (b : Bool) → test x ≡ b → (position_from test (i + 1) xs ≡ Some n → position_from test (i + 1) (xs ++ ys) ≡ Some n)
          → position_from test i (x ∷ (xs ++ ys)) ≡ Some n
      by true t later = rw t (rw t at e)
      by false t later = rw t (later (rw t at e))

  -- one that passes is found
  pub found-last : (i : ℕ) (xs : List A) (x : A) → test x ≡ true → (n : ℕ) × (position_from test i (xs ++ x ∷ []) ≡ Some n)
  found-last i [] x t = (i, rw t refl)
  found-last i (y ∷ xs) x t = by (test y) refl (found-last (i + 1) xs x t)
    where
      by : (b : Bool) → test y ≡ b → (n : ℕ) × (position_from test (i + 1) (xs ++ x ∷ []) ≡ Some n) → (n : ℕ) × (position_from test i (y ∷ (xs ++ x ∷ [])) ≡ Some n)
      by true u later = (i, rw u refl)
      by false u later = (later.0, rw u later.1)

  pub found-some : (i : ℕ) (xs : List A) (k : ℕ) (x : A) → slice_get xs k ≡ Some x → test x ≡ true → (n : ℕ) × (position_from test i xs ≡ Some n)
  found-some i [] k x at t = absurd (none-some x at)
  found-some i (y ∷ xs) zero x at t = (i, rw (ap test (same_Some y x at) ∙ t) refl)
  found-some i (y ∷ xs) (suc k) x at t = by (test y) refl (found-some (i + 1) xs k x at t)
    where
      by : (b : Bool) → test y ≡ b → (n : ℕ) × (position_from test (i + 1) xs ≡ Some n) → (n : ℕ) × (position_from test i (y ∷ xs) ≡ Some n)
      by true u later = (i, rw u refl)
      by false u later = (later.0, rw u later.1)

pub some-of : {A : Type 0} (o : Option A) → is_some o ≡ true → (x : A) × (o ≡ Some x)
some-of None e = absurd (true≢false (sym e))
some-of (Some x) e = (x, refl)

-- ---- types

pub same-type-is : (t u : Ty) → same_type t u ≡ true → t ≡ u
same-type-is ty.Char ty.Char e = refl
same-type-is ty.Int ty.Int e = refl
same-type-is ty.Long ty.Long e = refl
same-type-is ty.Mutex ty.Mutex e = refl
same-type-is (ty.Struct s) (ty.Struct r) e = ap ty.Struct ((Decides-eqb s r).0 e)
same-type-is (ty.Array f n) (ty.Array g m) e = pair (f == g) (n == m) refl refl e
  where
    pair : (a b : Bool) → (f == g) ≡ a → (n == m) ≡ b → (a && b) ≡ true → ty.Array f n ≡ ty.Array g m
    pair true true p q h = ap (λ k. ty.Array k n) ((Decides-eqb f g).0 p) ∙ ap (ty.Array g) ((Decides-eqb n m).0 q)
    pair true false p q h = absurd (true≢false (sym h))
    pair false b p q h = absurd (true≢false (sym h))
same-type-is (ty.Ptr f) (ty.Ptr g) e = ap ty.Ptr ((Decides-eqb f g).0 e)
same-type-is t u e = absurd (true≢false (sym e))

pub same-type-self : (t : Ty) → same_type t t ≡ true
same-type-self ty.Char = refl
same-type-self ty.Int = refl
same-type-self ty.Long = refl
same-type-self ty.Mutex = refl
same-type-self (ty.Struct s) = (Decides-eqb s s).1 refl
same-type-self (ty.Array f n) = rw ((Decides-eqb f f).1 refl, (Decides-eqb n n).1 refl) refl
same-type-self (ty.Ptr f) = (Decides-eqb f f).1 refl

-- the type stands at its place
abbrev pub IsIn : List Ty → Ty → Type 0
IsIn types t = slice_get types (place_of_type types t) ≡ Some t

-- the first list stands in front of the second
abbrev pub Extends : List Ty → List Ty → Type 0
Extends types more = (rest : List Ty) × (more ≡ types ++ rest)

pub extends-self : (types : List Ty) → Extends types types
extends-self types = ([], sym (append-nil types))

pub extends-on : (a b c : List Ty) → Extends a b → Extends b c → Extends a c
extends-on a b c (r, e) (s, f) = (r ++ s, f ∙ ap (λ l. l ++ s) e ∙ append_assoc a r s)

-- the place, as the search gives it
pub place-is : (types : List Ty) (t : Ty) (n : ℕ) → position_from (same_type t) 0 types ≡ Some n → place_of_type types t ≡ n
place-is types t n e = ap (λ (o : Option ℕ). elim o as (λ _. ℕ) [ None ↦ 0 | (Some k) ↦ k ]) e

pub is-in : (types : List Ty) (t : Ty) (n : ℕ) → position_from (same_type t) 0 types ≡ Some n → IsIn types t
is-in types t n e =
    let (k, u, is, at, same) = found-at (same_type t) 0 types n e in
    let place : place_of_type types t ≡ k = place-is types t n e ∙ (omega (arith, is)) in
    ap (slice_get types) place ∙ at ∙ ap Some (sym (same-type-is t u same))

-- a type that stands at its place is found
pub in-found : (types : List Ty) (t : Ty) → IsIn types t → (n : ℕ) × (position_from (same_type t) 0 types ≡ Some n) × (place_of_type types t ≡ n)
in-found types t is =
    let (n, e) = found-some (same_type t) 0 types (place_of_type types t) t is (same-type-self t) in
    (n, e, place-is types t n e)

-- it keeps its place
pub in-place : (types more : List Ty) (t : Ty) → Extends types more → IsIn types t → place_of_type more t ≡ place_of_type types t
in-place types more t (rest, is) h =
    let (n, e, place) = in-found types t h in
    let later : position_from (same_type t) 0 more ≡ Some n = ap (position_from (same_type t) 0) is ∙ found-before (same_type t) 0 types rest n e in
    place-is more t n later ∙ sym place

pub in-more : (types more : List Ty) (t : Ty) → Extends types more → IsIn types t → IsIn more t
in-more types more t (rest, is) h =
    let (n, e, place) = in-found types t h in
    is-in more t n (ap (position_from (same_type t) 0) is ∙ found-before (same_type t) 0 types rest n e)

-- a type that is put in
pub with-type-extends : (types : List Ty) (t : Ty) → Extends types (with_type types t)
with-type-extends types t = by (has_by (same_type t) types) refl
  where
    by : (b : Bool) → has_by (same_type t) types ≡ b → Extends types (with_type types t)
    by true e = ([], rw e (sym (append-nil types)))
    by false e = (t ∷ [], rw e refl)

pub with-type-in : (types : List Ty) (t : Ty) → IsIn (with_type types t) t
with-type-in types t = by (has_by (same_type t) types) refl
  where
    by : (b : Bool) → has_by (same_type t) types ≡ b → IsIn (with_type types t) t
    by true e = let (n, at) = some-of (position_from (same_type t) 0 types) e in rw e (is-in types t n at)
    by false e = let (n, at) = found-last (same_type t) 0 types t (same-type-self t) in rw e (is-in (types ++ t ∷ []) t n at)

-- ---- types of expressions

pub stars-place : (types more : List Ty) (r : Root) (n : ℕ) → Extends types more → HasStars types r n → starred_place more r n ≡ starred_place types r n
stars-place types more r zero ext h = in-place types more (root_type r) ext h
stars-place types more r (suc n) ext h =
    ap (λ e. place_of_type more (ty.Ptr e)) (stars-place types more r n ext h.1) ∙ in-place types more (ty.Ptr (starred_place types r n)) ext h.0

pub stars-more : (types more : List Ty) (r : Root) (n : ℕ) → Extends types more → HasStars types r n → HasStars more r n
stars-more types more r zero ext h = in-more types more (root_type r) ext h
stars-more types more r (suc n) ext h =
    let below = stars-place types more r n ext h.1 in (
      subst (λ e. slice_get more (place_of_type more (ty.Ptr e)) ≡ Some (ty.Ptr e)) (sym below) (in-more types more (ty.Ptr (starred_place types r n)) ext h.0),
      stars-more types more r n ext h.1,
    )

pub starred-extends : (types : List Ty) (r : Root) (n : ℕ) → Extends types (with_starred types r n)
starred-extends types r zero = with-type-extends types (root_type r)
starred-extends types r (suc n) = extends-on _ _ _ (starred-extends types r n) (with-type-extends (with_starred types r n) (ty.Ptr (starred_place (with_starred types r n) r n)))

pub starred-has : (types : List Ty) (r : Root) (n : ℕ) → HasStars (with_starred types r n) r n
starred-has types r zero = with-type-in types (root_type r)
starred-has types r (suc n) =
    let before = with_starred types r n in
    let more = with_type before (ty.Ptr (starred_place before r n)) in
    let ext = with-type-extends before (ty.Ptr (starred_place before r n)) in
    let has = starred-has types r n in
    let below = stars-place before more r n ext has in (
      subst (λ e. slice_get more (place_of_type more (ty.Ptr e)) ≡ Some (ty.Ptr e)) (sym below) (with-type-in before (ty.Ptr (starred_place before r n))),
      stars-more before more r n ext has,
    )

-- ---- uses

module _ (names : List (List ℕ)) where
  pub use-extends : (types : List Ty) (u : Use) → Extends types (with_use names types u)
  use-extends types (Starred b n) = starred-extends types (root_of names b) n
  use-extends types (Arrayed b n count) = with-type-extends types (ty.Array (starred_place types (root_of names b) n) count)

  pub uses-extend : (types : List Ty) (us : List Use) → Extends types (with_uses names types us)
  uses-extend types [] = extends-self types
  uses-extend types (u ∷ us) = extends-on _ _ _ (use-extends types u) (uses-extend (with_use names types u) us)

  pub uses-both : (types : List Ty) (us vs : List Use) → with_uses names types (us ++ vs) ≡ with_uses names (with_uses names types us) vs
  uses-both types [] vs = refl
  uses-both types (u ∷ us) vs = uses-both (with_use names types u) us vs

  -- each use has its type
  pub use-has : (types : List Ty) (u : Use) → HasUse names (with_use names types u) u
  use-has types (Starred b n) = starred-has types (root_of names b) n
  use-has types (Arrayed b n count) = tt

  pub use-more : (types more : List Ty) (u : Use) → Extends types more → HasUse names types u → HasUse names more u
  use-more types more (Starred b n) ext h = stars-more types more (root_of names b) n ext h
  use-more types more (Arrayed b n count) ext h = tt

  pub uses-have : (types : List Ty) (us : List Use) → AllByRecursion (HasUse names (with_uses names types us)) us
  uses-have types [] = tt
  uses-have types (u ∷ us) = (use-more (with_use names types u) _ u (uses-extend (with_use names types u) us) (use-has types u), uses-have (with_use names types u) us)

  -- what these uses give, whatever types were there before
  abbrev pub Gives : (List Ty → Type 0) → List Use → Type 0
  Gives P us = (types : List Ty) → P (with_uses names types us)

  -- what stays so as the table grows
  abbrev pub Stays : (List Ty → Type 0) → Type 0
  Stays P = (types more : List Ty) → Extends types more → P types → P more

  pub gives-front : (P : List Ty → Type 0) → Stays P → (us vs : List Use) → Gives P us → Gives P (us ++ vs)
  gives-front P stays us vs g types = rw (uses-both types us vs) (stays _ _ (uses-extend (with_uses names types us) vs) (g types))

  pub gives-back : (P : List Ty → Type 0) → (us vs : List Use) → Gives P vs → Gives P (us ++ vs)
  gives-back P us vs g types = rw (uses-both types us vs) (g (with_uses names types us))

  pub all-stays : {A : Type 0} (P : A → List Ty → Type 0) → ((x : A) → Stays (P x)) → (xs : List A) → Stays (λ types. AllByRecursion (λ x. P x types) xs)
  all-stays P stays [] types more ext h = tt
  all-stays P stays (x ∷ xs) types more ext h = (stays x types more ext h.0, all-stays P stays xs types more ext h.1)

  pub gives-all : {A : Type 0} (P : A → List Ty → Type 0) → ((x : A) → Stays (P x)) → (uses : A → List Use) → ((x : A) → Gives (P x) (uses x)) → (xs : List A)
      → Gives (λ types. AllByRecursion (λ x. P x types) xs) (flat_map uses xs)
  gives-all P stays uses each [] types = tt
  gives-all P stays uses each (x ∷ xs) types = (
    gives-front (P x) (stays x) (uses x) (flat_map uses xs) (each x) types,
    gives-back (λ t. AllByRecursion (λ y. P y t) xs) (uses x) (flat_map uses xs) (gives-all P stays uses each xs) types,
  )

  -- an array of a type that has its place
  pub array-more : (types more : List Ty) (r : Root) (n count : ℕ) → Extends types more → HasStars types r n → IsIn types (ty.Array (starred_place types r n) count) → IsIn more (ty.Array (starred_place more r n) count)
  array-more types more r n count ext has is =
      let place = stars-place types more r n ext has in
      subst (λ e. IsIn more (ty.Array e count)) (sym place) (in-more types more (ty.Array (starred_place types r n) count) ext is)
