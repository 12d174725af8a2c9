-- Tables of names: each name that was put in is found, and none stands twice.
use Rattle.std.proofs.Common.{◌≡◌, ◌≢◌, ℕ, zero, suc, ◌<◌, ◌==◌, Bool, true, false, List, [], ◌∷◌, ◌++◌, length, slice_get, Option, Some, None, refl, sym, ap, ◌∙◌, subst, arith, true≢false, append_assoc, append-nil, inl, inr}
use Rattle.std.specs.Option.{is_some}
use Rattle.std.specs.List.{position_from, list_all}
use Rattle.std.specs.Str.{bytes_eq}
use Rattle.std.proofs.lemmas.Bool.{and_parts, and_from}
use Rattle.std.proofs.lemmas.Option.{none-some, same_Some, slice_get_within}
use Rattle.std.proofs.lemmas.Slice.Eq.{bytes_eq-Decides}
use Rattle.std.proofs.lemmas.Bool.Decides.{Decides-eqb}
use Rattle.kt_types.proofs.Keeps.{slice_get-push}
use Rattle.kt_tree.specs.Version.{AreDistinct}
use Rattle.kt_names.specs.Types.{has_by, with_name, with_names}
use Rattle.kt_names.specs.Builtins.{point_number}
use Rattle.kt_names.specs.Tables.{Written, Literal, Updates, Asks, literals_in, literal_places, literal_number, updates_in, asks_in}
use Rattle.kt_check.proofs.TypePlaces.{found-at, found-before, found-last, found-some, some-of}

-- ---- names

abbrev pub Found : List (List ℕ) → List ℕ → Type 0
Found names n = (k : ℕ) × (position_from (λ m. bytes_eq m n) 0 names ≡ Some k)

bytes-self : (n : List ℕ) → bytes_eq n n ≡ true
bytes-self n = (bytes_eq-Decides n n).1 refl

pub name-grows : (names : List (List ℕ)) (n : List ℕ) → (rest : List (List ℕ)) × (with_name names n ≡ names ++ rest)
name-grows names n = by (has_by (λ m. bytes_eq m n) names) refl
  where
    by : (b : Bool) → has_by (λ m. bytes_eq m n) names ≡ b → (rest : List (List ℕ)) × (with_name names n ≡ names ++ rest)
    by true e = ([], rw e (sym (append-nil names)))
    by false e = (n ∷ [], rw e refl)

pub names-grow : (names ns : List (List ℕ)) → (rest : List (List ℕ)) × (with_names names ns ≡ names ++ rest)
names-grow names [] = ([], sym (append-nil names))
names-grow names (n ∷ ns) =
    let (r, first) = name-grows names n in
    let (q, more) = names-grow (with_name names n) ns in
    (r ++ q, more ∙ ap (λ l. l ++ q) first ∙ append_assoc names r q)

found-grows : (names more rest : List (List ℕ)) (n : List ℕ) → more ≡ names ++ rest → Found names n → Found more n
found-grows names more rest n e (k, at) = (k, ap (position_from (λ m. bytes_eq m n) 0) e ∙ found-before (λ m. bytes_eq m n) 0 names rest k at)

name-found : (names : List (List ℕ)) (n : List ℕ) → Found (with_name names n) n
name-found names n = by (has_by (λ m. bytes_eq m n) names) refl
  where
    by : (b : Bool) → has_by (λ m. bytes_eq m n) names ≡ b → Found (with_name names n) n
    by true e = let (k, at) = some-of (position_from (λ m. bytes_eq m n) 0 names) e in (k, rw e at)
    by false e = let (k, at) = found-last (λ m. bytes_eq m n) 0 names n (bytes-self n) in (k, rw e at)

-- each name that is put in is found
pub names-found : (names ns : List (List ℕ)) (i : ℕ) (n : List ℕ) → slice_get ns i ≡ Some n → Found (with_names names ns) n
names-found names [] i n at = absurd (none-some n at)
names-found names (m ∷ ns) zero n at =
    let (rest, grows) = names-grow (with_name names m) ns in
    found-grows (with_name names m) (with_names (with_name names m) ns) rest n grows (subst (λ k. Found (with_name names m) k) (same_Some m n at) (name-found names m))
names-found names (m ∷ ns) (suc i) n at = names-found (with_name names m) ns i n at

-- below the number of names
pub found-below : (names : List (List ℕ)) (n : List ℕ) → Found names n → point_number names n < length names
found-below names n (k, at) =
    let (j, x, is, there, same) = found-at (λ m. bytes_eq m n) 0 names k at in
    let number : point_number names n ≡ k = ap (λ (o : Option ℕ). elim o as (λ _. ℕ) [ None ↦ 0 | (Some m) ↦ m ]) at in
    omega (arith, number, is, slice_get_within names j x there)

-- and at the same number where more stand behind
pub found-still : (names more : List (List ℕ)) (n : List ℕ) (rest : List (List ℕ)) → more ≡ names ++ rest → Found names n → point_number more n ≡ point_number names n
found-still names more n rest e (k, at) =
    let later : position_from (λ m. bytes_eq m n) 0 more ≡ Some k = ap (position_from (λ m. bytes_eq m n) 0) e ∙ found-before (λ m. bytes_eq m n) 0 names rest k at in
    ap (λ (o : Option ℕ). elim o as (λ _. ℕ) [ None ↦ 0 | (Some m) ↦ m ]) (later ∙ sym at)

-- ---- none stands twice

not-there : (names : List (List ℕ)) (n : List ℕ) → has_by (λ m. bytes_eq m n) names ≡ false → (i : ℕ) (a : List ℕ) → slice_get names i ≡ Some a → a ≢ n
not-there names n e i a at same =
    let (k, found) = found-some (λ m. bytes_eq m n) 0 names i a at ((bytes_eq-Decides a n).1 same) in
    true≢false (sym (ap is_some found) ∙ e)

pub distinct-push : (names : List (List ℕ)) (n : List ℕ) → AreDistinct names → ((i : ℕ) (a : List ℕ) → slice_get names i ≡ Some a → a ≢ n) → AreDistinct (names ++ n ∷ [])
distinct-push names n distinct other i j a b lt first second =
    elim (slice_get-push names n j b second) [
      | inl before ↦ elim (slice_get-push names n i a first) [
        | inl here ↦ distinct i j a b lt here before
        | inr last ↦ absurd (omega (arith, last.0, lt, slice_get_within names j b before))
      ]
      | inr end ↦ elim (slice_get-push names n i a first) [
        | inl here ↦ λ same. other i a here (same ∙ sym end.1)
        | inr last ↦ absurd (omega (arith, last.0, lt, end.0))
      ]
    ]

pub name-distinct : (names : List (List ℕ)) (n : List ℕ) → AreDistinct names → AreDistinct (with_name names n)
name-distinct names n distinct = by (has_by (λ m. bytes_eq m n) names) refl
  where
    by : (b : Bool) → has_by (λ m. bytes_eq m n) names ≡ b → AreDistinct (with_name names n)
    by true e = subst AreDistinct (chosen e) distinct
      where
        chosen : has_by (λ m. bytes_eq m n) names ≡ true → names ≡ with_name names n
        chosen h = rw h refl
    by false e = subst AreDistinct (chosen e) (distinct-push names n distinct (not-there names n e))
      where
        chosen : has_by (λ m. bytes_eq m n) names ≡ false → names ++ n ∷ [] ≡ with_name names n
        chosen h = rw h refl

pub names-distinct : (names ns : List (List ℕ)) → AreDistinct names → AreDistinct (with_names names ns)
names-distinct names [] distinct = distinct
names-distinct names (n ∷ ns) distinct = names-distinct (with_name names n) ns (name-distinct names n distinct)

pub none-distinct : AreDistinct []
none-distinct i j a b lt first second = absurd (none-some a first)

-- ---- what holds of all names that are put in holds of the table

module _ (test : List ℕ → Bool) where
  push-all : (names : List (List ℕ)) (n : List ℕ) → list_all test names ≡ true → test n ≡ true → list_all test (names ++ n ∷ []) ≡ true
  push-all [] n all one = rw one refl
  push-all (m ∷ names) n all one =
      let parts = and_parts (test m) (list_all test names) all in
      and_from (test m) _ parts.0 (push-all names n parts.1 one)

  name-all : (names : List (List ℕ)) (n : List ℕ) → list_all test names ≡ true → test n ≡ true → list_all test (with_name names n) ≡ true
  name-all names n all one = by (has_by (λ m. bytes_eq m n) names) refl
    where
      by : (b : Bool) → has_by (λ m. bytes_eq m n) names ≡ b → list_all test (with_name names n) ≡ true
      by true e = rw e all
      by false e = rw e (push-all names n all one)

  pub names-all : (names ns : List (List ℕ)) → list_all test names ≡ true → list_all test ns ≡ true → list_all test (with_names names ns) ≡ true
  names-all names [] all each = all
  names-all names (n ∷ ns) all each =
      let parts = and_parts (test n) (list_all test ns) each in
      names-all (with_name names n) ns (name-all names n all parts.0) parts.1

-- ---- what is written

pub literals-even : (ws : List Written) → length (literal_places ws) ≡ length (literals_in ws)
literals-even [] = refl
literals-even (Literal at bytes ∷ ws) = ap suc (literals-even ws)
literals-even (Updates bytes ∷ ws) = literals-even ws
literals-even (Asks bytes ∷ ws) = literals-even ws

literal-in : (ws : List Written) (i at : ℕ) (bytes : List ℕ) → slice_get ws i ≡ Some (Literal at bytes) → (k : ℕ) × (slice_get (literal_places ws) k ≡ Some at)
literal-in [] i at bytes e = absurd (none-some _ e)
literal-in (Literal p q ∷ ws) zero at bytes e = (0, ap Some (ap place (same_Some (Literal p q) (Literal at bytes) e)))
  where
    place : Written → ℕ
    place (Literal p q) = p
    place (Updates q) = 0
    place (Asks q) = 0
literal-in (Updates q ∷ ws) zero at bytes e = absurd (true≢false (sym (ap is_literal (same_Some (Updates q) (Literal at bytes) e))))
  where
    is_literal : Written → Bool
    is_literal (Literal p q) = true
    is_literal (Updates q) = false
    is_literal (Asks q) = false
literal-in (Asks q ∷ ws) zero at bytes e = absurd (true≢false (sym (ap is_literal (same_Some (Asks q) (Literal at bytes) e))))
  where
    is_literal : Written → Bool
    is_literal (Literal p q) = true
    is_literal (Updates q) = false
    is_literal (Asks q) = false
literal-in (Literal p q ∷ ws) (suc i) at bytes e = let (k, there) = literal-in ws i at bytes e in (suc k, there)
literal-in (Updates q ∷ ws) (suc i) at bytes e = literal-in ws i at bytes e
literal-in (Asks q ∷ ws) (suc i) at bytes e = literal-in ws i at bytes e

-- the number of a literal that is written
pub literal-below : (ws : List Written) (i at : ℕ) (bytes : List ℕ) → slice_get ws i ≡ Some (Literal at bytes) → literal_number (literal_places ws) at < length (literals_in ws)
literal-below ws i at bytes e =
    let (k, there) = literal-in ws i at bytes e in
    let (n, found) = found-some (λ p. p == at) 0 (literal_places ws) k at there ((Decides-eqb at at).1 refl) in
    let (j, x, is, here, same) = found-at (λ p. p == at) 0 (literal_places ws) n found in
    let number : literal_number (literal_places ws) at ≡ n = ap (λ (o : Option ℕ). elim o as (λ _. ℕ) [ None ↦ 0 | (Some m) ↦ m ]) found in
    omega (arith, number, is, slice_get_within (literal_places ws) j x here, literals-even ws)

-- (the name of an update point, and one that is asked about)
abbrev word : Written → List ℕ
word (Literal p q) = []
word (Updates q) = q
word (Asks q) = q

abbrev is_update : Written → Bool
is_update (Literal p q) = false
is_update (Updates q) = true
is_update (Asks q) = false

abbrev is_ask : Written → Bool
is_ask (Literal p q) = false
is_ask (Updates q) = false
is_ask (Asks q) = true

pub update-in : (ws : List Written) (i : ℕ) (n : List ℕ) → slice_get ws i ≡ Some (Updates n) → (k : ℕ) × (slice_get (updates_in ws) k ≡ Some n)
update-in [] i n e = absurd (none-some _ e)
update-in (Literal p q ∷ ws) zero n e = absurd (true≢false (sym (ap is_update (same_Some (Literal p q) (Updates n) e))))
update-in (Updates q ∷ ws) zero n e = (0, ap Some (ap word (same_Some (Updates q) (Updates n) e)))
update-in (Asks q ∷ ws) zero n e = absurd (true≢false (sym (ap is_update (same_Some (Asks q) (Updates n) e))))
update-in (Literal p q ∷ ws) (suc i) n e = update-in ws i n e
update-in (Updates q ∷ ws) (suc i) n e = let (k, there) = update-in ws i n e in (suc k, there)
update-in (Asks q ∷ ws) (suc i) n e = update-in ws i n e

pub ask-in : (ws : List Written) (i : ℕ) (n : List ℕ) → slice_get ws i ≡ Some (Asks n) → (k : ℕ) × (slice_get (asks_in ws) k ≡ Some n)
ask-in [] i n e = absurd (none-some _ e)
ask-in (Literal p q ∷ ws) zero n e = absurd (true≢false (sym (ap is_ask (same_Some (Literal p q) (Asks n) e))))
ask-in (Updates q ∷ ws) zero n e = absurd (true≢false (sym (ap is_ask (same_Some (Updates q) (Asks n) e))))
ask-in (Asks q ∷ ws) zero n e = (0, ap Some (ap word (same_Some (Asks q) (Asks n) e)))
ask-in (Literal p q ∷ ws) (suc i) n e = ask-in ws i n e
ask-in (Updates q ∷ ws) (suc i) n e = ask-in ws i n e
ask-in (Asks q ∷ ws) (suc i) n e = let (k, there) = ask-in ws i n e in (suc k, there)
