-- Sets of names and types against the lists that they stand for.
use Rattle.std.proofs.Common.{◌≡◌, ℕ, zero, suc, ◌+◌, ◌==◌, ◌&&◌, not, Bool, true, false, cond, if◌then◌else◌, List, [], ◌∷◌, ◌++◌, map, length, Option, None, Some, refl, sym, ap, subst, ◌∙◌, arith, true≢false}
use Rattle.std.proofs.lemmas.Bool.{false≢true}
use Rattle.std.specs.Option.{is_some}
use Rattle.std.specs.List.{position, position_from, position_or_len, list_any, list_all, prefix_len}
use Rattle.std.specs.Global.{Vec}
use Rattle.std.specs.Str.{bytes_eq}
use Rattle.std.proofs.lemmas.Bool.Decides.{nat_tests, Decides-eqb}
use Rattle.std.proofs.lemmas.Cmp.{nat_list_eq_equiv}
use Rattle.std.proofs.lemmas.List.{map_push, length-map}
use Rattle.std.proofs.lemmas.List.Folds.{list_all-append}
use Rattle.std.proofs.lemmas.Iterator.Adapters.{position_from-zero}
use Rattle.indexmap.specs.IndexSet.{insert_key}
use Rattle.kt_types.specs.declared.kinds.Ty.{Ty}
use Rattle.kt_types.specs.declared.kinds.Ty.TheVariants as ty
use Rattle.kt_types.specs.contracts.kinds.TyPartialEq.TheImpl.{eq-value}
use Rattle.kt_names.specs.declared.ctype.Root.{Root}
use Rattle.kt_names.specs.Types.{place_by, has_by, with_name, with_names, number_of_struct, same_type, place_of_type, with_type, root_type, starred_place, with_starred}
use Rattle.kt_names.proofs.Lookups.{same-type}

-- ---- what passes a test, in a list

module _ {A : Type 0} (test : A → Bool) where
  pub has-any : (n : ℕ) (xs : List A) → is_some (position_from test n xs) ≡ list_any test xs
  has-any n [] = refl
  has-any n (x ∷ xs) = by (test x) refl (has-any (n + 1) xs)
    where
      by : (b : Bool) → test x ≡ b → is_some (position_from test (n + 1) xs) ≡ list_any test xs → is_some (position_from test n (x ∷ xs)) ≡ list_any test (x ∷ xs)
      by true t h = rw t refl
      by false t h = rw t h

  -- what is there has its place
  place-there : (n : ℕ) (xs : List A) → is_some (position_from test n xs) ≡ true → position_from test n xs ≡ Some (n + position_or_len test xs)
  place-there n [] h = absurd cc
  place-there n (x ∷ xs) h = by (test x) refl (place-there (n + 1) xs)
    where
      by : (b : Bool) → test x ≡ b → (is_some (position_from test (n + 1) xs) ≡ true → position_from test (n + 1) xs ≡ Some (n + 1 + position_or_len test xs)) → position_from test n (x ∷ xs) ≡ Some (n + position_or_len test (x ∷ xs))
      by true t later = let e : n ≡ n + 0 = omega arith in rw t (ap Some e)
      by false t later = let e : n + 1 + position_or_len test xs ≡ n + (1 + position_or_len test xs) = omega arith in rw t (later (rw t at h) ∙ ap Some e)

  -- what goes last, because it is not there
  place-new : (n : ℕ) (xs : List A) (y : A) → test y ≡ true → is_some (position_from test n xs) ≡ false → position_from test n (xs ++ y ∷ []) ≡ Some (n + position_or_len test xs)
  place-new n [] y passes h = let e : n ≡ n + 0 = omega arith in rw passes (ap Some e)
  place-new n (x ∷ xs) y passes h = by (test x) refl (place-new (n + 1) xs y passes)
    where
      by : (b : Bool) → test x ≡ b → (is_some (position_from test (n + 1) xs) ≡ false → position_from test (n + 1) (xs ++ y ∷ []) ≡ Some (n + 1 + position_or_len test xs)) → position_from test n ((x ∷ xs) ++ y ∷ []) ≡ Some (n + position_or_len test (x ∷ xs))
      by true t later = absurd (true≢false (rw t at h))
      by false t later = let e : n + 1 + position_or_len test xs ≡ n + (1 + position_or_len test xs) = omega arith in rw t (later (rw t at h) ∙ ap Some e)

  -- what was found stays where it is
  found-stays : (n : ℕ) (xs ys : List A) → is_some (position_from test n xs) ≡ true → position_from test n (xs ++ ys) ≡ position_from test n xs
  found-stays n [] ys h = absurd cc
  found-stays n (x ∷ xs) ys h = by (test x) refl (found-stays (n + 1) xs ys)
    where
      by : (b : Bool) → test x ≡ b → (is_some (position_from test (n + 1) xs) ≡ true → position_from test (n + 1) (xs ++ ys) ≡ position_from test (n + 1) xs) → position_from test n ((x ∷ xs) ++ ys) ≡ position_from test n (x ∷ xs)
      by true t later = rw t refl
      by false t later = rw t (later (rw t at h))

-- ---- names

abbrev pub names_of : List (Vec ℕ) → List (List ℕ)
names_of ks = map (λ n. n.items) ks

bytes-flip : (a b : List ℕ) → bytes_eq a b ≡ bytes_eq b a
bytes-flip a b = nat_list_eq_equiv.symm a b

list_any-map : (p : List ℕ → Bool) (ks : List (Vec ℕ)) → list_any (λ k. p k.items) ks ≡ list_any p (names_of ks)
list_any-map p [] = refl
list_any-map p (k ∷ ks) = rw (list_any-map p ks) refl

has-name : (ks : List (Vec ℕ)) (n : List ℕ) → has_by (λ m. bytes_eq m n) (names_of ks) ≡ list_any (λ k. bytes_eq n k.items) ks
has-name ks n =
    has-any (λ m. bytes_eq m n) 0 (names_of ks)
    ∙ ap (λ (p : List ℕ → Bool). list_any p (names_of ks)) (λ i m. bytes-flip m n i)
    ∙ sym (list_any-map (bytes_eq n) ks)

pushed : (ks : List (Vec ℕ)) (v : Vec ℕ) (b : Bool) → names_of (if b then ks else ks ++ v ∷ []) ≡ (if b then names_of ks else names_of ks ++ v.items ∷ [])
pushed ks v true = refl
pushed ks v false = map_push (λ (k : Vec ℕ). k.items) ks v

pub inserted-name : (ks : List (Vec ℕ)) (v : Vec ℕ) → names_of (insert_key (λ a b. bytes_eq a.items b.items) ks v) ≡ with_name (names_of ks) v.items
inserted-name ks v =
    pushed ks v (list_any (λ k. bytes_eq v.items k.items) ks)
    ∙ ap (λ b. if b then names_of ks else names_of ks ++ v.items ∷ []) (sym (has-name ks v.items))

prefix_len-map : (q : List ℕ → Bool) (ks : List (Vec ℕ)) → prefix_len (λ k. q k.items) ks ≡ prefix_len q (names_of ks)
prefix_len-map q [] = refl
prefix_len-map q (k ∷ ks) = rw (prefix_len-map q ks) refl

name-place : (ks : List (Vec ℕ)) (n : List ℕ) → position (λ k. bytes_eq n k.items) ks ≡ position_from (λ m. bytes_eq m n) 0 (names_of ks)
name-place ks n =
    (let a = prefix_len-map (λ m. not (bytes_eq n m)) ks in let b = length-map ks (λ (k : Vec ℕ). k.items) in rw (a, sym b) refl)
    ∙ position_from-zero (bytes_eq n) (names_of ks)
    ∙ ap (λ (p : List ℕ → Bool). position_from p 0 (names_of ks)) (λ i m. bytes-flip n m i)

pub struct-found : (ks : List (Vec ℕ)) (n : List ℕ) (i : ℕ) → Some i ≡ position (λ k. bytes_eq n k.items) ks → i ≡ number_of_struct (names_of ks) n
struct-found ks n i e = ap (λ (o : Option ℕ). elim o as (λ _. ℕ) [ None ↦ 0 | (Some n) ↦ n ]) (e ∙ name-place ks n)

pub struct-missing : (ks : List (Vec ℕ)) (n : List ℕ) → None ≡ position (λ k. bytes_eq n k.items) ks → 0 ≡ number_of_struct (names_of ks) n
struct-missing ks n e = ap (λ (o : Option ℕ). elim o as (λ _. ℕ) [ None ↦ 0 | (Some n) ↦ n ]) (e ∙ name-place ks n)

-- names that pass a test, with more that do
pub all-push : {A : Type 0} (p : A → Bool) (xs : List A) (x : A) → list_all p xs ≡ true → p x ≡ true → list_all p (xs ++ x ∷ []) ≡ true
all-push p xs x h k = list_all-append p xs (x ∷ []) ∙ rw (h, k) refl

all-with-name : (p : List ℕ → Bool) (names : List (List ℕ)) (n : List ℕ) (b : Bool) → list_all p names ≡ true → p n ≡ true → list_all p (if b then names else names ++ n ∷ []) ≡ true
all-with-name p names n true h k = h
all-with-name p names n false h k = all-push p names n h k

pub all-with-names : (p : List ℕ → Bool) (names more : List (List ℕ)) → list_all p names ≡ true → list_all p more ≡ true → list_all p (with_names names more) ≡ true
all-with-names p names [] h k = h
all-with-names p names (n ∷ more) h k = by (p n) refl (all-with-names p (with_name names n) more)
  where
    by : (b : Bool) → p n ≡ b → (list_all p (with_name names n) ≡ true → list_all p more ≡ true → list_all p (with_names (with_name names n) more) ≡ true) → list_all p (with_names names (n ∷ more)) ≡ true
    by true t later = later (all-with-name p names n _ h t) (rw t at k)
    by false t later = absurd (false≢true (rw t at k))

-- ---- types

same-itself : (t : Ty) → same_type t t ≡ true
same-itself ty.Char = refl
same-itself ty.Int = refl
same-itself ty.Long = refl
same-itself ty.Mutex = refl
same-itself (ty.Struct s) = (Decides-eqb s s).1 refl
same-itself (ty.Array e n) = let a : (e == e) ≡ true = (Decides-eqb e e).1 refl in let b : (n == n) ≡ true = (Decides-eqb n n).1 refl in rw (a, b) refl
same-itself (ty.Ptr e) = (Decides-eqb e e).1 refl

has-type : (types : List Ty) (t : Ty) → has_by (same_type t) types ≡ list_any (eq-value.it t) types
has-type types t = has-any (same_type t) 0 types ∙ ap (λ (p : Ty → Bool). list_any p types) (λ i u. sym (same-type t u) i)

pub inserted-type : (types : List Ty) (t : Ty) → insert_key eq-value.it types t ≡ with_type types t
inserted-type types t = ap (λ b. if b then types else types ++ t ∷ []) (sym (has-type types t))

pub inserted-place : (types : List Ty) (t : Ty) → position_or_len (eq-value.it t) types ≡ place_of_type (with_type types t) t
inserted-place types t = ap (λ (p : Ty → Bool). position_or_len p types) (λ i u. same-type t u i) ∙ by (has_by (same_type t) types) refl
  where
    from : 0 + position_or_len (same_type t) types ≡ position_or_len (same_type t) types
    from = omega arith

    by : (b : Bool) → has_by (same_type t) types ≡ b → position_or_len (same_type t) types ≡ place_of_type (if b then types else types ++ t ∷ []) t
    by true h = sym (ap (λ (o : Option ℕ). elim o as (λ _. ℕ) [ None ↦ 0 | (Some n) ↦ n ]) (place-there (same_type t) 0 types h) ∙ from)
    by false h = sym (ap (λ (o : Option ℕ). elim o as (λ _. ℕ) [ None ↦ 0 | (Some n) ↦ n ]) (place-new (same_type t) 0 types t (same-itself t) h) ∙ from)

-- what is there stays at its place when the table grows
stays : (test : Ty → Bool) (types : List Ty) (u : Ty) (b : Bool) → has_by test types ≡ true
    → (place_by test (if b then types else types ++ u ∷ []) ≡ place_by test types) × (has_by test (if b then types else types ++ u ∷ []) ≡ true)
stays test types u true h = (refl, h)
stays test types u false h =
    let same = found-stays test 0 types (u ∷ []) h in
    (ap (λ (o : Option ℕ). elim o as (λ _. ℕ) [ None ↦ 0 | (Some n) ↦ n ]) same, ap is_some same ∙ h)

-- a type with all that it points to is in the table
abbrev Has : List Ty → Root → ℕ → Type 0
Has types r zero = has_by (same_type (root_type r)) types ≡ true
Has types r (suc n) = (has_by (same_type (ty.Ptr (starred_place types r n))) types ≡ true) × Has types r n

grows : (types : List Ty) (u : Ty) (r : Root) (n : ℕ) → Has types r n → (starred_place (with_type types u) r n ≡ starred_place types r n) × Has (with_type types u) r n
grows types u r zero h = stays (same_type (root_type r)) types u (has_by (same_type u) types) h
grows types u r (suc n) h =
    let (same, there) = grows types u r n h.1 in
    let (at, has) = stays (same_type (ty.Ptr (starred_place types r n))) types u (has_by (same_type u) types) h.0 in (
      ap (λ p. place_of_type (with_type types u) (ty.Ptr p)) same ∙ at,
      (subst (λ p. has_by (same_type (ty.Ptr p)) (with_type types u) ≡ true) (sym same) has, there),
    )

has-itself : (types : List Ty) (t : Ty) → has_by (same_type t) (with_type types t) ≡ true
has-itself types t = by (has_by (same_type t) types) refl
  where
    by : (b : Bool) → has_by (same_type t) types ≡ b → has_by (same_type t) (if b then types else types ++ t ∷ []) ≡ true
    by true h = h
    by false h = ap is_some (place-new (same_type t) 0 types t (same-itself t) h)

added : (types : List Ty) (r : Root) (n : ℕ) → Has (with_starred types r n) r n
added types r zero = has-itself types (root_type r)
added types r (suc n) =
    let before = with_starred types r n in
    let next = ty.Ptr (starred_place before r n) in
    let (same, there) = grows before next r n (added types r n) in
    (subst (λ p. has_by (same_type (ty.Ptr p)) (with_type before next) ≡ true) (sym same) (has-itself before next), there)

star : (types keys : List Ty) (r : Root) (n : ℕ) → keys ≡ with_starred types r n
    → (place_of_type (with_type keys (ty.Ptr (starred_place keys r n))) (ty.Ptr (starred_place keys r n)) ≡ starred_place (with_type keys (ty.Ptr (starred_place keys r n))) r (suc n))
    × (with_type keys (ty.Ptr (starred_place keys r n)) ≡ with_starred types r (suc n))
star types keys r n is =
    let has = subst (λ ts. Has ts r n) (sym is) (added types r n) in
    let next = ty.Ptr (starred_place keys r n) in (
      ap (λ p. place_of_type (with_type keys next) (ty.Ptr p)) (sym (grows keys next r n has).0),
      ap (λ ts. with_type ts (ty.Ptr (starred_place ts r n))) is,
    )

-- one star more
pub next-star : (types keys new : List Ty) (r : Root) (n place at : ℕ) → place ≡ starred_place keys r n → keys ≡ with_starred types r n
    → new ≡ with_type keys (ty.Ptr place) → at ≡ place_of_type new (ty.Ptr place)
    → (at ≡ starred_place new r (n + 1)) × (new ≡ with_starred types r (n + 1))
next-star types keys new r n place at p k e f =
    let h = star types keys r n k in
    let is : new ≡ with_type keys (ty.Ptr (starred_place keys r n)) = e ∙ ap (λ q. with_type keys (ty.Ptr q)) p in
    let s : suc n ≡ n + 1 = omega arith in (
      f ∙ ap (λ q. place_of_type new (ty.Ptr q)) p ∙ ap (λ ts. place_of_type ts (ty.Ptr (starred_place keys r n))) is ∙ h.0 ∙ ap (λ ts. starred_place ts r (suc n)) (sym is) ∙ ap (starred_place new r) s,
      is ∙ h.1 ∙ ap (with_starred types r) s,
    )
