-- Lists that grow at their ends, and the places of fields in them.
use Rattle.std.proofs.Common.{if◌then◌else◌, ◌≡◌, ℕ, zero, suc, ◌+◌, ◌<◌, Bool, true, false, ◌&&◌, List, [], ◌∷◌, ◌++◌, length, map, take, get_or, slice_get, Option, None, Some, refl, sym, ap, ◌∙◌, arith, append_assoc}
use Rattle.std.specs.List.{position_from}
use Rattle.std.specs.Str.{bytes_eq}
use Rattle.std.specs.Global.{Vec}
use Rattle.std.proofs.lemmas.Option.{none-some}
use Rattle.indexmap.specs.IndexMap.{insert_entry}
use Rattle.kt_program.specs.Views.{Field, is_count_field}
use Rattle.kt_declarations.specs.declared.field.Known.{Known}
use Rattle.kt_declarations.specs.Fields.{is_named, places, told, or_here}
use Rattle.kt_declarations.proofs.Behind.{and-false}
use Rattle.kt_declarations.proofs.Mapped.{same, itself, turned, found, found-inserted}

pub item-at : {A : Type 0} (xs : List A) (i : ℕ) (x : A) → i < length xs → x ≡ get_or xs i x → slice_get xs i ≡ Some x
item-at [] i x h e = absurd (omega arith)
item-at (y ∷ xs) zero x h e = ap Some (sym e)
item-at (y ∷ xs) (suc i) x h e = item-at xs i x (omega arith) e

pub take-next : {A : Type 0} (xs : List A) (i : ℕ) (x : A) → slice_get xs i ≡ Some x → take (suc i) xs ≡ take i xs ++ x ∷ []
take-next [] i x e = absurd (none-some x e)
take-next (y ∷ xs) zero x e = let is : y ≡ x = cc in ap (λ z. z ∷ []) is
take-next (y ∷ xs) (suc i) x e = ap (λ zs. y ∷ zs) (take-next xs i x e)

pub map-push : {A B : Type 0} (f : A → B) (xs : List A) (x : A) → map f (xs ++ x ∷ []) ≡ map f xs ++ f x ∷ []
map-push f [] x = refl
map-push f (y ∷ xs) x = ap (λ zs. f y ∷ zs) (map-push f xs x)

-- one more at the end, which is no more among those to come
pub moved : {A : Type 0} (xs ys zs : List A) (y : A) (rest : List A) → ys ≡ xs ++ y ∷ [] → zs ≡ y ∷ rest → ys ++ rest ≡ xs ++ zs
moved xs ys zs y rest e f = ap (λ l. l ++ rest) e ∙ append_assoc xs (y ∷ []) rest ∙ ap (λ l. xs ++ l) (sym f)

-- ---- places

or-same : (o : Option ℕ) (place : ℕ) → or_here o false place ≡ o
or-same None place = refl
or-same (Some n) place = refl

position-push : {A : Type 0} (test : A → Bool) (i : ℕ) (xs : List A) (x : A) → position_from test i (xs ++ x ∷ []) ≡ or_here (position_from test i xs) (test x) (i + length xs)
position-push test i [] x = by (test x)
  where
    by : (b : Bool) → (if b then Some i else None) ≡ or_here None b (i + 0)
    by true = ap Some (omega arith)
    by false = refl
position-push test i (y ∷ xs) x = by (test y) (position-push test (i + 1) xs x)
  where
    by : (b : Bool) → position_from test (i + 1) (xs ++ x ∷ []) ≡ or_here (position_from test (i + 1) xs) (test x) (i + 1 + length xs)
        → (if b then Some i else position_from test (i + 1) (xs ++ x ∷ [])) ≡ or_here (if b then Some i else position_from test (i + 1) xs) (test x) (i + suc (length xs))
    by true later = refl
    by false later = later ∙ ap (or_here (position_from test (i + 1) xs) (test x)) (omega arith)

places-push : (fields : List Field) (x : Field) (n : List ℕ) (place : ℕ) → length fields ≡ place
    → places (fields ++ x ∷ []) n ≡ (or_here (places fields n).0 (is_named n x) place, or_here (places fields n).1 (is_count_field n x) place)
places-push fields x n place e =
    let one = position-push (is_named n) 0 fields x ∙ ap (or_here (places fields n).0 (is_named n x)) (omega (arith, e)) in
    let other = position-push (is_count_field n) 0 fields x ∙ ap (or_here (places fields n).1 (is_count_field n x)) (omega (arith, e)) in
    λ i. (one i, other i)

abbrev Named : Type 0
Named = List (Vec ℕ × Known)

module _ (fields : List Field) (x : Field) (place : ℕ) (len : length fields ≡ place) (counts : Bool) (counting : (n : List ℕ) → is_count_field n x ≡ (counts && bytes_eq x.declarator.name.word n)) where
  abbrev name : List ℕ
  name = x.declarator.name.word

  pub known-more : (es fs : Named) (key : Vec ℕ) (before : Option Known) (k : Known) → ((n : List ℕ) → told (found es n) ≡ places fields n) → key.items ≡ name → before ≡ found es name
      → told (Some k) ≡ (or_here (told before).0 true place, or_here (told before).1 counts place) → fs ≡ insert_entry (λ a b. bytes_eq a.items b.items) es key k
      → (q : List ℕ) → told (found fs q) ≡ places (fields ++ x ∷ []) q
  known-more es fs key before k are is was behind grows q =
      ap (λ (xs : Named). told (found xs q)) grows ∙ ap told (found-inserted key k q es) ∙ by (bytes_eq q key.items) refl ∙ sym (places-push fields x q place len)
    where
      here : bytes_eq name q ≡ true → told before ≡ places fields q → is_count_field q x ≡ counts
          → told (Some k) ≡ (or_here (places fields q).0 (is_named q x) place, or_here (places fields q).1 (is_count_field q x) place)
      here named knew count = behind ∙ (λ i. (or_here (knew i).0 (sym named i) place, or_here (knew i).1 (sym count i) place))

      there : bytes_eq name q ≡ false → is_count_field q x ≡ false
          → told (found es q) ≡ (or_here (places fields q).0 (is_named q x) place, or_here (places fields q).1 (is_count_field q x) place)
      there named count = are q ∙ (λ i. (sym (ap (λ b. or_here (places fields q).0 b place) named ∙ or-same (places fields q).0 place) i, sym (ap (λ b. or_here (places fields q).1 b place) count ∙ or-same (places fields q).1 place) i))

      and-true : (b : Bool) → (b && true) ≡ b
      and-true true = refl
      and-true false = refl

      by : (b : Bool) → bytes_eq q key.items ≡ b → told (if b then Some k else found es q) ≡ (or_here (places fields q).0 (is_named q x) place, or_here (places fields q).1 (is_count_field q x) place)
      by true e =
          let one : q ≡ name = same q key.items e ∙ is in
          let named : bytes_eq name q ≡ true = ap (bytes_eq name) one ∙ itself name in
          here named (ap told was ∙ are name ∙ ap (places fields) (sym one)) (counting q ∙ ap (λ b. counts && b) named ∙ and-true counts)
      by false e =
          let named : bytes_eq name q ≡ false = turned q name (ap (bytes_eq q) (sym is) ∙ e) in
          there named (counting q ∙ ap (λ b. counts && b) named ∙ and-false counts)
