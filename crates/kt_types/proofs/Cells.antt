-- Counts and offsets of joined and repeated cells.
use Rattle.std.proofs.Common.{◌≡◌, ℕ, zero, suc, ◌<◌, ◌≤◌, ◌+◌, ◌-◌, ◌*◌, ◌%◌, List, [], ◌∷◌, ◌++◌, length, length-append, Option, Some, refl, sym, ap, ◌∙◌, subst, arith, slice_get, inl, inr}
use Rattle.std.specs.Prelude.{unwrap_or}
use Rattle.std.specs.Option.{option_and_then}
use Rattle.std.proofs.Math.Nat.{mod-eq-sub-mod, mod-eq_of_lt, suc-mul}
use Rattle.std.proofs.lemmas.Bool.{cases_lt}
use Rattle.std.proofs.lemmas.Option.{option_and_then_some, none-some}
use Rattle.kt_types.proofs.Growth.{Grows, option_map_some}
use Rattle.kt_types.specs.Layout.{repeated, joined, layout, cells, cells_before}
use Rattle.kt_types.specs.Table.{Table}
use Rattle.kt_types.specs.declared.kinds.FieldDecl.{FieldDecl}
use Rattle.kt_types.specs.declared.kinds.Ty.{Ty}

pub slice_get-append_left : {X : Type 0} (xs ys : List X) (i : ℕ) → i < length xs → slice_get (xs ++ ys) i ≡ slice_get xs i
slice_get-append_left [] ys i h = absurd (omega arith)
slice_get-append_left (x ∷ xs) ys zero h = refl
slice_get-append_left (x ∷ xs) ys (suc i) h = slice_get-append_left xs ys i (omega arith)

pub slice_get-append_right : {X : Type 0} (xs ys : List X) (i : ℕ) → slice_get (xs ++ ys) (length xs + i) ≡ slice_get ys i
slice_get-append_right [] ys i = ap (slice_get ys) (omega arith)
slice_get-append_right (x ∷ xs) ys i =
    let one : suc (length xs) + i ≡ suc (length xs + i) = omega arith in
    rw one (slice_get-append_right xs ys i)

pub length-repeated : {X : Type 0} (n : ℕ) (xs : List X) → length (repeated n xs) ≡ n * length xs
unfolding repeated
length-repeated zero xs = omega arith
length-repeated (suc n) xs = length-append xs (repeated n xs) ∙ (rw (length-repeated n xs, suc-mul) (omega arith))

pub slice_get-repeated : {X : Type 0} (n : ℕ) (xs : List X) (i : ℕ) → i < n * length xs → slice_get (repeated n xs) i ≡ slice_get xs (i % length xs)
unfolding repeated
slice_get-repeated zero xs i h = absurd (omega arith)
slice_get-repeated (suc n) xs i h =
    let total : suc n * length xs ≡ n * length xs + length xs = suc-mul n (length xs) in
    elim (cases_lt i (length xs)) [
      | inl front ↦ slice_get-append_left xs (repeated n xs) i front ∙ ap (slice_get xs) (sym (mod-eq_of_lt front))
      | inr back ↦
          let split : i ≡ length xs + (i - length xs) = omega arith in
          ap (slice_get (xs ++ repeated n xs)) split ∙ slice_get-append_right xs (repeated n xs) (i - length xs)
          ∙ slice_get-repeated n xs (i - length xs) (omega arith)
          ∙ ap (slice_get xs) (sym (mod-eq-sub-mod back))
    ]

-- where the fields' cells are joined, each field is complete
pub joined-complete : (at : ℕ → Option (List Ty)) (fs : List FieldDecl) (cs : List Ty) → joined at fs ≡ Some cs
    → (n : ℕ) (f : FieldDecl) → slice_get fs n ≡ Some f → (x : List Ty) × (at f.ty ≡ Some x)
joined-complete at [] cs e n f is = absurd (none-some f is)
joined-complete at (g ∷ fs) cs e zero f is =
    option_and_then_some _ (at g.ty) cs e (λ x has rest. (x, subst (λ (o : Option FieldDecl). option_and_then (λ h. at h.ty) o ≡ Some x) is has))
joined-complete at (g ∷ fs) cs e (suc n) f is =
    option_and_then_some _ (at g.ty) cs e (λ x has rest.
    let (y, more, same) = option_map_some (λ r. x ++ r) (joined at fs) cs rest in
    joined-complete at fs y more n f is)

-- and the other way round
pub joined-from : (at : ℕ → Option (List Ty)) (fs : List FieldDecl) → ((n : ℕ) (f : FieldDecl) → slice_get fs n ≡ Some f → (x : List Ty) × (at f.ty ≡ Some x))
    → (cs : List Ty) × (joined at fs ≡ Some cs)
joined-from at [] complete = ([], refl)
joined-from at (f ∷ fs) complete =
    let (x, has) = complete 0 f refl in
    let (cs, rest) = joined-from at fs (λ n g is. complete (suc n) g is) in
    (x ++ cs, rw (has, rest) refl)

module _ (t : Table) where
  cells-is : (p : ℕ) (x : List Ty) → layout t p ≡ Some x → cells t p ≡ x
  cells-is p x has = rw has refl

  pub joined-length : (fs : List FieldDecl) (cs : List Ty) → joined (layout t) fs ≡ Some cs → length cs ≡ cells_before t fs (length fs)
  joined-length [] cs e = sym (ap (λ (o : Option (List Ty)). length (unwrap_or o [])) e)
  joined-length (f ∷ fs) cs e =
      option_and_then_some _ (layout t f.ty) cs e (λ x has rest.
      let (y, more, same) = option_map_some (λ r. x ++ r) (joined (layout t) fs) cs rest in
      let tail = joined-length fs y more in
      let head = cells-is f.ty x has in
      ap length (sym same) ∙ length-append x y ∙ (rw (tail, head) refl))

  pub joined-at : (fs : List FieldDecl) (cs : List Ty) → joined (layout t) fs ≡ Some cs → (n : ℕ) (f : FieldDecl) → slice_get fs n ≡ Some f
      → (i : ℕ) → i < length (cells t f.ty) → slice_get cs (cells_before t fs n + i) ≡ slice_get (cells t f.ty) i
  joined-at [] cs e n f is i lt = absurd (none-some f is)
  joined-at (g ∷ fs) cs e zero f is i lt =
      option_and_then_some _ (layout t g.ty) cs e (λ x has rest.
      let (y, more, same) = option_map_some (λ r. x ++ r) (joined (layout t) fs) cs rest in
      let first : cells t f.ty ≡ x = subst (λ (o : Option FieldDecl). unwrap_or (option_and_then (λ h. layout t h.ty) o) [] ≡ x) is (cells-is g.ty x has) in
      let short : i < length x = subst (λ l. i < length l) first lt in
      let none : 0 + i ≡ i = omega arith in
      rw (← same, none, first) (slice_get-append_left x y i short))
  joined-at (g ∷ fs) cs e (suc n) f is i lt =
      option_and_then_some _ (layout t g.ty) cs e (λ x has rest.
      let (y, more, same) = option_map_some (λ r. x ++ r) (joined (layout t) fs) cs rest in
      let first = cells-is g.ty x has in
      let apart : length (cells t g.ty) + cells_before t fs n + i ≡ length x + (cells_before t fs n + i) = rw first (omega arith) in
      ap (slice_get cs) apart ∙ ap (λ l. slice_get l (length x + (cells_before t fs n + i))) (sym same)
      ∙ slice_get-append_right x y (cells_before t fs n + i) ∙ joined-at fs y more n f is i lt)

  before-suc : (fs : List FieldDecl) (n : ℕ) (f : FieldDecl) → slice_get fs n ≡ Some f → cells_before t fs (suc n) ≡ cells_before t fs n + length (cells t f.ty)
  before-suc [] n f is = absurd (none-some f is)
  before-suc (g ∷ fs) zero f is =
      let first : length (cells t g.ty) ≡ length (cells t f.ty) = ap (λ (o : Option FieldDecl). length (unwrap_or (option_and_then (λ h. layout t h.ty) o) [])) is in
      omega (arith, first)
  before-suc (g ∷ fs) (suc n) f is = omega (arith, before-suc fs n f is)

  pub before_more : (fs : List FieldDecl) (n : ℕ) (f : FieldDecl) → slice_get fs n ≡ Some f → cells_before t fs (n + 1) ≡ cells_before t fs n + length (cells t f.ty)
  before_more fs n f is =
      let one : n + 1 ≡ suc n = omega arith in
      ap (cells_before t fs) one ∙ before-suc fs n f is

  pub before-le : (fs : List FieldDecl) (n m : ℕ) → n ≤ m → cells_before t fs n ≤ cells_before t fs m
  before-le fs zero m le = omega arith
  before-le fs (suc n) zero le = absurd (omega arith)
  before-le [] (suc n) (suc m) le = omega arith
  before-le (f ∷ fs) (suc n) (suc m) le = omega (arith, before-le fs n m (omega arith))

  pub before-grows : (u : Table) → Grows (layout t) (layout u) → (fs : List FieldDecl) (cs : List Ty) → joined (layout t) fs ≡ Some cs
      → (n : ℕ) → cells_before u fs n ≡ cells_before t fs n
  before-grows u grows fs cs e zero = refl
  before-grows u grows [] cs e (suc n) = refl
  before-grows u grows (f ∷ fs) cs e (suc n) =
      option_and_then_some _ (layout t f.ty) cs e (λ x has rest.
      let (y, more, same) = option_map_some (λ r. x ++ r) (joined (layout t) fs) cs rest in
      rw (has, grows f.ty x has, before-grows u grows fs y more n) refl)
