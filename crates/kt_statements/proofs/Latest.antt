-- The latest of the locals in scope that have a name.
use Rattle.std.proofs.Common.{zero, suc, ◌≡◌, ℕ, ◌≤◌, ◌<◌, nat_le, Bool, true, false, List, [], ◌∷◌, ◌++◌, length, map, take, drop, slice_get, Option, None, Some, IfSome, IsNone, refl, sym, ap, ◌∙◌, length-append, length-take-le, take-append-drop, arith, true≢false}
use Rattle.std.specs.Str.{bytes_eq}
use Rattle.std.proofs.lemmas.Bool.Decides.{nat_tests}
use Rattle.std.proofs.lemmas.Option.{none-some}
use Rattle.kt_tree.specs.Tree.{LocalRead}
use Rattle.kt_typing.specs.declared.standing.Standing.TheVariants as standing
use Rattle.kt_typing.specs.Environment.{Meaning, Stands}
use Rattle.kt_operands.specs.Views.{meaning_of}
use Rattle.kt_program.specs.Scopes.{contains}
use Rattle.kt_statements.specs.declared.scopes.Local.{Local}
use Rattle.kt_statements.specs.Scopes.{latest_first, latest_place, with, Shows, Placed}
use Rattle.kt_statements.proofs.Meanings.{same, itself}
use Rattle.kt_statements.proofs.Shown.{latest-append, length-latest, name_of}

-- ---- the innermost scope

le-true : (a b : ℕ) → a ≤ b → nat_le a b ≡ true
le-true a b h = grind (arith, nat_tests)

le-false : (a b : ℕ) → b < a → nat_le a b ≡ false
le-false a b h = grind (arith, nat_tests)

-- a place is at least so many
abbrev pub is_from : ℕ → Option ℕ → Bool
is_from n None = false
is_from n (Some p) = nat_le n p

none-from : (ls : List Local) (name : List ℕ) (n : ℕ) → length ls ≤ n → is_from n (latest_place ls name) ≡ false
none-from [] name n h = refl
none-from (l ∷ ls) name n h = by (bytes_eq l.name.now name) refl (none-from ls name n (omega arith))
  where
    by : (b : Bool) → bytes_eq l.name.now name ≡ b → is_from n (latest_place ls name) ≡ false → is_from n (latest_place (l ∷ ls) name) ≡ false
    by true e more = rw e (le-false n (length ls) (omega arith))
    by false e more = rw e more

from-front : (ls behind : List Local) (name : List ℕ) → is_from (length behind) (latest_place (ls ++ behind) name) ≡ contains (map name_of ls) name
from-front [] behind name = none-from behind name (length behind) (omega arith)
from-front (l ∷ ls) behind name = by (bytes_eq l.name.now name) refl (from-front ls behind name)
  where
    by : (b : Bool) → bytes_eq l.name.now name ≡ b → is_from (length behind) (latest_place (ls ++ behind) name) ≡ contains (map name_of ls) name
        → is_from (length behind) (latest_place ((l ∷ ls) ++ behind) name) ≡ contains (map name_of (l ∷ ls)) name
    by true e more = rw e (le-true (length behind) (length (ls ++ behind)) (omega (arith, length-append ls behind)))
    by false e more = rw e more

pub own-is : (ls : List Local) (start : ℕ) (name : List ℕ) → start ≤ length ls → is_from start (latest_place (latest_first ls) name) ≡ contains (map name_of (latest_first (drop start ls))) name
own-is ls start name h =
    let behind = latest_first (take start ls) in
    let front = latest_first (drop start ls) in
    let parts : latest_first ls ≡ front ++ behind = ap (λ (xs : List Local). latest_first xs) (sym (take-append-drop start ls)) ∙ latest-append (take start ls) (drop start ls) in
    let count : length behind ≡ start = length-latest (take start ls) ∙ length-take-le start ls h in
    ap (λ (xs : List Local). is_from start (latest_place xs name)) parts
    ∙ ap (λ n. is_from n (latest_place (front ++ behind) name)) (sym count)
    ∙ from-front front behind name

-- ---- the local of a name

-- of a list that begins with the latest: the local at a place, counted from the last
abbrev at_place : List Local → ℕ → Option Local
at_place ls p = slice_get (latest_first ls) p

get-before : (xs ys : List Local) (n : ℕ) → n < length xs → slice_get (xs ++ ys) n ≡ slice_get xs n
get-before [] ys n h = absurd (omega arith)
get-before (x ∷ xs) ys zero h = refl
get-before (x ∷ xs) ys (suc n) h = get-before xs ys n (omega arith)

get-last : (xs : List Local) (l : Local) (n : ℕ) → n ≡ length xs → slice_get (xs ++ l ∷ []) n ≡ Some l
get-last [] l n e = rw e refl
get-last (x ∷ xs) l zero e = absurd (omega arith)
get-last (x ∷ xs) l (suc n) e = get-last xs l n (omega arith)

pub get-below : (xs : List Local) (n : ℕ) (l : Local) → slice_get xs n ≡ Some l → n < length xs
get-below [] n l e = absurd (none-some l e)
get-below (x ∷ xs) zero l e = omega arith
get-below (x ∷ xs) (suc n) l e =
    let h = get-below xs n l e in
    omega arith

pub latest-twice : (xs : List Local) → latest_first (latest_first xs) ≡ xs
latest-twice [] = refl
latest-twice (x ∷ xs) = latest-append (latest_first xs) (x ∷ []) ∙ ap (λ ys. x ∷ ys) (latest-twice xs)

abbrev Means : Type 0
Means = List ℕ → Meaning

-- the latest is there, has the name, and the name means it
module _ (types : List ℕ) (outer : Means) (name : List ℕ) where
  abbrev pub IsThere : List Local → Means → ℕ → Type 0
  IsThere ls now p = (l : Local) × (at_place ls p ≡ Some l) × (l.name.now ≡ name) × (t : ℕ) × (now name ≡ Stands (standing.Local l.number) t (LocalRead l.number))

  pub there : (now : Means) (ls : List Local) (p : ℕ) → Shows types outer now ls → latest_place ls name ≡ Some p → IsThere ls now p
  there now [] p s e = absurd (none-some p e)
  there now (l ∷ ls) p s e = by (bytes_eq l.name.now name) refl (there (with now l.name.now (meaning_of l.hides)) ls p s.1)
    where
      by : (b : Bool) → bytes_eq l.name.now name ≡ b → (latest_place ls name ≡ Some p → IsThere ls (with now l.name.now (meaning_of l.hides)) p) → IsThere (l ∷ ls) now p
      by true t more =
          let last : Some (length ls) ≡ Some p = rw t at e in
          let is : length ls ≡ p = cc in
          let n = same l.name.now name t in
          (l, get-last (latest_first ls) l p (sym is ∙ sym (length-latest ls)), n, s.0.0, ap now (sym n) ∙ s.0.2)
      by false t more =
          let (k, at, n, ty, means) = more (rw t at e) in
          let below = get-below (latest_first ls) p k at in
          (k, get-before (latest_first ls) (l ∷ []) p below ∙ at, n, ty, rw t at means)

none-has : (ls : List Local) (name : List ℕ) (p : ℕ) (l : Local) → at_place ls p ≡ Some l → l.name.now ≡ name → latest_place ls name ≡ None → ⊥
none-has [] name p l e n h = none-some l e
none-has (k ∷ ls) name p l e n h = by (bytes_eq k.name.now name) refl (none-has ls name p l)
  where
    by : (b : Bool) → bytes_eq k.name.now name ≡ b → (at_place ls p ≡ Some l → l.name.now ≡ name → latest_place ls name ≡ None → ⊥) → ⊥
    by true t more = none-some (length ls) (sym (rw t at h))
    by false t more = at-by (nat_le (suc p) (length (latest_first ls))) refl
      where
        at-by : (c : Bool) → nat_le (suc p) (length (latest_first ls)) ≡ c → ⊥
        at-by true i = more (sym (get-before (latest_first ls) (k ∷ []) p (grind (arith, nat_tests))) ∙ e) n (rw t at h)
        at-by false i =
            let below = get-below (latest_first ls ++ k ∷ []) p l e in
            let count = length-append (latest_first ls) (k ∷ []) in
            let last : p ≡ length (latest_first ls) = grind (arith, nat_tests) in
            let is : Some k ≡ Some l = sym (get-last (latest_first ls) k p last) ∙ e in
            let one : k ≡ l = cc in
            true≢false (sym (itself name) ∙ ap (λ m. bytes_eq m name) (sym n ∙ ap (λ (x : Local). x.name.now) (sym one)) ∙ t)

-- ---- found by the number that the name means

module _ (xs : List Local) (places : List ℕ) (placed : Placed xs places) (types : List ℕ) (outer now : Means) (name : List ℕ) (shows : Shows types outer now (latest_first xs)) where
  at-is : (p : ℕ) → at_place (latest_first xs) p ≡ slice_get xs p
  at-is p = ap (λ (ls : List Local). slice_get ls p) (latest-twice xs)

  pub latest-none : ((p : ℕ) (l : Local) (t : ℕ) → slice_get xs p ≡ Some l → l.name.now ≡ name → now name ≡ Stands (standing.Local l.number) t (LocalRead l.number) → ⊥)
      → None ≡ latest_place (latest_first xs) name
  latest-none never = by (latest_place (latest_first xs) name) refl
    where
      by : (o : Option ℕ) → latest_place (latest_first xs) name ≡ o → None ≡ o
      by None e = refl
      by (Some p) e =
          let (l, at, n, t, means) = there types outer name now (latest_first xs) p shows e in
          absurd (never p l t (sym (at-is p) ∙ at) n means)

  pub latest-some : (p x t : ℕ) (l : Local) → slice_get xs p ≡ Some l → l.name.now ≡ name → slice_get places x ≡ Some p → now name ≡ Stands (standing.Local x) t (LocalRead x)
      → Some p ≡ latest_place (latest_first xs) name
  latest-some p x t l at n k means = by (latest_place (latest_first xs) name) refl
    where
      by : (o : Option ℕ) → latest_place (latest_first xs) name ≡ o → Some p ≡ o
      by None e = absurd (none-has (latest_first xs) name p l (at-is p ∙ at) n e)
      by (Some q) e =
          let (m, there-at, j, s, also) = there types outer name now (latest_first xs) q shows e in
          let same-number : Stands (standing.Local x) t (LocalRead x) ≡ Stands (standing.Local m.number) s (LocalRead m.number) = sym means ∙ also in
          let number : x ≡ m.number = cc in
          let kept = placed q m (sym (at-is q) ∙ there-at) in
          let both : Some p ≡ Some q = sym k ∙ ap (slice_get places) number ∙ kept in
          both

  abbrev pub IsMissing : ℕ → Type 0
  IsMissing x = (p : ℕ) (l : Local) → slice_get places x ≡ Some p → slice_get xs p ≡ Some l → bytes_eq l.name.now name ≡ true → ⊥

  same-local : (x t y s : ℕ) → Stands (standing.Local x) t (LocalRead x) ≡ Stands (standing.Local y) s (LocalRead y) → x ≡ y
  same-local x t y s e = cc

  pub latest-by : (r : Option ℕ) (x t : ℕ) → now name ≡ Stands (standing.Local x) t (LocalRead x)
      → IfSome r (λ p. (l : Local) × (slice_get xs p ≡ Some l) × (bytes_eq l.name.now name ≡ true)) → IfSome r (λ p. slice_get places x ≡ Some p) → (IsNone r → IsMissing x)
      → r ≡ latest_place (latest_first xs) name
  latest-by (Some p) x t means (l, at, n) k missing = latest-some p x t l at (same l.name.now name n) k means
  latest-by None x t means h k missing =
      latest-none (λ p l s at n also. missing refl p l
      (ap (slice_get places) (same-local x t l.number s (sym means ∙ also)) ∙ placed p l at) at (ap (λ m. bytes_eq m name) n ∙ itself name))

  pub latest-other : (m : Meaning) → now name ≡ m → ((n t : ℕ) → m ≡ Stands (standing.Local n) t (LocalRead n) → ⊥) → None ≡ latest_place (latest_first xs) name
  latest-other m is never = latest-none (λ p l t at n means. never l.number t (sym is ∙ means))

-- ---- places kept

pub placed-none : Placed [] []
placed-none p l e = absurd (none-some l e)

module _ (xs ys : List Local) (ps qs : List ℕ) (l : Local) (n : ℕ) (placed : Placed xs ps) (grows : ys ≡ xs ++ l ∷ []) (more : qs ≡ ps ++ n ∷ []) (here : n ≡ length xs) (number : l.number ≡ length ps) where
  nat-before : (vs bs : List ℕ) (i : ℕ) (v : ℕ) → slice_get vs i ≡ Some v → slice_get (vs ++ bs) i ≡ Some v
  nat-before [] bs i v e = absurd (none-some v e)
  nat-before (a ∷ vs) bs zero v e = e
  nat-before (a ∷ vs) bs (suc i) v e = nat-before vs bs i v e

  nat-last : (vs : List ℕ) (v i : ℕ) → i ≡ length vs → slice_get (vs ++ v ∷ []) i ≡ Some v
  nat-last [] v i e = rw e refl
  nat-last (a ∷ vs) v zero e = absurd (omega arith)
  nat-last (a ∷ vs) v (suc i) e = nat-last vs v i (omega arith)

  pub placed-more : Placed ys qs
  placed-more p k e = by (nat_le (suc p) (length xs)) refl
    where
      by : (c : Bool) → nat_le (suc p) (length xs) ≡ c → slice_get qs k.number ≡ Some p
      by true i =
          let within : p < length xs = grind (arith, nat_tests) in
          let old : slice_get xs p ≡ Some k = sym (get-before xs (l ∷ []) p within) ∙ (ap (λ (zs : List Local). slice_get zs p) (sym grows) ∙ e) in
          ap (λ (zs : List ℕ). slice_get zs k.number) more ∙ nat-before ps (n ∷ []) k.number p (placed p k old)
      by false i =
          let e2 : slice_get (xs ++ l ∷ []) p ≡ Some k = ap (λ (zs : List Local). slice_get zs p) (sym grows) ∙ e in
          let below = get-below (xs ++ l ∷ []) p k e2 in
          let count = length-append xs (l ∷ []) in
          let last : p ≡ length xs = grind (arith, nat_tests) in
          let is : Some l ≡ Some k = sym (get-last xs l p last) ∙ e2 in
          let one : l ≡ k = cc in
          ap (λ (zs : List ℕ). slice_get zs k.number) more ∙ nat-last ps n k.number (ap (λ (z : Local). z.number) (sym one) ∙ number) ∙ ap Some (here ∙ sym last)

get-taken : (xs : List Local) (c p : ℕ) (l : Local) → slice_get (take c xs) p ≡ Some l → slice_get xs p ≡ Some l
get-taken [] zero p l e = e
get-taken [] (suc c) p l e = e
get-taken (x ∷ xs) zero p l e = absurd (none-some l e)
get-taken (x ∷ xs) (suc c) zero l e = e
get-taken (x ∷ xs) (suc c) (suc p) l e = get-taken xs c p l e

pub placed-less : (xs ys : List Local) (ps : List ℕ) (c : ℕ) → Placed xs ps → ys ≡ take c xs → Placed ys ps
placed-less xs ys ps c h e p l at = h p l (get-taken xs c p l (ap (λ (zs : List Local). slice_get zs p) (sym e) ∙ at))
