-- Names of which none stands twice: the parts of such a list are such lists.
use Rattle.std.proofs.Common.{◌≡◌, ℕ, zero, suc, List, [], ◌∷◌, ◌++◌, map, take, Some, refl, ap, arith, slice_get}
use Rattle.std.proofs.lemmas.Option.{none-some}
use Rattle.kt_tree.specs.Tree.{function_of}
use Rattle.kt_tree.specs.Version.{AreDistinct}
use Rattle.kt_tree.specs.declared.function.Fun.{Fun}

in-front : {X : Type 0} (xs ys : List X) (i : ℕ) (x : X) → slice_get xs i ≡ Some x → slice_get (xs ++ ys) i ≡ Some x
in-front [] ys i x at = absurd (none-some x at)
in-front (z ∷ xs) ys zero x at = at
in-front (z ∷ xs) ys (suc i) x at = in-front xs ys i x at

in-take : {X : Type 0} (n : ℕ) (xs : List X) (i : ℕ) (x : X) → slice_get (take n xs) i ≡ Some x → slice_get xs i ≡ Some x
in-take zero xs i x at = absurd (none-some x at)
in-take (suc n) [] i x at = at
in-take (suc n) (z ∷ xs) zero x at = at
in-take (suc n) (z ∷ xs) (suc i) x at = in-take n xs i x at

pub distinct-front : (xs ys : List (List ℕ)) → AreDistinct (xs ++ ys) → AreDistinct xs
distinct-front xs ys distinct i j a b lt first second = distinct i j a b lt (in-front xs ys i a first) (in-front xs ys j b second)

pub distinct-back : (xs ys : List (List ℕ)) → AreDistinct (xs ++ ys) → AreDistinct ys
distinct-back [] ys distinct = distinct
distinct-back (x ∷ xs) ys distinct = distinct-back xs ys (λ i j a b lt first second. distinct (suc i) (suc j) a b (omega arith) first second)

pub distinct-take : (n : ℕ) (xs : List (List ℕ)) → AreDistinct xs → AreDistinct (take n xs)
distinct-take n xs distinct i j a b lt first second = distinct i j a b lt (in-take n xs i a first) (in-take n xs j b second)

-- a function's name is that of its plain data
pub names-of-functions : (fs : List Fun) → map (λ f. f.name) (map function_of fs) ≡ map (λ f. f.name) fs
names-of-functions [] = refl
names-of-functions (f ∷ fs) = ap (λ l. f.name ∷ l) (names-of-functions fs)
