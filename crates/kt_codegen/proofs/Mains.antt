-- The function named `main` gives an `int`.
use Rattle.std.proofs.Common.{◌≡◌, ℕ, suc, ◌+◌, ◌<◌, ◌⊎◌, inl, inr, ◌∙◌, sym, ap, subst, true, List, [], ◌∷◌, ◌++◌, length, Some, arith, codes}
use Rattle.std.specs.Prelude.{slice_get}
use Rattle.std.proofs.lemmas.Bool.{cases_order}
use Rattle.std.specs.Cmp.Lexicographic.{bytes_decides}
use Rattle.std.proofs.lemmas.Option.{same_Some}
use Rattle.kt_tree.specs.Kinds.{int_type}
use Rattle.kt_tree.specs.Tree.{Function}
use Rattle.kt_tree.specs.Version.{Program, IsProgram, outer_names, global_names, function_names}
use Rattle.kt_meaning.specs.TreeSteps.{is_main}
use Rattle.kt_meaning.proofs.StepTypes.{get-map}

behind : (xs ys : List (List ℕ)) (n : ℕ) → slice_get (xs ++ ys) (length xs + n) ≡ slice_get ys n
behind [] ys n = let same : 0 + n ≡ n = omega arith in ap (slice_get ys) same
behind (x ∷ xs) ys n =
    let same : suc (length xs) + n ≡ suc (length xs + n) = omega arith in
    ap (slice_get (x ∷ xs ++ ys)) same ∙ behind xs ys n

name-at : (p : Program) (n : ℕ) (f : Function) → slice_get p.functions n ≡ Some f → slice_get (outer_names p) (length (global_names p) + n) ≡ Some f.name
name-at p n f e = behind (global_names p) (function_names p) n ∙ get-map (λ f. f.name) p.functions n f e

same-place : (p : Program) → IsProgram p → (n m : ℕ) (f g : Function) → slice_get p.functions n ≡ Some f → slice_get p.functions m ≡ Some g → f.name ≡ g.name → n ≡ m
same-place p h n m f g a b e = by_order (cases_order n m)
  where
    by_order : (n ≡ m) ⊎ ((n < m) ⊎ (m < n)) → n ≡ m
    by_order (inl same) = same
    by_order (inr (inl lt)) =
        absurd (h.distinct (length (global_names p) + n) (length (global_names p) + m) f.name g.name (omega (arith, lt)) (name-at p n f a) (name-at p m g b) e)
    by_order (inr (inr gt)) =
        absurd (h.distinct (length (global_names p) + m) (length (global_names p) + n) g.name f.name (omega (arith, gt)) (name-at p m g b) (name-at p n f a) (sym e))

pub main-result : (p : Program) → IsProgram p → (n : ℕ) (f : Function) → slice_get p.functions n ≡ Some f → is_main f ≡ true → f.result ≡ Some int_type
main-result p h n f e m =
    let g : Function = h.main.1 in
    let named : f.name ≡ g.name = (bytes_decides f.name (codes "main")).0 m ∙ sym (h.main.3.0) in
    let place = same-place p h n (h.main.0) f g e (h.main.2) named in
    let same : f ≡ g = same_Some f g (sym e ∙ ap (slice_get p.functions) place ∙ h.main.2) in
    subst (λ (k : Function). k.result ≡ Some int_type) (sym same) (h.main.3.1)
