-- Lists of types of parameters that are gone through from the front.
use Rattle.std.proofs.Common.{◌≡◌, ◌==◌, ℕ, suc, ◌-◌, ◌≤◌, false, List, [], ◌∷◌, length, drop, ◌⊎◌, inl, inr, refl, sym, ap, ◌∙◌, arith}
use Rattle.std.proofs.lemmas.Bool.Decides.{nat_tests}
use Rattle.std.proofs.lemmas.List.{length-map, length-drop, drop_all}
use Rattle.kt_syntax.specs.declared.tree.Parameter.{Parameter}
use Rattle.kt_names.specs.declared.ctype.CType.{CType}
use Rattle.kt_names.specs.Functions.{same_types}
use Rattle.kt_check.specs.Files.{Frame}
use Rattle.kt_check.specs.Stages.{types_in}

suc-zero : (n : ℕ) → (suc n == 0) ≡ false
suc-zero n = grind (arith, nat_tests)

none-left : (ys : List CType) → same_types [] ys ≡ (length ys == 0)
none-left [] = refl
none-left (y ∷ ys) = sym (suc-zero (length ys))

none-right : (xs : List CType) → same_types xs [] ≡ (length xs == 0)
none-right [] = refl
none-right (x ∷ xs) = sym (suc-zero (length xs))

at-end : (a b i : ℕ) → i ≤ a → a ≤ i → i ≤ b → (a == b) ≡ ((b - i) == 0)
at-end a b i h k l = grind (arith, nat_tests)

at-end-right : (a b i : ℕ) → i ≤ b → b ≤ i → i ≤ a → (a == b) ≡ ((a - i) == 0)
at-end-right a b i h k l = grind (arith, nat_tests)

module _ (f : Frame) (as' bs : List Parameter) (i : ℕ) (left : i ≤ length as') (right : i ≤ length bs) where
  rest : (ps : List Parameter) → length (types_in f (drop i ps)) ≡ length ps - i
  rest ps = length-map (drop i ps) _ ∙ length-drop i ps

  pub same-ends : (length as' ≤ i) ⊎ (length bs ≤ i) → (length as' == length bs) ≡ same_types (types_in f (drop i as')) (types_in f (drop i bs))
  same-ends (inl h) =
      at-end (length as') (length bs) i left h right ∙ ap (λ n. n == 0) (sym (rest bs)) ∙ sym (none-left (types_in f (drop i bs)))
      ∙ ap (λ ps. same_types (types_in f ps) (types_in f (drop i bs))) (sym (drop_all i as' h))
  same-ends (inr h) =
      at-end-right (length as') (length bs) i right h left ∙ ap (λ n. n == 0) (sym (rest as')) ∙ sym (none-right (types_in f (drop i as')))
      ∙ ap (λ ps. same_types (types_in f (drop i as')) (types_in f ps)) (sym (drop_all i bs h))
