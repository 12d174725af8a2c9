-- Declarators without stars.
use Rattle.std.proofs.Common.{◌≡◌, ◌==◌, ◌||◌, ℕ, Bool, true, false, List, [], ◌∷◌, map, refl, ap}
use Rattle.std.specs.List.{list_any}
use Rattle.kt_syntax.specs.declared.tree.LocalDeclarator.{LocalDeclarator}
use Rattle.kt_syntax.specs.Tree.{local_of}
use Rattle.kt_program.specs.Mentioned.{stars_of}

pub one-plain : (n : ℕ) → list_any (λ m. m == 0) (n ∷ []) ≡ (n == 0)
one-plain n = by (n == 0)
  where
    by : (b : Bool) → (b || false) ≡ b
    by true = refl
    by false = refl

pub some-plain : (ls : List LocalDeclarator) → list_any (λ m. m == 0) (map (λ l. stars_of l.pointer) (map local_of ls)) ≡ list_any (λ l. stars_of l.pointer == 0) ls
some-plain [] = refl
some-plain (l ∷ ls) = ap (λ b. (stars_of l.pointer == 0) || b) (some-plain ls)
