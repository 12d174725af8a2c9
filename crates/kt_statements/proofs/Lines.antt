-- Typed statements one behind another.
use Rattle.std.proofs.Common.{◌≡◌, List, [], ◌∷◌, length, map, refl, ap}
use Rattle.kt_tree.specs.declared.stmt.Stmt.{Stmt}
use Rattle.kt_tree.specs.Tree.{Compound, Then, statement_of, statements_of}
use Rattle.kt_program.specs.Made.{block_of, as_one}

pub block-is : (xs : List Stmt) → block_of (map statement_of xs) ≡ statements_of xs
block-is [] = refl
block-is (x ∷ xs) = ap (Then (statement_of x)) (block-is xs)

pub as-block : (xs : List Stmt) → (length xs ≡ 1 → ⊥) → as_one (map statement_of xs) ≡ Compound (statements_of xs)
as-block [] h = refl
as-block (x ∷ []) h = absurd (h refl)
as-block (x ∷ y ∷ xs) h = ap Compound (block-is (x ∷ y ∷ xs))

pub ruleset lines = (block-is, as-block)
