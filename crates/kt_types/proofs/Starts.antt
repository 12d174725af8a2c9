-- The last of the starts that is not after a cell, by the place where later ones begin.
use Rattle.std.proofs.Common.{◌≡◌, ℕ, ◌<◌, ◌≤◌, ◌+◌, ◌-◌, true, false, List, length, get_or, leb, arith, inl, inr}
use Rattle.std.specs.List.Sorted.{IsPartitionPoint}
use Rattle.std.proofs.lemmas.Bool.{cases_lt, leb-true, leb-false}

module _ (xs : List ℕ) (cell i : ℕ) (point : IsPartitionPoint (λ y. leb y cell ≡ true) (λ y. leb y cell ≡ false) xs i) (some : 1 ≤ length xs) (first : get_or xs 0 0 ≤ cell) where
  pub start_before : 1 ≤ i
  start_before =
      elim (cases_lt 0 i) [
        | inl later ↦ omega arith
        | inr here ↦ absurd (omega (arith, leb-false (get_or xs 0 0) cell (point.1 0 0 here (omega arith))))
      ]

  pub start_from : get_or xs (i - 1) 0 ≤ cell
  start_from =
      let before = start_before in
      leb-true (get_or xs (i - 1) 0) cell (point.0 (i - 1) 0 (omega arith) (omega arith))

  pub start_to : i - 1 + 1 < length xs → cell < get_or xs (i - 1 + 1) 0
  start_to lt =
      let before = start_before in
      leb-false (get_or xs (i - 1 + 1) 0) cell (point.1 (i - 1 + 1) 0 (omega arith) lt)
