use Rattle.std.specs.Prelude.{ℕ, List}

-- the names of a version's points: those of its update points, `updates` of them, and then those that it only asks about
pub record PointNames : Type 0 where
  pub names : List (List ℕ)
  pub updates : ℕ
