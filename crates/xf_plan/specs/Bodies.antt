-- The bodies of rules as plain data: what they assign to `$out`. Expressions are those of the old version's typed trees; in
-- them local 0 is `$in`, or a pointer to it where it is a place in memory, and local 1 is a pointer to `$base`.
use Rattle.std.specs.Prelude.{ℕ}
use Rattle.kt_tree.specs.Tree.{Expression}

-- what is assigned
pub data Given : Type 0 where
  -- a number, which is converted to the type of the target
  Number : Expression → Given
  Null : Given
  -- `$xform(e)`: what becomes of an old pointer
  Transformed : Expression → Given
  -- `$new(T, n)`: a pointer to a new object of n elements of a type of the new version
  New : ℕ → ℕ → Given
  Chosen : Expression → Given → Given → Given

mutual
  pub data Action : Type 0 where
    Assigned : Given → Action
    Conditional : Expression → Action → Action → Action
    Compound : Actions → Action

  pub data Actions : Type 0 where
    Done : Actions
    Then : Action → Actions → Actions
