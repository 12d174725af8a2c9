-- A program and its code.
use Rattle.kt_tree.specs.Version.{Program}
use Rattle.kt_code.specs.Code.{Code}

pub record Pair : Type 0 where
  pub program : Program
  pub code : Code
