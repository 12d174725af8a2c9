-- Code: the instructions of a version, where its functions begin, and the names of its points.
use Rattle.std.specs.Prelude.{ℕ, List}
use Rattle.kt_types.specs.PointNames.{PointNames}
use Rattle.kt_code.specs.declared.instr.Instr.{Instr}

pub record Code : Type 0 where
  pub instrs : List Instr
  -- for each function the place of its first instruction
  pub entries : List ℕ
  pub points : PointNames
