-- Requests in code: how many operands each takes, and the table that none of them but a load or a store looks into.
use Rattle.std.specs.Prelude.{ℕ, suc, List, [], ◌∷◌}
use Rattle.kt_types.specs.Table.{Table}
use Rattle.kt_tree.specs.declared.expr.Part.{Part}
use Rattle.kt_tree.specs.declared.expr.Part.TheVariants as part
use Rattle.kt_tree.specs.declared.expr.Request.{Request}
use Rattle.kt_tree.specs.declared.expr.Request.TheVariants as request

-- no type
abbrev pub untyped : Table
untyped = record { types = []; structs = []; defined = [] }

-- one operand for each part of a format but for bytes
abbrev pub part_count : List Part → ℕ
part_count [] = 0
part_count (part.Bytes bytes ∷ parts) = part_count parts
part_count (part.Number ∷ parts) = suc (part_count parts)
part_count (part.Byte ∷ parts) = suc (part_count parts)
part_count (part.Text ∷ parts) = suc (part_count parts)

abbrev pub operand_count : Request → ℕ
operand_count request.Load = 1
operand_count request.Store = 2
operand_count (request.Allocate e zeros) = 1
operand_count request.Release = 1
operand_count request.Lock = 1
operand_count request.Unlock = 1
operand_count request.InitMutex = 1
operand_count request.GetChar = 0
operand_count request.PutChar = 1
operand_count request.Puts = 1
operand_count (request.Print parts) = part_count parts
operand_count (request.Create f) = 1
operand_count request.Join = 1
operand_count (request.Point n) = 0
operand_count request.IsUpdating = 0
operand_count (request.IsUpdatingFrom n) = 0
operand_count request.Automigrate = 0
operand_count (request.MigrateLocal n) = 0
