-- Requests among instructions: the acts that they are by how many operands they take, and what they change in the thread.
use Rattle.std.specs.Prelude.{ℕ, ℤ, [], ◌∷◌, Option, None, Some, Result, Ok, Err}
use Rattle.kt_mem.specs.declared.memory.Value.{Value}
use Rattle.kt_mem.specs.declared.memory.Value.TheVariants.{Num}
use Rattle.kt_mem.specs.declared.steps.Act.{Act}
use Rattle.kt_mem.specs.declared.steps.Act.TheVariants as act
use Rattle.kt_mem.specs.declared.steps.Piece.{Piece}
use Rattle.kt_mem.specs.declared.steps.Piece.TheVariants as piece
use Rattle.kt_mem.specs.declared.steps.Trap.{Trap}
use Rattle.kt_mem.specs.declared.steps.Trap.TheVariants as trap
use Rattle.kt_tree.specs.declared.expr.Part.{Part}
use Rattle.kt_tree.specs.declared.expr.Part.TheVariants as part
use Rattle.kt_tree.specs.declared.expr.Request.{Request}
use Rattle.kt_tree.specs.declared.expr.Request.TheVariants as request
use Rattle.kt_meaning.specs.Requests.{byte_of}
use Rattle.kt_code.specs.Machine.{Here, changed_by}

-- the piece that a part of a format writes for its operand, where it takes that
abbrev pub operand_piece : Part → Value → Option Piece
operand_piece part.Number (Num n) = Some (piece.Number n)
operand_piece part.Byte (Num n) = Some (piece.Byte (byte_of n))
operand_piece part.Text v = Some (piece.TextAt v)
operand_piece _ v = None

-- the act of a request that takes no operand
abbrev pub act_without : ℕ → Request → Result Act Trap
act_without f request.GetChar = Ok act.GetChar
act_without f (request.Point n) = Ok (act.Point n)
act_without f request.IsUpdating = Ok (act.UpdatingTest None)
act_without f (request.IsUpdatingFrom n) = Ok (act.UpdatingTest (Some n))
act_without f request.Automigrate = Ok act.Automigrate
act_without f (request.MigrateLocal n) = Ok (act.MigrateLocal f n)
act_without f _ = Err trap.Uninit

-- of one that takes a number
abbrev pub act_of_number : Request → ℤ → Result Act Trap
act_of_number (request.Allocate e zeros) n = Ok (act.Allocate e n zeros)
act_of_number request.PutChar n = Ok (act.Print (piece.Byte (byte_of n) ∷ []))
act_of_number request.Join n = Ok (act.Join n)
act_of_number _ n = Err trap.Uninit

abbrev pub at_number : Request → Value → Result Act Trap
at_number q (Num n) = act_of_number q n
at_number q v = Err trap.Uninit

-- of one that takes one operand
abbrev pub act_with : Request → Value → Result Act Trap
act_with request.Release v = Ok (act.Release v)
act_with request.Lock v = Ok (act.Lock v)
act_with request.Unlock v = Ok (act.Unlock v)
act_with request.InitMutex v = Ok (act.InitMutex v)
act_with request.Puts v = Ok (act.Print (piece.TextAt v ∷ piece.Bytes (10 ∷ []) ∷ []))
act_with (request.Create g) v = Ok (act.Create g v)
act_with q v = at_number q v

-- what the act of a request changes in the thread itself
abbrev pub changed_for : Request → Here → Here
changed_for (request.Point n) x = changed_by (act.Point n) x
changed_for (request.MigrateLocal n) x = changed_by (act.MigrateLocal x.function n) x
changed_for _ x = x
