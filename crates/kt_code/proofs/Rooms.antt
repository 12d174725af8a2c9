-- The places behind instructions are below 2^32.
use Rattle.std.specs.Prelude.{◌≡◌, ℕ, suc, ◌<◌, ◌^◌, List, length, slice_get, Some}
use Rattle.std.proofs.Common.{arith}
use Rattle.std.proofs.lemmas.Option.{slice_get_within}
use Rattle.kt_code.specs.Settling.{IsJump, HasJumps, HasPlaces, HasRoom}
use Rattle.kt_code.specs.declared.instr.Instr.{Instr}
use Rattle.kt_code.specs.declared.instr.Instr.TheVariants as instr

room-of : (instrs : List Instr) (at : ℕ) (i : Instr) → at < length instrs → length instrs < 2 ^ 32 → IsJump instrs (suc at) i → HasRoom at i
room-of instrs at (instr.Skip n) within few h = omega arith
room-of instrs at (instr.SkipIfZero n) within few h = omega arith
room-of instrs at (instr.And n) within few h = omega arith
room-of instrs at (instr.Or n) within few h = omega arith
room-of instrs at i within few h = omega arith

-- an instruction that is there has room behind it, and behind its jump
pub has-room : (instrs : List Instr) (at : ℕ) (i : Instr) → HasJumps instrs → HasPlaces instrs → slice_get instrs at ≡ Some i → HasRoom at i
has-room instrs at i jumps places is = room-of instrs at i (slice_get_within instrs at i is) places (jumps at i is)
