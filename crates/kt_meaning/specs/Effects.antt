-- What an act of a thread does to memory, input and output, and the reply that it gets (ISO/IEC 9899:2011, 7.21, 7.22.3).
-- What acts do to the threads and to updates is the world's: creating and joining threads, points, automigrate, and ends.
use Rattle.std.specs.Prelude.{ℕ, pos, negsuc, ◌+◌, nat_lt, List, [], ◌∷◌, ◌++◌, length, drop, Option, None, Some, Result, Ok, Err, if◌then◌else◌}
use Rattle.std.specs.Fmt.{signed_decimal}
use Rattle.kt_types.specs.declared.kinds.Ty.TheVariants as ty
use Rattle.kt_types.specs.Table.{Table}
use Rattle.kt_types.specs.Layout.{cells}
use Rattle.kt_mem.specs.Memory.{Cell}
use Rattle.kt_mem.specs.declared.memory.Value.{Value}
use Rattle.kt_mem.specs.declared.memory.Value.TheVariants.{Num, Null, Ptr}
use Rattle.kt_mem.specs.declared.steps.Act.{Act}
use Rattle.kt_mem.specs.declared.steps.Act.TheVariants as act
use Rattle.kt_mem.specs.declared.steps.Piece.{Piece}
use Rattle.kt_mem.specs.declared.steps.Piece.TheVariants as piece
use Rattle.kt_mem.specs.declared.steps.Reply.{Reply}
use Rattle.kt_mem.specs.declared.steps.Reply.TheVariants.{Done, Got, Trapped}
use Rattle.kt_mem.specs.declared.steps.Trap.{Trap}
use Rattle.kt_mem.specs.declared.steps.Trap.TheVariants as trap
use Rattle.kt_mem.specs.Values.{int_eq, ty_eq}
use Rattle.kt_mem.specs.Memory.{Memory, Object, load, store, lock, unlock, init_mutex, waits, alloc, next_pointer, release}
use Rattle.kt_meaning.specs.Requests.{byte_of}

-- memory, the rest of the input, and what was written
pub record Shared : Type 0 where
  pub memory : Memory
  pub input : List ℕ
  pub output : List ℕ

-- the reply, and what the act leaves; or the thread waits; or the act is one on threads or updates
pub data Outcome : Type 0 where
  Replies : Reply → Shared → Outcome
  Waits : Outcome
  Elsewhere : Outcome

-- ---- texts

abbrev pub followed : List ℕ → Result (List ℕ) Trap → Result (List ℕ) Trap
followed bytes (Ok rest) = Ok (bytes ++ rest)
followed bytes (Err t) = Err t

-- the bytes of a text, where a cell has this value and the next ones the rest: they end before a zero
abbrev pub text_with : Value → Result (List ℕ) Trap → Result (List ℕ) Trap
text_with (Num z) rest = if int_eq z (pos 0) then Ok [] else followed (byte_of z ∷ []) rest
text_with _ rest = Err trap.Uninit

-- the text in these cells
abbrev pub text_of : List Cell → Result (List ℕ) Trap
text_of [] = Err trap.Bounds
text_of (c ∷ cs) = if ty_eq c.ty ty.Char then text_with c.value (text_of cs) else Err trap.Bounds

abbrev pub text_in : Option Object → ℕ → Result (List ℕ) Trap
text_in None k = Err trap.Dead
text_in (Some o) k = text_of (drop k o.cells)

-- the text at a pointer, with the traps of loads of its cells: `null`, `dead`, `bounds`, `uninit`
abbrev pub text_at : Memory → Value → Result (List ℕ) Trap
text_at m Null = Err trap.Null
text_at m (Ptr n k) = text_in (m.at n) k
text_at m _ = Err trap.Dead

abbrev pub piece_text : Memory → Piece → Result (List ℕ) Trap
piece_text m (piece.Bytes bytes) = Ok bytes
piece_text m (piece.Number n) = Ok (signed_decimal n)
piece_text m (piece.Byte b) = Ok (b ∷ [])
piece_text m (piece.TextAt p) = text_at m p

abbrev pub and_rest : Result (List ℕ) Trap → Result (List ℕ) Trap → Result (List ℕ) Trap
and_rest (Ok bytes) rest = followed bytes rest
and_rest (Err t) rest = Err t

-- the pieces in order: the first trap is that of the whole
abbrev pub pieces_text : Memory → List Piece → Result (List ℕ) Trap
pieces_text m [] = Ok []
pieces_text m (p ∷ ps) = and_rest (piece_text m p) (pieces_text m ps)

-- ---- outcomes

abbrev pub traps_with : Trap → Shared → Outcome
traps_with t s = Replies (Trapped t) s

abbrev pub with_memory : Shared → Memory → Shared
with_memory s m = record s { memory = m }

-- a value that is read
abbrev pub reads : Shared → Result Value Trap → Outcome
reads s (Ok v) = Replies (Got v) s
reads s (Err t) = traps_with t s

-- a memory that is left
abbrev pub leaves : Shared → Result Memory Trap → Outcome
leaves s (Ok m) = Replies Done (with_memory s m)
leaves s (Err t) = traps_with t s

-- a memory with a new object, whose pointer is given
abbrev pub makes : Shared → Result Memory Trap → Outcome
makes s (Ok m) = Replies (Got (next_pointer s.memory)) (with_memory s m)
makes s (Err t) = traps_with t s

-- the next byte, or -1 at the end of the input (7.21.7.6)
abbrev pub next_byte : Shared → List ℕ → Outcome
next_byte s [] = Replies (Got (Num (negsuc 0))) s
next_byte s (b ∷ rest) = Replies (Got (Num (pos b))) (record s { input = rest })

-- at most 16,777,216 bytes are written in all
abbrev pub writes : Shared → Result (List ℕ) Trap → Outcome
writes s (Ok bytes) =
    if nat_lt 16777216 (length s.output + length bytes) then traps_with trap.Output s
    else Replies (Got (Num (pos (length bytes)))) (record s { output = s.output ++ bytes })
writes s (Err t) = traps_with t s

-- what an act of this thread does, where the table has the types of its version
abbrev pub effect : Table → ℕ → Act → Shared → Outcome
effect types thread act.Tick s = Replies Done s
effect types thread (act.Load p t) s = reads s (load s.memory p t)
effect types thread (act.Store p t v) s = leaves s (store s.memory p t v)
effect types thread (act.Allocate e n zeros) s = makes s (alloc s.memory e (cells types e) n zeros)
effect types thread (act.Release p) s = leaves s (release s.memory p)
effect types thread (act.Lock p) s = if waits s.memory thread p then Waits else leaves s (lock s.memory thread p)
effect types thread (act.Unlock p) s = leaves s (unlock s.memory thread p)
effect types thread (act.InitMutex p) s = leaves s (init_mutex s.memory p)
effect types thread act.GetChar s = next_byte s s.input
effect types thread (act.Print ps) s = writes s (pieces_text s.memory ps)
effect types thread (act.MigrateLocal f n) s = Replies Done s
effect types thread (act.UpdatingTest n) s = Replies Done s
effect types thread (act.Wait p) s = Elsewhere
effect types thread (act.Signal p all) s = Elsewhere
effect types thread (act.Create f v) s = Elsewhere
effect types thread (act.Join n) s = Elsewhere
effect types thread (act.Point n) s = Elsewhere
effect types thread act.Automigrate s = Elsewhere
effect types thread act.ThreadEnd s = Elsewhere
effect types thread (act.MainReturn n) s = Elsewhere
