-- Cells as they are kept.
use Rattle.std.specs.Prelude.{◌≡◌, refl}
use Rattle.kt_types.specs.declared.kinds.Ty.{Ty}
use Rattle.kt_types.specs.declared.kinds.Ty.TheVariants as ty
use Rattle.kt_mem.specs.declared.memory.Name.TheVariants.{Glob, Lit, Heap}
use Rattle.kt_mem.specs.declared.memory.Value.{Value}
use Rattle.kt_mem.specs.declared.memory.Value.TheVariants.{Num, Null, Ptr, Free, Held, Undef}
use Rattle.kt_mem.specs.declared.cell.Kept.{Kept}
use Rattle.kt_mem.specs.declared.cell.Kept.TheVariants as kept
use Rattle.kt_mem.specs.Memory.{Cell}

-- the cell that is kept
abbrev pub content_of : Kept → Cell
content_of (kept.Char s) = record { ty = ty.Char; value = s }
content_of (kept.Int s) = record { ty = ty.Int; value = s }
content_of (kept.Long s) = record { ty = ty.Long; value = s }
content_of (kept.Mutex s) = record { ty = ty.Mutex; value = s }
content_of (kept.Struct i s) = record { ty = ty.Struct i; value = s }
content_of (kept.Ptr u s) = record { ty = ty.Ptr u; value = s }
content_of (kept.ArrayNum e n z) = record { ty = ty.Array e n; value = Num z }
content_of (kept.ArrayNull e n) = record { ty = ty.Array e n; value = Null }
content_of (kept.ArrayGlob e n k i) = record { ty = ty.Array e n; value = Ptr (Glob i) k }
content_of (kept.ArrayLit v e n k i) = record { ty = ty.Array e n; value = Ptr (Lit v i) k }
content_of (kept.ArrayHeap e n k a) = record { ty = ty.Array e n; value = Ptr (Heap a) k }
content_of (kept.ArrayFree e n) = record { ty = ty.Array e n; value = Free }
content_of (kept.ArrayHeld w e n) = record { ty = ty.Array e n; value = Held w }
content_of (kept.ArrayUndef e n) = record { ty = ty.Array e n; value = Undef }

-- a cell as it is kept, by its type and its value
abbrev pub kept_as : Ty → Value → Kept
kept_as ty.Char v = kept.Char v
kept_as ty.Int v = kept.Int v
kept_as ty.Long v = kept.Long v
kept_as ty.Mutex v = kept.Mutex v
kept_as (ty.Struct i) v = kept.Struct i v
kept_as (ty.Ptr u) v = kept.Ptr u v
kept_as (ty.Array e n) (Num z) = kept.ArrayNum e n z
kept_as (ty.Array e n) Null = kept.ArrayNull e n
kept_as (ty.Array e n) (Ptr (Glob i) k) = kept.ArrayGlob e n k i
kept_as (ty.Array e n) (Ptr (Lit v i) k) = kept.ArrayLit v e n k i
kept_as (ty.Array e n) (Ptr (Heap a) k) = kept.ArrayHeap e n k a
kept_as (ty.Array e n) Free = kept.ArrayFree e n
kept_as (ty.Array e n) (Held w) = kept.ArrayHeld w e n
kept_as (ty.Array e n) Undef = kept.ArrayUndef e n

abbrev pub kept_of : Cell → Kept
kept_of c = kept_as c.ty c.value

-- each way to keep a cell is the way of one cell
pub kept_of-content_of : (k : Kept) → kept_of (content_of k) ≡ k
kept_of-content_of (kept.Char s) = refl
kept_of-content_of (kept.Int s) = refl
kept_of-content_of (kept.Long s) = refl
kept_of-content_of (kept.Mutex s) = refl
kept_of-content_of (kept.Struct i s) = refl
kept_of-content_of (kept.Ptr u s) = refl
kept_of-content_of (kept.ArrayNum e n z) = refl
kept_of-content_of (kept.ArrayNull e n) = refl
kept_of-content_of (kept.ArrayGlob e n k i) = refl
kept_of-content_of (kept.ArrayLit v e n k i) = refl
kept_of-content_of (kept.ArrayHeap e n k a) = refl
kept_of-content_of (kept.ArrayFree e n) = refl
kept_of-content_of (kept.ArrayHeld w e n) = refl
kept_of-content_of (kept.ArrayUndef e n) = refl
