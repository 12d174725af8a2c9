-- Each cell is kept, and read back, as it is.
use Rattle.std.proofs.Common.{◌≡◌, refl}
use Rattle.kt_types.specs.declared.kinds.Ty.{Ty}
use Rattle.kt_types.specs.declared.kinds.Ty.TheVariants as ty
use Rattle.kt_mem.specs.declared.memory.Name.TheVariants.{Glob, Lit, Heap}
use Rattle.kt_mem.specs.declared.memory.Value.{Value}
use Rattle.kt_mem.specs.declared.memory.Value.TheVariants.{Num, Null, Ptr, Free, Held, Undef}
use Rattle.kt_mem.specs.Kept.{content_of, kept_as}

pub content_of-kept_as : (t : Ty) (v : Value) → content_of (kept_as t v) ≡ record { ty = t; value = v }
content_of-kept_as ty.Char v = refl
content_of-kept_as ty.Int v = refl
content_of-kept_as ty.Long v = refl
content_of-kept_as ty.Mutex v = refl
content_of-kept_as (ty.Struct i) v = refl
content_of-kept_as (ty.Ptr u) v = refl
content_of-kept_as (ty.Array e n) (Num z) = refl
content_of-kept_as (ty.Array e n) Null = refl
content_of-kept_as (ty.Array e n) (Ptr (Glob i) k) = refl
content_of-kept_as (ty.Array e n) (Ptr (Lit v i) k) = refl
content_of-kept_as (ty.Array e n) (Ptr (Heap a) k) = refl
content_of-kept_as (ty.Array e n) Free = refl
content_of-kept_as (ty.Array e n) (Held w) = refl
content_of-kept_as (ty.Array e n) Undef = refl
