-- A text is read by loads of its cells.
use Rattle.std.proofs.Common.{◌≡◌, ℕ, zero, suc, true, false, Bool, cond, List, [], ◌∷◌, drop, slice_get, Option, Some, None, Result, Ok, Err, refl}
use Rattle.kt_types.specs.declared.kinds.Ty.TheVariants as ty
use Rattle.kt_mem.specs.Memory.{Cell}
use Rattle.kt_mem.specs.declared.memory.Value.{Value}
use Rattle.kt_mem.specs.declared.memory.Value.TheVariants.{Num, Null, Ptr, Free, Held, Undef}
use Rattle.kt_mem.specs.declared.steps.Trap.{Trap}
use Rattle.kt_mem.specs.declared.steps.Trap.TheVariants as trap
use Rattle.kt_mem.specs.Values.{ty_eq, defined}
use Rattle.kt_mem.specs.Memory.{Object, value_in, cell_value, and_then}
use Rattle.kt_meaning.specs.Effects.{text_with, text_of, text_in}
use Rattle.kt_meaning.specs.Laws.{loaded_text, TextsAreLoads}

of-value : (v : Value) (rest : Result (List ℕ) Trap) → text_with v rest ≡ loaded_text (defined v) rest
of-value (Num z) rest = refl
of-value Null rest = refl
of-value (Ptr n k) rest = refl
of-value Free rest = refl
of-value (Held n) rest = refl
of-value Undef rest = refl

of-cell : (b : Bool) (v : Value) (rest : Result (List ℕ) Trap) →
    cond b (text_with v rest) (Err trap.Bounds) ≡ loaded_text (and_then (cond b (Ok v) (Err trap.Bounds)) defined) rest
of-cell true v rest = of-value v rest
of-cell false v rest = refl

of-cells : (cs : List Cell) (k : ℕ) → text_of (drop k cs) ≡ loaded_text (and_then (cell_value (slice_get cs k) ty.Char) defined) (text_of (drop (suc k) cs))
of-cells [] zero = refl
of-cells [] (suc k) = refl
of-cells (c ∷ cs) zero = of-cell (ty_eq c.ty ty.Char) c.value (text_of cs)
of-cells (c ∷ cs) (suc k) = of-cells cs k

of-object : (o : Option Object) (k : ℕ) → text_in o k ≡ loaded_text (and_then (value_in o k ty.Char) defined) (text_in o (suc k))
of-object None k = refl
of-object (Some o) k = of-cells o.cells k

pub texts-are-loads : TextsAreLoads
texts-are-loads m n k = of-object (m.at n) k
