-- Values as they are kept, with one tag each.
use Rattle.std.specs.Prelude.{◌≡◌, refl}
use Rattle.kt_mem.specs.declared.memory.Name.TheVariants.{Glob, Lit, Heap}
use Rattle.kt_mem.specs.declared.memory.Value.{Value}
use Rattle.kt_mem.specs.declared.memory.Value.TheVariants.{Num, Null, Ptr, Free, Held, Undef}
use Rattle.kt_mem.specs.declared.stored.Form.{Form}
use Rattle.kt_mem.specs.declared.stored.Form.TheVariants as form

-- the value that is kept
abbrev pub value_of : Form → Value
value_of (form.Num z) = Num z
value_of form.Null = Null
value_of (form.Glob k i) = Ptr (Glob i) k
value_of (form.Lit k v i) = Ptr (Lit v i) k
value_of (form.Heap k a) = Ptr (Heap a) k
value_of form.Free = Free
value_of (form.Held w) = Held w
value_of form.Undef = Undef

-- a value as it is kept
abbrev pub form_of : Value → Form
form_of (Num z) = form.Num z
form_of Null = form.Null
form_of (Ptr (Glob i) k) = form.Glob k i
form_of (Ptr (Lit v i) k) = form.Lit k v i
form_of (Ptr (Heap a) k) = form.Heap k a
form_of Free = form.Free
form_of (Held w) = form.Held w
form_of Undef = form.Undef

-- each form is that of one value
pub form_of-value_of : (s : Form) → form_of (value_of s) ≡ s
form_of-value_of (form.Num z) = refl
form_of-value_of form.Null = refl
form_of-value_of (form.Glob k i) = refl
form_of-value_of (form.Lit k v i) = refl
form_of-value_of (form.Heap k a) = refl
form_of-value_of form.Free = refl
form_of-value_of (form.Held w) = refl
form_of-value_of form.Undef = refl
