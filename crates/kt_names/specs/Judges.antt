-- What code answers against what typing gives.
use Rattle.std.specs.Prelude.{◌≡◌, ◌⊎◌, Bool, true, false, Result, Ok, Err, if◌then◌else◌}
use Rattle.kt_names.specs.declared.fault.CheckFault.{CheckFault}
use Rattle.kt_names.specs.declared.fault.CheckFault.TheVariants.{Unknown, Twice, BadType, Incomplete, TooBig, Entry, Note, NoMain, NoMemory}
use Rattle.kt_names.specs.Checked.{Checked, and_then, first, is_before}

-- the fault is the first that typing gives, or there was no memory
abbrev pub Fails : {Y : Type 0} → CheckFault → Checked Y → Type 0
Fails f spec = (f ≡ NoMemory) ⊎ (first spec ≡ Err f)

-- what code answers is what typing gives, seen by this view, or the first of its faults; or there was no memory
abbrev pub Judges : {X Y : Type 0} → (X → Y) → Result X CheckFault → Checked Y → Type 0
Judges view (Ok x) spec = spec ≡ Ok (view x)
Judges view (Err f) spec = Fails f spec

-- whatever part the one answer is judged against, the other is judged against what follows that part
abbrev pub JudgesAfter : {X Y A B : Type 0} → (X → A) → Result X CheckFault → (Y → B) → Result Y CheckFault → (A → Checked B) → Type 0
JudgesAfter {A = A} part x whole y k = (s : Checked A) → Judges part x s → Judges whole y (and_then s k)

abbrev pub is_memory : CheckFault → Bool
is_memory NoMemory = true
is_memory (Unknown at) = false
is_memory (Twice at) = false
is_memory (BadType at) = false
is_memory (Incomplete at) = false
is_memory (TooBig at) = false
is_memory (Entry at) = false
is_memory (Note at) = false
is_memory (NoMain at) = false

-- want of memory, or else the earlier of two faults
abbrev pub earlier : CheckFault → CheckFault → CheckFault
earlier f g = if is_memory f then f else (if is_memory g then g else (if is_before g f then g else f))

-- the answer to two parts that are judged both
abbrev pub both_of : {A B : Type 0} → Result A CheckFault → Result B CheckFault → Result (A × B) CheckFault
both_of (Ok x) (Ok y) = Ok (x, y)
both_of (Ok x) (Err g) = Err g
both_of (Err f) (Ok y) = Err f
both_of (Err f) (Err g) = Err (earlier f g)
