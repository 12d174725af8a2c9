-- What the code's answers for expressions and their parts say, against the definition of typing.
use Rattle.std.specs.Prelude.{◌≡◌, ℕ, List, Option, Some, None, Result, Ok, Err}
use Rattle.kt_typing.specs.declared.fault.Fault.{Fault}
use Rattle.kt_typing.specs.First.{earlier_of, earlier, misuse, first_fault, first_of_parts}
use Rattle.kt_typing.specs.Forms.{Form, Ruled, Parts, NoPart, Part, typed, operands, fitting}
use Rattle.kt_typing.specs.Operands.{Operand}
use Rattle.kt_typing.specs.Terms.{on_one, on_two, on_three}
use Rattle.kt_operands.specs.declared.refusal.Refusal.{Refusal}
use Rattle.kt_operands.specs.declared.refusal.Refusal.TheVariants as refusal

-- what an expression is, or its first fault
abbrev pub Judges : {X : Type 0} → (X → Operand) → Form → Result X Refusal → Type 0
Judges view e (Ok x) = typed e ≡ Some (view x)
Judges view e (Err (refusal.Fault f)) = first_fault e ≡ Some f
Judges view e (Err refusal.NoMemory) = Unit {0}

-- what a part is, used as what it is used as, or its first fault
abbrev pub JudgesPart : {X : Type 0} → (X → Operand) → (Operand → Option Fault) → Form → Result X Refusal → Type 0
JudgesPart view wrong e (Ok x) = fitting wrong (typed e) ≡ Some (view x)
JudgesPart view wrong e (Err (refusal.Fault f)) = earlier (first_fault e) (misuse wrong (typed e)) ≡ Some f
JudgesPart view wrong e (Err refusal.NoMemory) = Unit {0}

-- what all parts are, or their first fault
abbrev pub JudgesParts : {X : Type 0} → (X → List Operand) → Parts → Result X Refusal → Type 0
JudgesParts view ps (Ok xs) = operands ps ≡ Some (view xs)
JudgesParts view ps (Err (refusal.Fault f)) = first_of_parts ps ≡ Some f
JudgesParts view ps (Err refusal.NoMemory) = Unit {0}

-- an operand, unless it is used as what it is not
abbrev pub used : Option Fault → Operand → Result Operand Fault
used None x = Ok x
used (Some f) x = Err f

-- of two refusals want of memory, or else the earlier fault
abbrev pub sooner : Refusal → Refusal → Refusal
sooner refusal.NoMemory e = refusal.NoMemory
sooner (refusal.Fault f) refusal.NoMemory = refusal.NoMemory
sooner (refusal.Fault f) (refusal.Fault g) = refusal.Fault (earlier_of f g)

-- the answer for two parts that are judged both
abbrev pub both_of : {A B : Type 0} → Result A Refusal → Result B Refusal → Result (A × B) Refusal
both_of (Ok x) (Ok y) = Ok (x, y)
both_of (Ok x) (Err g) = Err g
both_of (Err f) (Ok y) = Err f
both_of (Err f) (Err g) = Err (sooner f g)

-- whatever the parts are that were answered so, the form of them and of the rule is judged so

abbrev pub AfterOne : {X : Type 0} → (X → Operand) → ℕ → Result X Refusal → (Operand → Result Operand Fault) → Result X Refusal → Type 0
AfterOne view at x rule r = (w : Operand → Option Fault) (a : Form) → JudgesPart view w a x → Judges view (Ruled None (Part w a NoPart) (on_one at rule)) r

abbrev pub AfterTwo : {X : Type 0} → (X → Operand) → ℕ → Result X Refusal → Result X Refusal → (Operand → Operand → Result Operand Fault) → Result X Refusal → Type 0
AfterTwo view at x y rule r =
    (w v : Operand → Option Fault) (a b : Form) → JudgesPart view w a x → JudgesPart view v b y → Judges view (Ruled None (Part w a (Part v b NoPart)) (on_two at rule)) r

abbrev pub AfterThree : {X : Type 0} → (X → Operand) → ℕ → Result X Refusal → Result X Refusal → Result X Refusal → (Operand → Operand → Operand → Result Operand Fault) → Result X Refusal → Type 0
AfterThree view at x y z rule r =
    (w : Operand → Option Fault) (a b c : Form) → JudgesPart view w a x → JudgesPart view w b y → JudgesPart view w c z
    → Judges view (Ruled None (Part w a (Part w b (Part w c NoPart))) (on_three at rule)) r
