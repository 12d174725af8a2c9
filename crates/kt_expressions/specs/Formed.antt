-- What the code's answers say of operators whose operands were judged.
use Rattle.std.specs.Prelude.{ℕ, Result}
use Rattle.kt_typing.specs.declared.fault.Fault.{Fault}
use Rattle.kt_typing.specs.declared.standing.Use.{Use}
use Rattle.kt_typing.specs.Environment.{Environment}
use Rattle.kt_typing.specs.Forms.{Form}
use Rattle.kt_typing.specs.Operands.{Operand}
use Rattle.kt_typing.specs.Rules.{wrong}
use Rattle.kt_typing.specs.Terms.{of_one, of_two, of_three}
use Rattle.kt_operands.specs.declared.refusal.Refusal.{Refusal}
use Rattle.kt_operands.specs.declared.operand.Operand.{Operand as OperandCode}
use Rattle.kt_operands.specs.Views.{operand_of}
use Rattle.kt_operators.specs.Judged.{Judges, JudgesPart}

-- whatever expression was judged so, as a part that is used so it is judged so
abbrev pub OfPart : Environment → Use → Result OperandCode Refusal → Result OperandCode Refusal → Type 0
OfPart env u x r = (a : Form) → Judges operand_of a x → JudgesPart operand_of (wrong env u) a r

-- whatever expressions were judged so, the operator of them with the rule is judged so

abbrev pub OfOne : Environment → ℕ → Use → (Operand → Result Operand Fault) → Result OperandCode Refusal → Result OperandCode Refusal → Type 0
OfOne env at u rule x r = (a : Form) → Judges operand_of a x → Judges operand_of (of_one env at u a rule) r

abbrev pub OfTwo : Environment → ℕ → Use → Use → (Operand → Operand → Result Operand Fault) → Result OperandCode Refusal → Result OperandCode Refusal → Result OperandCode Refusal → Type 0
OfTwo env at u v rule x y r = (a b : Form) → Judges operand_of a x → Judges operand_of b y → Judges operand_of (of_two env at u a v b rule) r

abbrev pub OfThree : Environment → ℕ → Use → (Operand → Operand → Operand → Result Operand Fault) → Result OperandCode Refusal → Result OperandCode Refusal → Result OperandCode Refusal → Result OperandCode Refusal → Type 0
OfThree env at u rule x y z r =
    (a b c : Form) → Judges operand_of a x → Judges operand_of b y → Judges operand_of c z → Judges operand_of (of_three env at u a b c rule) r
