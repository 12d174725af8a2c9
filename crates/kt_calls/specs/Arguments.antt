-- The arguments of a call that were judged, and the values that they are.
use Rattle.std.specs.Prelude.{ℕ, ◌==◌, List, [], ◌∷◌, ◌++◌, map, Option, Some, None, Result, Ok, Err, if◌then◌else◌}
use Rattle.std.specs.Global.{Vec}
use Rattle.kt_grammar.specs.declared.tree.Name.{Name}
use Rattle.kt_typing.specs.declared.fault.Fault.{Fault}
use Rattle.kt_typing.specs.Forms.{Form, Parts}
use Rattle.kt_typing.specs.Operands.{Operand, Value}
use Rattle.kt_typing.specs.Environment.{Environment}
use Rattle.kt_typing.specs.Calls.{Row, Asks, Allocates, AllocatesZeros, Prints, Begins, Reaches, AsksFrom, Keeps, behind_word, with_entry}
use Rattle.kt_operands.specs.declared.refusal.Refusal.{Refusal}
use Rattle.kt_operands.specs.declared.refusal.Refusal.TheVariants as refusal
use Rattle.kt_operands.specs.declared.operand.Operand.{Operand as OperandCode}
use Rattle.kt_operands.specs.declared.operand.Value.{Value as ValueCode}
use Rattle.kt_operands.specs.Views.{operand_of, value_of}
use Rattle.kt_operators.specs.Judged.{Judges, JudgesParts, sooner}

abbrev pub operands_of : Vec OperandCode → List Operand
operands_of xs = map operand_of xs.items

abbrev pub values_of : Vec ValueCode → List Value
values_of vs = map value_of vs.items

-- whatever parts these arguments were judged from, the form of those parts is judged so
abbrev pub AfterAll : Result (Vec OperandCode) Refusal → (Parts → Form) → Result OperandCode Refusal → Type 0
AfterAll arguments form r = (ps : Parts) → JudgesParts operands_of ps arguments → Judges operand_of (form ps) r

-- an answer, beside what is wrong in any case
abbrev pub despite : Option Fault → Result OperandCode Refusal → Result OperandCode Refusal
despite None r = r
despite (Some f) (Ok x) = Err (refusal.Fault f)
despite (Some f) (Err e) = Err (sooner (refusal.Fault f) e)

-- one argument, or two

abbrev pub only : {A : Type 0} → List A → Option A
only (x ∷ []) = Some x
only _ = None

abbrev pub two : {A : Type 0} → List A → Option (A × A)
two (x ∷ y ∷ []) = Some (x, y)
two _ = None

abbrev pub pair_of : OperandCode × OperandCode → Operand × Operand
pair_of p = (operand_of p.0, operand_of p.1)

-- values before others, if there are those
abbrev pub joined : {A : Type 0} → List A → Option (List A) → Option (List A)
joined xs None = None
joined xs (Some ys) = Some (xs ++ ys)

-- the parts of a call that its arguments are judged from: a word is none, and the name where a thread begins is one of its own
abbrev pub row_parts : Environment → ℕ → Option (List ℕ) → Option Name → Parts → Row → Parts
row_parts env count text name parts (Asks arguments r t) = parts
row_parts env count text name parts Allocates = parts
row_parts env count text name parts AllocatesZeros = parts
row_parts env count text name parts Prints = if count == 0 then parts else behind_word text parts
row_parts env count text name parts Begins = with_entry env name parts
row_parts env count text name parts Reaches = behind_word text parts
row_parts env count text name parts AsksFrom = behind_word text parts
row_parts env count text name parts Keeps = behind_word name parts
