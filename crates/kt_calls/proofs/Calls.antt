-- A call by its rule, beside what is wrong in any case.
use Rattle.std.proofs.Common.{◌≡◌, ◌+◌, ◌==◌, ℕ, Bool, true, false, if◌then◌else◌, List, Option, Some, None, Result, Ok, Err, refl, ap, subst, sym}
use Rattle.std.proofs.lemmas.Bool.Decides.{Decides-eqb}
use Rattle.std.specs.Global.{Vec}
use Rattle.kt_typing.specs.declared.fault.Fault.{Fault}
use Rattle.kt_grammar.specs.declared.tree.Name.{Name}
use Rattle.kt_typing.specs.declared.builtin.Builtin.{Builtin}
use Rattle.kt_typing.specs.declared.format.Conversion.{Conversion}
use Rattle.kt_typing.specs.Calls.{miscounted, written, plain_values, printed, print_form, format_in, behind_word, row, row_called}
use Rattle.kt_typing.specs.Environment.{Environment}
use Rattle.kt_typing.specs.Faults.{bad_type}
use Rattle.kt_typing.specs.First.{earlier}
use Rattle.kt_typing.specs.Formats.{taken_by}
use Rattle.kt_typing.specs.Forms.{Ruled, Parts}
use Rattle.kt_typing.specs.Operands.{Operand}
use Rattle.kt_typing.proofs.Exact.{typed-none}
use Rattle.kt_operands.specs.declared.refusal.Refusal.{Refusal}
use Rattle.kt_operands.specs.declared.refusal.Refusal.TheVariants as refusal
use Rattle.kt_operands.specs.declared.operand.Operand.{Operand as OperandCode}
use Rattle.kt_operands.specs.Views.{operand_of}
use Rattle.kt_operators.specs.Judged.{Judges, JudgesParts}
use Rattle.kt_calls.specs.Arguments.{despite, operands_of, row_parts}

pub despite-judged : (always : Option Fault) (ps : Parts) (rule : List Operand → Result Operand Fault) (r : Result OperandCode Refusal)
    → Judges operand_of (Ruled None ps rule) r → Judges operand_of (Ruled always ps rule) (despite always r)
despite-judged None ps rule r h = h
despite-judged (Some f) ps rule (Ok x) h = ap (earlier (Some f)) (typed-none (Ruled None ps rule) (operand_of x) h)
despite-judged (Some f) ps rule (Err refusal.NoMemory) h = tt
despite-judged (Some f) ps rule (Err (refusal.Fault g)) h = ap (earlier (Some f)) h

-- `printf`

module _ (env : Environment) (at count : ℕ) (r : Result OperandCode Refusal) where
  pub printed-judged : (ps : Parts) (o : Option (List Conversion)) (cs ds : List Conversion) (n : ℕ) → Some cs ≡ o → ds ≡ cs → n ≡ 1 + taken_by cs
      → Judges operand_of (Ruled (miscounted at n count) ps (λ xs. written env at ds (plain_values env.scope xs))) r → Judges operand_of (printed env at count ps o) r
  printed-judged ps o cs ds n i j k h =
      subst (λ (o : Option (List Conversion)). Judges operand_of (printed env at count ps o) r) i
      (subst (λ (m : ℕ). Judges operand_of (Ruled (miscounted at m count) ps (λ xs. written env at cs (plain_values env.scope xs))) r) k
      (subst (λ (es : List Conversion). Judges operand_of (Ruled (miscounted at n count) ps (λ xs. written env at es (plain_values env.scope xs))) r) j h))

  module _ (text : Option (List ℕ)) (ps : Parts) (arguments : Result (Vec OperandCode) Refusal) where
    -- without an argument
    pub print-nothing : count ≡ 0 → JudgesParts operands_of (if count == 0 then ps else behind_word text ps) arguments
        → ((qs : Parts) → JudgesParts operands_of qs arguments → Judges operand_of (Ruled (Some (bad_type at)) qs (λ xs. Err (bad_type at))) r) → Judges operand_of (print_form env at count text ps) r
    print-nothing e h by = let k : (count == 0) ≡ true = (Decides-eqb count 0).1 e in rw k (by ps (rw k at h))

    -- with a first one
    pub print-some : (count ≡ 0 → ⊥) → JudgesParts operands_of (if count == 0 then ps else behind_word text ps) arguments
        → ((qs : Parts) → JudgesParts operands_of qs arguments → Judges operand_of (printed env at count qs (format_in text)) r) → Judges operand_of (print_form env at count text ps) r
    print-some other h by = cases (count == 0) refl
      where
        cases : (b : Bool) → (count == 0) ≡ b → Judges operand_of (print_form env at count text ps) r
        cases true k = absurd (other ((Decides-eqb count 0).0 k))
        cases false k = rw k (by (behind_word text ps) (rw k at h))

-- a built-in call, by its row

pub called-by : (env : Environment) (at count : ℕ) (text : Option (List ℕ)) (name : Option Name) (arguments : Result (Vec OperandCode) Refusal) (r : Result OperandCode Refusal) (b d : Builtin) → b ≡ d
    → ((ps : Parts) → JudgesParts operands_of (row_parts env count text name ps (row d)) arguments → Judges operand_of (row_called env at count text name ps (row d)) r)
    → (ps : Parts) → JudgesParts operands_of (row_parts env count text name ps (row b)) arguments → Judges operand_of (row_called env at count text name ps (row b)) r
called-by env at count text name arguments r b d is h ps =
    subst (λ (e : Builtin). JudgesParts operands_of (row_parts env count text name ps (row e)) arguments → Judges operand_of (row_called env at count text name ps (row e)) r) (sym is) (h ps)
