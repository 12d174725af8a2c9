-- What acts on memory, input and output touch, as the machine keeps it: the heap, the rest of the input, the output.
use Rattle.std.specs.Prelude.{◌≡◌, ℕ, true, List, [], ◌∷◌, Option, None, Some, Result, Ok, Err}
use Rattle.std.specs.List.{AllByRecursion}
use Rattle.std.specs.Option.{is_some}
use Rattle.kt_types.specs.declared.kinds.Ty.TheVariants as ty
use Rattle.kt_types.specs.Layout.{layout}
use Rattle.kt_types.specs.Table.{Table}
use Rattle.kt_mem.specs.declared.memory.Name.TheVariants.{Lit}
use Rattle.kt_mem.specs.declared.steps.Act.{Act}
use Rattle.kt_mem.specs.declared.memory.Value.{Value}
use Rattle.kt_mem.specs.declared.memory.Value.TheVariants.{Num}
use Rattle.kt_mem.specs.declared.steps.Act.TheVariants as act
use Rattle.kt_mem.specs.declared.steps.Reply.{Reply}
use Rattle.kt_mem.specs.declared.steps.Reply.TheVariants.{Done, Got, Trapped}
use Rattle.kt_mem.specs.declared.steps.Trap.{Trap}
use Rattle.kt_mem.specs.Memory.{Memory, Object}
use Rattle.kt_heap.specs.Heap as heap
use Rattle.kt_mem.specs.Renaming.{Pairs}
use Rattle.kt_heap.specs.ByNumber.{by_number}
use Rattle.kt_exec.specs.Renaming.{ReplyIn}
use Rattle.kt_meaning.specs.Effects as plain
use Rattle.kt_machine.specs.ByNumber.{reply_by}
use Rattle.kt_machine.specs.declared.effects.Outcome.{Outcome}
use Rattle.kt_machine.specs.declared.effects.Outcome.TheVariants as outcome

pub record Outside : Type 0 where
  pub heap : heap.State
  pub input : List ℕ
  pub output : List ℕ

-- each address that was given out, and the heap number of its object
abbrev pub pairs_in : Outside → Pairs
pairs_in o = heap.given o.heap

-- as the meaning has it: by heap number
abbrev pub shown : Outside → plain.Shared
shown o = record { memory = by_number (pairs_in o) (heap.memory o.heap); input = o.input; output = o.output }

-- a literal is a list of `char`
abbrev pub HasCharLiterals : Memory → Type 0
HasCharLiterals m = (v i : ℕ) (o : Object) → m.at (Lit v i) ≡ Some o → AllByRecursion (λ c. c.ty ≡ ty.Char) o.cells

-- what an act allocates has a complete type
abbrev pub IsComplete : Table → Act → Type 0
IsComplete types (act.Allocate e n zeros) = is_some (layout types e) ≡ true
IsComplete types _ = Unit {0}

-- the outcome by heap number, which leaves this
abbrev pub outcome_of : Pairs → Outcome → plain.Shared → plain.Outcome
outcome_of pairs (outcome.Replies r) s = plain.Replies (reply_by pairs r) s
outcome_of pairs outcome.Waits s = plain.Waits
outcome_of pairs outcome.Elsewhere s = plain.Elsewhere

-- the heap name in a reply is among these
abbrev pub OutcomeIn : (ℕ → Type 0) → Outcome → Type 0
OutcomeIn P (outcome.Replies r) = ReplyIn P r
OutcomeIn P outcome.Waits = Unit {0}
OutcomeIn P outcome.Elsewhere = Unit {0}

-- a kept value is a number
abbrev pub IsNumber : Option Value → Type 0
IsNumber None = Unit {0}
IsNumber (Some (Num z)) = Unit {0}
IsNumber _ = ⊥

abbrev pub AreNumbers : List (Option Value) → Type 0
AreNumbers [] = Unit {0}
AreNumbers (k ∷ kept) = IsNumber k × AreNumbers kept

-- ---- acts on memory

-- each literal stays as it is
abbrev pub KeepsLiterals : Memory → Memory → Type 0
KeepsLiterals old new = (v i : ℕ) → new.at (Lit v i) ≡ old.at (Lit v i)

-- the memory that an act leaves, or its trap
abbrev pub left_by : {A : Type 0} → Result A Trap → Memory → Result Memory Trap
left_by (Ok x) m = Ok m
left_by (Err t) m = Err t

-- the reply to an act that gives no value
abbrev pub done : {A : Type 0} → Result A Trap → Reply
done (Ok x) = Done
done (Err t) = Trapped t

-- the reply to an act that gives a value
abbrev pub given : Result Value Trap → Reply
given (Ok v) = Got v
given (Err t) = Trapped t
