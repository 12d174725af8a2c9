-- The arguments of a call, judged from the last to the first, and which of them are judged.
use Rattle.std.specs.Prelude.{ℕ, Bool, false, List, map, reverse, drop, get_or, Option, Some, None, if◌then◌else◌}
use Rattle.std.specs.Option.{is_some}
use Rattle.std.specs.Global.{Vec}
use Rattle.kt_grammar.specs.declared.tree.Name.{Name}
use Rattle.kt_grammar.specs.Tree.{Term, Terms, terms_of}
use Rattle.kt_typing.specs.declared.builtin.Builtin.{Builtin}
use Rattle.kt_typing.specs.declared.standing.Use.{Use}
use Rattle.kt_typing.specs.declared.standing.Use.TheVariants as use_as
use Rattle.kt_typing.specs.Operands.{Operand}
use Rattle.kt_typing.specs.Environment.{Environment}
use Rattle.kt_typing.specs.Forms.{Parts}
use Rattle.kt_typing.specs.Calls.{Row, Asks, Allocates, AllocatesZeros, Prints, Begins, Reaches, AsksFrom, Keeps, row, uses_of}
use Rattle.kt_typing.specs.Terms.{argument_count, argument_uses, first_text, first_name, parts}
use Rattle.kt_operands.specs.declared.operand.Operand.{Operand as OperandCode}
use Rattle.kt_operands.specs.Views.{operand_of}
use Rattle.kt_calls.specs.Arguments.{row_parts}

-- operands that stand from the last to the first
abbrev pub turned_operands : Vec OperandCode → List Operand
turned_operands xs = map operand_of (reverse xs.items)

-- what the argument of a number is used as
abbrev pub use_at : List Use → ℕ → Use
use_at us i = get_or us i use_as.Value

-- the call takes its first argument as it is written: a string, or a name
abbrev pub takes_word : Row → Option (List ℕ) → Option Name → Bool
takes_word Prints text name = is_some text
takes_word Reaches text name = is_some text
takes_word AsksFrom text name = is_some text
takes_word Begins text name = is_some name
takes_word Keeps text name = is_some name
takes_word Allocates text name = false
takes_word AllocatesZeros text name = false
takes_word (Asks arguments r t) text name = false

-- how many arguments at the front are no expressions
abbrev pub words : Option Builtin → Option (List ℕ) → Option Name → ℕ
words None text name = 0
words (Some b) text name = if takes_word (row b) text name then 1 else 0

abbrev pub words_of : Option Builtin → Terms → ℕ
words_of call args = words call (first_text args) (first_name args)

-- the arguments behind so many, as parts of the call
abbrev pub parts_behind : Environment → Option Builtin → ℕ → List Term → Parts
parts_behind env call n args = parts env (drop n (argument_uses call)) (terms_of (drop n args))

-- the parts that a built-in call of these arguments is judged from
abbrev pub parts_of_call : Environment → Builtin → Terms → Parts
parts_of_call env b args = row_parts env (argument_count args) (first_text args) (first_name args) (parts env (uses_of b) args) (row b)
