-- What is told of an expression that stands as a statement.
use Rattle.std.specs.Prelude.{◌≡◌, Some}
use Rattle.kt_grammar.specs.Tree.{Term}
use Rattle.kt_typing.specs.declared.fault.Fault.{Fault}
use Rattle.kt_typing.specs.Environment.{Environment}
use Rattle.kt_typing.specs.Faults.{IsFirst}
use Rattle.kt_typing.specs.Forms.{typed, IsFault}
use Rattle.kt_typing.specs.Operands.{Operand}
use Rattle.kt_typing.specs.Terms.{effect}

-- its first fault is this one
abbrev pub IsRefused : Environment → Term × Fault → Type 0
IsRefused env row = IsFirst (IsFault (effect env row.0)) row.1

-- it has a type
abbrev pub IsAccepted : Environment → Term → Type 0
IsAccepted env e = (x : Operand) × (typed (effect env e) ≡ Some x)
