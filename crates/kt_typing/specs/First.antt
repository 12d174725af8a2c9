-- The first fault of an expression, found part by part.
use Rattle.std.specs.Prelude.{List, Option, Some, None, Result, Ok, Err, if◌then◌else◌}
use Rattle.kt_typing.specs.declared.fault.Fault.{Fault}
use Rattle.kt_typing.specs.Faults.{is_before}
use Rattle.kt_typing.specs.Forms.{Form, Ruled, Parts, NoPart, Part, typed, operands}
use Rattle.kt_typing.specs.Operands.{Operand}

abbrev pub earlier_of : Fault → Fault → Fault
earlier_of f g = if is_before g f then g else f

-- the earlier of two faults, of which each may be missing
abbrev pub earlier : Option Fault → Option Fault → Option Fault
earlier None g = g
earlier (Some f) None = Some f
earlier (Some f) (Some g) = Some (earlier_of f g)

abbrev pub misuse : (Operand → Option Fault) → Option Operand → Option Fault
misuse wrong None = None
misuse wrong (Some x) = wrong x

abbrev pub err_of : Result Operand Fault → Option Fault
err_of (Ok x) = None
err_of (Err f) = Some f

abbrev pub breach : (List Operand → Result Operand Fault) → Option (List Operand) → Option Fault
breach rule None = None
breach rule (Some xs) = err_of (rule xs)

abbrev mutual
  pub first_fault : Form → Option Fault
  first_fault (Ruled always parts rule) = earlier always (earlier (first_of_parts parts) (breach rule (operands parts)))

  pub first_of_parts : Parts → Option Fault
  first_of_parts NoPart = None
  first_of_parts (Part wrong e rest) = earlier (first_fault e) (earlier (misuse wrong (typed e)) (first_of_parts rest))
