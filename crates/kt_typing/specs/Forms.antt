-- What has a type and what is faulty, said once for all expressions: an expression is its parts, what is wrong with each as what
-- it is used as, and a rule of its own.
use Rattle.std.specs.Prelude.{◌≡◌, ◌⊎◌, List, [], ◌∷◌, Option, Some, None, Result, Ok, Err}
use Rattle.kt_typing.specs.declared.fault.Fault.{Fault}
use Rattle.kt_typing.specs.Operands.{Operand}

mutual
  pub data Form : Type 0 where
    -- what is wrong whatever its parts are, its parts, and what it is by them, or what is wrong then
    Ruled : Option Fault → Parts → (List Operand → Result Operand Fault) → Form

  pub data Parts : Type 0 where
    NoPart : Parts
    -- what is wrong with the part as what it is used as, where it has a type
    Part : (Operand → Option Fault) → Form → Parts → Parts

abbrev pub ok_of : Result Operand Fault → Option Operand
ok_of (Ok x) = Some x
ok_of (Err f) = None

-- an operand, unless something is wrong with it
abbrev pub unless : Option Fault → Operand → Option Operand
unless None x = Some x
unless (Some f) x = None

-- a part that has a type, as what it is used as
abbrev pub fitting : (Operand → Option Fault) → Option Operand → Option Operand
fitting wrong None = None
fitting wrong (Some x) = unless (wrong x) x

abbrev pub both_there : Option Operand → Option (List Operand) → Option (List Operand)
both_there (Some x) (Some xs) = Some (x ∷ xs)
both_there _ _ = None

abbrev pub by_rule : Option Fault → (List Operand → Result Operand Fault) → Option (List Operand) → Option Operand
by_rule None rule (Some xs) = ok_of (rule xs)
by_rule _ rule _ = None

-- what an expression is, where it has a type
abbrev mutual
  pub typed : Form → Option Operand
  typed (Ruled always parts rule) = by_rule always rule (operands parts)

  -- what the parts are, where each has a type and is used as what it is
  pub operands : Parts → Option (List Operand)
  operands NoPart = Some []
  operands (Part wrong e rest) = both_there (fitting wrong (typed e)) (operands rest)

-- a part that has a type is used as what it is not
abbrev pub IsMisused : (Operand → Option Fault) → Option Operand → Fault → Type 0
IsMisused wrong None f = ⊥
IsMisused wrong (Some x) f = wrong x ≡ Some f

-- all parts have types, and the rule of the expression is broken
abbrev pub IsBroken : (List Operand → Result Operand Fault) → Option (List Operand) → Fault → Type 0
IsBroken rule None f = ⊥
IsBroken rule (Some xs) f = rule xs ≡ Err f

-- the faults of an expression: what is wrong whatever its parts are, the faults of its parts, and its own
abbrev mutual
  pub IsFault : Form → Fault → Type 0
  IsFault (Ruled always parts rule) f = (always ≡ Some f) ⊎ (IsPartFault parts f ⊎ IsBroken rule (operands parts) f)

  pub IsPartFault : Parts → Fault → Type 0
  IsPartFault NoPart f = ⊥
  IsPartFault (Part wrong e rest) f = IsFault e f ⊎ (IsMisused wrong (typed e) f ⊎ IsPartFault rest f)
