-- What the code's arguments are judged against.
use Rattle.std.specs.Prelude.{◌≡◌, ℕ, List, [], ◌∷◌, map, reverse, Option, Some, None, Result, Ok, Err}
use Rattle.std.specs.Global.{Vec}
use Rattle.kt_tree.specs.declared.expr.Expr.{Expr}
use Rattle.kt_tree.specs.Tree.{Expression, Expressions, NoMore, More, expression_of}
use Rattle.kt_names.specs.declared.fault.CheckFault.{CheckFault}
use Rattle.kt_names.specs.declared.fault.CheckFault.TheVariants.{BadType, NoMemory}
use Rattle.kt_terms.specs.declared.argument.Argument.{Argument as ArgumentCode}
use Rattle.kt_terms.specs.declared.argument.Wanted.{Wanted}
use Rattle.kt_terms.specs.declared.argument.Wanted.TheVariants.{Parameter, Piece}
use Rattle.kt_names.specs.declared.format.Conversion.{Conversion}
use Rattle.kt_names.specs.declared.format.Conversion.TheVariants.{Plain, Decimal, LongDecimal, Byte, Text}
use Rattle.kt_names.specs.Checked.{Checked, fault, and_then, both}
use Rattle.kt_names.specs.Environment.{Environment}
use Rattle.kt_names.specs.Operands.{Operand, convert}
use Rattle.kt_names.specs.Builtins.{Argument, takes}
use Rattle.kt_names.specs.Judges.{Judges}
use Rattle.kt_names.specs.Views.{operand_of, expressions_of}

-- arguments as typing has them
abbrev pub TypedArguments : Type 0
TypedArguments = List Argument

-- an argument that begins where the code's does
abbrev pub argument_at : ArgumentCode → Checked Operand → Argument
argument_at x s = record { at = x.at; typed = s }

-- whatever the argument is judged against, the answer is judged against what typing makes of that
abbrev pub JudgesArgument : {Y B : Type 0} → ArgumentCode → (Y → B) → Result Y CheckFault → (Argument → Checked B) → Type 0
JudgesArgument x whole y f = (s : Checked Operand) → Judges operand_of x.typed s → Judges whole y (f (argument_at x s))

abbrev pub JudgesTwo : {Y B : Type 0} → ArgumentCode → ArgumentCode → (Y → B) → Result Y CheckFault → (Argument → Argument → Checked B) → Type 0
JudgesTwo x y whole r f = (s t : Checked Operand) → Judges operand_of x.typed s → Judges operand_of y.typed t → Judges whole r (f (argument_at x s) (argument_at y t))

-- each argument begins where typing has it, and is judged against it
abbrev pub AreJudged : List ArgumentCode → List Argument → Type 0
AreJudged [] [] = Unit {0}
AreJudged [] (s ∷ rest) = ⊥
AreJudged (x ∷ xs) [] = ⊥
AreJudged (x ∷ xs) (s ∷ rest) = (s ≡ argument_at x s.typed) × Judges operand_of x.typed s.typed × AreJudged xs rest

-- all arguments are judged, or there was no memory
abbrev pub JudgesAll : Result (List ArgumentCode) CheckFault → List Argument → Type 0
JudgesAll (Ok xs) rest = AreJudged xs rest
JudgesAll (Err f) rest = f ≡ NoMemory

-- ---- what calls want of their arguments

-- an argument as what a parameter or a piece of a format wants
abbrev pub wanted_value : Environment → ℕ → Wanted → Argument → Checked Expression
wanted_value env up (Parameter t) x = and_then x.typed (convert env t x.at up)
wanted_value env up (Piece c) x = and_then (takes env up c x) (λ v. Ok v.expression)

-- as many arguments as are wanted
abbrev pub all_wanted : Environment → ℕ → List Wanted → List Argument → Checked Expressions
all_wanted env up [] [] = Ok NoMore
all_wanted env up (w ∷ ws) (x ∷ rest) = and_then (both (wanted_value env up w x) (all_wanted env up ws rest)) (λ y. Ok (More y.0 y.1))
all_wanted env up [] (x ∷ rest) = fault (BadType up)
all_wanted env up (w ∷ ws) [] = fault (BadType up)

-- the last argument before those that are judged
abbrev pub with_wanted : Environment → ℕ → Option Wanted → Argument → Checked Expressions → Checked Expressions
with_wanted env up None x rest = fault (BadType up)
with_wanted env up (Some w) x rest = and_then (both (wanted_value env up w x) rest) (λ y. Ok (More y.0 y.1))

-- what is behind all arguments, where this is wanted behind them
abbrev pub none_left : ℕ → Option Wanted → Checked Expressions
none_left up None = Ok NoMore
none_left up (Some w) = fault (BadType up)

-- the pieces of a format that take an argument
abbrev pub wanted_by : List Conversion → List Wanted
wanted_by [] = []
wanted_by (Plain b ∷ cs) = wanted_by cs
wanted_by (Decimal ∷ cs) = Piece Decimal ∷ wanted_by cs
wanted_by (LongDecimal ∷ cs) = Piece LongDecimal ∷ wanted_by cs
wanted_by (Byte ∷ cs) = Piece Byte ∷ wanted_by cs
wanted_by (Text ∷ cs) = Piece Text ∷ wanted_by cs

-- operands of which the last comes first
abbrev pub last_first : Vec Expr → Expressions
last_first es = expressions_of (map expression_of (reverse es.items))

abbrev pub in_order : List Expr → Expressions
in_order es = expressions_of (map expression_of es)
