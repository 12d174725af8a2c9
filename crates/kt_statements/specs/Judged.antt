-- What the code's answers say, against the judgments of statements.
use Rattle.std.specs.Prelude.{◌≡◌, List, [], ◌++◌, map, Option, Some, None, Result, Ok, Err}
use Rattle.std.specs.Option.{option_map}
use Rattle.kt_tree.specs.declared.expr.Expr.{Expr}
use Rattle.kt_tree.specs.declared.stmt.Stmt.{Stmt}
use Rattle.kt_tree.specs.Tree.{expression_of, statement_of}
use Rattle.kt_typing.specs.declared.fault.Fault.{Fault}
use Rattle.kt_typing.specs.First.{earlier_of}
use Rattle.kt_program.specs.Made.{Made, Value, Lines, all_lines}
use Rattle.kt_program.specs.Judgments.{Judgment, Judgments, made, all_made, first_wrong, first_among}

-- what comes of what is judged, or its first fault
abbrev pub Judges : {X : Type 0} → (X → Made) → Judgment → Result X Fault → Type 0
Judges view j (Ok x) = made j ≡ Some (view x)
Judges view j (Err f) = first_wrong j ≡ Some f

-- what comes of all that are judged, or their first fault
abbrev pub JudgesAll : {X : Type 0} → (X → List Made) → Judgments → Result X Fault → Type 0
JudgesAll view js (Ok x) = all_made js ≡ Some (view x)
JudgesAll view js (Err f) = first_among js ≡ Some f

-- the statements that come of all that are judged, one behind another, or their first fault
abbrev pub JudgesLines : Judgments → Result (List Stmt) Fault → Type 0
JudgesLines js (Ok xs) = option_map all_lines (all_made js) ≡ Some (map statement_of xs)
JudgesLines js (Err f) = first_among js ≡ Some f

-- ---- what answers hold

abbrev pub tree_made : Expr → Made
tree_made e = Value (expression_of e)

-- a test or a step that may be missing
abbrev pub option_made : Option Expr → Made
option_made None = Lines []
option_made (Some e) = Value (expression_of e)

abbrev pub lines_made : List Stmt → Made
lines_made xs = Lines (map statement_of xs)

-- a parameter gives no statements
abbrev pub nothing_made : Unit {0} → Made
nothing_made u = Lines []

-- ---- answers put together

-- the answer for two parts that are judged both
abbrev pub both_of : {A B : Type 0} → Result A Fault → Result B Fault → Result (A × B) Fault
both_of (Ok x) (Ok y) = Ok (x, y)
both_of (Ok x) (Err g) = Err g
both_of (Err f) (Ok y) = Err f
both_of (Err f) (Err g) = Err (earlier_of f g)

-- statements behind others, which may have faults both
abbrev pub appended_of : Result (List Stmt) Fault → Result (List Stmt) Fault → Result (List Stmt) Fault
appended_of (Ok xs) (Ok ys) = Ok (xs ++ ys)
appended_of (Ok xs) (Err g) = Err g
appended_of (Err f) (Ok ys) = Err f
appended_of (Err f) (Err g) = Err (earlier_of f g)

-- the answer under a condition, of which the fault is given where it is broken
abbrev pub under_of : {A : Type 0} → Option Fault → Result A Fault → Result A Fault
under_of None r = r
under_of (Some f) (Ok x) = Err f
under_of (Some f) (Err g) = Err (earlier_of f g)
