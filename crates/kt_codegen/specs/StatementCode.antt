-- The instructions of a statement. Where `continue` and `break` go is told by how many instructions lie between the
-- statement's end and that place.
use Rattle.std.specs.Prelude.{ℕ, suc, ◌+◌, List, [], ◌∷◌, ◌++◌, length, Option, None, Some}
use Rattle.kt_types.specs.Table.{Table}
use Rattle.kt_tree.specs.Tree.{Expression, Statement, Evaluated, Undefined, Compound, Conditional, Looped, Repeated, Returned, Broken, Continued, Statements, Done, Then, Function}
use Rattle.kt_code.specs.declared.instr.Instr.{Instr}
use Rattle.kt_code.specs.declared.instr.Instr.TheVariants as instr
use Rattle.kt_genexpr.specs.ExpressionCode.{expression_code}

-- ---- parts

-- an expression whose value is dropped (ISO/IEC 9899:2011, 6.8.3)
abbrev pub dropped_code : Table → List Function → Expression → List Instr
dropped_code types functions e = expression_code types functions e ++ instr.Discard ∷ []

-- the step of a loop
abbrev pub step_code : Table → List Function → Option Expression → List Instr
step_code types functions None = []
step_code types functions (Some e) = dropped_code types functions e

-- `if`: at zero the second statement, else the first (6.8.4.1)
abbrev pub choice_code : List Instr → List Instr → List Instr → List Instr
choice_code test first second =
    test ++ (instr.SkipIfZero (suc (length first)) ∷ (first ++ (instr.Skip (length second) ∷ second)))

-- one turn of a loop: the tick, the body, what stands behind it, and the jump back to the tick
abbrev pub turn_code : List Instr → List Instr → (ℕ → Instr) → List Instr
turn_code body behind back = instr.Tick ∷ (body ++ (behind ++ back (suc (suc (length body + length behind))) ∷ []))

-- a loop without a test, and one that begins with its test, behind the body and the step (6.8.5)
abbrev pub loop_code : Table → List Function → Option Expression → List Instr → List Instr → List Instr
loop_code types functions None step body = turn_code body step (λ n. instr.Back n)
loop_code types functions (Some e) step body =
    instr.Skip (suc (length body + length step)) ∷ turn_code body (step ++ expression_code types functions e) (λ n. instr.BackIfNotZero n)

-- how many instructions lie between the end of a loop's body and the end of the loop
abbrev pub behind_body : Table → List Function → Option Expression → Option Expression → ℕ
behind_body types functions None step = suc (length (step_code types functions step))
behind_body types functions (Some e) step = suc (length (step_code types functions step ++ expression_code types functions e))

abbrev pub return_code : Table → List Function → Option Expression → List Instr
return_code types functions None = instr.Leave ∷ []
return_code types functions (Some e) = expression_code types functions e ++ instr.Return ∷ []

-- ---- statements

abbrev mutual
  pub statement_code : Table → List Function → ℕ → ℕ → Statement → List Instr
  statement_code types functions next out (Evaluated e) = dropped_code types functions e
  statement_code types functions next out (Undefined n) = instr.Undefine n ∷ []
  statement_code types functions next out (Compound block) = statements_code types functions next out block
  statement_code types functions next out (Conditional c a b) =
      choice_code (expression_code types functions c)
      (statement_code types functions (suc (length (statement_code types functions next out b) + next)) (suc (length (statement_code types functions next out b) + out)) a)
      (statement_code types functions next out b)
  statement_code types functions next out (Looped test step body) =
      loop_code types functions test (step_code types functions step) (statement_code types functions 0 (behind_body types functions test step) body)
  statement_code types functions next out (Repeated body c) =
      turn_code (statement_code types functions 0 (suc (length (expression_code types functions c))) body) (expression_code types functions c) (λ n. instr.BackIfNotZero n)
  statement_code types functions next out (Returned e) = return_code types functions e
  statement_code types functions next out Broken = instr.Skip out ∷ []
  statement_code types functions next out Continued = instr.Skip next ∷ []

  -- statements, one after another
  pub statements_code : Table → List Function → ℕ → ℕ → Statements → List Instr
  statements_code types functions next out Done = []
  statements_code types functions next out (Then a rest) =
      statement_code types functions (length (statements_code types functions next out rest) + next) (length (statements_code types functions next out rest) + out) a
      ++ statements_code types functions next out rest
