-- Each jump of the code of statements and functions stays within the code that it stands in, and each jump back goes to a tick.
use Rattle.std.proofs.Common.{◌≡◌, ℕ, suc, ◌+◌, ◌-◌, ◌≤◌, Bool, true, false, List, [], ◌∷◌, ◌++◌, length, Option, None, Some, ap, ◌∙◌, arith, length-append}
use Rattle.std.specs.Prelude.{slice_get}
use Rattle.kt_types.specs.Table.{Table}
use Rattle.kt_tree.specs.Tree.{Expression, Statement, Evaluated, Undefined, Compound, Conditional, Looped, Repeated, Returned, Broken, Continued, Statements, Done, Then, Function}
use Rattle.kt_meaning.specs.TreeSteps.{is_main}
use Rattle.kt_code.specs.Settling.{IsJump}
use Rattle.kt_code.specs.declared.instr.Instr.{Instr}
use Rattle.kt_code.specs.declared.instr.Instr.TheVariants as instr
use Rattle.kt_genexpr.specs.ExpressionCode.{expression_code}
use Rattle.kt_genexpr.specs.Generates.{HasAt}
use Rattle.kt_genexpr.proofs.ExpressionJumps.{one-more-length, AreJumps, jumps-append, jumps-one, jumps-around, expression-jumps}
use Rattle.kt_genexpr.proofs.Places.{has-front, has-back}
use Rattle.kt_codegen.specs.StatementCode.{dropped_code, step_code, turn_code, statement_code, statements_code}
use Rattle.kt_codegen.specs.VersionCode.{end_code, function_code, functions_code}
use Rattle.kt_codegen.proofs.Places.{around, turn, turn-length, choice-length}

module _ (instrs : List Instr) (types : Table) (functions : List Function) where
  abbrev code_of : Expression → List Instr
  code_of e = expression_code types functions e

  dropped-jumps : (e : Expression) (p : ℕ) → p + length (dropped_code types functions e) ≤ length instrs → AreJumps instrs p (dropped_code types functions e)
  dropped-jumps e p h =
      jumps-one instrs p (code_of e) instr.Discard (expression-jumps instrs types functions e p (omega (arith, one-more-length (code_of e) instr.Discard))) tt

  step-jumps : (e : Option Expression) (p : ℕ) → p + length (step_code types functions e) ≤ length instrs → AreJumps instrs p (step_code types functions e)
  step-jumps None p h = tt
  step-jumps (Some e) p h = dropped-jumps e p h

  -- a turn of a loop, by its body, what stands behind it, and the jump back
  turn-jumps : (body behind : List Instr) (back : ℕ → Instr) (p : ℕ) → HasAt instrs p (turn_code body behind back) → AreJumps instrs (suc p) body → AreJumps instrs (suc p + length body) behind →
      ((next n : ℕ) → n ≤ next → slice_get instrs (next - n) ≡ Some instr.Tick → IsJump instrs next (back n)) → AreJumps instrs p (turn_code body behind back)
  turn-jumps body behind back p h inside after is_jump =
      let n = suc (suc (length body + length behind)) in
      let z = suc p + length body + length behind in
      let home : suc z - n ≡ p = omega arith in
      let parts = turn instrs p body behind back h in (
        tt,
        jumps-append instrs (suc p) body (behind ++ back n ∷ []) inside
            (jumps-one instrs (suc p + length body) behind (back n) after
            (is_jump (suc z) n (omega arith) (ap (slice_get instrs) home ∙ parts.tick))),
      )

  mutual
    statement-jumps : (a : Statement) (next out p : ℕ) → HasAt instrs p (statement_code types functions next out a) → p + length (statement_code types functions next out a) + next ≤ length instrs →
        p + length (statement_code types functions next out a) + out ≤ length instrs → AreJumps instrs p (statement_code types functions next out a)
    statement-jumps (Evaluated e) next out p h k l = dropped-jumps e p (omega arith)
    statement-jumps (Undefined n) next out p h k l = (tt, tt)
    statement-jumps (Compound block) next out p h k l = block-jumps block next out p h k l
    statement-jumps (Conditional test a b) next out p h k l =
        let second = statement_code types functions next out b in
        let first = statement_code types functions (suc (length second + next)) (suc (length second + out)) a in
        let long = choice-length (code_of test) first second in
        let q = p + length (code_of test) in
        let outer = around instrs p (code_of test) (instr.SkipIfZero (suc (length first))) (first ++ (instr.Skip (length second) ∷ second)) h in
        let inner = around instrs (suc q) first (instr.Skip (length second)) second outer.back in
        jumps-around instrs p (code_of test) (instr.SkipIfZero (suc (length first))) (first ++ (instr.Skip (length second) ∷ second)) (expression-jumps instrs types functions test p (omega arith)) (omega arith)
        (jumps-around instrs (suc q) first (instr.Skip (length second)) second
        (statement-jumps a (suc (length second + next)) (suc (length second + out)) (suc q) inner.front (omega arith) (omega arith)) (omega arith)
        (statement-jumps b next out (suc (suc q + length first)) inner.back (omega arith) (omega arith)))
    statement-jumps (Looped None e body) next out p h k l =
        let step = step_code types functions e in
        let inside = statement_code types functions 0 (suc (length step)) body in
        let long = turn-length inside step (λ i. instr.Back i) in
        let parts = turn instrs p inside step (λ i. instr.Back i) h in
        turn-jumps inside step (λ i. instr.Back i) p h (statement-jumps body 0 (suc (length step)) (suc p) parts.inside (omega arith) (omega arith))
        (step-jumps e (suc p + length inside) (omega arith)) (λ after n le tick. (le, tick))
    statement-jumps (Looped (Some test) e body) next out p h k l =
        let step = step_code types functions e in
        let behind = step ++ code_of test in
        let inside = statement_code types functions 0 (suc (length behind)) body in
        let long = turn-length inside behind (λ i. instr.BackIfNotZero i) in
        let long' = length-append step (code_of test) in
        let parts = turn instrs (suc p) inside behind (λ i. instr.BackIfNotZero i) (h.1) in (
          omega arith,
          turn-jumps inside behind (λ i. instr.BackIfNotZero i) (suc p) (h.1) (statement-jumps body 0 (suc (length behind)) (suc (suc p)) parts.inside (omega arith) (omega arith))
              (jumps-append instrs (suc (suc p) + length inside) step (code_of test) (step-jumps e (suc (suc p) + length inside) (omega arith))
              (expression-jumps instrs types functions test (suc (suc p) + length inside + length step) (omega arith))) (λ after n le tick. (le, tick)),
        )
    statement-jumps (Repeated body test) next out p h k l =
        let inside = statement_code types functions 0 (suc (length (code_of test))) body in
        let long = turn-length inside (code_of test) (λ i. instr.BackIfNotZero i) in
        let parts = turn instrs p inside (code_of test) (λ i. instr.BackIfNotZero i) h in
        turn-jumps inside (code_of test) (λ i. instr.BackIfNotZero i) p h (statement-jumps body 0 (suc (length (code_of test))) (suc p) parts.inside (omega arith) (omega arith))
        (expression-jumps instrs types functions test (suc p + length inside) (omega arith)) (λ after n le tick. (le, tick))
    statement-jumps (Returned None) next out p h k l = (tt, tt)
    statement-jumps (Returned (Some e)) next out p h k l =
        jumps-one instrs p (code_of e) instr.Return (expression-jumps instrs types functions e p (omega (arith, one-more-length (code_of e) instr.Return))) tt
    statement-jumps Broken next out p h k l = (omega arith, tt)
    statement-jumps Continued next out p h k l = (omega arith, tt)

    block-jumps : (block : Statements) (next out p : ℕ) → HasAt instrs p (statements_code types functions next out block) → p + length (statements_code types functions next out block) + next ≤ length instrs →
        p + length (statements_code types functions next out block) + out ≤ length instrs → AreJumps instrs p (statements_code types functions next out block)
    block-jumps Done next out p h k l = tt
    block-jumps (Then a rest) next out p h k l =
        let back = statements_code types functions next out rest in
        let front = statement_code types functions (length back + next) (length back + out) a in
        let long = length-append front back in
        jumps-append instrs p front back
        (statement-jumps a (length back + next) (length back + out) p (has-front instrs p front back h) (omega arith) (omega arith))
        (block-jumps rest next out (p + length front) (has-back instrs p front back h) (omega arith) (omega arith))

  -- ---- functions

  end-jumps : (b : Bool) (r : Option ℕ) (p : ℕ) → AreJumps instrs p (end_code b r)
  end-jumps true r p = (tt, (tt, tt))
  end-jumps false None p = (tt, tt)
  end-jumps false (Some t) p = (tt, tt)

  function-jumps : (f : Function) (p : ℕ) → HasAt instrs p (function_code types functions f) → p + length (function_code types functions f) ≤ length instrs →
      AreJumps instrs p (function_code types functions f)
  function-jumps f p h k =
      let body = statement_code types functions 0 0 f.body in
      let end = end_code (is_main f) f.result in
      let long = length-append body end in
      jumps-append instrs p body end (statement-jumps f.body 0 0 p (has-front instrs p body end h) (omega arith) (omega arith))
      (end-jumps (is_main f) f.result (p + length body))

  pub functions-jumps : (fs : List Function) (p : ℕ) → HasAt instrs p (functions_code types functions fs) → p + length (functions_code types functions fs) ≤ length instrs →
      AreJumps instrs p (functions_code types functions fs)
  functions-jumps [] p h k = tt
  functions-jumps (f ∷ fs) p h k =
      let front = function_code types functions f in
      let back = functions_code types functions fs in
      let long = length-append front back in
      jumps-append instrs p front back (function-jumps f p (has-front instrs p front back h) (omega arith))
      (functions-jumps fs (p + length front) (has-back instrs p front back h) (omega arith))
