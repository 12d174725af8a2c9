-- The code of a statement does what the statement does, by induction on the statement.
use Rattle.std.proofs.Common.{◌≡◌, ℕ, suc, ◌+◌, ◌≤◌, ◌&&◌, Bool, true, List, [], ◌∷◌, ◌++◌, length, Option, None, Some, refl, ap, sym, subst, arith, length-append}
use Rattle.std.specs.Prelude.{slice_set}
use Rattle.std.specs.Option.{is_some}
use Rattle.std.proofs.lemmas.Bool.{and_parts}
use Rattle.kt_mem.specs.declared.memory.Value.{Value}
use Rattle.kt_mem.specs.declared.memory.Value.TheVariants.{Undef}
use Rattle.kt_mem.specs.Comparisons.{zero_test}
use Rattle.kt_tree.specs.Tree.{Expression, Statement, Evaluated, Undefined, Compound, Conditional, Looped, Repeated, Returned, Broken, Continued, Statements, Done, Then, Function}
use Rattle.kt_tree.specs.Typed.{kind, is_condition, all_of, fits, all_fit}
use Rattle.kt_tree.specs.Version.{scope_of}
use Rattle.kt_meaning.specs.Thread.{Work, Eval, Have, Wait, Do, Run, Branches, Loops, Returns, Context, to_loop, after_loop}
use Rattle.kt_meaning.specs.TreeSteps.{Version, goes as tree_goes}
use Rattle.kt_code.specs.AgreementLaws.{agree-left, agree-right, agree-both}
use Rattle.kt_code.specs.Code.{Code}
use Rattle.kt_code.specs.Looks.{tree_threads, code_threads}
use Rattle.kt_code.specs.Machine.{goes, passes}
use Rattle.kt_code.specs.declared.frame.Frame.{Frame}
use Rattle.kt_code.specs.declared.instr.Instr.{Instr}
use Rattle.kt_code.specs.declared.instr.Instr.TheVariants as instr
use Rattle.kt_genexpr.specs.Generates.{HasAt, beside, later, AgreeAt, DoesCallsUnder, ExpressionsDo}
use Rattle.kt_genexpr.proofs.Agreeing.{look-alike, there, moved}
use Rattle.kt_genexpr.proofs.Places.{has-front, has-back}
use Rattle.kt_codegen.specs.StatementCode.{choice_code, turn_code, return_code}
use Rattle.kt_codegen.specs.StatementActs.{GoesOn, DoesStatement, StatementsDo, end_of}
use Rattle.kt_codegen.proofs.Agreeing.{fewer-return, fewer-calls, test-agrees, value-returned, void-returned}
use Rattle.kt_codegen.proofs.Places.{around, turn, turn-length, choice-length}
use Rattle.kt_codegen.proofs.StatementTypes.{IsTyped, some-typed, condition-typed, step-typed, void-return, value-return}
use Rattle.kt_codegen.proofs.Codes.{code_of, step_of, statement_of, block_of}
use Rattle.kt_codegen.proofs.GoingOn.{fewer, work-moved, goes-moved, does-moved}
use Rattle.kt_codegen.proofs.Loops.{dropped-does, endless-turns, while-turns, repeat-turns}

module _ (s : Version) (c : Code) (expressions : ExpressionsDo s c) (f : Function) where
  -- one of two statements, by the value of a test
  choice-does : (test : Expression) → IsTyped (scope_of s.program f) test → (a b : Statement) (first second : List Instr) (p : ℕ) → HasAt c.instrs p (choice_code (code_of s test) first second) →
      (n : ℕ) → DoesCallsUnder s c n → (next out : ℕ) →
      (HasAt c.instrs (suc p + length (code_of s test)) first → (m : ℕ) → m ≤ n → DoesStatement s c f m a (suc p + length (code_of s test)) (suc p + length (code_of s test) + length first) next out) →
      (HasAt c.instrs (suc (suc p) + length (code_of s test) + length first) second → (m : ℕ) → m ≤ n →
      DoesStatement s c f m b (suc (suc p) + length (code_of s test) + length first) (p + length (choice_code (code_of s test) first second)) next out) →
      DoesStatement s c f n (Conditional test a b) p (p + length (choice_code (code_of s test) first second)) next out
  choice-does test tested a b first second p h n calls next out first_does second_does x w below ops on =
      let q = p + length (code_of s test) in
      let z = suc q + length first in
      let outer = around c.instrs p (code_of s test) (instr.SkipIfZero (suc (length first))) (first ++ (instr.Skip (length second) ∷ second)) h in
      let inner = around c.instrs (suc q) first (instr.Skip (length second)) second outer.back in
      let long = choice-length (code_of s test) first second in
      let end = p + length (choice_code (code_of s test) first second) in
      let at_first : suc p + length (code_of s test) ≡ suc q = omega arith in
      let at_second : suc (suc p) + length (code_of s test) + length first ≡ suc z = omega arith in
      let skipped : suc q + suc (length first) ≡ suc (suc p) + length (code_of s test) + length first = omega arith in
      let passed : suc z + length second ≡ end = omega arith in
      agree-left (tree_threads s) (code_threads c) n _ _ _ refl
      (expressions f test tested.kind_of tested.is p outer.front n calls x (Wait (Branches a b) ∷ w) below ops on.alike (λ m le locals r v.
      let y = later x locals r in
      let goes_on = fewer s c f m n x locals r w below ops end next out le on in
      test-agrees s c (zero_test v) m _ _ (tree_goes y (Do b ∷ w)) (tree_goes y (Do a ∷ w)) (goes (passes (suc (length first)) (beside s y below (suc q))) ops) (goes (beside s y below (suc q)) ops)
      (look-alike s c y (Have v ∷ Wait (Branches a b) ∷ w) below q (v ∷ ops) on.alike) refl
      (there s c y below q (v ∷ ops) (instr.SkipIfZero (suc (length first))) outer.middle)
      (λ d d'. agree-both (tree_threads s) (code_threads c) m _ _ _ _ d d' (moved s c m y (Do b ∷ w) below _ _ ops (sym skipped)
      (second_does (subst (λ i. HasAt c.instrs i second) (sym at_second) inner.back) m le y w below ops goes_on)))
      (λ d d'. agree-both (tree_threads s) (code_threads c) m _ _ _ _ d d' (moved s c m y (Do a ∷ w) below _ _ ops at_first
      (first_does (subst (λ i. HasAt c.instrs i first) (sym at_first) inner.front) m le y w below ops (record {
        function = on.function;
        alike = on.alike;
        returned = goes_on.returned;
        behind = λ i le' locals' r'. moved s c i (later x locals' r') w below _ _ ops (ap (λ k. k + length first) (sym at_first))
            (agree-right (tree_threads s) (code_threads c) i _ _ _ (there s c (later x locals' r') below z ops (instr.Skip (length second)) inner.middle)
            (moved s c i (later x locals' r') w below _ _ ops (sym passed) (goes_on.behind i le' locals' r')));
        continued = goes_on.continued;
        broken = goes_on.broken;
      }))))))

  return-does : (e : Option Expression) → fits (scope_of s.program f) f.result true (Returned e) ≡ true → (p : ℕ) → HasAt c.instrs p (return_code s.program.types s.program.functions e) →
      (n : ℕ) → DoesCallsUnder s c n → (to next out : ℕ) → DoesStatement s c f n (Returned e) p to next out
  return-does None fit p h n calls to next out x w below ops on =
      void-returned s c f n x (Do (Returned None) ∷ w) below p ops (void-return (scope_of s.program f) f.result fit) on.function on.alike on.returned refl
      (there s c x below p ops instr.Leave (h.0))
  return-does (Some e) fit p h n calls to next out x w below ops on =
      let given = value-return (scope_of s.program f) f.result e fit in
      let parts = around c.instrs p (code_of s e) instr.Return [] h in
      let q = p + length (code_of s e) in
      agree-left (tree_threads s) (code_threads c) n _ _ _ refl
      (expressions f e given.typed.kind_of given.typed.is p parts.front n calls x (Wait Returns ∷ w) below ops on.alike (λ m le locals r v.
      let y = later x locals r in
      value-returned s c f given.type m y (Have v ∷ Wait Returns ∷ w) v below q ops (v ∷ ops) given.result on.function on.alike
      (fewer-return s c m n x.below below ops le on.returned) refl (there s c y below q (v ∷ ops) instr.Return parts.middle)))

  -- ---- statements

  mutual
    statement-does : (in_loop : Bool) (a : Statement) → fits (scope_of s.program f) f.result in_loop a ≡ true → (next out p : ℕ) → HasAt c.instrs p (statement_of s next out a) →
        (n : ℕ) → DoesCallsUnder s c n → DoesStatement s c f n a p (end_of s next out a p) (end_of s next out a p + next) (end_of s next out a p + out)
    statement-does in_loop (Evaluated e) fit next out p h n calls x w below ops on =
        agree-left (tree_threads s) (code_threads c) n _ _ _ refl
        (dropped-does s c expressions f e (some-typed (scope_of s.program f) e fit) p h n calls x w below ops on.alike on.behind)
    statement-does in_loop (Undefined k) fit next out p h n calls x w below ops on =
        let end : suc p ≡ p + 1 = omega arith in
        agree-both (tree_threads s) (code_threads c) n _ _ _ _ refl (there s c x below p ops (instr.Undefine k) (h.0))
        (moved s c n (later x (slice_set x.locals k Undef) x.restart) w below _ _ ops (sym end) (on.behind n (omega arith) (slice_set x.locals k Undef) x.restart))
    statement-does in_loop (Compound block) fit next out p h n calls x w below ops on =
        agree-left (tree_threads s) (code_threads c) n _ _ _ refl (block-does in_loop block fit next out p h n calls x w below ops on)
    statement-does in_loop (Conditional test a b) fit next out p h n calls x w below ops on =
        let scope = scope_of s.program f in
        let both = and_parts (is_condition scope test && fits scope f.result in_loop a) (fits scope f.result in_loop b) fit in
        let first_fits = and_parts (is_condition scope test) (fits scope f.result in_loop a) (both.0) in
        let test_code = code_of s test in
        let second = statement_of s next out b in
        let first = statement_of s (suc (length second + next)) (suc (length second + out)) a in
        let end = p + length (choice_code test_code first second) in
        let long = choice-length test_code first second in
        let next_at : suc p + length test_code + length first + suc (length second + next) ≡ end + next = omega arith in
        let out_at : suc p + length test_code + length first + suc (length second + out) ≡ end + out = omega arith in
        let end_at : suc (suc p) + length test_code + length first + length second ≡ end = omega arith in
        choice-does test (condition-typed scope test (first_fits.0)) a b first second p h n calls (end + next) (end + out)
        (λ h' m le. does-moved s c f m a (suc p + length test_code) _ _ _ _ _ _ refl next_at out_at
        (statement-does in_loop a (first_fits.1) (suc (length second + next)) (suc (length second + out)) (suc p + length test_code) h' m (fewer-calls s c m n le calls)))
        (λ h' m le. does-moved s c f m b (suc (suc p) + length test_code + length first) _ _ _ _ _ _ end_at (ap (λ i. i + next) end_at) (ap (λ i. i + out) end_at)
        (statement-does in_loop b (both.1) next out (suc (suc p) + length test_code + length first) h' m (fewer-calls s c m n le calls)))
        x w below ops on
    statement-does in_loop (Looped None e body) fit next out p h n calls x w below ops on =
        let scope = scope_of s.program f in
        let parts = and_parts (all_of (λ e. is_some (kind scope e)) e) (fits scope f.result true body) fit in
        let step = step_of s e in
        let inside = statement_of s 0 (suc (length step)) body in
        let there' = turn c.instrs p inside step (λ i. instr.Back i) h in
        let end = p + length (turn_code inside step (λ i. instr.Back i)) in
        let long = turn-length inside step (λ i. instr.Back i) in
        let out_at : suc p + length inside + suc (length step) ≡ suc (suc p + length inside + length step) = omega arith in
        let end_at : end ≡ suc (suc p + length inside + length step) = omega arith in
        endless-turns s c expressions f e (step-typed scope e (parts.0)) body p inside there' n calls
        (λ m lt. does-moved s c f m body (suc p) _ _ _ _ _ _ refl (omega arith) out_at
        (statement-does true body (parts.1) 0 (suc (length step)) (suc p) there'.inside m (fewer-calls s c m n (omega arith) calls)))
        n n (omega arith) (omega arith) x w below ops (end + next) (end + out) (goes-moved s c f n x w below ops _ _ _ _ _ _ end_at refl refl on)
    statement-does in_loop (Looped (Some test) e body) fit next out p h n calls x w below ops on =
        let scope = scope_of s.program f in
        let parts = and_parts (is_condition scope test && all_of (λ e. is_some (kind scope e)) e) (fits scope f.result true body) fit in
        let heads = and_parts (is_condition scope test) (all_of (λ e. is_some (kind scope e)) e) (parts.0) in
        let step = step_of s e in
        let behind = step ++ code_of s test in
        let inside = statement_of s 0 (suc (length behind)) body in
        let there' = turn c.instrs (suc p) inside behind (λ i. instr.BackIfNotZero i) (h.1) in
        let end = p + suc (length (turn_code inside behind (λ i. instr.BackIfNotZero i))) in
        let long = turn-length inside behind (λ i. instr.BackIfNotZero i) in
        let out_at : suc (suc p) + length inside + suc (length behind) ≡ suc (suc (suc p) + length inside + length behind) = omega arith in
        let end_at : end ≡ suc (suc (suc p) + length inside + length behind) = omega arith in
        let test_at : suc (suc p) + length inside + length step ≡ suc p + suc (length inside + length step) = omega arith in
        agree-both (tree_threads s) (code_threads c) n _ _ _ _ refl (there s c x below p ops (instr.Skip (suc (length inside + length step))) (h.0))
        (moved s c n x (Eval test ∷ Wait (Loops (Some test) e body) ∷ w) below _ _ ops test_at
        (while-turns s c expressions f test (condition-typed scope test (heads.0)) e (step-typed scope e (heads.1)) body (suc p) inside there' n calls
        (λ m lt. does-moved s c f m body (suc (suc p)) _ _ _ _ _ _ refl (omega arith) out_at
        (statement-does true body (parts.1) 0 (suc (length behind)) (suc (suc p)) there'.inside m (fewer-calls s c m n (omega arith) calls)))
        n n (omega arith) (omega arith) x w below ops (end + next) (end + out) (goes-moved s c f n x w below ops _ _ _ _ _ _ end_at refl refl on)))
    statement-does in_loop (Repeated body test) fit next out p h n calls x w below ops on =
        let scope = scope_of s.program f in
        let parts = and_parts (fits scope f.result true body) (is_condition scope test) fit in
        let behind = code_of s test in
        let inside = statement_of s 0 (suc (length behind)) body in
        let there' = turn c.instrs p inside behind (λ i. instr.BackIfNotZero i) h in
        let end = p + length (turn_code inside behind (λ i. instr.BackIfNotZero i)) in
        let long = turn-length inside behind (λ i. instr.BackIfNotZero i) in
        let out_at : suc p + length inside + suc (length behind) ≡ suc (suc p + length inside + length behind) = omega arith in
        let end_at : end ≡ suc (suc p + length inside + length behind) = omega arith in
        repeat-turns s c expressions f body test (condition-typed scope test (parts.1)) p inside there' n calls
        (λ m lt. does-moved s c f m body (suc p) _ _ _ _ _ _ refl (omega arith) out_at
        (statement-does true body (parts.0) 0 (suc (length behind)) (suc p) there'.inside m (fewer-calls s c m n (omega arith) calls)))
        n n (omega arith) (omega arith) x w below ops (end + next) (end + out) (goes-moved s c f n x w below ops _ _ _ _ _ _ end_at refl refl on)
    statement-does in_loop (Returned e) fit next out p h n calls x w below ops on =
        return-does e fit p h n calls (end_of s next out (Returned e) p) (end_of s next out (Returned e) p + next) (end_of s next out (Returned e) p + out) x w below ops on
    statement-does in_loop Broken fit next out p h n calls x w below ops on =
        let end : suc p + out ≡ p + 1 + out = omega arith in
        agree-both (tree_threads s) (code_threads c) n _ _ _ _ refl (there s c x below p ops (instr.Skip out) (h.0))
        (moved s c n x (after_loop w) below _ _ ops (sym end) (on.broken n (omega arith) x.locals x.restart))
    statement-does in_loop Continued fit next out p h n calls x w below ops on =
        let end : suc p + next ≡ p + 1 + next = omega arith in
        agree-both (tree_threads s) (code_threads c) n _ _ _ _ refl (there s c x below p ops (instr.Skip next) (h.0))
        (moved s c n x (to_loop w) below _ _ ops (sym end) (on.continued n (omega arith) x.locals x.restart))

    block-does : (in_loop : Bool) (block : Statements) → all_fit (scope_of s.program f) f.result in_loop block ≡ true → (next out p : ℕ) → HasAt c.instrs p (block_of s next out block) →
        (n : ℕ) → DoesCallsUnder s c n → (x : Context) (w : Work) (below : List Frame) (ops : List Value) →
        GoesOn s c f n x w below ops (p + length (block_of s next out block)) (p + length (block_of s next out block) + next) (p + length (block_of s next out block) + out) →
        AgreeAt s c n x (Run block ∷ w) below p ops
    block-does in_loop Done fit next out p h n calls x w below ops on =
        let end : p + 0 ≡ p = omega arith in
        agree-left (tree_threads s) (code_threads c) n _ _ _ refl (moved s c n x w below _ _ ops end (on.behind n (omega arith) x.locals x.restart))
    block-does in_loop (Then a rest) fit next out p h n calls x w below ops on =
        let scope = scope_of s.program f in
        let parts = and_parts (fits scope f.result in_loop a) (all_fit scope f.result in_loop rest) fit in
        let back = block_of s next out rest in
        let front = statement_of s (length back + next) (length back + out) a in
        let end = p + length (front ++ back) in
        let long = length-append front back in
        let end_at : end ≡ p + length front + length back = omega arith in
        let next_at : end + next ≡ p + length front + (length back + next) = omega arith in
        let out_at : end + out ≡ p + length front + (length back + out) = omega arith in
        agree-left (tree_threads s) (code_threads c) n _ _ _ refl
        (statement-does in_loop a (parts.0) (length back + next) (length back + out) p (has-front c.instrs p front back h) n calls x (Run rest ∷ w) below ops (record {
          function = on.function;
          alike = on.alike;
          returned = on.returned;
          behind = λ m le locals r. block-does in_loop rest (parts.1) next out (p + length front) (has-back c.instrs p front back h) m (fewer-calls s c m n le calls) (later x locals r) w below ops
              (goes-moved s c f m (later x locals r) w below ops _ _ _ _ _ _ end_at (ap (λ i. i + next) end_at) (ap (λ i. i + out) end_at) (fewer s c f m n x locals r w below ops end (end + next) (end + out) le on));
          continued = work-moved s c f n x (to_loop w) below _ _ ops next_at on.continued;
          broken = work-moved s c f n x (after_loop w) below _ _ ops out_at on.broken;
        }))

pub statements-do : (s : Version) (c : Code) → ExpressionsDo s c → StatementsDo s c
statements-do s c expressions f in_loop a fit next out p h n calls = statement-does s c expressions f in_loop a fit next out p h n calls
