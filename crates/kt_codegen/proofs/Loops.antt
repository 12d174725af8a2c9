-- Loops do what they do, by the number of replies, since each turn has a tick.
use Rattle.std.proofs.Common.{◌≡◌, ℕ, zero, suc, ◌+◌, ◌-◌, ◌≤◌, List, [], ◌∷◌, ◌++◌, length, Option, None, Some, refl, sym, subst, arith, length-append}
use Rattle.kt_mem.specs.declared.memory.Value.{Value}
use Rattle.kt_mem.specs.Comparisons.{zero_test}
use Rattle.kt_tree.specs.Tree.{Expression, Statement, Looped, Repeated, Function}
use Rattle.kt_tree.specs.Version.{scope_of}
use Rattle.kt_meaning.specs.Thread.{Work, Eval, Have, Wait, Do, Next, Again, Drops, Loops, Repeats, Context}
use Rattle.kt_meaning.specs.TreeSteps.{Version, goes as tree_goes, ticks}
use Rattle.kt_code.specs.AgreementLaws.{agree-left, agree-right, agree-both}
use Rattle.kt_code.specs.Code.{Code}
use Rattle.kt_code.specs.Looks.{tree_threads, code_threads}
use Rattle.kt_code.specs.Machine.{goes, goes_back}
use Rattle.kt_code.specs.declared.frame.Frame.{Frame}
use Rattle.kt_code.specs.declared.instr.Instr.{Instr}
use Rattle.kt_code.specs.declared.instr.Instr.TheVariants as instr
use Rattle.kt_genexpr.specs.Generates.{HasAt, LookAlike, beside, later, AgreeAt, DoesCallsUnder, ExpressionsDo}
use Rattle.kt_genexpr.proofs.Agreeing.{look-alike, there, moved}
use Rattle.kt_genexpr.proofs.ExpressionJumps.{one-more-length}
use Rattle.kt_genexpr.proofs.Places.{has-front, has-back}
use Rattle.kt_codegen.specs.StatementCode.{dropped_code}
use Rattle.kt_codegen.specs.StatementActs.{AfterWork, GoesOn}
use Rattle.kt_codegen.proofs.Agreeing.{fewer-calls, test-agrees, ticks-agree}
use Rattle.kt_codegen.proofs.Places.{around, IsTurn}
use Rattle.kt_codegen.proofs.StatementTypes.{IsTyped, IsTypedStep}
use Rattle.kt_codegen.proofs.Codes.{code_of, step_of}
use Rattle.kt_codegen.proofs.GoingOn.{fewer, in-loop, BodyDoes}

module _ (s : Version) (c : Code) (expressions : ExpressionsDo s c) (f : Function) where
  -- an expression whose value is dropped
  pub dropped-does : (e : Expression) → IsTyped (scope_of s.program f) e → (p : ℕ) → HasAt c.instrs p (dropped_code s.program.types s.program.functions e) →
      (n : ℕ) → DoesCallsUnder s c n → (x : Context) (w : Work) (below : List Frame) (ops : List Value) → LookAlike x.below below →
      AfterWork s c n x w below (p + length (dropped_code s.program.types s.program.functions e)) ops → AgreeAt s c n x (Eval e ∷ Wait Drops ∷ w) below p ops
  dropped-does e typed p h n calls x w below ops alike after =
      let parts = around c.instrs p (code_of s e) instr.Discard [] h in
      let q = p + length (code_of s e) in
      let end : p + length (code_of s e ++ instr.Discard ∷ []) ≡ suc q = omega (arith, one-more-length (code_of s e) instr.Discard) in
      expressions f e typed.kind_of typed.is p parts.front n calls x (Wait Drops ∷ w) below ops alike (λ m le locals r v.
      agree-both (tree_threads s) (code_threads c) m _ _ _ _ refl (there s c (later x locals r) below q (v ∷ ops) instr.Discard parts.middle)
      (moved s c m (later x locals r) w below _ _ ops end (after m le locals r)))

  -- the step of a loop, behind its body
  next-does : (test e : Option Expression) (body : Statement) → IsTypedStep (scope_of s.program f) e → (p : ℕ) → HasAt c.instrs p (step_of s e) →
      (n : ℕ) → DoesCallsUnder s c n → (x : Context) (w : Work) (below : List Frame) (ops : List Value) → LookAlike x.below below →
      AfterWork s c n x (Do (Looped test e body) ∷ w) below (p + length (step_of s e)) ops → AgreeAt s c n x (Next test e body ∷ w) below p ops
  next-does test None body typed p h n calls x w below ops alike after =
      let same : p + 0 ≡ p = omega arith in
      agree-left (tree_threads s) (code_threads c) n _ _ _ refl
      (moved s c n x (Do (Looped test None body) ∷ w) below _ _ ops same (after n (omega arith) x.locals x.restart))
  next-does test (Some e) body typed p h n calls x w below ops alike after =
      agree-left (tree_threads s) (code_threads c) n _ _ _ refl
      (dropped-does e typed p h n calls x (Do (Looped test (Some e) body) ∷ w) below ops alike after)

  -- a loop without a test, from its tick on, with up to `most` ticks to come
  pub endless-turns : (e : Option Expression) → IsTypedStep (scope_of s.program f) e → (body : Statement) (p : ℕ) (inside : List Instr) → IsTurn c.instrs p inside (step_of s e) (λ n. instr.Back n) →
      (all : ℕ) → DoesCallsUnder s c all → BodyDoes s c f all body p (suc p + length inside) (suc (suc p + length inside + length (step_of s e))) → (most n : ℕ) → n ≤ most → n ≤ all →
      (x : Context) (w : Work) (below : List Frame) (ops : List Value) (next out : ℕ) → GoesOn s c f n x w below ops (suc (suc p + length inside + length (step_of s e))) next out →
      AgreeAt s c n x (Do (Looped None e body) ∷ w) below p ops
  endless-turns e typed body p inside h all calls does zero n le few x w below ops next out on =
      subst (λ m. AgreeAt s c m x (Do (Looped None e body) ∷ w) below p ops) {x = 0} (omega arith) tt
  endless-turns e typed body p inside h all calls does (suc most) n le few x w below ops next out on =
      let b = suc p + length inside in
      let z = b + length (step_of s e) in
      let home : suc z - suc (suc (length inside + length (step_of s e))) ≡ p = omega arith in
      ticks-agree s c n x (Do (Looped None e body) ∷ w) (Do body ∷ Next None e body ∷ w) below p ops on.alike h.tick refl (λ m lt.
      does m (omega arith) x (Next None e body ∷ w) below ops
      (in-loop s c f n m x w below ops (suc z) next out (omega arith) on (Next None e body) refl b (λ j le' locals r.
      next-does None e body typed b h.after j (fewer-calls s c j all (omega arith) calls) (later x locals r) w below ops on.alike (λ i le'' locals' r'.
      agree-right (tree_threads s) (code_threads c) i _ _ _ (there s c (later x locals' r') below z ops (instr.Back (suc (suc (length inside + length (step_of s e))))) h.jump)
      (moved s c i (later x locals' r') (Do (Looped None e body) ∷ w) below _ _ ops (sym home)
      (endless-turns e typed body p inside h all calls does most i (omega arith) (omega arith) (later x locals' r') w below ops next out
      (fewer s c f i n x locals' r' w below ops (suc z) next out (omega arith) on)))))))

  -- a loop with a test, from the test on
  pub while-turns : (test : Expression) → IsTyped (scope_of s.program f) test → (e : Option Expression) → IsTypedStep (scope_of s.program f) e → (body : Statement) (p : ℕ) (inside : List Instr) →
      IsTurn c.instrs p inside (step_of s e ++ code_of s test) (λ n. instr.BackIfNotZero n) → (all : ℕ) → DoesCallsUnder s c all →
      BodyDoes s c f all body p (suc p + length inside) (suc (suc p + length inside + length (step_of s e ++ code_of s test))) → (most n : ℕ) → n ≤ most → n ≤ all →
      (x : Context) (w : Work) (below : List Frame) (ops : List Value) (next out : ℕ) → GoesOn s c f n x w below ops (suc (suc p + length inside + length (step_of s e ++ code_of s test))) next out →
      AgreeAt s c n x (Eval test ∷ Wait (Loops (Some test) e body) ∷ w) below (suc p + length inside + length (step_of s e)) ops
  while-turns test tested e typed body p inside h all calls does zero n le few x w below ops next out on =
      subst (λ m. AgreeAt s c m x (Eval test ∷ Wait (Loops (Some test) e body) ∷ w) below (suc p + length inside + length (step_of s e)) ops) {x = 0} (omega arith) tt
  while-turns test tested e typed body p inside h all calls does (suc most) n le few x w below ops next out on =
      let b = suc p + length inside in
      let q = b + length (step_of s e) in
      let z = b + length (step_of s e ++ code_of s test) in
      let behind = suc (suc (length inside + length (step_of s e ++ code_of s test))) in
      let long = length-append (step_of s e) (code_of s test) in
      let at_test : q + length (code_of s test) ≡ z = omega arith in
      let home : suc z - behind ≡ p = omega arith in
      expressions f test tested.kind_of tested.is q (has-back c.instrs b (step_of s e) (code_of s test) h.after) n (fewer-calls s c n all few calls) x
      (Wait (Loops (Some test) e body) ∷ w) below ops on.alike (λ m le' locals r v.
      let y = later x locals r in
      moved s c m y (Have v ∷ Wait (Loops (Some test) e body) ∷ w) below _ _ (v ∷ ops) (sym at_test)
      (test-agrees s c (zero_test v) m _ _ (tree_goes y w) (ticks y (Do body ∷ Next (Some test) e body ∷ w)) (goes (beside s y below (suc z)) ops) (goes (goes_back behind (beside s y below (suc z))) ops)
      (look-alike s c y (Have v ∷ Wait (Loops (Some test) e body) ∷ w) below z (v ∷ ops) on.alike) refl
      (there s c y below z (v ∷ ops) (instr.BackIfNotZero behind) h.jump)
      (λ d d'. agree-both (tree_threads s) (code_threads c) m _ _ _ _ d d' (on.behind m le' locals r))
      (λ d d'. agree-right (tree_threads s) (code_threads c) m _ _ _ d' (moved s c m y (Have v ∷ Wait (Loops (Some test) e body) ∷ w) below _ _ ops (sym home)
      (ticks-agree s c m y (Have v ∷ Wait (Loops (Some test) e body) ∷ w) (Do body ∷ Next (Some test) e body ∷ w) below p ops on.alike h.tick d (λ j lt.
      does j (omega arith) y (Next (Some test) e body ∷ w) below ops
      (in-loop s c f n j y w below ops (suc z) next out (omega arith) (fewer s c f n n x locals r w below ops (suc z) next out (omega arith) on) (Next (Some test) e body) refl b (λ i le'' locals' r'.
      next-does (Some test) e body typed b (has-front c.instrs b (step_of s e) (code_of s test) h.after) i (fewer-calls s c i all (omega arith) calls) (later x locals' r') w below ops on.alike (λ k le3 locals3 r3.
      agree-left (tree_threads s) (code_threads c) k _ _ _ refl
      (while-turns test tested e typed body p inside h all calls does most k (omega arith) (omega arith) (later x locals3 r3) w below ops next out
      (fewer s c f k n x locals3 r3 w below ops (suc z) next out (omega arith) on)))))))))))

  -- `do`, from its tick on
  pub repeat-turns : (body : Statement) (test : Expression) → IsTyped (scope_of s.program f) test → (p : ℕ) (inside : List Instr) →
      IsTurn c.instrs p inside (code_of s test) (λ n. instr.BackIfNotZero n) → (all : ℕ) → DoesCallsUnder s c all →
      BodyDoes s c f all body p (suc p + length inside) (suc (suc p + length inside + length (code_of s test))) → (most n : ℕ) → n ≤ most → n ≤ all →
      (x : Context) (w : Work) (below : List Frame) (ops : List Value) (next out : ℕ) → GoesOn s c f n x w below ops (suc (suc p + length inside + length (code_of s test))) next out →
      AgreeAt s c n x (Do (Repeated body test) ∷ w) below p ops
  repeat-turns body test tested p inside h all calls does zero n le few x w below ops next out on =
      subst (λ m. AgreeAt s c m x (Do (Repeated body test) ∷ w) below p ops) {x = 0} (omega arith) tt
  repeat-turns body test tested p inside h all calls does (suc most) n le few x w below ops next out on =
      let b = suc p + length inside in
      let z = b + length (code_of s test) in
      let behind = suc (suc (length inside + length (code_of s test))) in
      let home : suc z - behind ≡ p = omega arith in
      ticks-agree s c n x (Do (Repeated body test) ∷ w) (Do body ∷ Again body test ∷ w) below p ops on.alike h.tick refl (λ m lt.
      does m (omega arith) x (Again body test ∷ w) below ops
      (in-loop s c f n m x w below ops (suc z) next out (omega arith) on (Again body test) refl b (λ j le' locals r.
      agree-left (tree_threads s) (code_threads c) j _ _ _ refl
      (expressions f test tested.kind_of tested.is b h.after j (fewer-calls s c j all (omega arith) calls) (later x locals r) (Wait (Repeats body test) ∷ w) below ops on.alike (λ i le'' locals' r' v.
      let y = later x locals' r' in
      test-agrees s c (zero_test v) i _ _ (tree_goes y w) (tree_goes y (Do (Repeated body test) ∷ w)) (goes (beside s y below (suc z)) ops) (goes (goes_back behind (beside s y below (suc z))) ops)
      (look-alike s c y (Have v ∷ Wait (Repeats body test) ∷ w) below z (v ∷ ops) on.alike) refl
      (there s c y below z (v ∷ ops) (instr.BackIfNotZero behind) h.jump)
      (λ d d'. agree-both (tree_threads s) (code_threads c) i _ _ _ _ d d' (on.behind i (omega arith) locals' r'))
      (λ d d'. agree-both (tree_threads s) (code_threads c) i _ _ _ _ d d' (moved s c i y (Do (Repeated body test) ∷ w) below _ _ ops (sym home)
      (repeat-turns body test tested p inside h all calls does most i (omega arith) (omega arith) y w below ops next out
      (fewer s c f i n x locals' r' w below ops (suc z) next out (omega arith) on)))))))))
