-- Each form of expression: where code does its operands, it does the whole.
use Rattle.std.proofs.Common.{◌≡◌, ℕ, suc, ◌+◌, ◌≤◌, true, false, nat_le, if◌then◌else◌, List, [], ◌∷◌, ◌++◌, length, reverse, slice_get, Some, refl, sym, ap, ◌∙◌, arith}
use Rattle.kt_mem.specs.declared.memory.Value.{Value}
use Rattle.kt_mem.specs.declared.steps.Act.TheVariants as act
use Rattle.kt_mem.specs.declared.steps.Trap.TheVariants as trap
use Rattle.kt_mem.specs.Comparisons.{zero_test}
use Rattle.kt_mem.specs.Values.{truth}
use Rattle.kt_tree.specs.declared.expr.Constant.{Constant}
use Rattle.kt_tree.specs.declared.expr.Constant.TheVariants as constant
use Rattle.kt_tree.specs.declared.expr.Operation.{Operation}
use Rattle.kt_tree.specs.declared.expr.Request.{Request}
use Rattle.kt_tree.specs.Tree.{Expression, Constant', LocalRead, LocalSet, LocalSwapped, Operated, Requested, Both, Either, Chosen, Called, Expressions, NoMore, More, Function}
use Rattle.kt_meaning.specs.Operations.{apply_operation}
use Rattle.kt_meaning.specs.Requests.{act_of}
use Rattle.kt_meaning.specs.Steps.{Acts, Traps}
use Rattle.kt_meaning.specs.Thread.{Operates, Asks, Enters, Sets, Swaps, Awaits, AndThen, OrElse, Truths, Picks, Eval, Have, Wait, Work, Context, local_value, defined_if}
use Rattle.kt_meaning.specs.TreeSteps.{Version, constant_value, function_at, call_step}
use Rattle.kt_code.specs.AgreementLaws.{agree-left, agree-right, agree-both}
use Rattle.kt_code.specs.Code.{Code}
use Rattle.kt_code.specs.Looks.{tree_threads, code_threads}
use Rattle.kt_code.specs.Machine.{Here, goes, gives, asks, calls, entry_frame, enters, do_one}
use Rattle.kt_code.specs.declared.frame.Frame.{Frame}
use Rattle.kt_code.specs.declared.instr.Instr.TheVariants as instr
use Rattle.kt_genexpr.specs.ExpressionCode.{count, constant_code, operation_code, request_code}
use Rattle.kt_genexpr.specs.Generates.{LookAlike, beside, later, AgreeAt, DoesExpr, DoesExprs, HasCall}
use Rattle.kt_genexpr.proofs.Agreeing.{same-depth, there, moved, gives-agree, asks-agree, tested-agree, swaps-agree, calls-agree}
use Rattle.kt_genexpr.proofs.RequestCode.{on-all}

constant-step : (k : Constant) (entries : List ℕ) (x : Here) (ops : List Value) → do_one entries (constant_code k) x ops ≡ goes x (constant_value x.version k ∷ ops)
constant-step (constant.Number n) entries x ops = refl
constant-step constant.Null entries x ops = refl
constant-step (constant.Global g) entries x ops = refl
constant-step (constant.Literal n) entries x ops = refl

module _ (s : Version) (c : Code) where
  -- on up to n replies
  abbrev pub Does : ℕ → Expression → ℕ → ℕ → Type 0
  Does n e p q = (m : ℕ) → m ≤ n → DoesExpr s c m e p q

  abbrev pub DoesAll : ℕ → Expressions → ℕ → ℕ → Type 0
  DoesAll n es p q = (m : ℕ) → m ≤ n → DoesExprs s c m es p q

  -- ---- constants and locals

  pub does-constant : (k : Constant) (t n p : ℕ) → slice_get c.instrs p ≡ Some (constant_code k) → Does n (Constant' k t) p (suc p)
  does-constant k t n p h m le x w below ops alike after =
      agree-both (tree_threads s) (code_threads c) m _ _ _ _ refl
      (there s c x below p ops (constant_code k) h ∙ constant-step k c.entries (beside s x below (suc p)) ops)
      (after m (omega arith) x.locals x.restart (constant_value s.number k))

  pub does-read : (i n p : ℕ) → slice_get c.instrs p ≡ Some (instr.Read i) → Does n (LocalRead i) p (suc p)
  does-read i n p h m le x w below ops alike after =
      gives-agree s c (local_value x i) m x w _ below p (suc p) ops ops alike refl (there s c x below p ops (instr.Read i) h)
      (λ v. after m (omega arith) x.locals x.restart v)

  pub does-set : (i : ℕ) (e : Expression) (n p q : ℕ) → Does n e p q → slice_get c.instrs q ≡ Some (instr.Set i) → Does n (LocalSet i e) p (suc q)
  does-set i e n p q d h m le x w below ops alike after =
      agree-left (tree_threads s) (code_threads c) m _ _ _ refl (d m le x (Wait (Sets i) ∷ w) below ops alike (λ l lt locals r v.
      agree-both (tree_threads s) (code_threads c) l _ _ _ _ refl (there s c (later x locals r) below q (v ∷ ops) (instr.Set i) h)
      (after l lt _ r v)))

  pub does-swap : (i : ℕ) (e : Expression) (n p q : ℕ) → Does n e p q → slice_get c.instrs q ≡ Some (instr.Swap i) → Does n (LocalSwapped i e) p (suc q)
  does-swap i e n p q d h m le x w below ops alike after =
      agree-left (tree_threads s) (code_threads c) m _ _ _ refl (d m le x (Wait (Swaps i) ∷ w) below ops alike (λ l lt locals r v.
      swaps-agree s c (defined_if (slice_get locals i)) l i v (later x locals r) w _ below q (suc q) ops (v ∷ ops) alike refl
      (there s c (later x locals r) below q (v ∷ ops) (instr.Swap i) h) (λ old. after l lt _ r old)))

  -- ---- `&&`, `||` and `?:`

  -- a value becomes 0 or 1
  truth-agree : (n : ℕ) (x : Context) (w : Work) (below : List Frame) (p : ℕ) (ops : List Value) (v : Value) → LookAlike x.below below →
      slice_get c.instrs p ≡ Some instr.Truth → ((z : Value) → AgreeAt s c n x (Have z ∷ w) below (suc p) (z ∷ ops)) →
      AgreeAt s c n x (Have v ∷ Wait Truths ∷ w) below p (v ∷ ops)
  truth-agree n x w below p ops v alike h k =
      tested-agree s c (zero_test v) n x _ (Have (truth false) ∷ w) (Have (truth true) ∷ w) below p (suc p) (suc p) (v ∷ ops) (truth false ∷ ops) (truth true ∷ ops) alike refl
      (there s c x below p (v ∷ ops) instr.Truth h) (k (truth false)) (k (truth true))

  pub does-both : (a b : Expression) (n k p q r : ℕ) → Does n a p q → slice_get c.instrs q ≡ Some (instr.And k) → Does n b (suc q) r →
      slice_get c.instrs r ≡ Some instr.Truth → suc r ≡ suc q + k → Does n (Both a b) p (suc r)
  does-both a b n k p q r da h db h' jump m le x w below ops alike after =
      agree-left (tree_threads s) (code_threads c) m _ _ _ refl (da m le x (Wait (AndThen b) ∷ w) below ops alike (λ l lt locals t v.
      tested-agree s c (zero_test v) l (later x locals t) _ (Have (truth false) ∷ w) (Eval b ∷ Wait Truths ∷ w) below q (suc q + k) (suc q) (v ∷ ops) (truth false ∷ ops) ops alike refl
      (there s c (later x locals t) below q (v ∷ ops) (instr.And k) h)
      (moved s c l (later x locals t) _ below (suc r) (suc q + k) (truth false ∷ ops) jump (after l lt locals t (truth false)))
      (db l (omega arith) (later x locals t) (Wait Truths ∷ w) below ops alike (λ i lt' locals' t' u.
      truth-agree i (later x locals' t') w below r ops u alike h' (λ z. after i (omega arith) locals' t' z)))))

  pub does-either : (a b : Expression) (n k p q r : ℕ) → Does n a p q → slice_get c.instrs q ≡ Some (instr.Or k) → Does n b (suc q) r →
      slice_get c.instrs r ≡ Some instr.Truth → suc r ≡ suc q + k → Does n (Either a b) p (suc r)
  does-either a b n k p q r da h db h' jump m le x w below ops alike after =
      agree-left (tree_threads s) (code_threads c) m _ _ _ refl (da m le x (Wait (OrElse b) ∷ w) below ops alike (λ l lt locals t v.
      tested-agree s c (zero_test v) l (later x locals t) _ (Eval b ∷ Wait Truths ∷ w) (Have (truth true) ∷ w) below q (suc q) (suc q + k) (v ∷ ops) ops (truth true ∷ ops) alike refl
      (there s c (later x locals t) below q (v ∷ ops) (instr.Or k) h)
      (db l (omega arith) (later x locals t) (Wait Truths ∷ w) below ops alike (λ i lt' locals' t' u.
      truth-agree i (later x locals' t') w below r ops u alike h' (λ z. after i (omega arith) locals' t' z)))
      (moved s c l (later x locals t) _ below (suc r) (suc q + k) (truth true ∷ ops) jump (after l lt locals t (truth true)))))

  -- the second arm stands behind a jump, which the first arm takes to the end
  pub does-choice : (test a b : Expression) (t n k j p q r end : ℕ) → Does n test p q → slice_get c.instrs q ≡ Some (instr.SkipIfZero k) → Does n a (suc q) r →
      slice_get c.instrs r ≡ Some (instr.Skip j) → Does n b (suc r) end → suc r ≡ suc q + k → end ≡ suc r + j → Does n (Chosen test t a b) p end
  does-choice test a b t n k j p q r end dt h da h' db jump jump' m le x w below ops alike after =
      agree-left (tree_threads s) (code_threads c) m _ _ _ refl (dt m le x (Wait (Picks a b) ∷ w) below ops alike (λ l lt locals u v.
      tested-agree s c (zero_test v) l (later x locals u) _ (Eval b ∷ w) (Eval a ∷ w) below q (suc q + k) (suc q) (v ∷ ops) ops ops alike refl
      (there s c (later x locals u) below q (v ∷ ops) (instr.SkipIfZero k) h)
      (moved s c l (later x locals u) _ below (suc r) (suc q + k) ops jump
      (db l (omega arith) (later x locals u) w below ops alike (λ i lt' locals' u' z. after i (omega arith) locals' u' z)))
      (da l (omega arith) (later x locals u) w below ops alike (λ i lt' locals' u' z.
      agree-right (tree_threads s) (code_threads c) i _ _ _ (there s c (later x locals' u') below r (z ∷ ops) (instr.Skip j) h')
      (moved s c i (later x locals' u') _ below end (suc r + j) (z ∷ ops) jump' (after i (omega arith) locals' u' z))))))

  -- ---- operands

  pub does-none : (n p : ℕ) → DoesAll n NoMore p p
  does-none n p m le x w below ops purpose vs u alike st after =
      after m (omega arith) x.locals x.restart vs u (omega arith) st

  pub does-more : (e : Expression) (es : Expressions) (n p q r : ℕ) → Does n e p q → DoesAll n es q r → DoesAll n (More e es) p r
  does-more e es n p q r de des m le x w below ops purpose vs u alike st after =
      agree-left (tree_threads s) (code_threads c) m _ _ _ st (de m le x (Wait (Awaits purpose vs es) ∷ w) below (vs ++ ops) alike (λ l lt locals t v.
      des l (omega arith) (later x locals t) w below ops purpose (v ∷ vs) (Have v ∷ Wait (Awaits purpose vs es) ∷ w) alike refl
      (λ i lt' locals' t' us u' k st'. after i (omega arith) locals' t' us u' (omega arith) st')))

  -- ---- operations, requests and calls

  pub does-operated : (op : Operation) (t : ℕ) (es : Expressions) (n p q : ℕ) → DoesAll n es p q →
      slice_get c.instrs q ≡ Some (operation_code s.program.types op t) →
      ((x : Here) (us rest : List Value) → length us ≡ count es →
      do_one c.entries (operation_code s.program.types op t) x (us ++ rest) ≡ gives x rest (apply_operation s.program.types op t (reverse us))) →
      Does n (Operated op t es) p (suc q)
  does-operated op t es n p q des h fact m le x w below ops alike after =
      des m le x w below ops (Operates op t) [] (Eval (Operated op t es) ∷ w) alike refl (λ l lt locals r us u k st.
      gives-agree s c (apply_operation s.program.types op t (reverse us)) l (later x locals r) w u below q (suc q) ops (us ++ ops) alike st
      (there s c (later x locals r) below q (us ++ ops) (operation_code s.program.types op t) h ∙ fact (beside s (later x locals r) below (suc q)) us ops (omega arith))
      (λ v. after l lt locals r v))

  pub does-requested : (q : Request) (t : _) (es : Expressions) (n p to : ℕ) → DoesAll n es p to →
      slice_get c.instrs to ≡ Some (request_code s.program.types q t) →
      ((x : Here) (us rest : List Value) → length us ≡ count es →
      do_one c.entries (request_code s.program.types q t) x (us ++ rest) ≡ asks x rest q (reverse us) (act_of s.program.types x.function q t (reverse us))) →
      Does n (Requested q t es) p (suc to)
  does-requested q t es n p to des h fact m le x w below ops alike after =
      des m le x w below ops (Asks q t) [] (Eval (Requested q t es) ∷ w) alike refl (λ l lt locals r us u k st.
      asks-agree s c (act_of s.program.types x.function q t (reverse us)) q (reverse us) l (later x locals r) w u below to (suc to) ops (us ++ ops) alike st
      (there s c (later x locals r) below to (us ++ ops) (request_code s.program.types q t) h ∙ fact (beside s (later x locals r) below (suc to)) us ops (omega arith))
      (λ i lt' locals' r' v. after i (omega arith) locals' r' v))

  pub does-called : (g : ℕ) (f : Function) (es : Expressions) (n p q : ℕ) → DoesAll n es p q →
      slice_get c.instrs q ≡ Some (instr.Call g (count es) (length f.locals)) → function_at s g ≡ Some f → HasCall s c n g f → Does n (Called g es) p (suc q)
  does-called g f es n p q des h is call m le x w below ops alike after =
      des m le x w below ops (Enters g) [] (Eval (Called g es) ∷ w) alike refl (λ l lt locals r us u k st.
      let here = later x locals r in
      let next = beside s here below (suc q) in
      calls-agree s c (nat_le 200 (suc (length x.below))) l g f (reverse us) here w u below q (suc q) call.entry ops (us ++ ops) alike
      (st ∙ ap (λ o. call_step g o (reverse us) here w) is)
      (there s c here below q (us ++ ops) (instr.Call g (count es) (length f.locals)) h
      ∙ on-all (λ vs rest. calls next g (length f.locals) (slice_get c.entries g) vs rest) (count es) us ops (omega arith)
      ∙ ap (λ o. calls next g (length f.locals) o (reverse us) ops) call.stands
      ∙ ap (λ d. if nat_le 200 (suc d) then Traps trap.Depth else Acts act.Tick (λ reply. enters next ops (entry_frame g call.entry (length f.locals) (reverse us)))) (sym (same-depth x.below below alike)))
      (λ i lt'. call.does i (omega arith))
      (λ i lt' locals' r' v. after i (omega arith) locals' r' v))
