-- `x op= e`: the load, the operand, the operation, the conversion and the store.
use Rattle.std.proofs.Common.{◌≡◌, ℕ, suc, ◌+◌, ◌==◌, Bool, true, false, if◌then◌else◌, List, [], ◌∷◌, ◌++◌, length, slice_get, Some, Result, Ok, Err, refl, ap, ◌∙◌, arith}
use Rattle.kt_types.specs.declared.kinds.Ty.{Ty}
use Rattle.kt_mem.specs.declared.memory.Value.{Value}
use Rattle.kt_mem.specs.declared.steps.Act.TheVariants as act
use Rattle.kt_mem.specs.declared.steps.Trap.{Trap}
use Rattle.kt_mem.specs.Arithmetic.{narrowed}
use Rattle.kt_mem.specs.Memory.{and_then}
use Rattle.kt_tree.specs.declared.expr.Operation.{Operation}
use Rattle.kt_tree.specs.Tree.{Expression, Modified}
use Rattle.kt_meaning.specs.Operations.{at_type, apply_operation, converted}
use Rattle.kt_meaning.specs.Requests.{load_act, store_act, told}
use Rattle.kt_meaning.specs.Thread.{Fetches, Changes, Eval, Have, Wait, Work, Context, at}
use Rattle.kt_meaning.specs.TreeSteps.{Version, step as tree_step, fetch_step, store_step, change_step}
use Rattle.kt_code.specs.AgreementLaws.{agree-left, agree-right, agree-acts, agree-traps}
use Rattle.kt_code.specs.Code.{Code}
use Rattle.kt_code.specs.Looks.{tree_threads, code_threads}
use Rattle.kt_code.specs.Machine.{Here, stands, gives, do_one, step}
use Rattle.kt_code.specs.declared.frame.Frame.{Frame}
use Rattle.kt_code.specs.declared.instr.Instr.{Instr}
use Rattle.kt_code.specs.declared.instr.Instr.TheVariants as instr
use Rattle.kt_genexpr.specs.ExpressionCode.{type_at, operation_code, kept_code, conversion_code, storing_code, modified_code}
use Rattle.kt_genexpr.specs.Generates.{HasAt, LookAlike, beside, later, AgreeAt, After}
use Rattle.kt_genexpr.proofs.Agreeing.{look-alike, there, moved}
use Rattle.kt_genexpr.proofs.Forms.{Does}
use Rattle.kt_genexpr.proofs.Places.{has-front, has-back}

-- below the operand stands the value before, where it is the value of the whole, and the pointer
abbrev kept_below : Bool → Value → List Value → List Value
kept_below true before rest = before ∷ rest
kept_below false before rest = rest

module _ (s : Version) (c : Code) (op : Operation) (own t : ℕ) (old : Bool) (is : slice_get s.program.types.types t ≡ Some (type_at s.program.types t)) where
  abbrev u : Ty
  u = type_at s.program.types t

  -- the value before stays where it is the value of the whole
  kept-agree : (keeps : Bool) (n : ℕ) (x : Context) (w : Work) (below : List Frame) (p : ℕ) (before : Value) (rest : List Value) → HasAt c.instrs p (kept_code keeps) →
      AgreeAt s c n x w below (p + length (kept_code keeps)) (before ∷ kept_below keeps before rest) → AgreeAt s c n x w below p (before ∷ rest)
  kept-agree true n x w below p before rest h k =
      agree-right (tree_threads s) (code_threads c) n _ _ _ (there s c x below p (before ∷ rest) instr.Duplicate h.0)
      (moved s c n x w below (p + 1) (suc p) (before ∷ before ∷ rest) (omega arith) k)
  kept-agree false n x w below p before rest h k = moved s c n x w below (p + 0) p (before ∷ rest) (omega arith) k

  -- the store, and the value of the whole
  store-agree : (gives_old : Bool) (n : ℕ) (x : Context) (w v : Work) (below : List Frame) (p : ℕ) (pointer before new : Value) (ops : List Value) → LookAlike x.below below →
      slice_get c.instrs p ≡ Some (storing_code gives_old u) →
      tree_step s (at x v) ≡ store_step (if gives_old then before else new) x w (store_act (slice_get s.program.types.types t) pointer new) →
      After s c n x w below (suc p) ops → AgreeAt s c n x v below p (new ∷ kept_below gives_old before (pointer ∷ ops))
  store-agree true n x w v below p pointer before new ops alike h d after =
      agree-acts (tree_threads s) (code_threads c) n _ _ (act.Store pointer u new) _ _
      (d ∙ ap (λ o. store_step before x w (store_act o pointer new)) is) (there s c x below p (new ∷ before ∷ pointer ∷ ops) (instr.StoreOld u) h)
      (look-alike s c x v below p (new ∷ before ∷ pointer ∷ ops) alike) (λ m lt reply fits. after m (omega arith) x.locals x.restart before)
  store-agree false n x w v below p pointer before new ops alike h d after =
      agree-acts (tree_threads s) (code_threads c) n _ _ (act.Store pointer u new) _ _
      (d ∙ ap (λ o. store_step new x w (store_act o pointer new)) is) (there s c x below p (new ∷ pointer ∷ ops) (instr.Store u) h)
      (look-alike s c x v below p (new ∷ pointer ∷ ops) alike) (λ m lt reply fits. after m (omega arith) x.locals x.restart new)

  -- the store of a value that an instruction gives, or its trap
  given-agree : (r : Result Value Trap) (n : ℕ) (x : Context) (w v : Work) (below : List Frame) (p : ℕ) (pointer before : Value) (ops used : List Value) → LookAlike x.below below →
      tree_step s (at x v) ≡ change_step s t old pointer before x w r →
      step c (stands (beside s x below p) used) ≡ gives (beside s x below (suc p)) (kept_below old before (pointer ∷ ops)) r →
      slice_get c.instrs (suc p) ≡ Some (storing_code old u) → After s c n x w below (suc (suc p)) ops → AgreeAt s c n x v below p used
  given-agree (Ok new) n x w v below p pointer before ops used alike d e h after =
      agree-right (tree_threads s) (code_threads c) n _ _ _ e (store-agree old n x w v below (suc p) pointer before new ops alike h d after)
  given-agree (Err trap) n x w v below p pointer before ops used alike d e h after =
      agree-traps (tree_threads s) (code_threads c) n _ _ trap d e (look-alike s c x v below p used alike)

  -- the conversion, where the operation has a type of its own
  convert-agree : (same : Bool) (n : ℕ) (x : Context) (w v : Work) (below : List Frame) (p : ℕ) (pointer before z : Value) (ops : List Value) → LookAlike x.below below →
      tree_step s (at x v) ≡ change_step s t old pointer before x w (if same then Ok z else at_type (λ k. narrowed k z) (slice_get s.program.types.types t)) →
      HasAt c.instrs p (conversion_code same u ++ storing_code old u ∷ []) →
      After s c n x w below (suc (p + length (conversion_code same u))) ops → AgreeAt s c n x v below p (z ∷ kept_below old before (pointer ∷ ops))
  convert-agree true n x w v below p pointer before z ops alike d h after =
      store-agree old n x w v below p pointer before z ops alike h.0 d
      (λ m le locals r value. moved s c m (later x locals r) _ below (suc (p + 0)) (suc p) (value ∷ ops) (omega arith) (after m le locals r value))
  convert-agree false n x w v below p pointer before z ops alike d h after =
      given-agree (narrowed u z) n x w v below p pointer before ops (z ∷ kept_below old before (pointer ∷ ops)) alike
      (d ∙ ap (λ o. change_step s t old pointer before x w (at_type (λ k. narrowed k z) o)) is)
      (there s c x below p (z ∷ kept_below old before (pointer ∷ ops)) (instr.Convert u) h.0) h.1.0
      (λ m le locals r value. moved s c m (later x locals r) _ below (suc (p + 1)) (suc (suc p)) (value ∷ ops) (omega arith) (after m le locals r value))

  -- the operation
  operation-agree : (r : Result Value Trap) (n : ℕ) (x : Context) (w v : Work) (below : List Frame) (p : ℕ) (pointer before : Value) (ops used : List Value) → LookAlike x.below below →
      tree_step s (at x v) ≡ change_step s t old pointer before x w (and_then r (converted s.program.types own t)) →
      step c (stands (beside s x below p) used) ≡ gives (beside s x below (suc p)) (kept_below old before (pointer ∷ ops)) r →
      HasAt c.instrs (suc p) (conversion_code (own == t) u ++ storing_code old u ∷ []) →
      After s c n x w below (suc (suc p + length (conversion_code (own == t) u))) ops → AgreeAt s c n x v below p used
  operation-agree (Ok z) n x w v below p pointer before ops used alike d e h after =
      agree-right (tree_threads s) (code_threads c) n _ _ _ e (convert-agree (own == t) n x w v below (suc p) pointer before z ops alike d h after)
  operation-agree (Err trap) n x w v below p pointer before ops used alike d e h after =
      agree-traps (tree_threads s) (code_threads c) n _ _ trap d e (look-alike s c x v below p used alike)

  -- the places behind the load: of the operand, of the operation, and of the end
  abbrev operand_at : ℕ → ℕ
  operand_at q = suc q + length (kept_code old)

  abbrev operation_at : ℕ → List Instr → ℕ
  operation_at q operand = operand_at q + length operand

  pub does-modified : (a e : Expression) (operand : List Instr) (n p q : ℕ) → Does s c n a p q →
      HasAt c.instrs q (modified_code s.program.types op own t old operand) → Does s c n e (operand_at q) (operation_at q operand) →
      ((x : Here) (before v : Value) (rest : List Value) →
      do_one c.entries (operation_code s.program.types op own) x (v ∷ before ∷ rest) ≡ gives x rest (apply_operation s.program.types op own (before ∷ v ∷ []))) →
      Does s c n (Modified op own t old a e) p (suc (suc (operation_at q operand) + length (conversion_code (own == t) u)))
  does-modified a e operand n p q da h de fact m le x w below ops alike after =
      let last = operation_code s.program.types op own ∷ (conversion_code (own == t) u ++ storing_code old u ∷ []) in
      let behind = has-back c.instrs (suc q) (kept_code old) (operand ++ last) h.1 in
      let end = has-back c.instrs (operand_at q) operand last behind in
      agree-left (tree_threads s) (code_threads c) m _ _ _ refl (da m le x (Wait (Fetches op own t old e) ∷ w) below ops alike (λ l lt locals r pointer.
      let here = later x locals r in
      agree-acts (tree_threads s) (code_threads c) l _ _ (act.Load pointer u) _ _
      (ap (λ o. fetch_step op own t old e pointer here w (load_act o pointer)) is) (there s c here below q (pointer ∷ ops) (instr.Fetch u) h.0)
      (look-alike s c here (Have pointer ∷ Wait (Fetches op own t old e) ∷ w) below q (pointer ∷ ops) alike) (λ i lt' reply fits.
      kept-agree old i here (Eval e ∷ Wait (Changes op own t old pointer (told reply)) ∷ w) below (suc q) (told reply) (pointer ∷ ops)
      (has-front c.instrs (suc q) (kept_code old) (operand ++ last) h.1)
      (de i (omega arith) here (Wait (Changes op own t old pointer (told reply)) ∷ w) below (told reply ∷ kept_below old (told reply) (pointer ∷ ops)) alike (λ j le'' locals' r' v.
      let there' = later x locals' r' in
      let used = v ∷ told reply ∷ kept_below old (told reply) (pointer ∷ ops) in
      operation-agree (apply_operation s.program.types op own (told reply ∷ v ∷ [])) j there' w _ below (operation_at q operand) pointer (told reply) ops used alike refl
      (there s c there' below (operation_at q operand) used (operation_code s.program.types op own) end.0
      ∙ fact (beside s there' below (suc (operation_at q operand))) (told reply) v (kept_below old (told reply) (pointer ∷ ops)))
      end.1
      (λ k le''' locals'' r'' z. after k (omega arith) locals'' r'' z))))))
