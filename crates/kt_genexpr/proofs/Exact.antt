-- Code that leaves another number does not do the expression: a return behind it tells the two apart.
use Rattle.std.proofs.Common.{◌≡◌, ℕ, ℤ, List, [], ◌∷◌, slice_get, Some, refl, sym, ap, ◌∙◌, subst}
use Rattle.kt_mem.specs.declared.memory.Value.{Value}
use Rattle.kt_mem.specs.declared.memory.Value.TheVariants.{Num, Null, Ptr, Free, Held, Undef}
use Rattle.kt_mem.specs.declared.steps.Act.TheVariants as act
use Rattle.kt_mem.specs.declared.steps.Trap.TheVariants as trap
use Rattle.kt_tree.specs.Tree.{Function}
use Rattle.kt_meaning.specs.Steps.{Step, Traps, Ends, IsHead}
use Rattle.kt_meaning.specs.Thread.{Have, Wait, Returns, Work, Restart, Thread, at}
use Rattle.kt_meaning.specs.TreeSteps.{Version, function_at, last_value, last_step, step as tree_step}
use Rattle.kt_code.specs.Agreement.{SameHead, OnAnswers, Agree}
use Rattle.kt_code.specs.AgreementLaws.{agree-traps, agree-ends}
use Rattle.kt_code.specs.Code.{Code}
use Rattle.kt_code.specs.Looks.{tree_threads, code_threads}
use Rattle.kt_code.specs.Machine.{stands, main_returns, step}
use Rattle.kt_code.specs.SameActs.{settled-stand}
use Rattle.kt_code.specs.declared.instr.Instr.TheVariants as instr
use Rattle.kt_code.specs.declared.private.Private.{Private}
use Rattle.kt_genexpr.specs.Generates.{beside, AgreeAt, bottom, IsExact}
use Rattle.kt_genexpr.proofs.Agreeing.{look-alike, there}

-- main returns this number
abbrev main_end : ℤ → Step Thread
main_end a = Ends (act.MainReturn a)

same-number : (s : Step Thread) (u : Step Private) (a b : ℤ) → s ≡ main_end a → u ≡ Ends (act.MainReturn b) → SameHead s u → a ≡ b
same-number s u a b d e h =
    let same : act.MainReturn a ≡ act.MainReturn b = subst (λ x. SameHead (main_end a) x) e (subst (λ x. SameHead x u) d h) in
    cc

module _ (s : Version) (c : Code) (to : ℕ) (h : slice_get c.instrs to ≡ Some instr.Return) (g : ℕ) (f : Function) (t : ℕ) (is : function_at s g ≡ Some f) (result : f.result ≡ Some t) where
  abbrev works : Value → Work
  works v = Have v ∷ Wait Returns ∷ []

  -- what the tree and code do with a value of `main`
  tree-returns : (locals : List Value) (r : Restart) (v : Value) → tree_step s (at (bottom g locals r) (works v)) ≡ last_value (Some t) v
  tree-returns locals r v = ap (λ o. last_step o v) is ∙ ap (λ o. last_value o v) result

  code-returns : (locals : List Value) (r : Restart) (v : Value) → step c (stands (beside s (bottom g locals r) [] to) (v ∷ [])) ≡ main_returns v
  code-returns locals r v = there s c (bottom g locals r) [] to (v ∷ []) instr.Return h

  traps-agree : (n : ℕ) (locals : List Value) (r : Restart) (v : Value) → tree_step s (at (bottom g locals r) (works v)) ≡ Traps trap.Uninit →
      step c (stands (beside s (bottom g locals r) [] to) (v ∷ [])) ≡ Traps trap.Uninit → AgreeAt s c n (bottom g locals r) (works v) [] to (v ∷ [])
  traps-agree n locals r v d e =
      agree-traps (tree_threads s) (code_threads c) n _ _ trap.Uninit d e (look-alike s c (bottom g locals r) (works v) [] to (v ∷ []) refl)

  returns-agree : (n : ℕ) (locals : List Value) (r : Restart) (v : Value) → AgreeAt s c n (bottom g locals r) (works v) [] to (v ∷ [])
  returns-agree n locals r (Num z) =
      agree-ends (tree_threads s) (code_threads c) n _ _ (act.MainReturn z) (tree-returns locals r (Num z)) (code-returns locals r (Num z))
      (look-alike s c (bottom g locals r) (works (Num z)) [] to (Num z ∷ []) refl)
  returns-agree n locals r Null = traps-agree n locals r Null (tree-returns locals r Null) (code-returns locals r Null)
  returns-agree n locals r (Ptr m k) = traps-agree n locals r (Ptr m k) (tree-returns locals r (Ptr m k)) (code-returns locals r (Ptr m k))
  returns-agree n locals r Free = traps-agree n locals r Free (tree-returns locals r Free) (code-returns locals r Free)
  returns-agree n locals r (Held k) = traps-agree n locals r (Held k) (tree-returns locals r (Held k)) (code-returns locals r (Held k))
  returns-agree n locals r Undef = traps-agree n locals r Undef (tree-returns locals r Undef) (code-returns locals r Undef)

pub exact : (s : Version) (c : Code) → IsExact s c
exact s c e from to h does g f t is result locals r k l a b tree code =
    let x = bottom g locals r in
    let p = at x (Have (Num a) ∷ Wait Returns ∷ []) in
    let q = stands (beside s x [] to) (Num b ∷ []) in
    let left = tree-returns s c to h g f t is result locals r (Num a) in
    let right = code-returns s c to h g f t is result locals r (Num b) in
    let agree = does x (Wait Returns ∷ []) [] [] refl (λ m le locals' r' v. returns-agree s c to h g f t is result m locals' r' v) in
    let stand = settled-stand (tree_threads s) (code_threads c) (λ x y. OnAnswers (Agree (tree_threads s) (code_threads c) 0) (tree_step s x) (step c y)) k l _ p _ q
    tree (subst (λ u. IsHead u) (sym left) tt) code (subst (λ u. IsHead u) (sym right) tt) agree in
    same-number (tree_step s p) (step c q) a b left right stand.head
