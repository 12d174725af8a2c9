-- Steps of the tree and of code side by side: fewer replies, tests, ticks, and what a function returns.
use Rattle.std.proofs.Common.{◌≡◌, ℕ, suc, ◌<◌, ◌≤◌, Bool, true, false, List, [], ◌∷◌, None, Some, Result, Ok, Err, ap, ◌∙◌, arith}
use Rattle.std.specs.Prelude.{slice_get}
use Rattle.kt_mem.specs.declared.memory.Value.{Value}
use Rattle.kt_mem.specs.declared.memory.Value.TheVariants.{Num, Null, Ptr, Free, Held, Undef}
use Rattle.kt_mem.specs.declared.steps.Act.TheVariants as act
use Rattle.kt_mem.specs.declared.steps.Trap.{Trap}
use Rattle.kt_mem.specs.declared.steps.Trap.TheVariants as trap
use Rattle.kt_tree.specs.Tree.{Function}
use Rattle.kt_meaning.specs.Steps.{Step}
use Rattle.kt_meaning.specs.Thread.{Work, Frame as TreeFrame, Restart, Thread, Context, at}
use Rattle.kt_meaning.specs.TreeSteps.{Version, tested as tree_tested, ticks, function_at, last_value, last_step, return_step, step as tree_step}
use Rattle.kt_code.specs.Agreement.{Agree}
use Rattle.kt_code.specs.AgreementLaws.{agree-both, agree-acts, agree-traps, agree-ends}
use Rattle.kt_code.specs.Code.{Code}
use Rattle.kt_code.specs.Looks.{tree_look, code_look, tree_threads, code_threads}
use Rattle.kt_code.specs.Machine.{stands, tested as code_tested, main_returns, returns, leaves, step as code_step}
use Rattle.kt_code.specs.declared.frame.Frame.{Frame}
use Rattle.kt_code.specs.declared.private.Private.{Private}
use Rattle.kt_code.specs.declared.instr.Instr.TheVariants as instr
use Rattle.kt_genexpr.specs.Generates.{LookAlike, beside, AgreeAt, DoesCallsUnder}
use Rattle.kt_genexpr.proofs.Agreeing.{look-alike, there}
use Rattle.kt_codegen.specs.StatementActs.{AfterWork, AfterReturn}

module _ (s : Version) (c : Code) where
  -- ---- fewer replies

  pub fewer-work : (m n : ℕ) (x : Context) (w : Work) (below : List Frame) (p : ℕ) (ops : List Value) → m ≤ n →
      AfterWork s c n x w below p ops → AfterWork s c m x w below p ops
  fewer-work m n x w below p ops le h = λ i l locals r. h i (omega arith) locals r

  pub fewer-return : (m n : ℕ) (trees : List TreeFrame) (codes : List Frame) (ops : List Value) → m ≤ n →
      AfterReturn s c n trees codes ops → AfterReturn s c m trees codes ops
  fewer-return m n (g ∷ trees) (f ∷ codes) ops le h = λ i l r v. h i (omega arith) r v
  fewer-return m n [] codes ops le h = tt
  fewer-return m n (g ∷ trees) [] ops le h = tt

  pub fewer-calls : (m n : ℕ) → m ≤ n → DoesCallsUnder s c n → DoesCallsUnder s c m
  fewer-calls m n le h =
      λ g f is. record { entry = (h g f is).entry; stands = (h g f is).stands; does = λ i lt. (h g f is).does i (omega arith) }

  -- ---- tests

  -- a value is zero or not, for the tree and for code alike
  pub test-agrees : (r : Result Bool Trap) (n : ℕ) (t : Thread) (y : Private) (a b : Step Thread) (a' b' : Step Private) →
      tree_look t ≡ code_look y → tree_step s t ≡ tree_tested r a b → code_step c y ≡ code_tested r a' b' →
      (tree_step s t ≡ a → code_step c y ≡ a' → Agree (tree_threads s) (code_threads c) n t y) →
      (tree_step s t ≡ b → code_step c y ≡ b' → Agree (tree_threads s) (code_threads c) n t y) →
      Agree (tree_threads s) (code_threads c) n t y
  test-agrees (Ok true) n t y a b a' b' l d e on_zero on_other = on_zero d e
  test-agrees (Ok false) n t y a b a' b' l d e on_zero on_other = on_other d e
  test-agrees (Err u) n t y a b a' b' l d e on_zero on_other = agree-traps (tree_threads s) (code_threads c) n t y u d e l

  -- ---- ticks

  -- a tick on both sides, and then this work
  pub ticks-agree : (n : ℕ) (x : Context) (u w : Work) (below : List Frame) (p : ℕ) (ops : List Value) → LookAlike x.below below →
      slice_get c.instrs p ≡ Some instr.Tick → tree_step s (at x u) ≡ ticks x w → ((m : ℕ) → m < n → AgreeAt s c m x w below (suc p) ops) →
      AgreeAt s c n x u below p ops
  ticks-agree n x u w below p ops alike h d k =
      agree-acts (tree_threads s) (code_threads c) n (at x u) (stands (beside s x below p) ops) act.Tick (λ reply. at x w) (λ reply. stands (beside s x below (suc p)) ops)
      d (there s c x below p ops instr.Tick h) (look-alike s c x u below p ops alike) (λ m lt reply is. k m lt)

  -- ---- what a function returns

  -- the value that the bottom function returns is main's
  last-agrees : (v : Value) (n t : ℕ) (x : Thread) (y : Private) → tree_look x ≡ code_look y → tree_step s x ≡ last_value (Some t) v →
      code_step c y ≡ main_returns v → Agree (tree_threads s) (code_threads c) n x y
  last-agrees (Num z) n t x y l d e = agree-ends (tree_threads s) (code_threads c) n x y (act.MainReturn z) d e l
  last-agrees Null n t x y l d e = agree-traps (tree_threads s) (code_threads c) n x y trap.Uninit d e l
  last-agrees (Ptr name k) n t x y l d e = agree-traps (tree_threads s) (code_threads c) n x y trap.Uninit d e l
  last-agrees Free n t x y l d e = agree-traps (tree_threads s) (code_threads c) n x y trap.Uninit d e l
  last-agrees (Held k) n t x y l d e = agree-traps (tree_threads s) (code_threads c) n x y trap.Uninit d e l
  last-agrees Undef n t x y l d e = agree-traps (tree_threads s) (code_threads c) n x y trap.Uninit d e l

  -- a thread in a function, whose frames below are these
  abbrev in_function : ℕ → List Value → List TreeFrame → Restart → Context
  in_function g locals trees r = record { function = g; locals = locals; below = trees; restart = r }

  value-by_frames : (f : Function) (t n g p : ℕ) (locals ops used : List Value) (r : Restart) (u : Work) (v : Value) (trees : List TreeFrame) (codes : List Frame) →
      f.result ≡ Some t → function_at s g ≡ Some f → LookAlike trees codes → AfterReturn s c n trees codes ops →
      tree_step s (at (in_function g locals trees r) u) ≡ return_step s (in_function g locals trees r) v →
      code_step c (stands (beside s (in_function g locals trees r) codes p) used) ≡ returns (beside s (in_function g locals trees r) codes (suc p)) v ops codes →
      AgreeAt s c n (in_function g locals trees r) u codes p used
  value-by_frames f t n g p locals ops used r u v [] [] result function alike after d e =
      let x = in_function g locals [] r in
      last-agrees v n t (at x u) (stands (beside s x [] p) used) (look-alike s c x u [] p used alike)
      (d ∙ ap (λ o. last_step o v) function ∙ ap (λ o. last_value o v) result) e
  value-by_frames f t n g p locals ops used r u v (a ∷ trees) (b ∷ codes) result function alike after d e =
      agree-both (tree_threads s) (code_threads c) n _ _ _ _ d e (after n (omega arith) r v)
  value-by_frames f t n g p locals ops used r u v [] (b ∷ codes) result function alike after d e = absurd cc
  value-by_frames f t n g p locals ops used r u v (a ∷ trees) [] result function alike after d e = absurd cc

  -- a function returns a value
  pub value-returned : (f : Function) (t n : ℕ) (x : Context) (u : Work) (v : Value) (below : List Frame) (p : ℕ) (ops used : List Value) → f.result ≡ Some t →
      function_at s x.function ≡ Some f → LookAlike x.below below → AfterReturn s c n x.below below ops → tree_step s (at x u) ≡ return_step s x v →
      code_step c (stands (beside s x below p) used) ≡ returns (beside s x below (suc p)) v ops below → AgreeAt s c n x u below p used
  value-returned f t n x u v below p ops used result function alike after d e =
      value-by_frames f t n x.function p x.locals ops used x.restart u v x.below below result function alike after d e

  void-by_frames : (f : Function) (n g p : ℕ) (locals ops : List Value) (r : Restart) (u : Work) (trees : List TreeFrame) (codes : List Frame) →
      f.result ≡ None → function_at s g ≡ Some f → LookAlike trees codes → AfterReturn s c n trees codes ops →
      tree_step s (at (in_function g locals trees r) u) ≡ return_step s (in_function g locals trees r) Undef →
      code_step c (stands (beside s (in_function g locals trees r) codes p) ops) ≡ leaves (beside s (in_function g locals trees r) codes (suc p)) ops codes →
      AgreeAt s c n (in_function g locals trees r) u codes p ops
  void-by_frames f n g p locals ops r u [] [] result function alike after d e =
      let x = in_function g locals [] r in
      agree-ends (tree_threads s) (code_threads c) n (at x u) (stands (beside s x [] p) ops) act.ThreadEnd
      (d ∙ ap (λ o. last_step o Undef) function ∙ ap (λ o. last_value o Undef) result) e (look-alike s c x u [] p ops alike)
  void-by_frames f n g p locals ops r u (a ∷ trees) (b ∷ codes) result function alike after d e =
      agree-both (tree_threads s) (code_threads c) n _ _ _ _ d e (after n (omega arith) r Undef)
  void-by_frames f n g p locals ops r u [] (b ∷ codes) result function alike after d e = absurd cc
  void-by_frames f n g p locals ops r u (a ∷ trees) [] result function alike after d e = absurd cc

  -- a `void` function returns
  pub void-returned : (f : Function) (n : ℕ) (x : Context) (u : Work) (below : List Frame) (p : ℕ) (ops : List Value) → f.result ≡ None →
      function_at s x.function ≡ Some f → LookAlike x.below below → AfterReturn s c n x.below below ops → tree_step s (at x u) ≡ return_step s x Undef →
      code_step c (stands (beside s x below p) ops) ≡ leaves (beside s x below (suc p)) ops below → AgreeAt s c n x u below p ops
  void-returned f n x u below p ops result function alike after d e =
      void-by_frames f n x.function p x.locals ops x.restart u x.below below result function alike after d e
