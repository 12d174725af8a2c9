-- Steps of the tree and of code side by side: a value or a trap, a request, a test, a call.
use Rattle.std.proofs.Common.{◌≡◌, ℕ, suc, ◌<◌, Bool, true, false, if◌then◌else◌, List, ◌∷◌, length, slice_get, Some, Result, Ok, Err, sym, ap, ◌∙◌, subst, arith}
use Rattle.std.proofs.lemmas.List.{length-map}
use Rattle.kt_mem.specs.declared.memory.Value.{Value}
use Rattle.kt_mem.specs.declared.steps.Act.{Act}
use Rattle.kt_mem.specs.declared.steps.Act.TheVariants as act
use Rattle.kt_mem.specs.declared.steps.Trap.{Trap}
use Rattle.kt_mem.specs.declared.steps.Trap.TheVariants as trap
use Rattle.kt_tree.specs.declared.expr.Request.{Request}
use Rattle.kt_tree.specs.Tree.{Function}
use Rattle.kt_meaning.specs.Requests.{told, request_value}
use Rattle.kt_meaning.specs.Steps.{Acts, Traps}
use Rattle.kt_meaning.specs.Thread.{Have, Work, Frame as TreeFrame, Context, at, restart_after, locals_after, with_local}
use Rattle.kt_meaning.specs.TreeSteps.{Version, step as tree_step, goes as tree_goes, gives as tree_gives, asks as tree_asks, tested as tree_tested, swap_step, enter}
use Rattle.kt_code.specs.Agreement.{Called, Look}
use Rattle.kt_code.specs.AgreementLaws.{agree-both, agree-acts, agree-traps}
use Rattle.kt_code.specs.Code.{Code}
use Rattle.kt_code.specs.Looks.{tree_call, code_call, tree_look, code_look, tree_threads, code_threads}
use Rattle.kt_code.specs.Machine.{stands, goes, gives, asks, tested, swaps, entry_frame, enters, instr_step, do_one, step}
use Rattle.kt_code.specs.declared.frame.Frame.{Frame}
use Rattle.kt_code.specs.declared.instr.Instr.{Instr}
use Rattle.kt_genexpr.specs.Generates.{LookAlike, beside, AgreeAt, After, DoesCall}

-- a look whose first function is that of the context
abbrev look_over : Context → List Called → Look
look_over x below = record { calls = record { function = x.function; locals = x.locals } ∷ below; restart = x.restart }

pub same-depth : (trees : List TreeFrame) (codes : List Frame) → LookAlike trees codes → length trees ≡ length codes
same-depth trees codes h = sym (length-map trees tree_call) ∙ ap length h ∙ length-map codes code_call

module _ (s : Version) (c : Code) where
  pub look-alike : (x : Context) (w : Work) (below : List Frame) (p : ℕ) (ops : List Value) → LookAlike x.below below →
      tree_look (at x w) ≡ code_look (stands (beside s x below p) ops)
  look-alike x w below p ops h = ap (look_over x) h

  -- the instruction that stands there is the step
  pub there : (x : Context) (below : List Frame) (p : ℕ) (ops : List Value) (i : Instr) → slice_get c.instrs p ≡ Some i →
      step c (stands (beside s x below p) ops) ≡ do_one c.entries i (beside s x below (suc p)) ops
  there x below p ops i h = ap (λ o. instr_step c.entries o (beside s x below (suc p)) ops) h

  pub moved : (n : ℕ) (x : Context) (w : Work) (below : List Frame) (p q : ℕ) (ops : List Value) → p ≡ q → AgreeAt s c n x w below p ops → AgreeAt s c n x w below q ops
  moved n x w below p q ops e h = subst (λ i. AgreeAt s c n x w below i ops) e h

  pub after-moved : (n : ℕ) (x : Context) (w : Work) (below : List Frame) (p q : ℕ) (ops : List Value) → p ≡ q → After s c n x w below p ops → After s c n x w below q ops
  after-moved n x w below p q ops e h = subst (λ i. After s c n x w below i ops) e h

  -- a value or a trap on both sides
  pub gives-agree : (r : Result Value Trap) (n : ℕ) (x : Context) (w u : Work) (below : List Frame) (p q : ℕ) (ops used : List Value) → LookAlike x.below below →
      tree_step s (at x u) ≡ tree_gives x w r → step c (stands (beside s x below p) used) ≡ gives (beside s x below q) ops r →
      ((v : Value) → AgreeAt s c n x (Have v ∷ w) below q (v ∷ ops)) → AgreeAt s c n x u below p used
  gives-agree (Ok v) n x w u below p q ops used alike d e k = agree-both (tree_threads s) (code_threads c) n _ _ _ _ d e (k v)
  gives-agree (Err t) n x w u below p q ops used alike d e k = agree-traps (tree_threads s) (code_threads c) n _ _ t d e (look-alike x u below p used alike)

  -- a request, and the value that it gives after the reply
  pub asks-agree : (r : Result Act Trap) (q : Request) (vs : List Value) (n : ℕ) (x : Context) (w u : Work) (below : List Frame) (p next : ℕ) (ops used : List Value) →
      LookAlike x.below below → tree_step s (at x u) ≡ tree_asks x w q vs r → step c (stands (beside s x below p) used) ≡ asks (beside s x below next) ops q vs r →
      After s c n x w below next ops → AgreeAt s c n x u below p used
  asks-agree (Ok a) q vs n x w u below p next ops used alike d e k =
      agree-acts (tree_threads s) (code_threads c) n _ _ a _ _ d e (look-alike x u below p used alike)
      (λ m lt reply is. k m (omega arith) (locals_after a x.restart x.locals) (restart_after a x.restart) (request_value x.function x.restart q vs (told reply)))
  asks-agree (Err t) q vs n x w u below p next ops used alike d e k =
      agree-traps (tree_threads s) (code_threads c) n _ _ t d e (look-alike x u below p used alike)

  -- a tested value decides both sides alike
  pub tested-agree : (r : Result Bool Trap) (n : ℕ) (x : Context) (u w0 w1 : Work) (below : List Frame) (p p0 p1 : ℕ) (used ops0 ops1 : List Value) →
      LookAlike x.below below → tree_step s (at x u) ≡ tree_tested r (tree_goes x w0) (tree_goes x w1) →
      step c (stands (beside s x below p) used) ≡ tested r (goes (beside s x below p0) ops0) (goes (beside s x below p1) ops1) →
      AgreeAt s c n x w0 below p0 ops0 → AgreeAt s c n x w1 below p1 ops1 → AgreeAt s c n x u below p used
  tested-agree (Ok true) n x u w0 w1 below p p0 p1 used ops0 ops1 alike d e k l =
      agree-both (tree_threads s) (code_threads c) n _ _ _ _ d e k
  tested-agree (Ok false) n x u w0 w1 below p p0 p1 used ops0 ops1 alike d e k l =
      agree-both (tree_threads s) (code_threads c) n _ _ _ _ d e l
  tested-agree (Err t) n x u w0 w1 below p p0 p1 used ops0 ops1 alike d e k l =
      agree-traps (tree_threads s) (code_threads c) n _ _ t d e (look-alike x u below p used alike)

  -- a local takes a value, and gives the one that it had
  pub swaps-agree : (r : Result Value Trap) (n i : ℕ) (v : Value) (x : Context) (w u : Work) (below : List Frame) (p q : ℕ) (ops used : List Value) → LookAlike x.below below →
      tree_step s (at x u) ≡ swap_step x i v w r → step c (stands (beside s x below p) used) ≡ swaps (beside s x below q) i v ops r →
      ((old : Value) → AgreeAt s c n (with_local x i v) (Have old ∷ w) below q (old ∷ ops)) → AgreeAt s c n x u below p used
  swaps-agree (Ok old) n i v x w u below p q ops used alike d e k = agree-both (tree_threads s) (code_threads c) n _ _ _ _ d e (k old)
  swaps-agree (Err t) n i v x w u below p q ops used alike d e k =
      agree-traps (tree_threads s) (code_threads c) n _ _ t d e (look-alike x u below p used alike)

  -- a call: with too many open it is a trap, else a tick
  pub calls-agree : (deep : Bool) (n : ℕ) (g : ℕ) (f : Function) (vs : List Value) (x : Context) (w u : Work) (below : List Frame) (p q entry : ℕ) (ops used : List Value) →
      LookAlike x.below below → tree_step s (at x u) ≡ (if deep then Traps trap.Depth else Acts act.Tick (λ reply. enter g f vs x w)) →
      step c (stands (beside s x below p) used) ≡ (if deep then Traps trap.Depth else Acts act.Tick (λ reply. enters (beside s x below q) ops (entry_frame g entry (length f.locals) vs))) →
      ((m : ℕ) → m < n → DoesCall s c m g f entry) → After s c n x w below q ops → AgreeAt s c n x u below p used
  calls-agree true n g f vs x w u below p q entry ops used alike d e k after =
      agree-traps (tree_threads s) (code_threads c) n _ _ trap.Depth d e (look-alike x u below p used alike)
  calls-agree false n g f vs x w u below p q entry ops used alike d e k after =
      agree-acts (tree_threads s) (code_threads c) n _ _ act.Tick _ _ d e (look-alike x u below p used alike)
      (λ m lt reply is. k m lt x w below q ops vs alike (λ l le locals r v. after l (omega arith) locals r v))
