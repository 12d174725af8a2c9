-- Calls: the code of a function's body does what a call of the function does, by the number of replies, since each call
-- has a tick; so the entry of each function does the same acts.
use Rattle.std.proofs.Common.{◌≡◌, ℕ, zero, suc, pos, ◌+◌, ◌-◌, ◌≤◌, Bool, true, false, List, [], ◌∷◌, ◌++◌, length, replicate, Option, None, Some, refl, ap, subst, arith}
use Rattle.std.specs.Prelude.{slice_get}
use Rattle.std.specs.List.{AllByRecursion}
use Rattle.std.proofs.lemmas.Option.{none-some, same_Some}
use Rattle.kt_mem.specs.declared.memory.Value.{Value}
use Rattle.kt_mem.specs.declared.memory.Value.TheVariants.{Num, Undef}
use Rattle.kt_mem.specs.declared.steps.Trap.TheVariants as trap
use Rattle.kt_tree.specs.Kinds.{int_type}
use Rattle.kt_tree.specs.Tree.{Function}
use Rattle.kt_tree.specs.Version.{IsProgram, IsFunction}
use Rattle.kt_meaning.specs.Thread.{Work, Do, Frame as TreeFrame, Restart, Context, at, entry}
use Rattle.kt_meaning.specs.TreeSteps.{Version, function_at, is_main, end_value, returns_if, end_step, step as tree_step}
use Rattle.kt_code.specs.Agreement.{Agree, DoesSameActs}
use Rattle.kt_code.specs.AgreementLaws.{agree-right, agree-traps, same-acts}
use Rattle.kt_code.specs.Code.{Code}
use Rattle.kt_code.specs.Looks.{tree_threads, code_threads}
use Rattle.kt_code.specs.Machine.{frame_here, stands}
use Rattle.kt_code.specs.declared.frame.Frame.{Frame}
use Rattle.kt_code.specs.declared.instr.Instr.TheVariants as instr
use Rattle.kt_genexpr.specs.Generates.{HasAt, LookAlike, beside, later, AgreeAt, DoesCall, DoesCallsUnder}
use Rattle.kt_genexpr.proofs.Agreeing.{look-alike, there}
use Rattle.kt_genexpr.proofs.Places.{has-front, has-back}
use Rattle.kt_codegen.specs.StatementCode.{statement_code}
use Rattle.kt_codegen.specs.StatementActs.{AfterWork, AfterReturn, StatementsDo}
use Rattle.kt_codegen.specs.VersionCode.{end_code, function_code}
use Rattle.kt_pair.specs.VersionActs.{entry_state}
use Rattle.kt_codegen.proofs.Agreeing.{fewer-return, value-returned, void-returned}
use Rattle.kt_codegen.proofs.Mains.{main-result}

-- each function of the version stands in code, from an entry on
pub record HasEntry (s : Version) (c : Code) (g : ℕ) (f : Function) : Type 0 where
  pub entry_at : ℕ
  pub entry_is : slice_get c.entries g ≡ Some entry_at
  pub stands_there : HasAt c.instrs entry_at (function_code s.program.types s.program.functions f)

abbrev pub HasEntries : Version → Code → Type 0
HasEntries s c = (g : ℕ) (f : Function) → function_at s g ≡ Some f → HasEntry s c g f

abbrev entry_locals : Function → List Value → List Value
entry_locals f vs = vs ++ replicate (length f.locals - length vs) Undef

-- a thread at the entry of a function, above these frames
abbrev entry_context : ℕ → Function → List Value → List TreeFrame → Restart → Context
entry_context g f vs below r = record { function = g; locals = entry_locals f vs; below = below; restart = r }

all-functions : (P : Function → Type 0) (fs : List Function) (n : ℕ) (f : Function) → AllByRecursion P fs → slice_get fs n ≡ Some f → P f
all-functions P [] n f a e = absurd (none-some f e)
all-functions P (g ∷ fs) zero f a e = subst P (same_Some g f e) (a.0)
all-functions P (g ∷ fs) (suc n) f a e = all-functions P fs n f (a.1) e

module _ (s : Version) (c : Code) (program : IsProgram s.program) (statements : StatementsDo s c) (entries : HasEntries s c) where
  -- the end of a function's body, by whether it is `main` and by its result
  end-agrees : (f : Function) (b : Bool) (r : Option ℕ) → is_main f ≡ b → f.result ≡ r → (n : ℕ) (x : Context) (below : List Frame) (p : ℕ) (ops : List Value) → HasAt c.instrs p (end_code b r) →
      function_at s x.function ≡ Some f → LookAlike x.below below → AfterReturn s c n x.below below ops → tree_step s (at x []) ≡ returns_if s x (end_value b r) →
      AgreeAt s c n x [] below p ops
  end-agrees f true r m e n x below p ops h function alike after d =
      agree-right (tree_threads s) (code_threads c) n _ _ _ (there s c x below p ops (instr.Number (pos 0)) (h.0))
      (value-returned s c f int_type n x [] (Num (pos 0)) below (suc p) ops (Num (pos 0) ∷ ops) (main-result s.program program x.function f function m) function alike after d
      (there s c x below (suc p) (Num (pos 0) ∷ ops) instr.Return (h.1.0)))
  end-agrees f false None m e n x below p ops h function alike after d =
      void-returned s c f n x [] below p ops e function alike after d (there s c x below p ops instr.Leave (h.0))
  end-agrees f false (Some t) m e n x below p ops h function alike after d =
      agree-traps (tree_threads s) (code_threads c) n (at x []) (stands (beside s x below p) ops) trap.Uninit d (there s c x below p ops instr.NoValue (h.0)) (look-alike s c x [] below p ops alike)

  -- the body of a function, and its end
  body-agrees : (f : Function) (g : ℕ) → function_at s g ≡ Some f → (p : ℕ) → HasAt c.instrs p (function_code s.program.types s.program.functions f) → (n : ℕ) → DoesCallsUnder s c n →
      (vs : List Value) (trees : List TreeFrame) (r : Restart) (codes : List Frame) (ops : List Value) → LookAlike trees codes → AfterReturn s c n trees codes ops →
      AgreeAt s c n (entry_context g f vs trees r) (Do f.body ∷ []) codes p ops
  body-agrees f g is p h n calls vs trees r codes ops alike after =
      let x = entry_context g f vs trees r in
      let body = statement_code s.program.types s.program.functions 0 0 f.body in
      let end = end_code (is_main f) f.result in
      let q = p + length body in
      let fit = (all-functions (IsFunction s.program) s.program.functions g f program.functions is).body in
      let same : q ≡ q + 0 = omega arith in
      let ends : AfterWork s c n x [] codes q ops =
      λ m le locals r'. end-agrees f (is_main f) f.result refl refl m (later x locals r') codes q ops (has-back c.instrs p body end h) is alike
      (fewer-return s c m n trees codes ops le after) (ap (λ o. end_step s (later x locals r') o) is) in
      statements f false f.body fit 0 0 p (has-front c.instrs p body end h) n calls x [] codes ops (record {
        function = is;
        alike = alike;
        returned = after;
        behind = ends;
        continued = subst (λ i. AfterWork s c n x [] codes i ops) same ends;
        broken = subst (λ i. AfterWork s c n x [] codes i ops) same ends;
      })

  -- the frame of a caller looks alike too
  caller-alike : (x : Context) (w : Work) (below : List Frame) (p : ℕ) → LookAlike x.below below →
      LookAlike (at x w).frames (frame_here (beside s x below p) ∷ below)
  caller-alike x w below p h = ap (λ calls. record { function = x.function; locals = x.locals } ∷ calls) h

  call-does : (g : ℕ) (f : Function) (is : function_at s g ≡ Some f) (n : ℕ) → DoesCallsUnder s c n → DoesCall s c n g f (entries g f is).entry_at
  call-does g f is n calls x w below p ops vs alike after =
      body-agrees f g is (entries g f is).entry_at (entries g f is).stands_there n calls vs (at x w).frames x.restart (frame_here (beside s x below p) ∷ below) ops
      (caller-alike x w below p alike) (λ m le r v. after m le x.locals r v)

  -- calls do what they do on fewer than `n` replies
  calls-under : (most n : ℕ) → n ≤ most → DoesCallsUnder s c n
  calls-under zero n le = λ g f is. record { entry = (entries g f is).entry_at; stands = (entries g f is).entry_is; does = λ m lt. absurd (omega arith) }
  calls-under (suc most) n le = λ g f is. record {
    entry = (entries g f is).entry_at;
    stands = (entries g f is).entry_is;
    does = λ m lt. call-does g f is m (calls-under most m (omega arith));
  }

  -- from the entry of a function, with any arguments, the same acts
  pub entry-agrees : (g : ℕ) (f : Function) (is : function_at s g ≡ Some f) (arguments : List Value) (r : Restart) (n : ℕ) →
      Agree (tree_threads s) (code_threads c) n (entry g f arguments r) (entry_state s.number (entries g f is).entry_at g f arguments r)
  entry-agrees g f is arguments r n =
      body-agrees f g is (entries g f is).entry_at (entries g f is).stands_there n (calls-under n n (omega arith)) arguments [] r [] [] refl tt

  pub entry-acts : (g : ℕ) (f : Function) (is : function_at s g ≡ Some f) (arguments : List Value) (r : Restart) →
      DoesSameActs (tree_threads s) (code_threads c) (entry g f arguments r) (entry_state s.number (entries g f is).entry_at g f arguments r)
  entry-acts g f is arguments r =
      same-acts (tree_threads s) (code_threads c) (entry g f arguments r) (entry_state s.number (entries g f is).entry_at g f arguments r) (entry-agrees g f is arguments r)
