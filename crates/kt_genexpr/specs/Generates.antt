-- What it is for code to do the acts of an expression: whatever agrees after it agrees before it.
use Rattle.std.specs.Prelude.{◌≡◌, ℕ, ℤ, suc, ◌+◌, ◌<◌, ◌≤◌, List, [], ◌∷◌, ◌++◌, length, map, reverse, slice_get, Some}
use Rattle.kt_mem.specs.declared.memory.Value.{Value}
use Rattle.kt_mem.specs.declared.memory.Value.TheVariants.{Num}
use Rattle.kt_tree.specs.Tree.{Expression, Expressions, Function}
use Rattle.kt_tree.specs.Typed.{Kind, kind}
use Rattle.kt_tree.specs.Version.{Program, scope_of}
use Rattle.kt_meaning.specs.Laws.{numbered}
use Rattle.kt_meaning.specs.Steps.{Comes}
use Rattle.kt_meaning.specs.Thread.{Use, Eval, Have, Wait, Returns, Work, Frame as TreeFrame, Restart, Context, at}
use Rattle.kt_meaning.specs.TreeSteps.{Version, step as tree_step, function_at, enter, use_step, operands_step}
use Rattle.kt_code.specs.Agreement.{Agree}
use Rattle.kt_code.specs.Code.{Code}
use Rattle.kt_code.specs.Looks.{tree_call, code_call, tree_threads, code_threads}
use Rattle.kt_code.specs.Machine.{Here, stands, entry_frame, enters, step as code_step}
use Rattle.kt_code.specs.declared.frame.Frame.{Frame}
use Rattle.kt_code.specs.declared.instr.Instr.{Instr}
use Rattle.kt_code.specs.declared.instr.Instr.TheVariants as instr
use Rattle.kt_genexpr.specs.ExpressionCode.{count, expression_code}

-- the instructions stand in these at this place
abbrev pub HasAt : List Instr → ℕ → List Instr → Type 0
HasAt instrs p [] = Unit {0}
HasAt instrs p (i ∷ is) = (slice_get instrs p ≡ Some i) × HasAt instrs (suc p) is

-- ---- threads of the tree and of code that stand alike

-- frames of the tree, and frames of code that look like them
abbrev pub LookAlike : List TreeFrame → List Frame → Type 0
LookAlike trees codes = map tree_call trees ≡ map code_call codes

-- where code stands beside a thread of the tree: at a place of its own, with frames of its own below
abbrev pub beside : Version → Context → List Frame → ℕ → Here
beside s x below p = record { version = s.number; function = x.function; at = p; locals = x.locals; below = below; restart = x.restart }

-- the context, once locals and what an update left have become these
abbrev pub later : Context → List Value → Restart → Context
later x locals r = record x { locals = locals; restart = r }

-- the tree with this work, and code at this place with these operands, agree on all lists of fewer than n replies
abbrev pub AgreeAt : Version → Code → ℕ → Context → Work → List Frame → ℕ → List Value → Type 0
AgreeAt s c n x w below p ops = Agree (tree_threads s) (code_threads c) n (at x w) (stands (beside s x below p) ops)

-- they agree once the tree has a value, which code has topmost among its operands
abbrev pub After : Version → Code → ℕ → Context → Work → List Frame → ℕ → List Value → Type 0
After s c n x w below p ops =
    (m : ℕ) → m ≤ n → (locals : List Value) (r : Restart) (v : Value) → AgreeAt s c m (later x locals r) (Have v ∷ w) below p (v ∷ ops)

-- ---- expressions

-- from one place to another code does what the expression does
abbrev pub DoesExpr : Version → Code → ℕ → Expression → ℕ → ℕ → Type 0
DoesExpr s c n e from to =
    (x : Context) (w : Work) (below : List Frame) (ops : List Value) → LookAlike x.below below → After s c n x w below to ops →
    AgreeAt s c n x (Eval e ∷ w) below from ops

-- they agree once the tree uses the values of all operands; code has them topmost, the latest first
abbrev pub AfterAll : Version → Code → ℕ → Expressions → Use → List Value → Context → Work → List Frame → ℕ → List Value → Type 0
AfterAll s c n es purpose vs x w below p ops =
    (m : ℕ) → m ≤ n → (locals : List Value) (r : Restart) (us : List Value) (u : Work) → length us ≡ length vs + count es →
    tree_step s (at (later x locals r) u) ≡ use_step s purpose (reverse us) (later x locals r) w →
    AgreeAt s c m (later x locals r) u below p (us ++ ops)

-- code does what these operands do, where `vs` has the values of those before them, the latest first
abbrev pub DoesExprs : Version → Code → ℕ → Expressions → ℕ → ℕ → Type 0
DoesExprs s c n es from to =
    (x : Context) (w : Work) (below : List Frame) (ops : List Value) (purpose : Use) (vs : List Value) (u : Work) → LookAlike x.below below →
    tree_step s (at x u) ≡ operands_step s purpose vs es x w → AfterAll s c n es purpose vs x w below to ops →
    AgreeAt s c n x u below from (vs ++ ops)

-- ---- calls

-- from its entry on code does what the function does, with any arguments, up to the value that the call gives
abbrev pub DoesCall : Version → Code → ℕ → ℕ → Function → ℕ → Type 0
DoesCall s c n g f entry =
    (x : Context) (w : Work) (below : List Frame) (p : ℕ) (ops vs : List Value) → LookAlike x.below below → After s c n x w below p ops →
    Agree (tree_threads s) (code_threads c) n (enter g f vs x w) (enters (beside s x below p) ops (entry_frame g entry (length f.locals) vs))

-- a function has an entry in code, and code does what its calls do on fewer replies
pub record HasCall (s : Version) (c : Code) (n g : ℕ) (f : Function) : Type 0 where
  pub entry : ℕ
  pub stands : slice_get c.entries g ≡ Some entry
  pub does : (m : ℕ) → m < n → DoesCall s c m g f entry

abbrev pub DoesCallsUnder : Version → Code → ℕ → Type 0
DoesCallsUnder s c n = (g : ℕ) (f : Function) → function_at s g ≡ Some f → HasCall s c n g f

-- ---- the law

-- the code of a typed expression of a function does what the expression does, wherever it stands, if calls are done on
-- fewer replies
abbrev pub ExpressionsDo : Version → Code → Type 0
ExpressionsDo s c =
    (f : Function) (e : Expression) (k : Kind) → kind (scope_of s.program f) e ≡ Some k → (p : ℕ) →
    HasAt c.instrs p (expression_code s.program.types s.program.functions e) → (n : ℕ) → DoesCallsUnder s c n →
    DoesExpr s c n e p (p + length (expression_code s.program.types s.program.functions e))

-- what was added to some code does the expression of a version, in whatever code it comes to stand there
pub record Generates (p : Program) (e : Expression) (old new : List Instr) : Type 0 where
  pub added : List Instr
  pub is : new ≡ old ++ added
  pub does : (number : ℕ) (c : Code) (n : ℕ) → HasAt c.instrs (length old) added → DoesCallsUnder (numbered p number) c n →
      DoesExpr (numbered p number) c n e (length old) (length new)

-- so it is where the code of a typed expression was added
abbrev pub CodesGenerate : Program → Type 0
CodesGenerate p =
    (f : Function) (e : Expression) (k : Kind) (old : List Instr) → kind (scope_of p f) e ≡ Some k →
    Generates p e old (old ++ expression_code p.types p.functions e)

-- ---- no other value

-- the bottom frame of a thread
abbrev pub bottom : ℕ → List Value → Restart → Context
bottom g locals r = record { function = g; locals = locals; below = []; restart = r }

-- where an expression of `main` quietly gives a number, code that does it and then returns leaves that number
abbrev pub IsExact : Version → Code → Type 0
IsExact s c =
    (e : Expression) (from to : ℕ) → slice_get c.instrs to ≡ Some instr.Return → DoesExpr s c 1 e from to →
    (g : ℕ) (f : Function) (t : ℕ) → function_at s g ≡ Some f → f.result ≡ Some t →
    (locals : List Value) (r : Restart) (k l : ℕ) (a b : ℤ) →
    Comes (tree_step s) k (at (bottom g locals r) (Eval e ∷ Wait Returns ∷ [])) (at (bottom g locals r) (Have (Num a) ∷ Wait Returns ∷ [])) →
    Comes (code_step c) l (stands (beside s (bottom g locals r) [] from) []) (stands (beside s (bottom g locals r) [] to) (Num b ∷ [])) →
    a ≡ b
