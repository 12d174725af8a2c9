-- What it is for code to do the acts of a statement: whatever agrees behind it, where `continue` and `break` go, and once
-- the function has returned, agrees before it.
use Rattle.std.specs.Prelude.{◌≡◌, ℕ, ◌+◌, ◌≤◌, Bool, true, List, ◌∷◌, length, Some}
use Rattle.kt_mem.specs.declared.memory.Value.{Value}
use Rattle.kt_tree.specs.Tree.{Statement, Function}
use Rattle.kt_tree.specs.Typed.{fits}
use Rattle.kt_tree.specs.Version.{scope_of}
use Rattle.kt_meaning.specs.Thread.{Have, Do, Work, to_loop, after_loop, Frame as TreeFrame, Restart, Thread, Context}
use Rattle.kt_meaning.specs.TreeSteps.{Version, function_at}
use Rattle.kt_code.specs.Agreement.{Agree}
use Rattle.kt_code.specs.Code.{Code}
use Rattle.kt_code.specs.Looks.{tree_threads, code_threads}
use Rattle.kt_code.specs.declared.frame.Frame.{Frame}
use Rattle.kt_code.specs.declared.private.Private.{Private}
use Rattle.kt_genexpr.specs.Generates.{HasAt, LookAlike, later, AgreeAt, DoesCallsUnder}
use Rattle.kt_codegen.specs.StatementCode.{statement_code}

-- ---- where the thread goes on

-- they agree once the tree has this work left, whatever the locals are by then
abbrev pub AfterWork : Version → Code → ℕ → Context → Work → List Frame → ℕ → List Value → Type 0
AfterWork s c n x w below p ops =
    (m : ℕ) → m ≤ n → (locals : List Value) (r : Restart) → AgreeAt s c m (later x locals r) w below p ops

-- threads with these frames, once the call above them has given a value
abbrev pub tree_with : TreeFrame → List TreeFrame → Restart → Value → Thread
tree_with g below r v = record { frames = record g { work = Have v ∷ g.work } ∷ below; restart = r }

abbrev pub code_with : ℕ → Frame → List Frame → Restart → Value → List Value → Private
code_with version f below r v ops =
    record { version = version; frames = f ∷ below; operands = v ∷ ops; mode = r.mode; locals = r.kept }

-- they agree once the function has returned to the frames below it; at the bottom nothing is left to do
abbrev pub AfterReturn : Version → Code → ℕ → List TreeFrame → List Frame → List Value → Type 0
AfterReturn s c n (g ∷ trees) (f ∷ codes) ops =
    (m : ℕ) → m ≤ n → (r : Restart) (v : Value) →
    Agree (tree_threads s) (code_threads c) m (tree_with g trees r v) (code_with s.number f codes r v ops)
AfterReturn s c n trees codes ops = Unit {0}

-- a thread in a function, with this work behind what it does now: they agree behind it at one place of code, where
-- `continue` goes at another, where `break` goes at a third, and once the function has returned
pub record GoesOn (s : Version) (c : Code) (f : Function) (n : ℕ) (x : Context) (w : Work) (below : List Frame) (ops : List Value) (to next out : ℕ) : Type 0 where
  pub function : function_at s x.function ≡ Some f
  pub alike : LookAlike x.below below
  pub returned : AfterReturn s c n x.below below ops
  pub behind : AfterWork s c n x w below to ops
  pub continued : AfterWork s c n x (to_loop w) below next ops
  pub broken : AfterWork s c n x (after_loop w) below out ops

-- ---- statements

-- from one place to another code does what the statement of a function does
abbrev pub DoesStatement : Version → Code → Function → ℕ → Statement → ℕ → ℕ → ℕ → ℕ → Type 0
DoesStatement s c f n a from to next out =
    (x : Context) (w : Work) (below : List Frame) (ops : List Value) → GoesOn s c f n x w below ops to next out →
    AgreeAt s c n x (Do a ∷ w) below from ops

-- ---- the law

-- the place behind a statement's instructions, which begin here
abbrev pub end_of : Version → ℕ → ℕ → Statement → ℕ → ℕ
end_of s next out a p = p + length (statement_code s.program.types s.program.functions next out a)

-- the code of a statement that fits into a function does what the statement does, wherever it stands, if calls are done
-- on fewer replies
abbrev pub StatementsDo : Version → Code → Type 0
StatementsDo s c =
    (f : Function) (in_loop : Bool) (a : Statement) → fits (scope_of s.program f) f.result in_loop a ≡ true → (next out p : ℕ) →
    HasAt c.instrs p (statement_code s.program.types s.program.functions next out a) → (n : ℕ) → DoesCallsUnder s c n →
    DoesStatement s c f n a p (end_of s next out a p) (end_of s next out a p + next) (end_of s next out a p + out)
