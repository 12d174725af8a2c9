-- What it is for code to do the acts of a version: from each function's entry it does what the function does.
use Rattle.std.specs.Prelude.{◌≡◌, ◌⊎◌, ℕ, List, [], ◌∷◌, length, slice_get, Option, None, Some}
use Rattle.kt_mem.specs.declared.memory.Value.{Value}
use Rattle.kt_tree.specs.Kinds.{int_type}
use Rattle.kt_tree.specs.Tree.{Function}
use Rattle.kt_tree.specs.Version.{head_of}
use Rattle.kt_meaning.specs.Values.{AreAt}
use Rattle.kt_meaning.specs.Thread.{Restart, entry}
use Rattle.kt_meaning.specs.ThreadTypes.{IsRestart}
use Rattle.kt_meaning.specs.TreeSteps.{Version, function_at}
use Rattle.kt_code.specs.Agreement.{DoesSameActs}
use Rattle.kt_code.specs.Code.{Code}
use Rattle.kt_code.specs.Looks.{code_look, code_threads, tree_look, tree_threads}
use Rattle.kt_code.specs.Machine.{entry_frame}
use Rattle.kt_code.specs.Settling.{Fits}
use Rattle.kt_code.specs.declared.private.Private.{Private}

-- a thread of a version's code at the entry of a function, which stands at this place
abbrev pub entry_state : ℕ → ℕ → ℕ → Function → List Value → Restart → Private
entry_state version at g f arguments r =
    record { version = version; frames = entry_frame g at (length f.locals) arguments ∷ []; operands = []; mode = r.mode; locals = r.kept }

-- the function has an entry in code, and from there code does what the function does, with any arguments
pub record DoesFunction (s : Version) (c : Code) (g : ℕ) (f : Function) : Type 0 where
  pub entry_at : ℕ
  pub entry_is : slice_get c.entries g ≡ Some entry_at
  pub acts : (arguments : List Value) (r : Restart) →
      DoesSameActs (tree_threads s) (code_threads c) (entry g f arguments r) (entry_state s.number entry_at g f arguments r)

abbrev pub DoesVersion : Version → Code → Type 0
DoesVersion s c = (g : ℕ) (f : Function) → function_at s g ≡ Some f → DoesFunction s c g f

-- the result of a function with which a thread may begin: nothing, or `int`
abbrev pub IsLastResult : Option ℕ → Type 0
IsLastResult result = (result ≡ None) ⊎ (result ≡ Some int_type)

-- where a thread may begin with a function, and arguments and kept locals are of their types, the state at the function's
-- entry fits the code
abbrev pub FitsEntries : Version → Code → Type 0
FitsEntries s c =
    (g at : ℕ) (f : Function) (arguments : List Value) (r : Restart) → function_at s g ≡ Some f → slice_get c.entries g ≡ Some at → IsLastResult f.result →
    AreAt s.program.types (head_of f).parameters arguments → IsRestart s.program r → Fits c (entry_state s.number at g f arguments r)

-- the state at a function's entry looks like the tree's thread there
abbrev pub EntriesLookAlike : Type 0
EntriesLookAlike =
    (version at g : ℕ) (f : Function) (arguments : List Value) (r : Restart) →
    code_look (entry_state version at g f arguments r) ≡ tree_look (entry g f arguments r)
