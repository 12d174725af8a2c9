-- How threads of the tree and of code look, and the two kinds of threads.
use Rattle.std.specs.Prelude.{ℕ, map}
use Rattle.kt_mem.specs.declared.steps.Reply.{Reply}
use Rattle.kt_meaning.specs.Steps.{Settles, after_reply}
use Rattle.kt_meaning.specs.Thread.{Thread, Frame as TreeFrame}
use Rattle.kt_meaning.specs.TreeSteps.{Version, step as tree_step}
use Rattle.kt_code.specs.Agreement.{Called, Look, Kind, IsReplyTo, DoesSameActs, Agree}
use Rattle.kt_code.specs.Code.{Code}
use Rattle.kt_code.specs.Machine.{step as code_step}
use Rattle.kt_code.specs.declared.frame.Frame.{Frame}
use Rattle.kt_code.specs.declared.private.Private.{Private}

abbrev pub tree_call : TreeFrame → Called
tree_call f = record { function = f.function; locals = f.locals }

abbrev pub code_call : Frame → Called
code_call f = record { function = f.function; locals = f.locals }

abbrev pub tree_look : Thread → Look
tree_look t = record { calls = map tree_call t.frames; restart = t.restart }

abbrev pub code_look : Private → Look
code_look p = record { calls = map code_call p.frames; restart = record { mode = p.mode; kept = p.locals } }

-- the threads of a version's trees
abbrev pub tree_threads : Version → Kind
tree_threads s = record { State = Thread; step = tree_step s; look = tree_look }

-- those of code
abbrev pub code_threads : Code → Kind
code_threads c = record { State = Private; step = code_step c; look = code_look }

-- a thread of a tree and one of code that agree on all numbers of replies do the same acts on all lists of them
abbrev pub AgreementIsSameActs : Type 0
AgreementIsSameActs =
    (s : Version) (c : Code) (x : Thread) (y : Private) → ((n : ℕ) → Agree (tree_threads s) (code_threads c) n x y) →
    DoesSameActs (tree_threads s) (code_threads c) x y

-- where both have settled, after a reply of the act's kind they do the same acts again
abbrev pub SameActsGoOn : Type 0
SameActsGoOn =
    (s : Version) (c : Code) (x p : Thread) (y q : Private) → Settles (tree_step s) x p → Settles (code_step c) y q →
    DoesSameActs (tree_threads s) (code_threads c) x y → (r : Reply) → IsReplyTo (tree_step s p) r →
    DoesSameActs (tree_threads s) (code_threads c) (after_reply p (tree_step s p) r) (after_reply q (code_step c q) r)
