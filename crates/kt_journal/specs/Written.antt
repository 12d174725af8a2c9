-- The journal of a list of turns of a job and of the marks between them.
use Rattle.std.specs.Prelude.{ℕ, suc, ◌+◌, ◌-◌, ◌==◌, List, [], ◌∷◌, take, drop, if◌then◌else◌}
use Rattle.kt_world.specs.declared.mark.Mark.{Mark}
use Rattle.kt_world.specs.Job.{Job, version_at}
use Rattle.kt_world.specs.Told.{version_after}
use Rattle.kt_journal.specs.declared.kit.Kit.{Kit}
use Rattle.kt_journal.specs.Journal as journal
use Rattle.kt_journal.specs.Journal.{Entry, Turns, front_of}
use Rattle.kt_journal.specs.Marks.{mark_words, turn_of, kit_of}

-- ---- turns

-- one turn more, in front; turns of one thread in a row are one line
abbrev pub with_turn : ℕ → List Entry → List Entry
with_turn t [] = Turns t 1 ∷ []
with_turn t (Turns u n ∷ entries) = if u == t then Turns u (n + 1) ∷ entries else Turns t 1 ∷ Turns u n ∷ entries
with_turn t (journal.Mark words ∷ entries) = Turns t 1 ∷ journal.Mark words ∷ entries

-- these turns, in front
abbrev pub with_turns : List ℕ → List Entry → List Entry
with_turns [] entries = entries
with_turns (t ∷ turns) entries = with_turn t (with_turns turns entries)

-- ---- marks

-- the lines of these turns, before which so many were made while that version was in force, with the marks among them
abbrev pub entries_from : Kit → Job → ℕ → ℕ → List ℕ → List Mark → List Entry
entries_from kit job v made turns [] = with_turns turns []
entries_from kit job v made turns (m ∷ marks) =
    with_turns (take (turn_of m - made) turns)
    (journal.Mark (mark_words kit (version_at job (suc v)) m)
    ∷ entries_from kit job (version_after m v) (turn_of m) (drop (turn_of m - made) turns) marks)

-- ---- the journal

abbrev pub journal_of : Job → List ℕ → List Mark → List ℕ
journal_of job turns marks = front_of (kit_of marks) (entries_from (kit_of marks) job 0 0 turns marks)
