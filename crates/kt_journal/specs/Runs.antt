-- The journal of a job's turns, and what its lines say of an update on its way: from an accepted closing up to the line that
-- tells that `main` is at its point, or that the run has ended, all turns are those of `main`.
use Rattle.std.specs.Prelude.{◌≡◌, ℕ, ◌==◌, ◌&&◌, ◌||◌, not, Bool, true, false, List, [], ◌∷◌, map, codes, if◌then◌else◌}
use Rattle.kt_world.specs.Job.{Job}
use Rattle.kt_world.specs.Trees.{world}
use Rattle.kt_journal.specs.Grammar.{Words, is, is_of}
use Rattle.kt_journal.specs.Reading.{with_byte, split}
use Rattle.kt_journal.specs.Written.{journal_of}

abbrev pub journal_in : Job → List ℕ → List ℕ
journal_in job turns = journal_of job turns (world job turns).shared.marks

-- ---- the lines of a text

-- the bytes up to each newline
abbrev pub lines_in : List ℕ → List (List ℕ)
lines_in [] = []
lines_in (b ∷ bytes) = if b == 10 then [] ∷ lines_in bytes else with_byte b (lines_in bytes)

-- ---- lines, by their words

-- whatever stands there
abbrev pub anything : List ℕ → Bool
anything word = true

-- a closing was accepted
abbrev pub is_accepted : Words → Bool
is_accepted words = is_of (is (codes "close") ∷ anything ∷ is (codes "ok") ∷ anything ∷ []) words

abbrev pub begins_with : List ℕ → Words → Bool
begins_with text [] = false
begins_with text (word ∷ words) = is text word

-- `main` is at its point, or the run has ended
abbrev pub is_over : Words → Bool
is_over words = begins_with (codes "main") words || begins_with (codes "end") words

-- turns of another thread than `main`
abbrev pub is_other : Words → Bool
is_other [] = false
is_other (word ∷ []) = false
is_other (word ∷ (thread ∷ words)) = is (codes "turn") word && not (is (codes "0") thread)

-- ---- `main` alone

-- whether an update is on its way behind the line
abbrev pub is_on_its_way : Words → Bool → Bool
is_on_its_way words before = if is_accepted words then true else (if is_over words then false else before)

-- while an update is on its way, no line says turns of another thread than `main`
abbrev pub IsMainOnly : Bool → List Words → Type 0
IsMainOnly on_its_way [] = Unit {0}
IsMainOnly on_its_way (words ∷ lines) = (on_its_way ≡ true → is_other words ≡ false) × IsMainOnly (is_on_its_way words on_its_way) lines

-- the same of a text, where at first none is on its way
abbrev pub HasMainOnly : List ℕ → Type 0
HasMainOnly bytes = IsMainOnly false (map split (lines_in bytes))
