-- Journals as texts: their lines, the turns that they say, and where a text leaves their grammar.
use Rattle.std.specs.Prelude.{◌≡◌, ℕ, ◌<◌, ◌≤◌, true, List, [], ◌∷◌, ◌++◌, length, map, replicate, codes}
use Rattle.std.specs.Fmt.{decimal}
use Rattle.std.specs.List.{AllByRecursion}
use Rattle.kt_text.specs.Lines.{line_of}
use Rattle.kt_journal.specs.declared.kit.Kit.{Kit}
use Rattle.kt_journal.specs.declared.kit.Kit.TheVariants.{First, Second}
use Rattle.kt_journal.specs.Grammar.{Words, is_mark, is_end}

-- ---- lines

-- the words of the first line
abbrev pub kit_words : Kit → Words
kit_words First = codes "kit" ∷ codes "1" ∷ []
kit_words Second = codes "kit" ∷ codes "2" ∷ []

-- What a line says between the first and the last one: so many turns of a thread in a row, or a mark, as its words.
pub data Entry : Type 0 where
  Turns : ℕ → ℕ → Entry
  Mark : Words → Entry

abbrev pub words_of : Entry → Words
words_of (Turns thread count) = codes "turn" ∷ decimal thread ∷ decimal count ∷ []
words_of (Mark words) = words

-- such a line may stand in a journal of that form
abbrev pub IsEntry : Kit → Entry → Type 0
IsEntry kit (Turns thread count) = (thread ≤ 64) × (0 < count)
IsEntry kit (Mark words) = is_mark kit words ≡ true

-- the turns that lines say, one after the other
abbrev pub turns_of : List Entry → List ℕ
turns_of [] = []
turns_of (Turns thread count ∷ entries) = replicate count thread ++ turns_of entries
turns_of (Mark words ∷ entries) = turns_of entries

-- the most turns of a journal
abbrev pub most_turns : ℕ
most_turns = 10000000

-- these lines may stand before the last one
pub record AreEntries (kit : Kit) (entries : List Entry) : Type 0 where
  pub formed : AllByRecursion (IsEntry kit) entries
  pub few : length (turns_of entries) ≤ most_turns

-- ---- texts

-- the lines of such words, one after the other
abbrev pub text_of : List Words → List ℕ
text_of [] = []
text_of (words ∷ lines) = line_of words ++ text_of lines

-- the first line, and lines behind it
abbrev pub front_of : Kit → List Entry → List ℕ
front_of kit entries = line_of (kit_words kit) ++ text_of (map words_of entries)

-- the bytes are a journal, which says these turns
pub record Says (bytes turns : List ℕ) : Type 0 where
  pub kit : Kit
  pub entries : List Entry
  pub end : Words
  pub are_entries : AreEntries kit entries
  pub ends : is_end end ≡ true
  pub bytes_are : bytes ≡ front_of kit entries ++ line_of end
  pub turns_are : turns ≡ turns_of entries

-- ---- faults

-- this line stands at the front
abbrev pub StandsAt : Words → List ℕ → Type 0
StandsAt words bytes = (rest : List ℕ) × (bytes ≡ line_of words ++ rest)

-- no line may go on behind these ones with what is left
pub record BreaksOff (kit : Kit) (entries : List Entry) (rest : List ℕ) : Type 0 where
  pub no_entry : (entry : Entry) → AreEntries kit (entries ++ entry ∷ []) → StandsAt (words_of entry) rest → ⊥
  pub no_end : (end : Words) → is_end end ≡ true → StandsAt end rest → ⊥

-- The first line that isn't of the grammar, or the missing last one, is at this byte: the first line of the text; a line
-- behind lines that may stand there; or a line behind the last one.
pub data LeavesAt (bytes : List ℕ) : ℕ → Type 0 where
  AtStart : ((kit : Kit) → StandsAt (kit_words kit) bytes → ⊥) → LeavesAt bytes 0
  AtLine : (kit : Kit) (entries : List Entry) (rest : List ℕ) → AreEntries kit entries → bytes ≡ front_of kit entries ++ rest
      → BreaksOff kit entries rest → LeavesAt bytes (length (front_of kit entries))
  BehindEnd : (kit : Kit) (entries : List Entry) (end : Words) (rest : List ℕ) → AreEntries kit entries → is_end end ≡ true
      → bytes ≡ (front_of kit entries ++ line_of end) ++ rest → 0 < length rest
      → LeavesAt bytes (length (front_of kit entries ++ line_of end))
