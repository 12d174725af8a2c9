-- For the contracts of the functions that read: the words in a line, what the parts of a form are, and what a line adds to
-- the turns.
use Rattle.std.specs.Prelude.{◌≡◌, ℕ, ◌+◌, ◌≤◌, ◌==◌, Bool, true, List, [], ◌∷◌, ◌++◌, length, map, Option, Some, None, if◌then◌else◌, codes}
use denote.Ref.{Bor}
use Rattle.kt_text.specs.Lines.{line_of}
use Rattle.kt_grammar.specs.Identifiers.{is_identifier}
use Rattle.kt_journal.specs.declared.kit.Kit.{Kit}
use Rattle.kt_journal.specs.declared.form.Part.{Part}
use Rattle.kt_journal.specs.declared.form.Part.TheVariants as part
use Rattle.kt_journal.specs.Grammar.{Words, Form, is, is_number, is_number_up_to, is_thread, is_value, is_trap, is_place_fault, is_end, number_in}
use Rattle.kt_journal.specs.Journal.{Entry, words_of, IsEntry, turns_of, most_turns, AreEntries, text_of, StandsAt}

-- a byte more, in front of the first word
abbrev pub with_byte : ℕ → Words → Words
with_byte b [] = (b ∷ []) ∷ []
with_byte b (word ∷ words) = (b ∷ word) ∷ words

-- the words between the spaces of a line
abbrev pub split : List ℕ → Words
split [] = [] ∷ []
split (b ∷ bytes) = if b == 32 then [] ∷ split bytes else with_byte b (split bytes)

-- the words in what is left of a line, where something is left
abbrev pub words_in : Option (Bor (List ℕ)) → Words
words_in None = []
words_in (Some rest) = split rest.now

-- what a word may be that is such a part of a form
abbrev pub test_of : Part → List ℕ → Bool
test_of (part.Word text) word = is text.now word
test_of part.Number word = is_number word
test_of part.Woken word = is_number_up_to 65 word
test_of part.Thread word = is_thread word
test_of part.Name word = is_identifier word
test_of part.Trap word = is_trap word
test_of part.Fault word = is_place_fault word
test_of part.Value word = is_value word

abbrev pub form_of : List Part → Form
form_of parts = map test_of parts

-- the thread and the number of turns, where that number isn't 0
abbrev pub some_turns : Option ℕ → Option ℕ → Option (ℕ × ℕ)
some_turns None count = None
some_turns (Some thread) None = None
some_turns (Some thread) (Some count) = if count == 0 then None else Some (thread, count)

-- the turns that the words of a line say
abbrev pub stretch_in : Words → Option (ℕ × ℕ)
stretch_in [] = None
stretch_in (word ∷ []) = None
stretch_in (word ∷ thread ∷ []) = None
stretch_in (word ∷ thread ∷ count ∷ []) =
    if is (codes "turn") word then some_turns (number_in 64 thread) (number_in most_turns count) else None
stretch_in (word ∷ thread ∷ count ∷ more ∷ words) = None

-- a line stands at the front that may stand there, and with its turns there are so many
pub record TakesEntry (kit : Kit) (before after rest behind : List ℕ) : Type 0 where
  pub entry : Entry
  pub is_entry : IsEntry kit entry
  pub stands : rest ≡ line_of (words_of entry) ++ behind
  pub turns_are : after ≡ before ++ turns_of (entry ∷ [])
  pub few : length after ≤ most_turns

-- no such line stands there
abbrev pub TakesNone : Kit → (before rest : List ℕ) → Type 0
TakesNone kit before rest =
    (entry : Entry) → IsEntry kit entry → length before + length (turns_of (entry ∷ [])) ≤ most_turns → StandsAt (words_of entry) rest → ⊥

-- lines stand at the front that may stand there, which say these turns, and no such line goes on
pub record ReadsEntries (kit : Kit) (text rest turns : List ℕ) : Type 0 where
  pub entries : List Entry
  pub are_entries : AreEntries kit entries
  pub stands : text ≡ text_of (map words_of entries) ++ rest
  pub turns_are : turns ≡ turns_of entries
  pub no_more : TakesNone kit turns rest

-- the last line stands at the front
pub record TakesEnd (rest behind : List ℕ) : Type 0 where
  pub end : Words
  pub ends : is_end end ≡ true
  pub stands : rest ≡ line_of end ++ behind
