-- What may stand on a line of a journal, by its words.
use Rattle.std.specs.Prelude.{ℕ, ◌^◌, ◌-◌, ◌==◌, ◌&&◌, ◌||◌, not, nat_lt, Bool, true, false, List, [], ◌∷◌, ◌++◌, length, map, Option, None, is_some, if◌then◌else◌, slice_index, codes}
use Rattle.std.specs.List.{list_any}
use Rattle.std.specs.Str.{bytes_eq}
use Rattle.kt_text.specs.Numbers.{number_of}
use Rattle.kt_grammar.specs.Identifiers.{is_identifier}
use Rattle.kt_journal.specs.declared.kit.Kit.{Kit}
use Rattle.kt_journal.specs.declared.kit.Kit.TheVariants.{First, Second}

-- the words of a line
abbrev pub Words : Type 0
Words = List (List ℕ)

-- ---- words

-- this word
abbrev pub is : List ℕ → List ℕ → Bool
is text word = bytes_eq text word

-- one of these words
abbrev pub is_one_of : List (List ℕ) → List ℕ → Bool
is_one_of texts word = list_any (λ text. is text word) texts

-- a 0 stands before another digit
abbrev pub has_leading_zero : List ℕ → Bool
has_leading_zero word = nat_lt 1 (length word) && (slice_index word 0 == 48)

-- the number that decimal digits without leading zeros say, where it is at most so great
unfoldable pub number_in : ℕ → List ℕ → Option ℕ
number_in most word = if has_leading_zero word then None else number_of most word

abbrev pub is_number_up_to : ℕ → List ℕ → Bool
is_number_up_to most word = is_some (number_in most word)

-- a number of 64 bits
abbrev pub is_number : List ℕ → Bool
is_number word = is_number_up_to (2 ^ 64 - 1) word

-- the number of a thread
abbrev pub is_thread : List ℕ → Bool
is_thread word = is_number_up_to 64 word

-- a number in the range of `int`; a `-` stands before no 0
unfoldable pub is_value : List ℕ → Bool
is_value [] = false
is_value (b ∷ word) =
    if b == 45 then is_number_up_to (2 ^ 31) word && not (is (codes "0") word)
    else is_number_up_to (2 ^ 31 - 1) (b ∷ word)

-- the traps
unfoldable pub trap_names : List (List ℕ)
trap_names =
    codes "overflow" ∷ codes "zero" ∷ codes "range" ∷ codes "null" ∷ codes "dead" ∷ codes "bounds" ∷ codes "uninit"
    ∷ codes "literal" ∷ codes "free" ∷ codes "mutex" ∷ codes "thread" ∷ codes "threads" ∷ codes "size" ∷ codes "heap"
    ∷ codes "depth" ∷ codes "output" ∷ []

abbrev pub is_trap : List ℕ → Bool
is_trap word = is_one_of trap_names word

-- why what stands at a place can't be carried over
unfoldable pub place_faults : List (List ℕ)
place_faults = codes "interior" ∷ codes "gone" ∷ codes "retyped" ∷ codes "extent" ∷ []

abbrev pub is_place_fault : List ℕ → Bool
is_place_fault word = is_one_of place_faults word

-- ---- lines

-- a form of a line: what each of its words may be
abbrev pub Form : Type 0
Form = List (List ℕ → Bool)

abbrev pub is_of : Form → Words → Bool
is_of [] [] = true
is_of [] (word ∷ words) = false
is_of (may ∷ form) [] = false
is_of (may ∷ form) (word ∷ words) = may word && is_of form words

-- the words are of one of these forms
abbrev pub is_of_one : List Form → Words → Bool
is_of_one forms words = list_any (λ form. is_of form words) forms

-- where something stands: in a cell of a global, in a thread's argument, in a thread's local of a function, in a cell of a
-- heap object
abbrev pub places : List Form
places =
    (is (codes "g") ∷ is_identifier ∷ is_number ∷ [])
    ∷ (is (codes "a") ∷ is_thread ∷ [])
    ∷ (is (codes "l") ∷ is_thread ∷ is_identifier ∷ is_identifier ∷ [])
    ∷ (is (codes "h") ∷ is_number ∷ is_number ∷ [])
    ∷ []

-- a closing was refused, for this
abbrev pub refused : Form → Form
refused form = is (codes "close") ∷ is_number ∷ is (codes "refused") ∷ form

abbrev pub refusals : List Form
refusals =
    refused (is (codes "held") ∷ [])
    ∷ refused (is (codes "size") ∷ [])
    ∷ refused (is (codes "point") ∷ is_thread ∷ [])
    ∷ refused (is (codes "entry") ∷ is_thread ∷ [])
    ∷ (map (λ place. refused (is_place_fault ∷ place)) places
    ++ map (λ place. refused (is (codes "rule") ∷ (place ++ is_trap ∷ []))) places)

-- a request; in the second form with how many threads it woke
abbrev pub request : Kit → Form
request First = is (codes "ask") ∷ is_number ∷ []
request Second = is (codes "ask") ∷ is_number ∷ is_number_up_to 65 ∷ []

-- an accepted closing, `main` at its point, and all threads at theirs
abbrev pub progress : List Form
progress =
    (is (codes "close") ∷ is_number ∷ is (codes "ok") ∷ is_number ∷ [])
    ∷ (is (codes "main") ∷ is_number ∷ [])
    ∷ (is (codes "back") ∷ is_number ∷ [])
    ∷ []

-- the line of a mark between turns
abbrev pub is_mark : Kit → Words → Bool
is_mark kit words = is_of (request kit) words || is_of_one progress words || is_of_one refusals words

-- the last line: how the run ended
abbrev pub ends : List Form
ends =
    (is (codes "end") ∷ is (codes "main") ∷ is_value ∷ [])
    ∷ (is (codes "end") ∷ is (codes "trap") ∷ is_thread ∷ is_trap ∷ [])
    ∷ (is (codes "end") ∷ is (codes "stuck") ∷ [])
    ∷ (is (codes "end") ∷ is (codes "budget") ∷ [])
    ∷ []

abbrev pub is_end : Words → Bool
is_end words = is_of_one ends words
