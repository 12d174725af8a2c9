-- The form of a list of words: options with their values and files, in any order, and perhaps `--` with files behind it.
use Rattle.std.specs.Prelude.{◌≡◌, ◌≢◌, ℕ, ◌<◌, ◌==◌, Bool, true, false, List, [], ◌∷◌, ◌++◌, length, map, Option, Some, None, String, string_bytes, codes}
use Rattle.std.specs.declared.alloc.Global.{Global}
use Rattle.std.specs.List.{list_any, AllByRecursion}
use Rattle.std.specs.Str.{bytes_eq}
use Rattle.kt_words.specs.declared.order.Program.{Program}
use Rattle.kt_words.specs.declared.order.Program.TheVariants.{Play, Serve}

-- the words as bytes
abbrev pub texts : List (String Global) → List (List ℕ)
texts words = map (λ (word : String Global). string_bytes word) words

-- the options that a program knows
unfoldable pub options_of : Program → List (List ℕ)
options_of Play = codes "--after" ∷ (codes "--budget" ∷ (codes "--quantum" ∷ (codes "--mix" ∷ (codes "--turns" ∷ (codes "--job" ∷ [])))))
options_of Serve = codes "--after" ∷ (codes "--budget" ∷ (codes "--workers" ∷ []))

unfoldable pub is_option : Program → List ℕ → Bool
is_option program name = list_any (λ option. bytes_eq option name) (options_of program)

abbrev pub begins_with_hyphen : List ℕ → Bool
begins_with_hyphen [] = false
begins_with_hyphen (c ∷ word) = c == 45

-- An option with its value in the same word, an option with its value in the next word, or a file.
pub data Entry : Type 0 where
  Joined : List ℕ → List ℕ → Entry
  Apart : List ℕ → List ℕ → Entry
  File : List ℕ → Entry

-- the words that spell an entry
abbrev pub spelling : Entry → List (List ℕ)
spelling (Joined name value) = (name ++ 61 ∷ value) ∷ []
spelling (Apart name value) = name ∷ (value ∷ [])
spelling (File name) = name ∷ []

-- what may stand in a word of its own as a value or, in front of `--`, as the name of a file: it isn't empty and doesn't begin with `-`
abbrev pub IsValue : List ℕ → Type 0
IsValue word = (0 < length word) × (begins_with_hyphen word ≡ false)

-- an entry has an option that the program knows, and a value that isn't empty
abbrev pub IsFormed : Program → Entry → Type 0
IsFormed program (Joined name value) = (is_option program name ≡ true) × (0 < length value)
IsFormed program (Apart name value) = (is_option program name ≡ true) × IsValue value
IsFormed program (File name) = IsValue name

-- what may stand behind `--`
abbrev pub IsName : List ℕ → Type 0
IsName name = (0 < length name) × (name ≢ codes "-")

-- the names behind `--`, where it stands
abbrev pub names_behind : Option (List (List ℕ)) → List (List ℕ)
names_behind None = []
names_behind (Some names) = names

abbrev pub end_of : Option (List (List ℕ)) → List (List ℕ)
end_of None = []
end_of (Some names) = codes "--" ∷ names

-- the words of entries, one after the other, and then `--` with names behind it, where it stands
abbrev pub words_of : List Entry → Option (List (List ℕ)) → List (List ℕ)
words_of [] behind = end_of behind
words_of (entry ∷ entries) behind = spelling entry ++ words_of entries behind

-- the options that entries give, each with its value
abbrev pub values_in : List Entry → List (List ℕ × List ℕ)
values_in [] = []
values_in (Joined name value ∷ entries) = (name, value) ∷ values_in entries
values_in (Apart name value ∷ entries) = (name, value) ∷ values_in entries
values_in (File name ∷ entries) = values_in entries

-- the files that entries name
abbrev pub files_in : List Entry → List (List ℕ)
files_in [] = []
files_in (Joined name value ∷ entries) = files_in entries
files_in (Apart name value ∷ entries) = files_in entries
files_in (File name ∷ entries) = name ∷ files_in entries

-- the words have the form, give these values to options and name these files
pub record Gives (program : Program) (words : List (List ℕ)) (values : List (List ℕ × List ℕ)) (files : List (List ℕ)) : Type 0 where
  pub entries : List Entry
  pub behind : Option (List (List ℕ))
  pub spelled : words ≡ words_of entries behind
  pub formed : AllByRecursion (IsFormed program) entries
  pub named : AllByRecursion IsName (names_behind behind)
  pub values_are : values ≡ values_in entries
  pub files_are : files ≡ files_in entries ++ names_behind behind
