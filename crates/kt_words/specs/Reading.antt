-- What one word is in front of `--`, and how a list of words goes on behind an entry: for the contracts of the functions that read.
use Rattle.std.specs.Prelude.{◌≡◌, ◌≢◌, ℕ, true, List, ◌∷◌, ◌++◌, map, codes, Option, option_map}
use Rattle.std.specs.Option.{option_to_list}
use denote.Ref.{Bor}
use Rattle.kt_words.specs.Form.{Entry, Joined, Apart, File, IsFormed, is_option, Gives}
use Rattle.kt_words.specs.Orders.{Says}
use Rattle.kt_words.specs.declared.order.Order.{Order}
use Rattle.kt_words.specs.declared.order.Program.{Program}
use Rattle.kt_words.specs.declared.form.Kind.{Kind}
use Rattle.kt_words.specs.declared.form.Kind.TheVariants as kind
use Rattle.kt_words.specs.declared.value.Value.{Value}

-- options and their values as bytes
abbrev pub told : List Value → List (List ℕ × List ℕ)
told values = map (λ (value : Value). (value.name.now, value.text.now)) values

abbrev pub first_word : Entry → List ℕ
first_word (Joined name value) = name ++ 61 ∷ value
first_word (Apart name value) = name
first_word (File name) = name

-- no entry begins with the word, and it isn't `--`
pub record BeginsNothing (program : Program) (word : List ℕ) : Type 0 where
  pub no_entry : (entry : Entry) → IsFormed program entry → first_word entry ≢ word
  pub no_end : word ≢ codes "--"

abbrev pub IsKind : Program → List ℕ → Kind → Type 0
IsKind program word (kind.Joined name value) = (word ≡ name.now ++ 61 ∷ value.now) × IsFormed program (Joined name.now value.now)
IsKind program word kind.Name = is_option program word ≡ true
IsKind program word kind.File = IsFormed program (File word)
IsKind program word kind.End = word ≡ codes "--"
IsKind program word kind.Other = BeginsNothing program word

-- the values and files are first these, and then what the rest gives
pub record GoesOn (program : Program) (first_values : List (List ℕ × List ℕ)) (first_files : List (List ℕ)) (values : List (List ℕ × List ℕ)) (files : List (List ℕ)) (rest : List (List ℕ)) : Type 0 where
  pub later_values : List (List ℕ × List ℕ)
  pub later_files : List (List ℕ)
  pub given : Gives program rest later_values later_files
  pub values_are : values ≡ first_values ++ later_values
  pub files_are : files ≡ first_files ++ later_files

pub record Continues (program : Program) (words : List (List ℕ)) (values : List (List ℕ × List ℕ)) (files : List (List ℕ)) (rest : List (List ℕ)) : Type 0 where
  pub sound : (v : List (List ℕ × List ℕ)) (f : List (List ℕ)) → Gives program rest v f → Gives program words (values ++ v) (files ++ f)
  pub complete : (v : List (List ℕ × List ℕ)) (f : List (List ℕ)) → Gives program words v f → GoesOn program values files v f rest

-- the same, where more values and files were given in one step
pub record Grows (program : Program) (words : List (List ℕ)) (old_values : List (List ℕ × List ℕ)) (old_files : List (List ℕ)) (new_values : List (List ℕ × List ℕ)) (new_files : List (List ℕ)) (rest : List (List ℕ)) : Type 0 where
  pub values : List (List ℕ × List ℕ)
  pub files : List (List ℕ)
  pub continues : Continues program words values files rest
  pub values_are : new_values ≡ old_values ++ values
  pub files_are : new_files ≡ old_files ++ files

abbrev pub HasNoForm : Program → List (List ℕ) → Type 0
HasNoForm program words = (values : List (List ℕ × List ℕ)) (files : List (List ℕ)) → Gives program words values files → ⊥

abbrev pub HasNoSense : List (List ℕ × List ℕ) → List (List ℕ) → Type 0
HasNoSense values files = (order : Order) → Says values files order → ⊥

-- a value, where it is given
abbrev pub listed : Option (Bor (List ℕ)) → List (List ℕ)
listed found = option_to_list (option_map (λ text. text.now) found)
