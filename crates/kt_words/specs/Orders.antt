-- The order that a list of words gives.
use Rattle.std.specs.Prelude.{◌≡◌, ℕ, ◌/◌, ◌%◌, ◌==◌, ◌&&◌, Bool, true, nat_le, if◌then◌else◌, List, [], ◌∷◌, length, replicate, Option, Some, None, option_map, option_and_then, codes}
use Rattle.std.specs.List.{slice_split}
use Rattle.std.specs.Str.{bytes_eq}
use Rattle.kt_text.specs.Numbers.{number_of}
use Rattle.kt_words.specs.Form.{Gives}
use Rattle.kt_words.specs.declared.order.Order.{Order}
use Rattle.kt_words.specs.declared.order.Program.{Program}
use Rattle.kt_words.specs.declared.order.Wish.{Wish}
use Rattle.kt_words.specs.declared.order.Wish.TheVariants.{Quantum, Mix, Turns}

-- the values that an option is given
abbrev pub values_of : List ℕ → List (List ℕ × List ℕ) → List (List ℕ)
values_of name [] = []
values_of name (value ∷ values) = if bytes_eq value.0 name then value.1 ∷ values_of name values else values_of name values

-- what an option says: what its one value reads as, or the default where it isn't given
abbrev pub said : {A : Type 0} → A → (List ℕ → Option A) → List (List ℕ) → Option A
said default read [] = Some default
said default read (value ∷ []) = read value
said default read (value ∷ (second ∷ more)) = None

abbrev pub at_least : ℕ → ℕ → Option ℕ
at_least least n = if nat_le least n then Some n else None

-- a number in a range
abbrev pub number_between : ℕ → ℕ → List ℕ → Option ℕ
number_between least most value = option_and_then (at_least least) (number_of most value)

abbrev pub in_front : Option ℕ → Option (List ℕ) → Option (List ℕ)
in_front None numbers = None
in_front (Some n) None = None
in_front (Some n) (Some numbers) = Some (n ∷ numbers)

-- numbers of at most 10,000,000 each
abbrev pub each_number : List (List ℕ) → Option (List ℕ)
each_number [] = Some []
each_number (value ∷ values) = in_front (number_of 10000000 value) (each_number values)

-- 1 to 64 of them with a comma between each two
unfoldable pub numbers_of : List ℕ → Option (List ℕ)
numbers_of value = let parts = slice_split (λ b. b == 44) value in
    if nat_le (length parts) 64 then each_number parts else None

-- at most one of `--quantum`, `--mix` and `--turns` is given
abbrev pub schedule_of : List (List ℕ) → List (List ℕ) → List (List ℕ) → Option Wish
schedule_of [] [] [] = Some (Quantum 50)
schedule_of (value ∷ []) [] [] = option_map Quantum (number_between 1 1000000 value)
schedule_of [] (value ∷ []) [] = option_map Mix (number_of 18446744073709551615 value)
schedule_of [] [] (value ∷ []) = Some (Turns value)
schedule_of quanta mixes turns = None

-- the updates of a job: the generated one has one, else each rule file makes one
abbrev pub updates_of : Option ℕ → ℕ → ℕ
updates_of None files = files / 2
updates_of (Some n) files = 1

-- the files beside `--job` are none, else an odd number up to 31
abbrev pub is_file_count : Option ℕ → ℕ → Bool
is_file_count None files = (files % 2 == 1) && nat_le files 31
is_file_count (Some n) files = files == 0

-- what options with these values and these files order
pub record Says (values : List (List ℕ × List ℕ)) (files : List (List ℕ)) (order : Order) : Type 0 where
  pub after : said (replicate (updates_of order.job (length files)) 0) numbers_of (values_of (codes "--after") values) ≡ Some order.after
  pub budget : said 1000000 (number_between 1 10000000) (values_of (codes "--budget") values) ≡ Some order.budget
  pub workers : said 4 (number_between 1 16) (values_of (codes "--workers") values) ≡ Some order.workers
  pub schedule : schedule_of (values_of (codes "--quantum") values) (values_of (codes "--mix") values) (values_of (codes "--turns") values) ≡ Some order.schedule
  pub job : said None (λ value. option_map (λ n. Some n) (number_between 1 20000 value)) (values_of (codes "--job") values) ≡ Some order.job
  pub names : order.files ≡ files
  pub count : is_file_count order.job (length files) ≡ true

-- the order of the words
pub record IsOrderOf (program : Program) (words : List (List ℕ)) (order : Order) : Type 0 where
  pub values : List (List ℕ × List ℕ)
  pub files : List (List ℕ)
  pub given : Gives program words values files
  pub says : Says values files order

abbrev pub HasNoOrder : Program → List (List ℕ) → Type 0
HasNoOrder program words = (order : Order) → IsOrderOf program words order → ⊥
