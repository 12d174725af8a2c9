-- Reading: what was read, and why a file or the input was not.
use Rattle.std.specs.Prelude.{◌≡◌, ℕ, suc, ◌<◌, ◌⊎◌, List, Option, Some, IfSome, length, slice_get, take}
use Rattle.kt_edge.specs.declared.ends.ReadEnd.{ReadEnd}
use Rattle.kt_edge.specs.declared.ends.ReadEnd.TheVariants.{Failed, TooLong, NoMemory}
use Rattle.kt_edge.specs.Count.{Rose}
use Rattle.kt_edge.specs.FileMap.{FileMap, Holds, Lacks}
use Rattle.kt_play.specs.declared.refusal.UnreadFile.{UnreadFile}
use Rattle.kt_play.specs.Given.{HoldAll}
use Rattle.kt_play.specs.Job.{IsShort, AreShort, IsFirstLong}

-- ---- one file

-- the file of this name was read whole, and is within the limit
abbrev pub IsReadWhole : Option FileMap → List ℕ → List ℕ → Type 0
IsReadWhole told name bytes = Holds told name bytes × IsShort bytes

-- the file of this name is too long
abbrev pub IsLong : Option FileMap → List ℕ → Type 0
IsLong told name = (bytes : List ℕ) × Holds told name bytes × (262144 < length bytes)

-- why the file of this name was not read
abbrev pub IsReadCause : ReadEnd → Option FileMap → List ℕ → (before now : ℕ) → Type 0
IsReadCause Failed told name before now = Rose before now ⊎ Lacks told name
IsReadCause TooLong told name before now = IsLong told name
IsReadCause NoMemory told name before now = Unit {0}

-- ---- the files of an order

-- the files of these names were read whole
pub record AreReadWhole (told : Option FileMap) (names files : List (List ℕ)) : Type 0 where
  pub holds : HoldAll told names files
  pub short : AreShort files

-- the file of that number, counted from 1, could not be read: the count of faults rose, or the files told lack its name;
-- those before it were read, and are within the limit
pub record IsUnreadFile (told : Option FileMap) (before now n : ℕ) (names : List (List ℕ)) : Type 0 where
  pub place : ℕ
  pub number : n ≡ suc place
  pub name : List ℕ
  pub named : slice_get names place ≡ Some name
  pub cause : Rose before now ⊎ Lacks told name
  pub files : List (List ℕ)
  pub holds : HoldAll told (take place names) files
  pub short : AreShort files

-- the file of that number is the first that is too long, where files are told; those behind it aren't read
pub record IsLongFile (told : Option FileMap) (n : ℕ) (names : List (List ℕ)) : Type 0 where
  pub files : List (List ℕ)
  pub holds : HoldAll told (take n names) files
  pub long : IsFirstLong files n

-- why the file of that number was not read
abbrev pub IsFileCause : ReadEnd → Option FileMap → (before now n : ℕ) → (names : List (List ℕ)) → Type 0
IsFileCause Failed told before now n names = IsUnreadFile told before now n names
IsFileCause TooLong told before now n names = IsLongFile told n names
IsFileCause NoMemory told before now n names = Unit {0}

-- why not all files of these names were read
abbrev pub IsFilesCause : UnreadFile → Option FileMap → (before now : ℕ) → (names : List (List ℕ)) → Type 0
IsFilesCause unread told before now names = IsFileCause unread.end told before now unread.number names

-- ---- the input

-- why the input was not read
abbrev pub IsInputCause : ReadEnd → Option (List ℕ) → (before now : ℕ) → Type 0
IsInputCause Failed left before now = Rose before now
IsInputCause TooLong left before now = IfSome left (λ rest. 1048576 < length rest)
IsInputCause NoMemory left before now = Unit {0}
