-- The places of types by their roots, as the code keeps them beside the table.
use Rattle.std.specs.Prelude.{◌≡◌, ℕ, ◌<◌, List, length, slice_index, Some}
use Rattle.std.specs.Map.{lookup}
use Rattle.std.specs.Global.{Vec}
use Rattle.kt_types.specs.declared.kinds.Ty.{Ty}
use Rattle.kt_names.specs.declared.ctype.Root.{Root}
use Rattle.kt_names.specs.Types.{same_root, starred_place}

-- these are the places of the root's types: with no star, with one, and so on
abbrev pub AreStarred : List Ty → Root → List ℕ → Type 0
AreStarred types r places = (k : ℕ) → k < length places → slice_index places k ≡ starred_place types r k

-- so are those that a root has
abbrev pub AreAllStarred : List Ty → List (Root × Vec ℕ) → Type 0
AreAllStarred types lists = (r : Root) (places : Vec ℕ) → lookup (same_root r) lists ≡ Some places → AreStarred types r places.items
