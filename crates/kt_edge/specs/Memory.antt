-- The devices in memory: which of their calls fail.
use Rattle.std.specs.Prelude.{ℕ, ◌==◌, Bool, List, Option, Some, String, Vec, map, string_bytes}
use Rattle.std.specs.declared.alloc.Global.{Global}
use Rattle.std.specs.List.{list_any}
use Rattle.kt_edge.specs.Count.{one_more}
use Rattle.kt_edge.specs.FileMap.{FileMap}

-- after so many calls, whether the next one is among those that fail; calls are counted from 1
abbrev pub fails_next : List ℕ → ℕ → Bool
fails_next fail_on calls = list_any (λ call. call == one_more calls) fail_on

-- the names and bytes of the entries
abbrev pub file_map : List (String Global × Vec ℕ Global) → FileMap
file_map entries = map (λ (entry : String Global × Vec ℕ Global). (string_bytes entry.0, entry.1.items)) entries

-- what files in memory tell: all of their entries
abbrev pub told_of : List (String Global × Vec ℕ Global) → Option FileMap
told_of entries = Some (file_map entries)
