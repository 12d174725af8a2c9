-- From where a cell of a new thing has its value, as the code goes down to it, part by part. No public clause cites this module.
use Rattle.std.specs.Prelude.{◌≡◌, ℕ, ◌+◌, ◌-◌, ◌≤◌, nat_lt, List, [], ◌∷◌, length, Option, None, Some, if◌then◌else◌}
use Rattle.std.specs.Option.{option_map}
use Rattle.kt_types.specs.Table.{Table}
use Rattle.xf_plan.specs.Plan.{FieldRule}
use Rattle.xf_plan.specs.Plain.{actions_of}
use Rattle.xf_plan.specs.Sources.{Source, FromCell, FromBody, moved_by, sources_within, width}
use Rattle.xf_plan.specs.Sources as source
use Rattle.xf_eval.specs.Asked.{at_place}
use Rattle.xf_eval.specs.declared.found.Found.{Found}
use Rattle.xf_eval.specs.declared.found.Found.TheVariants.{Cell, Zero, Body}
use Rattle.xf_eval.specs.declared.ways.Way.{Way}
use Rattle.xf_eval.specs.declared.ways.Way.TheVariants.{Ends, Into}

-- the source that was found
abbrev pub source_of : Found → Source
source_of (Cell k) = FromCell k
source_of Zero = source.Zero
source_of (Body source base body) = FromBody source base (actions_of body.now)

-- its places are at most n cells behind the start of the old thing
abbrev pub AtMost : ℕ → Option ℕ → Type 0
AtMost n None = Unit {0}
AtMost n (Some k) = k ≤ n

abbrev pub StaysWithin : ℕ → Found → Type 0
StaysWithin n (Cell k) = k ≤ n
StaysWithin n Zero = Unit {0}
StaysWithin n (Body source base body) = AtMost n source × AtMost n base

-- the rule of the field that has a cell, and the cell's place in the field
abbrev pub find_rule : Table → List FieldRule → ℕ → Option (FieldRule × ℕ)
find_rule t [] i = None
find_rule t (f ∷ rest) i = if nat_lt i (width t f.ty) then Some (f, i) else find_rule t rest (i - width t f.ty)

-- a source, where `at` gives those of types: it was found, or it is one of a part
abbrev pub LeadsBy : (ℕ → ℕ → Option (List Source)) → Option Source → Option Way → Type 0
LeadsBy at o None = ⊥
LeadsBy at o (Some (Ends found)) = o ≡ Some (source_of found)
LeadsBy at o (Some (Into part)) = o ≡ option_map (moved_by part.start) (at_place (at part.old part.new) part.cell)

-- what was found, or the part, is one of an old thing of n cells
abbrev pub IsWithin : Table → ℕ → Option Way → Type 0
IsWithin t n None = Unit {0}
IsWithin t n (Some (Ends found)) = StaysWithin n found
IsWithin t n (Some (Into part)) = part.start + width t part.old ≤ n

-- the sources of each type are as many as it has cells
abbrev pub AreSized : Table → (ℕ → ℕ → Option (List Source)) → Type 0
AreSized t at = (a b : ℕ) (xs : List Source) → at a b ≡ Some xs → length xs ≡ width t b
