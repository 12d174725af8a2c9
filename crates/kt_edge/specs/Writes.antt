-- What calls wrote into a sink, from one moment to a later one.
use Rattle.std.specs.Prelude.{ℕ, ◌<◌, ◌⊎◌, List, Option, length, take}
use Rattle.std.specs.Io.KnownBytes.{Appends}
use Rattle.kt_edge.specs.Count.{Rose}

-- the bytes taken, where they are told, and the count of faults, before and after
pub record Writes : Type 0 where
  pub before : Option (List ℕ)
  pub after : Option (List ℕ)
  pub faults_before : ℕ
  pub faults_after : ℕ

-- those of a sink, by its meaning and its count
abbrev pub writes_of : {K : Type 0} → (K → Option (List ℕ)) → (K → ℕ) → K → K → Writes
writes_of taken faults old new = record { before = taken old; after = taken new; faults_before = faults old; faults_after = faults new }

-- the bytes taken grew by a proper front of these
abbrev pub AppendsPart : Option (List ℕ) → Option (List ℕ) → List ℕ → Type 0
AppendsPart old new bytes = (n : ℕ) × (n < length bytes) × Appends old new (take n bytes)

-- the sink took these bytes, in order, and no others
abbrev pub Takes : Writes → List ℕ → Type 0
Takes w bytes = Appends w.before w.after bytes

-- the sink failed, and took a proper front of these bytes
abbrev pub FailsIn : Writes → List ℕ → Type 0
FailsIn w bytes = Rose w.faults_before w.faults_after × AppendsPart w.before w.after bytes

-- it took them all, or failed
abbrev pub TakesOrFails : Writes → List ℕ → Type 0
TakesOrFails w bytes = Takes w bytes ⊎ FailsIn w bytes
