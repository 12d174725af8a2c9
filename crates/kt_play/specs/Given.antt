-- What a call is given to read: files by name and an input, as far as they are told, and their counts of faults.
use Rattle.std.specs.Prelude.{◌≡◌, ℕ, List, [], ◌∷◌, Option, IfSome}
use Rattle.kt_edge.specs.FileMap.{FileMap, Holds, Tells}

-- before and after the call
pub record Given : Type 0 where
  pub told : Option FileMap
  pub told_after : Option FileMap
  pub faults_before : ℕ
  pub faults_after : ℕ
  pub left_before : Option (List ℕ)
  pub left_after : Option (List ℕ)
  pub input_faults_before : ℕ
  pub input_faults_after : ℕ

-- that of files and a source, by their meanings and their counts
abbrev pub given_of : {F S : Type 0} → (F → Option FileMap) → (F → ℕ) → (S → Option (List ℕ)) → (S → ℕ) → F → F → S → S → Given
given_of told faults left input_faults files files_after input input_after = record {
  told = told files;
  told_after = told files_after;
  faults_before = faults files;
  faults_after = faults files_after;
  left_before = left input;
  left_after = left input_after;
  input_faults_before = input_faults input;
  input_faults_after = input_faults input_after;
}

-- files that are told have these bytes, name by name
abbrev pub HoldAll : Option FileMap → List (List ℕ) → List (List ℕ) → Type 0
HoldAll told [] [] = Unit {0}
HoldAll told (name ∷ names) (bytes ∷ files) = Holds told name bytes × HoldAll told names files
HoldAll told [] (bytes ∷ files) = ⊥
HoldAll told (name ∷ names) [] = ⊥

abbrev pub TellAll : Option FileMap → List (List ℕ) → List (List ℕ) → Type 0
TellAll told [] [] = Unit {0}
TellAll told (name ∷ names) (bytes ∷ files) = Tells told name bytes × TellAll told names files
TellAll told [] (bytes ∷ files) = ⊥
TellAll told (name ∷ names) [] = ⊥

-- an input that is told is these bytes
abbrev pub HoldsInput : Option (List ℕ) → List ℕ → Type 0
HoldsInput left input = IfSome left (λ rest. input ≡ rest)
