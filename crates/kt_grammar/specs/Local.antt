-- What is read is decided by the symbols that were read: two texts with a common front are read alike up to its end.
use Rattle.std.specs.Prelude.{◌≡◌, ℕ, ◌≤◌, ◌⊎◌, List, ◌∷◌, ◌++◌, length, Ok, Err}
use Rattle.kt_grammar.specs.declared.fault.Fault.{Fault}
use Rattle.kt_grammar.specs.declared.fault.Fault.TheVariants.{Syntax, TooDeep, NoMemory}
use Rattle.kt_grammar.specs.declared.symbol.Symbol.{Symbol}
use Rattle.kt_grammar.specs.Cursor.{Outcome}

-- no more than so many symbols are left at the fault
abbrev pub IsFaultWithin : ℕ → Fault → Type 0
IsFaultWithin n (Syntax left) = left ≤ n
IsFaultWithin n (TooDeep left) = left ≤ n
IsFaultWithin n NoMemory = Unit {0}

-- no more than so many symbols are left
abbrev pub IsWithin : {A : Type 0} → ℕ → Outcome A → Type 0
IsWithin n (Ok x) = length x.1 ≤ n
IsWithin n (Err fault) = IsFaultWithin n fault

-- an answer before the end of the common front, and the symbols of the front that are left
pub data Answer (A : Type 0) : Type 0 where
  Value : A → List Symbol → Answer A
  Unexpected : List Symbol → Answer A
  Deep : List Symbol → Answer A

-- the answer on a text, told by what stands in it behind the front
abbrev pub told : {A : Type 0} → List Symbol → Answer A → Outcome A
told behind (Value x front) = Ok (x, front ++ behind)
told behind (Unexpected front) = Err (Syntax (length (front ++ behind)))
told behind (Deep front) = Err (TooDeep (length (front ++ behind)))

pub record Same {A : Type 0} (behind other : List Symbol) (o p : Outcome A) : Type 0 where
  pub answer : Answer A
  pub first : o ≡ told behind answer
  pub second : p ≡ told other answer

-- One answer on both texts, whose common front ends with t; or on the first text t was read.
abbrev pub Alike : {A : Type 0} → Symbol → List Symbol → List Symbol → Outcome A → Outcome A → Type 0
Alike t rest other o p = IsWithin (length rest) o ⊎ Same (t ∷ rest) (t ∷ other) o p

-- No more symbols are left than there were, and texts with a common front are read alike.
pub record IsLocal {A : Type 0} (read : List Symbol → Outcome A) : Type 0 where
  pub within : (symbols : List Symbol) → IsWithin (length symbols) (read symbols)
  pub alike : (t : Symbol) (rest other front : List Symbol) → Alike t rest other (read (front ++ t ∷ rest)) (read (front ++ t ∷ other))

-- Where the one outcome refuses t, the other does, and as the same kind of fault.
pub record RefusedAlike {A : Type 0} (t : Symbol) (rest other : List Symbol) (o p : Outcome A) : Type 0 where
  pub syntax : o ≡ Err (Syntax (length (t ∷ rest))) → p ≡ Err (Syntax (length (t ∷ other)))
  pub deep : o ≡ Err (TooDeep (length (t ∷ rest))) → p ≡ Err (TooDeep (length (t ∷ other)))

-- a symbol that is refused is so whatever stands behind it
abbrev pub RefusesAlike : {A : Type 0} → (List Symbol → Outcome A) → Type 0
RefusesAlike read = (before : List Symbol) (t : Symbol) (rest other : List Symbol) → RefusedAlike t rest other (read (before ++ t ∷ rest)) (read (before ++ t ∷ other))
