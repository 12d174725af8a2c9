-- What values say.
use Rattle.std.proofs.Common.{◌≡◌, ℕ, ◌<◌, ◌≤◌, cond, List, [], ◌∷◌, ◌++◌, length, Option, Some, None, refl, ap, sym, ◌∙◌, arith, append_assoc}
use Rattle.std.specs.Prelude.{◌==◌, nat_le}
use Rattle.std.specs.List.{slice_split}
use Rattle.std.proofs.lemmas.Bool.{le-leb, lt-leb}
use Rattle.kt_words.specs.Orders.{said, schedule_of, each_number, in_front, numbers_of}

-- an option that is given twice says nothing
pub said-twice : {A : Type 0} (default : A) (read : List ℕ → Option A) (values : List (List ℕ)) → 1 < length values → said default read values ≡ None
said-twice default read [] h = absurd (omega arith)
said-twice default read (value ∷ []) h = absurd (omega arith)
said-twice default read (value ∷ (second ∷ more)) h = refl

pub schedule-first-twice : (quanta mixes turns : List (List ℕ)) → 1 < length quanta → schedule_of quanta mixes turns ≡ None
schedule-first-twice [] mixes turns h = absurd (omega arith)
schedule-first-twice (value ∷ []) mixes turns h = absurd (omega arith)
schedule-first-twice (value ∷ (second ∷ more)) mixes turns h = refl

pub schedule-second-twice : (quanta mixes turns : List (List ℕ)) → 1 < length mixes → schedule_of quanta mixes turns ≡ None
schedule-second-twice quanta [] turns h = absurd (omega arith)
schedule-second-twice quanta (value ∷ []) turns h = absurd (omega arith)
schedule-second-twice [] (value ∷ (second ∷ more)) turns h = refl
schedule-second-twice (q ∷ []) (value ∷ (second ∷ more)) turns h = refl
schedule-second-twice (q ∷ (p ∷ quanta)) (value ∷ (second ∷ more)) turns h = refl

pub schedule-third-twice : (quanta mixes turns : List (List ℕ)) → 1 < length turns → schedule_of quanta mixes turns ≡ None
schedule-third-twice quanta mixes [] h = absurd (omega arith)
schedule-third-twice quanta mixes (value ∷ []) h = absurd (omega arith)
schedule-third-twice [] [] (value ∷ (second ∷ more)) h = refl
schedule-third-twice [] (m ∷ []) (value ∷ (second ∷ more)) h = refl
schedule-third-twice [] (m ∷ (n ∷ mixes)) (value ∷ (second ∷ more)) h = refl
schedule-third-twice (q ∷ []) [] (value ∷ (second ∷ more)) h = refl
schedule-third-twice (q ∷ []) (m ∷ mixes) (value ∷ (second ∷ more)) h = refl
schedule-third-twice (q ∷ (p ∷ quanta)) mixes (value ∷ (second ∷ more)) h = refl

-- numbers in front of others
abbrev pub in_front_all : List ℕ → Option (List ℕ) → Option (List ℕ)
in_front_all numbers None = None
in_front_all numbers (Some rest) = Some (numbers ++ rest)

pub in_front_all-one : (numbers : List ℕ) (n : ℕ) (rest : Option (List ℕ)) → in_front_all numbers (in_front (Some n) rest) ≡ in_front_all (numbers ++ n ∷ []) rest
in_front_all-one numbers n None = refl
in_front_all-one numbers n (Some rest) = ap (λ l. Some l) (sym (append_assoc numbers (n ∷ []) rest))

pub numbers-few : (value : List ℕ) (parts : List (List ℕ)) → parts ≡ slice_split (λ b. b == 44) value → length parts ≤ 64 → numbers_of value ≡ each_number parts
unfolding numbers_of
numbers-few value parts e h =
    ap (λ p. cond (nat_le (length p) 64) (each_number p) None) (sym e) ∙ ap (λ b. cond b (each_number parts) None) (le-leb (length parts) 64 h)

pub numbers-many : (value : List ℕ) (parts : List (List ℕ)) → parts ≡ slice_split (λ b. b == 44) value → 64 < length parts → numbers_of value ≡ None
unfolding numbers_of
numbers-many value parts e h =
    ap (λ p. cond (nat_le (length p) 64) (each_number p) None) (sym e) ∙ ap (λ b. cond b (each_number parts) None) (lt-leb (length parts) 64 h)
