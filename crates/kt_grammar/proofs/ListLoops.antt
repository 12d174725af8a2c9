-- How a loop reads a list.
use Rattle.std.proofs.Common.{◌≡◌, ℕ, zero, suc, ◌-◌, ◌<◌, ◌≤◌, Bool, true, false, List, [], ◌∷◌, ◌++◌, length, drop, Ok, if◌then◌else◌, refl, sym, ap, ◌∙◌, arith}
use Rattle.std.proofs.lemmas.Grind.{common_steps}
use Rattle.kt_grammar.specs.declared.fault.Fault.{Fault}
use Rattle.kt_grammar.specs.declared.fault.Fault.TheVariants.{Syntax, TooDeep, NoMemory}
use Rattle.kt_grammar.specs.declared.sign.Sign.TheVariants as signs
use Rattle.kt_grammar.specs.declared.symbol.Symbol.{Symbol}
use Rattle.kt_grammar.specs.Cursor.{◌>>=◌, Outcome, Fails, unexpected, begins_sign, listed_at, until_at}

-- Behind the items that are done, what reading gives with this limit is what it gives from the start.
pub record IsUnderWay {A : Type 0} (reading : ℕ → List A → List Symbol → Outcome (List A)) (whole : Outcome (List A)) (done : List A) (rest : List Symbol) : Type 0 where
  pub limit : ℕ
  pub fits : length rest ≤ limit
  pub same : reading limit done rest ≡ whole

-- at the start
pub begun : {A : Type 0} (reading : ℕ → List A → List Symbol → Outcome (List A)) (done : List A) (symbols : List Symbol) → IsUnderWay reading (reading (length symbols) done symbols) done symbols
begun reading done symbols = record { limit = length symbols; fits = omega arith; same = refl }

-- a comma and an item behind those that are done
abbrev pub more_listed : {A : Type 0} → (List Symbol → Outcome A) → ℕ → List A → List Symbol → Outcome (List A)
more_listed item limit done symbols = if begins_sign signs.Comma symbols then listed_at item limit done (drop 1 symbols) else Ok (done, symbols)

listed-step : {A : Type 0} (item : List Symbol → Outcome A) (limit : ℕ) (done : List A) (symbols : List Symbol) → 0 < limit
    → listed_at item limit done symbols ≡ item symbols >>= λ x. more_listed item (limit - 1) (done ++ x.0 ∷ []) x.1
listed-step item zero done symbols lt = absurd (omega arith)
listed-step item (suc n) done symbols lt = let e : suc n - 1 ≡ n = omega arith in rw e refl

pub listed_more : {A : Type 0} (item : List Symbol → Outcome A) (whole : Outcome (List A)) (done : List A) (rest : List Symbol) (x : A) (after : List Symbol)
    → IsUnderWay (listed_at item) whole done rest → item rest ≡ Ok (x, after) → length after < length rest → begins_sign signs.Comma after ≡ true
    → IsUnderWay (listed_at item) whole (done ++ x ∷ []) (drop 1 after)
listed_more item whole done rest x after so_far read shorter comma =
    let f = so_far.fits in
    let l : length (drop 1 after) ≤ length after = grind (arith, common_steps) in
    record {
      limit = so_far.limit - 1;
      fits = omega arith;
      same = sym (rw (listed-step item so_far.limit done rest (omega arith), read, comma) refl) ∙ so_far.same;
    }

pub listed_whole : {A : Type 0} (item : List Symbol → Outcome A) (whole : Outcome (List A)) (done : List A) (rest : List Symbol) (x : A) (after : List Symbol)
    → IsUnderWay (listed_at item) whole done rest → item rest ≡ Ok (x, after) → length after < length rest → begins_sign signs.Comma after ≡ false
    → whole ≡ Ok (done ++ x ∷ [], after)
listed_whole item whole done rest x after so_far read shorter comma =
    let f = so_far.fits in
    sym so_far.same ∙ rw (listed-step item so_far.limit done rest (omega arith), read, comma) refl

-- where no symbol is left, no item is read, nor a list of them
no-item : {A : Type 0} (item : List Symbol → Outcome A) (e : Fault) → item [] ≡ unexpected [] → Fails e (item []) → Fails e (unexpected {A = List A × List Symbol} [])
no-item item NoMemory at_end fails = tt
no-item item (Syntax k) at_end fails = ap (λ r. r >>= λ x. Ok (x.0 ∷ [], x.1)) (sym at_end ∙ fails)
no-item item (TooDeep k) at_end fails = ap (λ r. r >>= λ x. Ok (x.0 ∷ [], x.1)) (sym at_end ∙ fails)

listed-stops : {A : Type 0} (item : List Symbol → Outcome A) (limit : ℕ) (done : List A) (rest : List Symbol) (e : Fault)
    → item [] ≡ unexpected [] → length rest ≤ limit → Fails e (item rest) → Fails e (listed_at item limit done rest)
listed-stops item zero done [] e at_end le fails = no-item item e at_end fails
listed-stops item zero done (s ∷ rest) e at_end le fails = absurd (omega arith)
listed-stops item (suc n) done rest NoMemory at_end le fails = tt
listed-stops item (suc n) done rest (Syntax k) at_end le fails = rw fails refl
listed-stops item (suc n) done rest (TooDeep k) at_end le fails = rw fails refl

pub listed_fails : {A : Type 0} (item : List Symbol → Outcome A) (whole : Outcome (List A)) (done : List A) (rest : List Symbol) (e : Fault)
    → item [] ≡ unexpected [] → IsUnderWay (listed_at item) whole done rest → Fails e (item rest) → Fails e whole
listed_fails item whole done rest e at_end so_far fails = rw so_far.same at (listed-stops item so_far.limit done rest e at_end so_far.fits fails)

-- ---- behind a first item

pub comma_more : {A : Type 0} (item : List Symbol → Outcome A) (whole : Outcome (List A)) (done : List A) (rest : List Symbol) (x : A) (after : List Symbol)
    → IsUnderWay (more_listed item) whole done rest → begins_sign signs.Comma rest ≡ true → item (drop 1 rest) ≡ Ok (x, after) → length after < length (drop 1 rest)
    → IsUnderWay (more_listed item) whole (done ++ x ∷ []) after
comma_more item whole done rest x after so_far comma read shorter =
    let f = so_far.fits in
    let l : length (drop 1 rest) ≡ length rest - 1 = grind (arith, common_steps) in
    record {
      limit = so_far.limit - 1;
      fits = omega arith;
      same = sym (rw (comma, listed-step item so_far.limit done (drop 1 rest) (omega arith), read) refl) ∙ so_far.same;
    }

pub comma_whole : {A : Type 0} (item : List Symbol → Outcome A) (whole : Outcome (List A)) (done : List A) (rest : List Symbol)
    → IsUnderWay (more_listed item) whole done rest → begins_sign signs.Comma rest ≡ false → whole ≡ Ok (done, rest)
comma_whole item whole done rest so_far no_comma = sym so_far.same ∙ rw no_comma refl

pub comma_fails : {A : Type 0} (item : List Symbol → Outcome A) (whole : Outcome (List A)) (done : List A) (rest : List Symbol) (e : Fault)
    → item [] ≡ unexpected [] → IsUnderWay (more_listed item) whole done rest → begins_sign signs.Comma rest ≡ true → Fails e (item (drop 1 rest)) → Fails e whole
comma_fails item whole done rest e at_end so_far comma fails =
    let f = so_far.fits in
    let l : length (drop 1 rest) ≡ length rest - 1 = grind (arith, common_steps) in
    let stops = listed-stops item so_far.limit done (drop 1 rest) e at_end (omega arith) fails in
    let is : more_listed item so_far.limit done rest ≡ listed_at item so_far.limit done (drop 1 rest) = rw comma refl in
    let stopped : Fails e (more_listed item so_far.limit done rest) = rw is stops in
    rw so_far.same at stopped

-- ---- up to where items stop

until-step : {A : Type 0} (stops : List Symbol → Bool) (item : List Symbol → Outcome A) (limit : ℕ) (done : List A) (symbols : List Symbol) → 0 < limit
    → until_at stops item limit done symbols ≡ if stops symbols then Ok (done, symbols) else (item symbols >>= λ x. until_at stops item (limit - 1) (done ++ x.0 ∷ []) x.1)
until-step stops item zero done symbols lt = absurd (omega arith)
until-step stops item (suc n) done symbols lt = let e : suc n - 1 ≡ n = omega arith in rw e refl

pub until_more : {A : Type 0} (stops : List Symbol → Bool) (item : List Symbol → Outcome A) (whole : Outcome (List A)) (done : List A) (rest : List Symbol) (x : A) (after : List Symbol)
    → IsUnderWay (until_at stops item) whole done rest → stops rest ≡ false → item rest ≡ Ok (x, after) → length after < length rest
    → IsUnderWay (until_at stops item) whole (done ++ x ∷ []) after
until_more stops item whole done rest x after so_far goes_on read shorter =
    let f = so_far.fits in
    record {
      limit = so_far.limit - 1;
      fits = omega arith;
      same = sym (rw (until-step stops item so_far.limit done rest (omega arith), goes_on, read) refl) ∙ so_far.same;
    }

until-stopped : {A : Type 0} (stops : List Symbol → Bool) (item : List Symbol → Outcome A) (limit : ℕ) (done : List A) (rest : List Symbol)
    → stops rest ≡ true → until_at stops item limit done rest ≡ Ok (done, rest)
until-stopped stops item zero done rest stopped = rw stopped refl
until-stopped stops item (suc n) done rest stopped = rw stopped refl

pub until_whole : {A : Type 0} (stops : List Symbol → Bool) (item : List Symbol → Outcome A) (whole : Outcome (List A)) (done : List A) (rest : List Symbol)
    → IsUnderWay (until_at stops item) whole done rest → stops rest ≡ true → whole ≡ Ok (done, rest)
until_whole stops item whole done rest so_far stopped = sym so_far.same ∙ until-stopped stops item so_far.limit done rest stopped

until-fails : {A : Type 0} (stops : List Symbol → Bool) (item : List Symbol → Outcome A) (limit : ℕ) (done : List A) (rest : List Symbol) (e : Fault)
    → item [] ≡ unexpected [] → length rest ≤ limit → stops rest ≡ false → Fails e (item rest) → Fails e (until_at stops item limit done rest)
until-fails stops item zero done [] e at_end le goes_on fails = rw goes_on (no-item item e at_end fails)
until-fails stops item zero done (s ∷ rest) e at_end le goes_on fails = absurd (omega arith)
until-fails stops item (suc n) done rest NoMemory at_end le goes_on fails = tt
until-fails stops item (suc n) done rest (Syntax k) at_end le goes_on fails = rw (goes_on, fails) refl
until-fails stops item (suc n) done rest (TooDeep k) at_end le goes_on fails = rw (goes_on, fails) refl

pub until_fails : {A : Type 0} (stops : List Symbol → Bool) (item : List Symbol → Outcome A) (whole : Outcome (List A)) (done : List A) (rest : List Symbol) (e : Fault)
    → item [] ≡ unexpected [] → IsUnderWay (until_at stops item) whole done rest → stops rest ≡ false → Fails e (item rest) → Fails e whole
until_fails stops item whole done rest e at_end so_far goes_on fails = rw so_far.same at (until-fails stops item so_far.limit done rest e at_end so_far.fits goes_on fails)
