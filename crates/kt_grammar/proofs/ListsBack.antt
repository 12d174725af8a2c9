-- Lists of items that are spelled are read back.
use Rattle.std.specs.Prelude.{◌≡◌, ℕ, zero, suc, ◌+◌, ◌≤◌, Bool, true, false, List, [], ◌∷◌, ◌++◌, length, drop, Ok, if◌then◌else◌}
use Rattle.std.proofs.Common.{refl, sym, ap, ◌∙◌, arith, append_assoc}
use Rattle.std.proofs.lemmas.List.{length-append, append-nil}
use Rattle.kt_grammar.specs.declared.sign.Sign.TheVariants as signs
use Rattle.kt_grammar.specs.declared.symbol.Symbol.{Symbol}
use Rattle.kt_grammar.specs.declared.symbol.Symbol.TheVariants as symbol
use Rattle.kt_grammar.specs.Marks.{Mark, Joined, symbols_of, token, sign}
use Rattle.kt_grammar.specs.Cursor.{◌>>=◌, Outcome, begins_sign, listed_at, until_at}
use Rattle.kt_grammar.specs.Cut.{cut}
use Rattle.kt_grammar.specs.Laws.{Begins}
use Rattle.kt_grammar.specs.Lists.{separated, each}
use Rattle.kt_grammar.proofs.Parts.{part-then, part-end, token-then, none-end, signed, first-then, first-joined}

-- ---- lengths

pub joined-length : {P Q : List Mark → Type 0} {marks : List Mark} (j : Joined P Q marks) → length marks ≡ length j.front + length j.back
joined-length j = ap (λ m. length m) j.parts ∙ length-append j.front j.back

pub token-length : {d : ℕ} {s : Symbol} {marks : List Mark} → token d s marks → length marks ≡ 1
token-length is = ap (λ m. length m) is

pub begins-length : {begins : List Symbol → Type 0} {d : ℕ} {marks : List Mark} → Begins begins d marks → 1 ≤ length marks
begins-length b = let e : length _ ≡ suc (length b.others) = ap (λ m. length m) b.is in omega arith

-- ---- lists with commas

-- an item that is spelled takes a token and is read back, where a comma follows or what ends the list
pub record IsItem {A : Type 0} (spelling : A → List Mark → Type 0) (item : List Symbol → Outcome A) (Ends : List Symbol → Type 0) (limit : ℕ) : Type 0 where
  pub comma : (at : ℕ) (rest : List Symbol) → Ends (symbol.Sign at signs.Comma ∷ rest)
  pub some : (x : A) (marks : List Mark) → spelling x marks → 1 ≤ length marks
  pub back : (x : A) (marks : List Mark) (rest : List Symbol) → spelling x marks → Ends rest → item (symbols_of marks ++ rest) ≡ cut limit marks rest (Ok (x, rest))

-- a list takes a token
pub separated-some : {A : Type 0} (spelling : A → List Mark → Type 0) (d : ℕ) → ((x : A) (marks : List Mark) → spelling x marks → 1 ≤ length marks)
    → (xs : List A) (marks : List Mark) → separated d spelling xs marks → 1 ≤ length marks
separated-some spelling d some [] marks is = absurd is
separated-some spelling d some (x ∷ []) marks is = some x marks is
separated-some spelling d some (x ∷ y ∷ xs) marks is = let a = joined-length is in let b = some x is.front is.first in omega arith

pub separated-back : {A : Type 0} (spelling : A → List Mark → Type 0) (item : List Symbol → Outcome A) (Ends : List Symbol → Type 0) (limit d : ℕ) → IsItem spelling item Ends limit → d ≤ limit
    → (xs : List A) (count : ℕ) (done : List A) (marks : List Mark) (rest : List Symbol) → separated d spelling xs marks → Ends rest → begins_sign signs.Comma rest ≡ false → length marks ≤ count
    → listed_at item count done (symbols_of marks ++ rest) ≡ cut limit marks rest (Ok (done ++ xs, rest))
unfolding begins_sign
separated-back spelling item Ends limit d its low [] count done marks rest is ends h le = absurd is
separated-back spelling item Ends limit d its low (x ∷ xs) zero done marks rest is ends h le = absurd (let e = separated-some spelling d its.some (x ∷ xs) marks is in omega arith)
separated-back spelling item Ends limit d its low (x ∷ []) (suc n) done marks rest is ends h le =
    part-end item _ limit marks rest (its.back x marks rest is ends) (rw h refl)
separated-back spelling item Ends limit d its low (x ∷ y ∷ xs) (suc n) done marks rest is ends h le =
    part-then item _ limit rest _ is (its.back x is.front (symbols_of is.back ++ rest) is.first (first-then Ends rest (signed is.second) (its.comma _ _)))
    (token-then (λ s. if begins_sign signs.Comma s then listed_at item n (done ++ x ∷ []) (drop 1 s) else Ok (done ++ x ∷ [], s)) rest _ (signed is.second) low
    (separated-back spelling item Ends limit d its low (y ∷ xs) n (done ++ x ∷ []) is.second.back rest is.second.second ends h (shorter is)
    ∙ ap (λ l. cut limit is.second.back rest (Ok (l, rest))) (append_assoc done (x ∷ []) (y ∷ xs))))
  where
    shorter : (j : Joined (spelling x) (Joined (sign d signs.Comma) (separated d spelling (y ∷ xs))) marks) → length j.second.back ≤ n
    shorter j =
        let a = joined-length j in
        let b = joined-length j.second in
        let c = token-length j.second.first.1 in omega arith

-- ---- items up to a stop

-- nothing more is read at a stop
pub until-stop : {A : Type 0} (stops : List Symbol → Bool) (item : List Symbol → Outcome A) (count : ℕ) (done : List A) (symbols : List Symbol) → stops symbols ≡ true → until_at stops item count done symbols ≡ Ok (done, symbols)
until-stop stops item zero done symbols h = rw h refl
until-stop stops item (suc n) done symbols h = rw h refl

-- an item before the stop, and more
pub until-more : {A : Type 0} {P Q : List Mark → Type 0} (stops : List Symbol → Bool) (item : List Symbol → Outcome A) (limit n : ℕ) (done : List A) (marks : List Mark) (rest : List Symbol) (x : A) (answer : Outcome (List A)) (j : Joined P Q marks)
    → stops (symbols_of marks ++ rest) ≡ false
    → item (symbols_of j.front ++ (symbols_of j.back ++ rest)) ≡ cut limit j.front (symbols_of j.back ++ rest) (Ok (x, symbols_of j.back ++ rest))
    → until_at stops item n (done ++ x ∷ []) (symbols_of j.back ++ rest) ≡ cut limit j.back rest answer
    → until_at stops item (suc n) done (symbols_of marks ++ rest) ≡ cut limit marks rest answer
until-more stops item limit n done marks rest x answer j h read more =
    ap (λ b. if b then Ok (done, symbols_of marks ++ rest) else (item (symbols_of marks ++ rest) >>= λ x. until_at stops item n (done ++ x.0 ∷ []) x.1)) h
    ∙ part-then item (λ x. until_at stops item n (done ++ x.0 ∷ []) x.1) limit rest answer j read more

-- an item that is spelled takes a token, is no stop, and is read back
pub record IsTurn {A : Type 0} (spelling : A → List Mark → Type 0) (item : List Symbol → Outcome A) (stops : List Symbol → Bool) (limit : ℕ) : Type 0 where
  pub some : (x : A) (marks : List Mark) → spelling x marks → 1 ≤ length marks
  pub first : (x : A) (marks : List Mark) (rest : List Symbol) → spelling x marks → stops (symbols_of marks ++ rest) ≡ false
  pub back : (x : A) (marks : List Mark) (rest : List Symbol) → spelling x marks → item (symbols_of marks ++ rest) ≡ cut limit marks rest (Ok (x, rest))

pub each-back : {A : Type 0} (spelling : A → List Mark → Type 0) (item : List Symbol → Outcome A) (stops : List Symbol → Bool) (limit : ℕ) → IsTurn spelling item stops limit
    → (xs : List A) (count : ℕ) (done : List A) (marks : List Mark) (rest : List Symbol) → each spelling xs marks → stops rest ≡ true → length marks ≤ count
    → until_at stops item count done (symbols_of marks ++ rest) ≡ cut limit marks rest (Ok (done ++ xs, rest))
each-back spelling item stops limit its [] count done marks rest is h le =
    none-end (until_at stops item count done) limit rest _ is (until-stop stops item count done rest h ∙ ap (λ l. Ok (l, rest)) (sym (append-nil done)))
each-back spelling item stops limit its (x ∷ xs) zero done marks rest is h le = absurd (let a = joined-length is in let b = its.some x is.front is.first in omega arith)
each-back spelling item stops limit its (x ∷ xs) (suc n) done marks rest is h le =
    until-more stops item limit n done marks rest x _ is
    (first-joined (λ r. stops r ≡ false) rest is (its.first x is.front (symbols_of is.back ++ rest) is.first))
    (its.back x is.front (symbols_of is.back ++ rest) is.first)
    (each-back spelling item stops limit its xs n (done ++ x ∷ []) is.back rest is.second h (let a = joined-length is in let b = its.some x is.front is.first in omega arith)
    ∙ ap (λ l. cut limit is.back rest (Ok (l, rest))) (append_assoc done (x ∷ []) xs))
