-- Reading from the left: what stands at the front of a list of symbols, and the symbols behind it, or the fault.
use Rattle.std.specs.Prelude.{◌≡◌, ℕ, zero, suc, Bool, false, List, [], ◌∷◌, ◌++◌, length, drop, Result, Ok, Err, if◌then◌else◌}
use Rattle.kt_grammar.specs.declared.fault.Fault.{Fault}
use Rattle.kt_grammar.specs.declared.fault.Fault.TheVariants.{Syntax, TooDeep, NoMemory}
use Rattle.kt_grammar.specs.declared.sign.Sign.{Sign}
use Rattle.kt_grammar.specs.declared.sign.Sign.TheVariants as signs
use Rattle.kt_grammar.specs.declared.symbol.Symbol.{Symbol}
use Rattle.kt_grammar.specs.declared.symbol.Symbol.TheVariants as symbol
use Rattle.kt_grammar.specs.declared.tree.Name.{Name}
use Rattle.kt_grammar.specs.Signs.{same_sign}

infixl 10 ◌>>=◌
abbrev pub ◌>>=◌ : {A B : Type 0} → Result A Fault → (A → Result B Fault) → Result B Fault
(Ok x) >>= f = f x
(Err e) >>= f = Err e

-- what is read and the symbols behind it
abbrev pub Outcome : Type 0 → Type 0
Outcome A = Result (A × List Symbol) Fault

-- What a function returned, seen by view, is what reading gives, unless memory ran out.
abbrev pub Fails : {Y : Type 0} → Fault → Result Y Fault → Type 0
Fails NoMemory read = Unit {0}
Fails (Syntax n) read = read ≡ Err (Syntax n)
Fails (TooDeep n) read = read ≡ Err (TooDeep n)

abbrev pub Gives : {X Y : Type 0} → (X → Y) → Result X Fault → Result Y Fault → Type 0
Gives view (Ok x) read = read ≡ Ok (view x)
Gives view (Err e) read = Fails e read

-- the front symbol cannot come here
abbrev pub unexpected : {A : Type 0} → List Symbol → Result A Fault
unexpected symbols = Err (Syntax (length symbols))

-- the front symbol is this sign
unfoldable pub begins_sign : Sign → List Symbol → Bool
begins_sign s (symbol.Sign at t ∷ rest) = same_sign t s
begins_sign s _ = false

-- the symbols behind this sign
unfoldable pub behind : Sign → List Symbol → Result (List Symbol) Fault
behind s symbols = if begins_sign s symbols then Ok (drop 1 symbols) else unexpected symbols

-- a name and the symbols behind it
unfoldable pub name_at : List Symbol → Outcome Name
name_at (symbol.Name at word ∷ rest) = Ok (record { at = at; word = word }, rest)
name_at [] = unexpected []
name_at (other ∷ rest) = unexpected (other ∷ rest)

-- how many of a sign stand at the front
unfoldable pub count_sign : Sign → List Symbol → ℕ
count_sign s [] = 0
count_sign s (first ∷ rest) = if begins_sign s (first ∷ rest) then suc (count_sign s rest) else 0

-- Items with commas between them, behind those that are read; limit: no less than there are symbols.
abbrev pub listed_at : {A : Type 0} → (List Symbol → Outcome A) → ℕ → List A → List Symbol → Outcome (List A)
listed_at item zero done symbols = unexpected symbols
listed_at item (suc limit) done symbols = item symbols >>= λ x.
    if begins_sign signs.Comma x.1 then listed_at item limit (done ++ x.0 ∷ []) (drop 1 x.1)
    else Ok (done ++ x.0 ∷ [], x.1)

-- Items up to where they stop, behind those that are read; limit: no less than there are symbols.
abbrev pub until_at : {A : Type 0} → (List Symbol → Bool) → (List Symbol → Outcome A) → ℕ → List A → List Symbol → Outcome (List A)
until_at stops item zero done symbols = if stops symbols then Ok (done, symbols) else unexpected symbols
until_at stops item (suc limit) done symbols =
    if stops symbols then Ok (done, symbols)
    else (item symbols >>= λ x. until_at stops item limit (done ++ x.0 ∷ []) x.1)
