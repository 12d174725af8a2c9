-- How reading goes on behind an expression that was read.
use Rattle.std.specs.Prelude.{◌≡◌, ℕ, zero, suc, ◌+◌, ◌-◌, ◌<◌, ◌≤◌, ◌||◌, nat_le, Bool, true, false, List, [], ◌∷◌, ◌++◌, length, Option, Some, None, Ok, Err, if◌then◌else◌}
use Rattle.std.specs.Option.{is_some}
use Rattle.std.proofs.Common.{refl, sym, ap, ◌∙◌, arith, inl, inr}
use Rattle.std.proofs.lemmas.Bool.Decides.{nat_tests, leb_tells}
use Rattle.kt_grammar.specs.declared.fault.Fault.TheVariants.{TooDeep}
use Rattle.kt_grammar.specs.declared.sign.Sign.{Sign}
use Rattle.kt_grammar.specs.declared.sign.Sign.TheVariants as signs
use Rattle.kt_grammar.specs.declared.symbol.Symbol.{Symbol}
use Rattle.kt_grammar.specs.declared.symbol.Symbol.TheVariants as symbol
use Rattle.kt_grammar.specs.declared.operator.Dialect.{Dialect}
use Rattle.kt_grammar.specs.declared.operator.BinaryOperator.{BinaryOperator}
use Rattle.kt_grammar.specs.Tree.{Term, Operated}
use Rattle.kt_grammar.specs.Signs.{same_sign, precedence, binary_sign, step_of}
use Rattle.kt_grammar.specs.Marks.{Mark, symbols_of}
use Rattle.kt_grammar.specs.Cursor.{◌>>=◌, Outcome}
use Rattle.kt_grammar.specs.Reading.{Readers, begins_expr, begins_postfix, deep, more_at, postfix_at, stepped_at, binary_here, chain_at, climb_at, deeper}
use Rattle.kt_grammar.specs.Cut.{cut}
use Rattle.kt_grammar.specs.CutLaws.{cut-kept, cut-deep}
use Rattle.kt_grammar.proofs.Fronts.{Quiet, nothing_there, binary_here-sign}

-- ---- postfix operators

-- more postfix operators, behind an expression that has some
abbrev pub after_postfix : Dialect → ℕ → ℕ → Term → List Symbol → Outcome Term
after_postfix g n zero x symbols = postfix_at g (deeper g n) x symbols
after_postfix g zero (suc k) x symbols = more_at g None x symbols
after_postfix g (suc n) (suc k) x symbols = after_postfix g n k x symbols

more-after : (g : Dialect) (n : ℕ) (x : Term) (symbols : List Symbol) → more_at g (deeper g n) x symbols ≡ after_postfix g n 1 x symbols
unfolding deeper
more-after g zero x symbols = refl
more-after g (suc n) x symbols = refl

neither : (a b : Bool) → (a || b) ≡ false → (a ≡ false) × (b ≡ false)
neither true b h = absurd cc
neither false b h = (refl, h)

stepped-none : (g : Dialect) (r : Option Readers) (x : Term) (s : Sign) (symbols rest : List Symbol) → step_of g s ≡ None → stepped_at g r x s symbols rest ≡ Ok (x, symbols)
unfolding stepped_at
stepped-none g r x s symbols rest h = rw (h, stepped_at) refl

postfix-none : (g : Dialect) (r : Option Readers) (x : Term) (symbols : List Symbol) → begins_postfix g symbols ≡ false → postfix_at g r x symbols ≡ Ok (x, symbols)
unfolding postfix_at begins_postfix
postfix-none g r x [] h = refl
postfix-none g r x (symbol.Sign at s ∷ rest) h =
    let a = neither (same_sign s signs.OpenBracket || same_sign s signs.Dot || same_sign s signs.Arrow) (is_some (step_of g s)) h in
    let b = neither (same_sign s signs.OpenBracket || same_sign s signs.Dot) (same_sign s signs.Arrow) a.0 in
    let c = neither (same_sign s signs.OpenBracket) (same_sign s signs.Dot) b.0 in
    let d = nothing_there (step_of g s) a.1 in
    rw (c.0, c.1, b.1) (stepped-none g r x s (symbol.Sign at s ∷ rest) rest d)
postfix-none g r x (other ∷ rest) h = refl

-- no postfix operator, nothing more
pub after_postfix-none : (g : Dialect) (n k : ℕ) (x : Term) (symbols : List Symbol) → begins_postfix g symbols ≡ false → after_postfix g n k x symbols ≡ Ok (x, symbols)
after_postfix-none g n zero x symbols h = postfix-none g (deeper g n) x symbols h
after_postfix-none g zero (suc k) x symbols h = ap (λ b. if b then Err (TooDeep (length symbols)) else Ok (x, symbols)) h
after_postfix-none g (suc n) (suc k) x symbols h = after_postfix-none g n k x symbols h

-- one more postfix operator
pub after_postfix-step : (g : Dialect) (n k limit d : ℕ) (s : Symbol) (marks : List Mark) (rest : List Symbol) (x y : Term) → limit + k ≡ d + n
    → begins_postfix g (s ∷ (symbols_of marks ++ rest)) ≡ true
    → ((m : ℕ) → limit ≡ d + m → postfix_at g (deeper g m) x (s ∷ (symbols_of marks ++ rest)) ≡ cut limit marks rest (more_at g (deeper g m) y rest))
    → after_postfix g n k x (s ∷ (symbols_of marks ++ rest)) ≡ cut limit (record { symbol = s; depth = d } ∷ marks) rest (after_postfix g n (suc k) y rest)
after_postfix-step g n zero limit d s marks rest x y e begins read =
    read n (omega arith) ∙ ap (λ a. cut limit marks rest a) (more-after g n y rest) ∙ sym (cut-kept limit (record { symbol = s; depth = d }) marks rest (after_postfix g n 1 y rest) (omega arith))
after_postfix-step g zero (suc k) limit d s marks rest x y e begins read =
    ap (λ b. if b then Err (TooDeep (length (s ∷ (symbols_of marks ++ rest)))) else Ok (x, s ∷ (symbols_of marks ++ rest))) begins
    ∙ sym (cut-deep limit (record { symbol = s; depth = d }) marks rest (after_postfix g zero (suc (suc k)) y rest) (omega arith))
after_postfix-step g (suc n) (suc k) limit d s marks rest x y e begins read = after_postfix-step g n k limit d s marks rest x y (omega arith) begins read

-- ---- binary operators

-- more operators of a level, behind an expression that has some
abbrev pub after_chain : Dialect → ℕ → ℕ → ℕ → Term → List Symbol → Outcome Term
after_chain g n zero l x symbols = chain_at g (deeper g n) l x symbols
after_chain g zero (suc k) l x symbols = elim (binary_here l symbols) as (λ _. Outcome Term) [ None ↦ Ok (x, symbols) | (Some op) ↦ Err (TooDeep (length symbols)) ]
after_chain g (suc n) (suc k) l x symbols = after_chain g n k l x symbols

-- no operator of the level, nothing more
pub after_chain-none : (g : Dialect) (n k l : ℕ) (x : Term) (symbols : List Symbol) → binary_here l symbols ≡ None → after_chain g n k l x symbols ≡ Ok (x, symbols)
unfolding chain_at
after_chain-none g n zero l x symbols h = rw (h, chain_at) refl
after_chain-none g zero (suc k) l x symbols h = ap (λ o. elim o as (λ _. Outcome Term) [ None ↦ Ok (x, symbols) | (Some op) ↦ Err (TooDeep (length symbols)) ]) h
after_chain-none g (suc n) (suc k) l x symbols h = after_chain-none g n k l x symbols h

-- a right operand, and more operators of the level
abbrev pub operand_at : Dialect → Option Readers → ℕ → BinaryOperator → Term → List Symbol → Outcome Term
operand_at g r l op x symbols = deep r (begins_expr g) (λ r rest. r.level (suc l) rest >>= λ y. r.chain l (Operated op x y.0) y.1) symbols

chain-sign : (g : Dialect) (r : Option Readers) (op : BinaryOperator) (x : Term) (at : ℕ) (rest : List Symbol) → chain_at g r (precedence op) x (symbol.Sign at (binary_sign op) ∷ rest) ≡ operand_at g r (precedence op) op x rest
unfolding chain_at
chain-sign g r op x at rest = rw (binary_here-sign op at rest, chain_at) refl

-- one more operator
pub after_chain-step : (g : Dialect) (n k limit d : ℕ) (op : BinaryOperator) (at : ℕ) (marks : List Mark) (rest : List Symbol) (x y : Term) → limit + k ≡ d + n
    → ((m : ℕ) → limit ≡ d + m → operand_at g (deeper g m) (precedence op) op x (symbols_of marks ++ rest) ≡ cut limit marks rest (after_chain g m 1 (precedence op) y rest))
    → after_chain g n k (precedence op) x (symbol.Sign at (binary_sign op) ∷ (symbols_of marks ++ rest))
    ≡ cut limit (record { symbol = symbol.Sign at (binary_sign op); depth = d } ∷ marks) rest (after_chain g n (suc k) (precedence op) y rest)
after_chain-step g n zero limit d op at marks rest x y e read =
    chain-sign g (deeper g n) op x at (symbols_of marks ++ rest) ∙ read n (omega arith)
    ∙ sym (cut-kept limit (record { symbol = symbol.Sign at (binary_sign op); depth = d }) marks rest (after_chain g n 1 (precedence op) y rest) (omega arith))
after_chain-step g zero (suc k) limit d op at marks rest x y e read =
    ap (λ o. elim o as (λ _. Outcome Term) [ None ↦ Ok (x, symbol.Sign at (binary_sign op) ∷ (symbols_of marks ++ rest)) | (Some op) ↦ Err (TooDeep (length (symbol.Sign at (binary_sign op) ∷ (symbols_of marks ++ rest)))) ]) (binary_here-sign op at (symbols_of marks ++ rest))
    ∙ sym (cut-deep limit (record { symbol = symbol.Sign at (binary_sign op); depth = d }) marks rest (after_chain g zero (suc (suc k)) (precedence op) y rest) (omega arith))
after_chain-step g (suc n) (suc k) limit d op at marks rest x y e read = after_chain-step g n k limit d op at marks rest x y (omega arith) read

-- ---- levels

-- what climbing does behind a step
abbrev pub climbing : Dialect → ℕ → ℕ → ℕ → Outcome Term → Outcome Term
climbing g n least steps read = read >>= λ y. climb_at g (deeper g n) least steps y.0 y.1

-- how reading an expression of at least a level goes on behind one of level l with k links
abbrev pub resume : Dialect → ℕ → ℕ → ℕ → ℕ → Term → List Symbol → Outcome Term
resume g n least l k x symbols =
    if nat_le 9 l then climbing g n least (8 - least) (after_postfix g n k x symbols)
    else climbing g n least (l - least) (after_chain g n k l x symbols)

-- levels at which nothing goes on are passed
climb-quiet : (g : Dialect) (r : Option Readers) (least m j : ℕ) (x : Term) (symbols : List Symbol) → ((i : ℕ) → least + m ≤ i → i < least + m + j → Quiet g i symbols)
    → climb_at g r least (m + j) x symbols ≡ climb_at g r least m x symbols
unfolding climb_at
climb-quiet g r least m zero x symbols h = ap (λ t. climb_at g r least t x symbols) (let e : m + 0 ≡ m = omega arith in e)
climb-quiet g r least m (suc j) x symbols h =
    let e : m + suc j ≡ suc (m + j) = omega arith in
    let q = h (least + (m + j)) (omega arith) (omega arith) in
    ap (λ t. climb_at g r least t x symbols) e ∙ ap (λ o. o >>= λ y. climb_at g r least (m + j) y.0 y.1) (q.tail r x)
    ∙ climb-quiet g r least m j x symbols (λ i low high. h i low (omega arith))

climb-down : (g : Dialect) (r : Option Readers) (least m t : ℕ) (x : Term) (symbols : List Symbol) → m ≤ t → ((i : ℕ) → least + m ≤ i → i < least + t → Quiet g i symbols)
    → climb_at g r least t x symbols ≡ climb_at g r least m x symbols
climb-down g r least m t x symbols le h =
    let e : t ≡ m + (t - m) = omega arith in
    ap (λ t. climb_at g r least t x symbols) e ∙ climb-quiet g r least m (t - m) x symbols (λ i low high. h i low (omega arith))

nat_le-true : (n m : ℕ) → n ≤ m → nat_le n m ≡ true
nat_le-true n m h = grind (arith, nat_tests)

nat_le-false : (n m : ℕ) → m < n → nat_le n m ≡ false
nat_le-false n m h = grind (arith, nat_tests)

pub resume-postfix : (g : Dialect) (n least l k : ℕ) (x : Term) (symbols : List Symbol) → 9 ≤ l → resume g n least l k x symbols ≡ climbing g n least (8 - least) (after_postfix g n k x symbols)
resume-postfix g n least l k x symbols h =
    ap (λ b. if b then climbing g n least (8 - least) (after_postfix g n k x symbols) else climbing g n least (l - least) (after_chain g n k l x symbols)) (nat_le-true 9 l h)

pub resume-chain : (g : Dialect) (n least l k : ℕ) (x : Term) (symbols : List Symbol) → l < 9 → resume g n least l k x symbols ≡ climbing g n least (l - least) (after_chain g n k l x symbols)
resume-chain g n least l k x symbols h =
    ap (λ b. if b then climbing g n least (8 - least) (after_postfix g n k x symbols) else climbing g n least (l - least) (after_chain g n k l x symbols)) (nat_le-false 9 l h)

-- where nothing goes on from a level up, climbing goes on below it
pub resume-quiet : (g : Dialect) (n least m l k : ℕ) (x : Term) (symbols : List Symbol) → least + m ≤ l → least + m ≤ 8 → ((i : ℕ) → least + m ≤ i → i ≤ 8 → Quiet g i symbols) → begins_postfix g symbols ≡ false
    → resume g n least l k x symbols ≡ climb_at g (deeper g n) least m x symbols
resume-quiet g n least m l k x symbols low high quiet none = elim (leb_tells 9 l) as (λ _. resume g n least l k x symbols ≡ climb_at g (deeper g n) least m x symbols) [
  | inr less ↦ (let q = quiet l low (omega arith) in resume-chain g n least l k x symbols less.1 ∙ ap (climbing g n least (l - least)) (after_chain-none g n k l x symbols q.binary) ∙ climb-down g (deeper g n) least m (l - least) x symbols (omega arith) (λ i a b. quiet i a (omega arith)))
  | inl more ↦ resume-postfix g n least l k x symbols more.1 ∙ ap (climbing g n least (8 - least)) (after_postfix-none g n k x symbols none) ∙ climb-down g (deeper g n) least m (8 - least) x symbols (omega arith) (λ i a b. quiet i a (omega arith))
]
