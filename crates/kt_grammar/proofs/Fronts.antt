-- Which operator stands at the front, and which levels go on behind an expression there.
use Rattle.std.specs.Prelude.{◌≡◌, ◌≢◌, ℕ, zero, suc, ◌<◌, ◌≤◌, ◌==◌, ◌&&◌, Bool, true, false, List, [], ◌∷◌, Option, Some, None, Ok, if◌then◌else◌}
use Rattle.std.specs.Option.{is_some}
use Rattle.std.proofs.Common.{refl, ap, arith}
use Rattle.std.proofs.lemmas.Bool.Decides.{nat_tests}
use Rattle.kt_grammar.specs.declared.sign.Sign.{Sign}
use Rattle.kt_grammar.specs.declared.sign.Sign.TheVariants as signs
use Rattle.kt_grammar.specs.declared.symbol.Symbol.{Symbol}
use Rattle.kt_grammar.specs.declared.symbol.Symbol.TheVariants as symbol
use Rattle.kt_grammar.specs.declared.keyword.Keyword.TheVariants as keywords
use Rattle.kt_grammar.specs.declared.operator.Dialect.{Dialect}
use Rattle.kt_grammar.specs.declared.operator.Dialect.TheVariants.{C, Rules}
use Rattle.kt_grammar.specs.declared.operator.PrefixOperator.{PrefixOperator}
use Rattle.kt_grammar.specs.declared.operator.PrefixOperator.TheVariants as prefix
use Rattle.kt_grammar.specs.declared.operator.BinaryOperator.{BinaryOperator}
use Rattle.kt_grammar.specs.declared.operator.BinaryOperator.TheVariants as binary
use Rattle.kt_grammar.specs.declared.operator.AssignOperator.{AssignOperator}
use Rattle.kt_grammar.specs.declared.operator.AssignOperator.TheVariants as assign
use Rattle.kt_grammar.specs.Tree.{Term}
use Rattle.kt_grammar.specs.Signs.{is_c, same_sign, precedence, prefix_sign, has_prefix, prefix_of, step_of, binary_sign, binary_of, assign_sign, assign_of}
use Rattle.kt_grammar.specs.Cursor.{begins_sign}
use Rattle.kt_grammar.specs.Reading.{Readers, begins_base, begins_expr, begins_postfix, binary_here, assign_here, chain_at, choice_at, assignment_at, tail_at}
use Rattle.kt_grammar.specs.Laws.{binary_needs, needs}

-- ---- operators of signs

pub prefix_of-sign : (g : Dialect) (op : PrefixOperator) → has_prefix g op ≡ true → prefix_of g (prefix_sign op) ≡ Some op
unfolding prefix_of
prefix_of-sign C prefix.Negate h = refl
prefix_of-sign C prefix.Not h = refl
prefix_of-sign C prefix.Dereference h = refl
prefix_of-sign C prefix.AddressOf h = refl
prefix_of-sign C prefix.Increment h = refl
prefix_of-sign C prefix.Decrement h = refl
prefix_of-sign Rules prefix.Negate h = refl
prefix_of-sign Rules prefix.Not h = refl
prefix_of-sign Rules prefix.Dereference h = refl
prefix_of-sign Rules _ h = absurd cc

pub prefix_sign-closed : (op : PrefixOperator) → same_sign (prefix_sign op) signs.OpenParenthesis ≡ false
prefix_sign-closed prefix.Negate = refl
prefix_sign-closed _ = refl

pub binary_of-sign : (op : BinaryOperator) → binary_of (binary_sign op) ≡ Some op
unfolding binary_of
binary_of-sign binary.Or = refl
binary_of-sign _ = refl

pub assign_of-sign : (g : Dialect) (op : AssignOperator) → is_c g ≡ true → assign_of g (assign_sign op) ≡ Some op
unfolding assign_of
assign_of-sign C assign.Assign h = refl
assign_of-sign C _ h = refl
assign_of-sign Rules op h = absurd cc

pub precedence-bounds : (op : BinaryOperator) → (2 ≤ precedence op) × (precedence op ≤ 7)
precedence-bounds binary.Or = (omega arith, omega arith)
precedence-bounds _ = (omega arith, omega arith)

-- ---- what the operator at the front needs

pub needs-binary : (g : Dialect) (op : BinaryOperator) (at : ℕ) (rest : List Symbol) → needs g (symbol.Sign at (binary_sign op) ∷ rest) ≡ precedence op
unfolding needs begins_postfix step_of assign_of binary_of
needs-binary C binary.Or at rest = refl
needs-binary C _ at rest = refl
needs-binary Rules binary.Or at rest = refl
needs-binary Rules _ at rest = refl

pub needs-assign : (g : Dialect) (op : AssignOperator) (at : ℕ) (rest : List Symbol) → is_c g ≡ true → needs g (symbol.Sign at (assign_sign op) ∷ rest) ≡ 1
unfolding needs begins_postfix step_of assign_of binary_of
needs-assign C assign.Assign at rest h = refl
needs-assign C _ at rest h = refl
needs-assign Rules op at rest h = absurd cc

pub needs-question : (g : Dialect) (at : ℕ) (rest : List Symbol) → needs g (symbol.Sign at signs.Question ∷ rest) ≡ 2
unfolding needs begins_postfix step_of
needs-question C at rest = refl
needs-question Rules at rest = refl

-- ---- what does not go on

taken : (b : Bool) (n m most : ℕ) → (if b then n else m) ≤ most → most < n → b ≡ false
taken true n m most h k = absurd (omega arith)
taken false n m most h k = refl

left : (b : Bool) (n m most : ℕ) → (if b then n else m) ≤ most → most < n → m ≤ most
left true n m most h k = absurd (omega arith)
left false n m most h k = h

-- an operator that needs less than 9 is no postfix operator
pub no_postfix : (g : Dialect) (symbols : List Symbol) → needs g symbols ≤ 8 → begins_postfix g symbols ≡ false
unfolding needs begins_postfix
no_postfix g (symbol.Sign at s ∷ rest) h = taken (begins_postfix g (symbol.Sign at s ∷ rest)) 9 _ 8 h (omega arith)
no_postfix g _ h = refl

not_question : (g : Dialect) (at : ℕ) (s : Sign) (rest : List Symbol) → needs g (symbol.Sign at s ∷ rest) ≤ 1 → same_sign s signs.Question ≡ false
unfolding needs
not_question g at s rest h = taken (same_sign s signs.Question) 2 _ 1 (left (is_c g && same_sign s signs.OpenParenthesis) 10 _ 1 (left (begins_postfix g (symbol.Sign at s ∷ rest)) 9 _ 1 h (omega arith)) (omega arith)) (omega arith)

pub nothing_there : {A : Type 0} (o : Option A) → is_some o ≡ false → o ≡ None
nothing_there None h = refl
nothing_there (Some x) h = absurd cc

not_assign : (g : Dialect) (at : ℕ) (s : Sign) (rest : List Symbol) → needs g (symbol.Sign at s ∷ rest) ≤ 0 → assign_of g s ≡ None
unfolding needs
not_assign g at s rest h =
    nothing_there (assign_of g s) (taken (is_some (assign_of g s)) 1 _ 0 (left (same_sign s signs.Question) 2 _ 0 (left (is_c g && same_sign s signs.OpenParenthesis) 10 _ 0 (left (begins_postfix g (symbol.Sign at s ∷ rest)) 9 _ 0 h (omega arith)) (omega arith)) (omega arith)) (omega arith))

-- a sign needs no less than as a binary operator
binary_needs-le : (g : Dialect) (at : ℕ) (s : Sign) (rest : List Symbol) → binary_needs s ≤ needs g (symbol.Sign at s ∷ rest)
unfolding needs begins_postfix step_of assign_of binary_of
binary_needs-le C at signs.OpenBrace rest = omega arith
binary_needs-le C at _ rest = omega arith
binary_needs-le Rules at signs.OpenBrace rest = omega arith
binary_needs-le Rules at _ rest = omega arith

other_level : (n l : ℕ) (op : BinaryOperator) → n ≢ l → (if n == l then Some op else None) ≡ None
other_level n l op h = let e : (n == l) ≡ false = grind (arith, nat_tests) in rw e refl

-- no binary operator of a level above the one that stands there, or of a level that has none
of_other_level : (l : ℕ) (o : Option BinaryOperator) → ((op : BinaryOperator) → o ≡ Some op → precedence op ≢ l)
    → (elim o as (λ _. Option BinaryOperator) [ None ↦ None | (Some op) ↦ if precedence op == l then Some op else None ]) ≡ None
of_other_level l None h = refl
of_other_level l (Some op) h = other_level (precedence op) l op (h op refl)

binary_here-outside : (l : ℕ) (symbols : List Symbol) → ((op : BinaryOperator) → precedence op ≢ l) → binary_here l symbols ≡ None
unfolding binary_here
binary_here-outside l (symbol.Sign at s ∷ rest) h = of_other_level l (binary_of s) (λ op e. h op)
binary_here-outside l _ h = refl

pub binary_here-low : (l : ℕ) (symbols : List Symbol) → l ≤ 1 → binary_here l symbols ≡ None
binary_here-low l symbols h = binary_here-outside l symbols (λ op. let b = (precedence-bounds op).0 in omega arith)

pub binary_here-high : (l : ℕ) (symbols : List Symbol) → 8 ≤ l → binary_here l symbols ≡ None
binary_here-high l symbols h = binary_here-outside l symbols (λ op. let b = (precedence-bounds op).1 in omega arith)

abbrev level_of : Option BinaryOperator → ℕ
level_of o = elim o as (λ _. ℕ) [ None ↦ 0 | (Some op) ↦ precedence op ]

binary_here-above : (g : Dialect) (l : ℕ) (symbols : List Symbol) → needs g symbols < l → binary_here l symbols ≡ None
unfolding binary_here
binary_here-above g l (symbol.Sign at s ∷ rest) h =
    of_other_level l (binary_of s) (λ op e. let n : binary_needs s ≡ precedence op = ap level_of e in let b : binary_needs s ≤ needs g (symbol.Sign at s ∷ rest) = binary_needs-le g at s rest in omega arith)
binary_here-above g l _ h = refl

-- the operator that stands there, at its level
pub binary_here-sign : (op : BinaryOperator) (at : ℕ) (rest : List Symbol) → binary_here (precedence op) (symbol.Sign at (binary_sign op) ∷ rest) ≡ Some op
unfolding binary_here
binary_here-sign op at rest = rw (binary_of-sign op, binary_here) (let e : (precedence op == precedence op) ≡ true = same (precedence op) in rw e refl)
  where
    same : (n : ℕ) → (n == n) ≡ true
    same n = grind (arith, nat_tests)

-- the most that what stands behind may need where nothing of a level or above is to go on
abbrev pub stop : ℕ → ℕ
stop zero = 0
stop (suc zero) = 1
stop (suc (suc l)) = suc l

-- at this level nothing goes on
pub record Quiet (g : Dialect) (l : ℕ) (symbols : List Symbol) : Type 0 where
  pub tail : (r : Option Readers) (x : Term) → tail_at g r l x symbols ≡ Ok (x, symbols)
  pub binary : binary_here l symbols ≡ None

assignment-quiet : (g : Dialect) (symbols : List Symbol) → needs g symbols ≤ 0 → (r : Option Readers) (x : Term) → assignment_at g r x symbols ≡ Ok (x, symbols)
unfolding assignment_at assign_here
assignment-quiet g (symbol.Sign at s ∷ rest) h r x = rw (not_assign g at s rest h, assignment_at) refl
assignment-quiet g _ h r x = refl

choice-quiet : (g : Dialect) (symbols : List Symbol) → needs g symbols ≤ 1 → (r : Option Readers) (x : Term) → choice_at g r x symbols ≡ Ok (x, symbols)
unfolding choice_at begins_sign
choice-quiet g (symbol.Sign at s ∷ rest) h r x = rw (not_question g at s rest h) refl
choice-quiet g _ h r x = refl

chain-quiet : (g : Dialect) (l : ℕ) (symbols : List Symbol) → binary_here l symbols ≡ None → (r : Option Readers) (x : Term) → chain_at g r l x symbols ≡ Ok (x, symbols)
unfolding chain_at
chain-quiet g l symbols h r x = rw (h, chain_at) refl

pub quiet : (g : Dialect) (l : ℕ) (symbols : List Symbol) → needs g symbols ≤ stop l → Quiet g l symbols
unfolding tail_at
quiet g zero symbols h = record { tail = assignment-quiet g symbols h; binary = binary_here-low 0 symbols (omega arith) }
quiet g (suc zero) symbols h = record { tail = choice-quiet g symbols h; binary = binary_here-low 1 symbols (omega arith) }
quiet g (suc (suc l)) symbols h =
    let none = binary_here-above g (suc (suc l)) symbols (omega arith) in record { tail = chain-quiet g (suc (suc l)) symbols none; binary = none }

-- above its level a question mark is no operator
pub question-quiet : (g : Dialect) (l at : ℕ) (rest : List Symbol) → 2 ≤ l → Quiet g l (symbol.Sign at signs.Question ∷ rest)
unfolding tail_at binary_here binary_of
question-quiet g zero at rest h = absurd (omega arith)
question-quiet g (suc zero) at rest h = absurd (omega arith)
question-quiet g (suc (suc l)) at rest h = record { tail = chain-quiet g (suc (suc l)) (symbol.Sign at signs.Question ∷ rest) refl; binary = refl }

pub stop-le : (l : ℕ) → stop l ≤ l
stop-le zero = omega arith
stop-le (suc zero) = omega arith
stop-le (suc (suc l)) = omega arith

pub stop-mono : (l k : ℕ) → l ≤ k → stop l ≤ stop k
stop-mono zero k h = omega arith
stop-mono (suc zero) zero h = absurd (omega arith)
stop-mono (suc zero) (suc zero) h = omega arith
stop-mono (suc zero) (suc (suc k)) h = omega arith
stop-mono (suc (suc l)) zero h = absurd (omega arith)
stop-mono (suc (suc l)) (suc zero) h = absurd (omega arith)
stop-mono (suc (suc l)) (suc (suc k)) h = omega arith

-- above a level of binary operators
pub stop-above : (p i : ℕ) → p < i → 2 ≤ p → p ≤ stop i
stop-above p zero h k = absurd (omega arith)
stop-above p (suc zero) h k = absurd (omega arith)
stop-above p (suc (suc i)) h k = omega arith

needs_8 : (b c : Bool) (m : ℕ) → (if b then 9 else (if c then 10 else m)) ≤ 8 → m ≤ 7 → (if b then 9 else (if c then 10 else m)) ≤ 7
needs_8 true c m h k = absurd (omega arith)
needs_8 false true m h k = absurd (omega arith)
needs_8 false false m h k = k

few : (b : Bool) (n m : ℕ) → n ≤ 7 → m ≤ 7 → (if b then n else m) ≤ 7
few true n m h k = h
few false n m h k = k

binary_few : (o : Option BinaryOperator) → level_of o ≤ 7
binary_few None = omega arith
binary_few (Some op) = (precedence-bounds op).1

-- no operator needs an operand of level 8
pub needs_7 : (g : Dialect) (symbols : List Symbol) → needs g symbols ≤ 8 → needs g symbols ≤ 7
unfolding needs
needs_7 g (symbol.Sign at s ∷ rest) h =
    needs_8 (begins_postfix g (symbol.Sign at s ∷ rest)) (is_c g && same_sign s signs.OpenParenthesis) _ h (few (same_sign s signs.Question) 2 _ (omega arith) (few (is_some (assign_of g s)) 1 _ (omega arith) (binary_few (binary_of s))))
needs_7 g _ h = omega arith

-- ---- what begins an expression

-- what begins an expression begins no type
no_base : (g : Dialect) (s : Symbol) (rest : List Symbol) → begins_expr g (s ∷ rest) ≡ true → begins_base (s ∷ rest) ≡ false
unfolding begins_expr begins_base
no_base g (symbol.Keyword at keywords.Const) rest h = absurd cc
no_base g (symbol.Keyword at keywords.Char) rest h = absurd cc
no_base g (symbol.Keyword at keywords.Int) rest h = absurd cc
no_base g (symbol.Keyword at keywords.Long) rest h = absurd cc
no_base g (symbol.Keyword at keywords.Mutex) rest h = absurd cc
no_base g (symbol.Keyword at keywords.Struct) rest h = absurd cc
no_base g _ rest h = refl

-- what begins an expression is no closing parenthesis
no_close : (g : Dialect) (s : Symbol) (rest : List Symbol) → begins_expr g (s ∷ rest) ≡ true → begins_sign signs.CloseParenthesis (s ∷ rest) ≡ false
unfolding begins_expr begins_sign prefix_of
no_close g (symbol.Sign at signs.CloseParenthesis) rest h = absurd cc
no_close g (symbol.Sign at _) rest h = refl
no_close g _ rest h = refl

pub nothing_of_base : (g : Dialect) (symbols : List Symbol) → begins_expr g symbols ≡ true → begins_base symbols ≡ false
unfolding begins_base
nothing_of_base g [] h = refl
nothing_of_base g (s ∷ rest) h = no_base g s rest h

pub nothing_closed : (g : Dialect) (symbols : List Symbol) → begins_expr g symbols ≡ true → begins_sign signs.CloseParenthesis symbols ≡ false
unfolding begins_sign
nothing_closed g [] h = refl
nothing_closed g (s ∷ rest) h = no_close g s rest h

-- a postfix operator needs level 9
pub needs-postfix : (g : Dialect) (symbols : List Symbol) → begins_postfix g symbols ≡ true → needs g symbols ≡ 9
unfolding needs begins_postfix
needs-postfix g (symbol.Sign at s ∷ rest) h =
    ap (λ b. if b then 9 else (if is_c g && same_sign s signs.OpenParenthesis then 10 else (if same_sign s signs.Question then 2 else (if is_some (assign_of g s) then 1 else binary_needs s)))) h
needs-postfix g _ h = absurd cc

-- no call goes on behind an expression
pub no_call : (g : Dialect) (symbols : List Symbol) → needs g symbols ≤ 9 → (is_c g && begins_sign signs.OpenParenthesis symbols) ≡ false
unfolding needs begins_postfix step_of assign_of begins_sign
no_call C (symbol.Sign at signs.OpenParenthesis ∷ rest) h = absurd (omega arith)
no_call C (symbol.Sign at _ ∷ rest) h = refl
no_call C _ h = refl
no_call Rules symbols h = refl
