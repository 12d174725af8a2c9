-- Declarations, conditions and the parts between the parentheses of `for` that are spelled are read back.
use Rattle.std.specs.Prelude.{◌≡◌, ℕ, zero, suc, ◌+◌, ◌≤◌, true, false, List, [], ◌∷◌, ◌++◌, length, Option, Some, None, Ok}
use Rattle.std.proofs.Common.{refl, ap, ◌∙◌, arith}
use Rattle.kt_grammar.specs.declared.operator.Dialect.TheVariants.{C}
use Rattle.kt_grammar.specs.declared.sign.Sign.{Sign}
use Rattle.kt_grammar.specs.declared.sign.Sign.TheVariants as signs
use Rattle.kt_grammar.specs.declared.symbol.Symbol.{Symbol}
use Rattle.kt_grammar.specs.declared.symbol.Symbol.TheVariants as symbol
use Rattle.kt_grammar.specs.Tree.{Term}
use Rattle.kt_grammar.specs.Signs.{step_of, assign_of, binary_of}
use Rattle.kt_grammar.specs.Marks.{Mark, Joined, symbols_of, sign}
use Rattle.kt_grammar.specs.Spelling.{spells}
use Rattle.kt_grammar.specs.Cursor.{◌>>=◌, Outcome, begins_sign, behind, listed_at}
use Rattle.kt_grammar.specs.Reading.{begins_base, begins_expr, begins_postfix, expr_at}
use Rattle.kt_grammar.specs.Cut.{cut}
use Rattle.kt_grammar.specs.Laws.{needs, Begins, ExprIsReadBack, ExprBegins}
use Rattle.kt_grammar.specs.CutLaws.{begins-at, begins-append, cut-none, symbols_of-rest}
use Rattle.kt_grammar.specs.BackLaws.{begins_sign-self, base-begins}
use Rattle.kt_syntax.specs.Tree.{Local, Declaration, Start, NoStart, Declares, Evaluates}
use Rattle.kt_syntax.specs.Spelling.{maybe, local, declaration, condition, for_start}
use Rattle.kt_syntax.specs.Reading.{local_at, declaration_at, deep_expr_at, condition_at, ended_at, start_at}
use Rattle.kt_syntax.proofs.Parts.{part-then, part-end, sign-then, sign-end, base-then, token-end, none-then, first-end}
use Rattle.kt_syntax.proofs.Declarators.{IsEnded, ended-comma, ended-semicolon, local-back}
use Rattle.kt_syntax.proofs.Lists.{joined-length, token-length, IsItem, separated-back}
use Rattle.kt_syntax.proofs.Fronts.{expr-semicolon, expr-close, expr-base, base-semicolon}

-- as many symbols as tokens, or more with a rest
pub length-within : (marks : List Mark) (rest : List Symbol) → length marks ≤ length (symbols_of marks ++ rest)
length-within marks rest = let e = symbols_of-rest marks rest in omega arith

-- a part and the sign behind it
abbrev pub ended : {X A : Type 0} → (List Symbol → Outcome X) → Sign → (X → A) → List Symbol → Outcome A
ended read s f symbols = read symbols >>= λ x. behind s x.1 >>= λ rest. Ok (f x.0, rest)

pub ended-then : {X A : Type 0} {P : List Mark → Type 0} {marks : List Mark} {d : ℕ} {s : Sign} (read : List Symbol → Outcome X) (f : X → A) (limit : ℕ) (rest : List Symbol) (x : X) (j : Joined P (sign d s) marks) → d ≤ limit
    → read (symbols_of j.front ++ (symbols_of j.back ++ rest)) ≡ cut limit j.front (symbols_of j.back ++ rest) (Ok (x, symbols_of j.back ++ rest))
    → ended read s f (symbols_of marks ++ rest) ≡ cut limit marks rest (Ok (f x, rest))
ended-then read f limit rest x j low h = part-then read _ limit rest _ j h (sign-end _ j.second low refl)

-- ---- declarations

local-some : (d : ℕ) (l : Local) (marks : List Mark) → local d l marks → 1 ≤ length marks
local-some d l marks is = let a = joined-length is in let b = joined-length is.second in let c = token-length is.second.first in omega arith

local-item : ExprIsReadBack → (n d : ℕ) → IsItem (local d) (local_at n) IsEnded (d + n)
local-item back n d = record { comma = ended-comma; some = local-some d; back = local-back back n d }

pub declaration-back : ExprIsReadBack → (n d : ℕ) (x : Declaration) (marks : List Mark) (rest : List Symbol) → declaration d x marks → IsEnded rest → begins_sign signs.Comma rest ≡ false
    → declaration_at n (symbols_of marks ++ rest) ≡ cut (d + n) marks rest (Ok (x, rest))
unfolding declaration_at
declaration-back back n d x marks rest is ends h =
    let low : d ≤ d + n = omega arith in
    base-then _ rest _ is low
    (part-end (listed_at (local_at n) (length (symbols_of is.back ++ rest)) []) _ (d + n) is.back rest
    (separated-back (local d) (local_at n) IsEnded (d + n) d (local-item back n d) low x.locals (length (symbols_of is.back ++ rest)) [] is.back rest is.second ends h (length-within is.back rest)) refl)

-- a declaration begins with a type
pub declaration-begins : (d : ℕ) (x : Declaration) (marks : List Mark) → declaration d x marks → Begins (λ symbols. begins_base symbols ≡ true) d marks
declaration-begins d x marks is = begins-append (λ symbols. begins_base symbols ≡ true) d marks is.front is.back is.parts (base-begins d x.base is.front is.first)

-- a declaration and a semicolon
pub declaration-then : {A : Type 0} → ExprIsReadBack → (n d : ℕ) (x : Declaration) (f : Declaration → A) (marks : List Mark) (rest : List Symbol) → Joined (declaration d x) (sign d signs.Semicolon) marks
    → ended (declaration_at n) signs.Semicolon f (symbols_of marks ++ rest) ≡ cut (d + n) marks rest (Ok (f x, rest))
unfolding begins_sign
declaration-then back n d x f marks rest is =
    ended-then (declaration_at n) f (d + n) rest x is (omega arith)
    (declaration-back back n d x is.front (symbols_of is.back ++ rest) is.first (first-end IsEnded rest is.second.1 (ended-semicolon _ _)) (first-end (λ r. begins_sign signs.Comma r ≡ false) rest is.second.1 refl))

-- ---- expressions

-- a sign that an expression neither begins with nor goes on with
pub record IsStop (s : Sign) : Type 0 where
  pub operator : (at : ℕ) (rest : List Symbol) → needs C (symbol.Sign at s ∷ rest) ≡ 0
  pub first : (symbols : List Symbol) → begins_expr C symbols ≡ true → begins_sign s symbols ≡ false

pub semicolon-stop : IsStop signs.Semicolon
unfolding needs begins_postfix step_of assign_of binary_of
semicolon-stop = record { operator = λ at rest. refl; first = expr-semicolon }

pub close-stop : IsStop signs.CloseParenthesis
unfolding needs begins_postfix step_of assign_of binary_of
close-stop = record { operator = λ at rest. refl; first = expr-close }

-- an expression and such a sign
pub expr-then : {A : Type 0} → ExprIsReadBack → (n d : ℕ) (s : Sign) (e : Term) (f : Term → A) (marks : List Mark) (rest : List Symbol) → IsStop s → Joined (spells C d e) (sign d s) marks
    → ended (expr_at C n) s f (symbols_of marks ++ rest) ≡ cut (d + n) marks rest (Ok (f e, rest))
expr-then back n d s e f marks rest stop is =
    ended-then (expr_at C n) f (d + n) rest e is (omega arith)
    (back C n d e is.front (symbols_of is.back ++ rest) is.first (first-end (λ r. needs C r ≡ 0) rest is.second.1 (stop.operator _ _)))

-- an expression one deeper
pub deep_expr-back : ExprIsReadBack → ExprBegins → (n d : ℕ) (e : Term) (marks : List Mark) (rest : List Symbol) → spells C (suc d) e marks → needs C rest ≡ 0
    → deep_expr_at n (symbols_of marks ++ rest) ≡ cut (d + n) marks rest (Ok (e, rest))
deep_expr-back back begins zero d e marks rest is h = cut-none (begins_expr C) (d + 0) (suc d) marks rest (Ok (e, rest)) (omega arith) (begins C (suc d) e marks is)
deep_expr-back back begins (suc n) d e marks rest is h =
    let same : suc d + n ≡ d + suc n = omega arith in
    back C n (suc d) e marks rest is h ∙ ap (λ l. cut l marks rest (Ok (e, rest))) same

pub condition-back : ExprIsReadBack → ExprBegins → (n d : ℕ) (c : Term) (marks : List Mark) (rest : List Symbol) → condition d c marks → condition_at n (symbols_of marks ++ rest) ≡ cut (d + n) marks rest (Ok (c, rest))
unfolding condition_at
condition-back back begins n d c marks rest is =
    let low : d ≤ d + n = omega arith in
    sign-then _ rest _ is low
    (part-then (deep_expr_at n) _ (d + n) rest _ is.second
    (deep_expr-back back begins n d c is.second.front (symbols_of is.second.back ++ rest) is.second.first (first-end (λ r. needs C r ≡ 0) rest is.second.second.1 (close-stop.operator _ _)))
    (sign-end _ is.second.second low refl))

-- what begins with an expression begins with no such sign
expr-stop : ExprBegins → (d : ℕ) (s : Sign) (e : Term) (marks : List Mark) (rest : List Symbol) → IsStop s → Joined (spells C d e) (sign d s) marks → begins_sign s (symbols_of marks ++ rest) ≡ false
expr-stop begins d s e marks rest stop is =
    stop.first (symbols_of marks ++ rest)
    (begins-at (λ symbols. begins_expr C symbols ≡ true) d marks rest (begins-append (λ symbols. begins_expr C symbols ≡ true) d marks is.front is.back is.parts (begins C d e is.front is.first)))

pub ended-back : ExprIsReadBack → ExprBegins → (n d : ℕ) (s : Sign) (e : Option Term) (marks : List Mark) (rest : List Symbol) → IsStop s → Joined (maybe (spells C d) e) (sign d s) marks
    → ended_at n s (symbols_of marks ++ rest) ≡ cut (d + n) marks rest (Ok (e, rest))
unfolding ended_at
ended-back back begins n d s None marks rest stop is =
    none-then (ended_at n s) (d + n) rest _ is (token-end (ended_at n s) rest _ is.second.1 (omega arith) (rw (begins_sign-self is.second.0 s rest) refl))
ended-back back begins n d s (Some e) marks rest stop is = rw (expr-stop begins d s e marks rest stop is) (expr-then back n d s e (λ e. Some e) marks rest stop is)

-- ---- between the parentheses of `for`

starts-declaration : (d : ℕ) (x : Declaration) (marks : List Mark) (rest : List Symbol) → Joined (declaration d x) (sign d signs.Semicolon) marks → begins_base (symbols_of marks ++ rest) ≡ true
starts-declaration d x marks rest is =
    begins-at (λ symbols. begins_base symbols ≡ true) d marks rest (begins-append (λ symbols. begins_base symbols ≡ true) d marks is.front is.back is.parts (declaration-begins d x is.front is.first))

starts-expr : ExprBegins → (d : ℕ) (e : Term) (marks : List Mark) (rest : List Symbol) → Joined (spells C d e) (sign d signs.Semicolon) marks → begins_expr C (symbols_of marks ++ rest) ≡ true
starts-expr begins d e marks rest is =
    begins-at (λ symbols. begins_expr C symbols ≡ true) d marks rest (begins-append (λ symbols. begins_expr C symbols ≡ true) d marks is.front is.back is.parts (begins C d e is.front is.first))

pub start-back : ExprIsReadBack → ExprBegins → (n d : ℕ) (x : Start) (marks : List Mark) (rest : List Symbol) → Joined (for_start d x) (sign d signs.Semicolon) marks
    → start_at n (symbols_of marks ++ rest) ≡ cut (d + n) marks rest (Ok (x, rest))
unfolding start_at begins_sign
start-back back begins n d NoStart marks rest is = none-then (start_at n) (d + n) rest _ is (token-end (start_at n) rest _ is.second.1 (omega arith) refl)
start-back back begins n d (Declares x) marks rest is =
    let b = starts-declaration d x marks rest is in
    rw (base-semicolon (symbols_of marks ++ rest) b, b) (declaration-then back n d x (λ x. Declares x) marks rest is)
start-back back begins n d (Evaluates e) marks rest is =
    let b = starts-expr begins d e marks rest is in
    rw (expr-semicolon (symbols_of marks ++ rest) b, expr-base (symbols_of marks ++ rest) b) (expr-then back n d signs.Semicolon e (λ e. Evaluates e) marks rest semicolon-stop is)
