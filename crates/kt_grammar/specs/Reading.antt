-- Expressions at the front of a list of symbols, with so many more constructs that may be opened.
use Rattle.std.specs.Prelude.{ℕ, zero, suc, ◌+◌, ◌-◌, ◌==◌, ◌&&◌, ◌||◌, not, Bool, true, false, List, [], ◌∷◌, length, drop, Option, Some, None, Result, Ok, Err, if◌then◌else◌}
use Rattle.std.specs.Option.{is_some}
use Rattle.kt_lex.specs.declared.number.Number.{Number}
use Rattle.kt_grammar.specs.declared.fault.Fault.{Fault}
use Rattle.kt_grammar.specs.declared.fault.Fault.TheVariants.{TooDeep}
use Rattle.kt_grammar.specs.declared.keyword.Keyword.TheVariants as keywords
use Rattle.kt_grammar.specs.declared.keyword.RuleWord.{RuleWord}
use Rattle.kt_grammar.specs.declared.keyword.RuleWord.TheVariants as rule
use Rattle.kt_grammar.specs.declared.sign.Sign.{Sign}
use Rattle.kt_grammar.specs.declared.sign.Sign.TheVariants as signs
use Rattle.kt_grammar.specs.declared.symbol.Symbol.{Symbol}
use Rattle.kt_grammar.specs.declared.symbol.Symbol.TheVariants as symbol
use Rattle.kt_grammar.specs.declared.operator.Dialect.{Dialect}
use Rattle.kt_grammar.specs.declared.operator.PrefixOperator.{PrefixOperator}
use Rattle.kt_grammar.specs.declared.operator.BinaryOperator.{BinaryOperator}
use Rattle.kt_grammar.specs.declared.operator.AssignOperator.{AssignOperator}
use Rattle.kt_grammar.specs.declared.tree.Name.{Name}
use Rattle.kt_grammar.specs.declared.tree.Base.{Base}
use Rattle.kt_grammar.specs.declared.tree.Base.TheVariants as base
use Rattle.kt_grammar.specs.declared.tree.TypeName.{TypeName}
use Rattle.kt_grammar.specs.declared.tree.Fresh.{Fresh}
use Rattle.kt_grammar.specs.Tree.{Term, Constant, Character, Text, Null, Eof, Named, Called, Parenthesised, SizeOf, RuleValue, OldSymbol, Transformed, NewObject, Element, Member, Pointed, Stepped, Prefixed, Converted, Operated, Chosen, Assigned, terms_of}
use Rattle.kt_grammar.specs.Signs.{is_c, same_sign, precedence, prefix_of, step_of, binary_of, assign_of}
use Rattle.kt_grammar.specs.Cursor.{◌>>=◌, Outcome, unexpected, begins_sign, behind, name_at, count_sign, listed_at}

-- ---- types

-- a type without stars begins with this symbol
unfoldable pub begins_base : List Symbol → Bool
begins_base (symbol.Keyword at keywords.Const ∷ rest) = true
begins_base (symbol.Keyword at keywords.Char ∷ rest) = true
begins_base (symbol.Keyword at keywords.Int ∷ rest) = true
begins_base (symbol.Keyword at keywords.Long ∷ rest) = true
begins_base (symbol.Keyword at keywords.Mutex ∷ rest) = true
begins_base (symbol.Keyword at keywords.Struct ∷ rest) = true
begins_base _ = false

unfoldable pub behind_const : List Symbol → List Symbol
behind_const [] = []
behind_const (symbol.Keyword at keywords.Const ∷ rest) = rest
behind_const (other ∷ rest) = other ∷ rest

unfoldable pub bare_base_at : List Symbol → Outcome Base
bare_base_at [] = unexpected []
bare_base_at (symbol.Keyword at keywords.Char ∷ rest) = Ok (base.Char, rest)
bare_base_at (symbol.Keyword at keywords.Int ∷ rest) = Ok (base.Int, rest)
bare_base_at (symbol.Keyword at keywords.Long ∷ rest) = Ok (base.Long, rest)
bare_base_at (symbol.Keyword at keywords.Mutex ∷ rest) = Ok (base.Mutex, rest)
bare_base_at (symbol.Keyword at keywords.Struct ∷ rest) = name_at rest >>= λ n. Ok (base.Struct n.0, n.1)
bare_base_at (other ∷ rest) = unexpected (other ∷ rest)

abbrev pub base_at : List Symbol → Outcome Base
base_at symbols = bare_base_at (behind_const symbols)

abbrev pub type_at : List Symbol → Outcome TypeName
type_at symbols = base_at symbols >>= λ b.
    let n = count_sign signs.Star b.1 in Ok (record { base = b.0; stars = n }, drop n b.1)

-- a type name in parentheses
abbrev pub between_at : List Symbol → Outcome TypeName
between_at symbols = behind signs.OpenParenthesis symbols >>= λ inner. type_at inner
    >>= λ t. behind signs.CloseParenthesis t.1 >>= λ rest. Ok (t.0, rest)

-- ---- expressions

-- an expression begins with this symbol
unfoldable pub begins_expr : Dialect → List Symbol → Bool
begins_expr g [] = false
begins_expr g (symbol.Name at word ∷ rest) = true
begins_expr g (symbol.Keyword at keywords.Null ∷ rest) = true
begins_expr g (symbol.Keyword at keywords.Eof ∷ rest) = true
begins_expr g (symbol.Keyword at keywords.SizeOf ∷ rest) = is_c g
begins_expr g (symbol.Keyword at other ∷ rest) = false
begins_expr g (symbol.Number at n ∷ rest) = true
begins_expr g (symbol.Character at b ∷ rest) = true
begins_expr g (symbol.Text at bytes ∷ rest) = is_c g
begins_expr g (symbol.RuleWord at word ∷ rest) = not (is_c g)
begins_expr g (symbol.Sign at s ∷ rest) = same_sign s signs.OpenParenthesis || is_some (prefix_of g s)
begins_expr g (symbol.Other at ∷ rest) = false

-- a postfix operator begins with this symbol
unfoldable pub begins_postfix : Dialect → List Symbol → Bool
begins_postfix g (symbol.Sign at s ∷ rest) =
    same_sign s signs.OpenBracket || same_sign s signs.Dot || same_sign s signs.Arrow || is_some (step_of g s)
begins_postfix g _ = false

-- What reads one deeper: an expression of at least a level; what goes on a chain of a level behind an expression; and
-- what goes on a chain of postfix operators.
pub record Readers : Type 0 where
  pub level : ℕ → List Symbol → Outcome Term
  pub chain : ℕ → Term → List Symbol → Outcome Term
  pub postfix : Term → List Symbol → Outcome Term

-- one deeper: where no more may be opened, what could begin here is too deep
abbrev pub deep : {A : Type 0} → Option Readers → (List Symbol → Bool) → (Readers → List Symbol → Result A Fault) → List Symbol → Result A Fault
deep None begins read symbols = if begins symbols then Err (TooDeep (length symbols)) else unexpected symbols
deep (Some r) begins read symbols = read r symbols

-- an expression of at least a level, one deeper
abbrev pub deep_level : Dialect → Option Readers → ℕ → List Symbol → Outcome Term
deep_level g r least symbols = deep r (begins_expr g) (λ r. r.level least) symbols

-- more postfix operators, one deeper
abbrev pub more_at : Dialect → Option Readers → Term → List Symbol → Outcome Term
more_at g None x symbols = if begins_postfix g symbols then Err (TooDeep (length symbols)) else Ok (x, symbols)
more_at g (Some r) x symbols = r.postfix x symbols

-- an index and its closing bracket, behind the opening one
unfoldable pub index_at : Dialect → Option Readers → Term → List Symbol → Outcome Term
index_at g r x symbols = deep_level g r 0 symbols >>= λ i. behind signs.CloseBracket i.1 >>= λ rest. more_at g r (Element x i.0) rest

unfoldable pub stepped_at : Dialect → Option Readers → Term → Sign → List Symbol → List Symbol → Outcome Term
stepped_at g r x s symbols rest = elim (step_of g s) as (λ _. Outcome Term) [ None ↦ Ok (x, symbols) | (Some op) ↦ more_at g r (Stepped x op) rest ]

-- postfix operators behind an expression
unfoldable pub postfix_at : Dialect → Option Readers → Term → List Symbol → Outcome Term
postfix_at g r x [] = Ok (x, [])
postfix_at g r x (symbol.Sign at s ∷ rest) =
    if same_sign s signs.OpenBracket then index_at g r x rest
    else (if same_sign s signs.Dot then (name_at rest >>= λ n. more_at g r (Member x n.0) n.1)
    else (if same_sign s signs.Arrow then (name_at rest >>= λ n. more_at g r (Pointed x n.0) n.1)
    else stepped_at g r x s (symbol.Sign at s ∷ rest) rest))
postfix_at g r x (other ∷ rest) = Ok (x, other ∷ rest)

-- arguments and the closing parenthesis, behind the opening one
unfoldable pub arguments_at : Dialect → Option Readers → List Symbol → Outcome (List Term)
arguments_at g r symbols =
    if begins_sign signs.CloseParenthesis symbols then Ok ([], drop 1 symbols)
    else (deep r (begins_expr g) (λ r. listed_at (r.level 0) (length symbols) []) symbols
    >>= λ args. behind signs.CloseParenthesis args.1 >>= λ rest. Ok (args.0, rest))

-- a name, or a call
unfoldable pub named_at : Dialect → Option Readers → Name → List Symbol → Outcome Term
named_at g r n symbols =
    if is_c g && begins_sign signs.OpenParenthesis symbols
    then (arguments_at g r (drop 1 symbols) >>= λ args. Ok (Called n (terms_of args.0), args.1))
    else Ok (Named n, symbols)

-- `$oldsym(g)`, behind its word
unfoldable pub old_symbol_at : ℕ → List Symbol → Outcome Term
old_symbol_at at symbols = behind signs.OpenParenthesis symbols >>= λ inner. name_at inner
    >>= λ n. behind signs.CloseParenthesis n.1 >>= λ rest. Ok (OldSymbol at n.0, rest)

-- `$xform(e)`, behind its word
unfoldable pub transform_at : Dialect → Option Readers → ℕ → List Symbol → Outcome Term
transform_at g r at symbols = behind signs.OpenParenthesis symbols >>= λ inner. deep_level g r 0 inner
    >>= λ a. behind signs.CloseParenthesis a.1 >>= λ rest. Ok (Transformed at a.0, rest)

-- a number and its place
unfoldable pub number_at : List Symbol → Outcome (ℕ × Number)
number_at (symbol.Number at n ∷ rest) = Ok ((at, n), rest)
number_at [] = unexpected []
number_at (other ∷ rest) = unexpected (other ∷ rest)

-- what stands between the parentheses of `$new`
unfoldable pub fresh_at : List Symbol → Outcome Fresh
fresh_at symbols = type_at symbols >>= λ t. behind signs.Comma t.1 >>= λ rest. number_at rest
    >>= λ n. Ok (record { type_name = t.0; at = n.0.0; count = n.0.1 }, n.1)

-- `$new(T, n)`, behind its word
unfoldable pub new_object_at : ℕ → List Symbol → Outcome Term
new_object_at at symbols = behind signs.OpenParenthesis symbols >>= λ inner. fresh_at inner
    >>= λ f. behind signs.CloseParenthesis f.1 >>= λ rest. Ok (NewObject at f.0, rest)

unfoldable pub rule_at : Dialect → Option Readers → ℕ → RuleWord → List Symbol → Outcome Term
rule_at g r at rule.In rest = Ok (RuleValue at rule.In, rest)
rule_at g r at rule.Out rest = Ok (RuleValue at rule.Out, rest)
rule_at g r at rule.Base rest = Ok (RuleValue at rule.Base, rest)
rule_at g r at rule.OldSymbol rest = old_symbol_at at rest
rule_at g r at rule.Transform rest = transform_at g r at rest
rule_at g r at rule.New rest = new_object_at at rest

-- a primary expression that does not begin with a sign
unfoldable pub primary_at : Dialect → Option Readers → List Symbol → Outcome Term
primary_at g r [] = unexpected []
primary_at g r (symbol.Name at word ∷ rest) = named_at g r (record { at = at; word = word }) rest
primary_at g r (symbol.Keyword at keywords.Null ∷ rest) = Ok (Null at, rest)
primary_at g r (symbol.Keyword at keywords.Eof ∷ rest) = Ok (Eof at, rest)
primary_at g r (symbol.Keyword at keywords.SizeOf ∷ rest) =
    if is_c g then (between_at rest >>= λ t. Ok (SizeOf at t.0, t.1)) else unexpected (symbol.Keyword at keywords.SizeOf ∷ rest)
primary_at g r (symbol.Keyword at other ∷ rest) = unexpected (symbol.Keyword at other ∷ rest)
primary_at g r (symbol.Number at n ∷ rest) = Ok (Constant at n, rest)
primary_at g r (symbol.Character at b ∷ rest) = Ok (Character at b, rest)
primary_at g r (symbol.Text at bytes ∷ rest) = if is_c g then Ok (Text at bytes, rest) else unexpected (symbol.Text at bytes ∷ rest)
primary_at g r (symbol.RuleWord at word ∷ rest) = if is_c g then unexpected (symbol.RuleWord at word ∷ rest) else rule_at g r at word rest
primary_at g r (symbol.Sign at s ∷ rest) = unexpected (symbol.Sign at s ∷ rest)
primary_at g r (symbol.Other at ∷ rest) = unexpected (symbol.Other at ∷ rest)

-- behind an opening parenthesis: a type name is a cast's
unfoldable pub parenthesis_at : Dialect → Option Readers → ℕ → List Symbol → Outcome Term
parenthesis_at g r at symbols =
    if begins_base symbols
    then (type_at symbols >>= λ t. behind signs.CloseParenthesis t.1 >>= λ rest. deep_level g r 8 rest >>= λ a. Ok (Converted at t.0 a.0, a.1))
    else (deep_level g r 0 symbols >>= λ a. behind signs.CloseParenthesis a.1 >>= λ rest. postfix_at g r (Parenthesised at a.0) rest)

-- behind a prefix operator
unfoldable pub prefixed_at : Dialect → Option Readers → ℕ → Option PrefixOperator → List Symbol → List Symbol → Outcome Term
prefixed_at g r at None symbols rest = unexpected symbols
prefixed_at g r at (Some op) symbols rest = deep_level g r 8 rest >>= λ a. Ok (Prefixed at op a.0, a.1)

-- a unary expression
unfoldable pub unary_at : Dialect → Option Readers → List Symbol → Outcome Term
unary_at g r (symbol.Sign at s ∷ rest) =
    if same_sign s signs.OpenParenthesis then parenthesis_at g r at rest
    else prefixed_at g r at (prefix_of g s) (symbol.Sign at s ∷ rest) rest
unary_at g r [] = unexpected []
unary_at g r (other ∷ rest) = primary_at g r (other ∷ rest) >>= λ x. postfix_at g r x.0 x.1

-- the binary operator of a level at the front
unfoldable pub binary_here : ℕ → List Symbol → Option BinaryOperator
binary_here l (symbol.Sign at s ∷ rest) = elim (binary_of s) as (λ _. Option BinaryOperator) [ None ↦ None | (Some op) ↦ if precedence op == l then Some op else None ]
binary_here l _ = None

unfoldable pub assign_here : Dialect → List Symbol → Option AssignOperator
assign_here g (symbol.Sign at s ∷ rest) = assign_of g s
assign_here g _ = None

-- binary operators of a level and their right operands, behind an expression
unfoldable pub chain_at : Dialect → Option Readers → ℕ → Term → List Symbol → Outcome Term
chain_at g r l x symbols = elim (binary_here l symbols) as (λ _. Outcome Term) [
  | None ↦ Ok (x, symbols)
  | (Some op) ↦ deep r (begins_expr g) (λ r rest. r.level (suc l) rest >>= λ y. r.chain l (Operated op x y.0) y.1) (drop 1 symbols)
]

unfoldable pub choice_at : Dialect → Option Readers → Term → List Symbol → Outcome Term
choice_at g r x symbols =
    if begins_sign signs.Question symbols
    then (deep_level g r 0 (drop 1 symbols) >>= λ a. behind signs.Colon a.1 >>= λ rest. deep_level g r 1 rest >>= λ b. Ok (Chosen x a.0 b.0, b.1))
    else Ok (x, symbols)

unfoldable pub assignment_at : Dialect → Option Readers → Term → List Symbol → Outcome Term
assignment_at g r x symbols = elim (assign_here g symbols) as (λ _. Outcome Term) [
  | None ↦ Ok (x, symbols)
  | (Some op) ↦ deep_level g r 0 (drop 1 symbols) >>= λ y. Ok (Assigned op x y.0, y.1)
]

-- what goes on at a level behind an expression of a higher one
unfoldable pub tail_at : Dialect → Option Readers → ℕ → Term → List Symbol → Outcome Term
tail_at g r zero x symbols = assignment_at g r x symbols
tail_at g r (suc zero) x symbols = choice_at g r x symbols
tail_at g r (suc (suc l)) x symbols = chain_at g r (suc (suc l)) x symbols

-- what goes on behind an expression, at so many levels from this one up, the tightest first
unfoldable pub climb_at : Dialect → Option Readers → ℕ → ℕ → Term → List Symbol → Outcome Term
climb_at g r least zero x symbols = Ok (x, symbols)
climb_at g r least (suc n) x symbols = tail_at g r (least + n) x symbols >>= λ y. climb_at g r least n y.0 y.1

-- an expression of at least a level, which is 8 at most
unfoldable pub level_at : Dialect → Option Readers → ℕ → List Symbol → Outcome Term
level_at g r least symbols = unary_at g r symbols >>= λ x. climb_at g r least (8 - least) x.0 x.1

-- what reads one deeper, where so many more constructs may be opened
unfoldable pub deeper : Dialect → ℕ → Option Readers
deeper g zero = None
deeper g (suc n) = let r = deeper g n in Some (record { level = level_at g r; chain = chain_at g r; postfix = postfix_at g r })

-- an expression, where so many more constructs may be opened
unfoldable pub expr_at : Dialect → ℕ → List Symbol → Outcome Term
expr_at g n symbols = level_at g (deeper g n) 0 symbols
