-- The front of a unary expression as far as its first expression inside, and single postfix operators.
use Rattle.std.specs.Prelude.{ℕ, ◌&&◌, List, [], ◌∷◌, drop, Option, Some, None, Ok, if◌then◌else◌}
use Rattle.kt_grammar.specs.declared.keyword.Keyword.TheVariants as keywords
use Rattle.kt_grammar.specs.declared.keyword.RuleWord.{RuleWord}
use Rattle.kt_grammar.specs.declared.keyword.RuleWord.TheVariants as rule
use Rattle.kt_grammar.specs.declared.sign.Sign.{Sign}
use Rattle.kt_grammar.specs.declared.sign.Sign.TheVariants as signs
use Rattle.kt_grammar.specs.declared.symbol.Symbol.{Symbol}
use Rattle.kt_grammar.specs.declared.symbol.Symbol.TheVariants as symbol
use Rattle.kt_grammar.specs.declared.operator.Dialect.{Dialect}
use Rattle.kt_grammar.specs.declared.operator.PrefixOperator.{PrefixOperator}
use Rattle.kt_grammar.specs.declared.tree.Name.{Name}
use Rattle.kt_grammar.specs.declared.head.Enclosing.{Enclosing}
use Rattle.kt_grammar.specs.declared.head.Enclosing.TheVariants.{Parenthesis, Transform}
use Rattle.kt_grammar.specs.declared.head.Prefixing.{Prefixing}
use Rattle.kt_grammar.specs.declared.head.Prefixing.TheVariants.{Prefix, Cast}
use Rattle.kt_grammar.specs.declared.head.Head.{Head}
use Rattle.kt_grammar.specs.declared.head.Head.TheVariants as head
use Rattle.kt_grammar.specs.declared.postfix.PostfixOperator.{PostfixOperator}
use Rattle.kt_grammar.specs.declared.postfix.PostfixOperator.TheVariants as postfix
use Rattle.kt_grammar.specs.Tree.{Term, Constant, Character, Text, Null, Eof, Named, Called, Parenthesised, SizeOf, RuleValue, Transformed, Element, Member, Pointed, Stepped, Prefixed, Converted, term_of, terms_of}
use Rattle.kt_grammar.specs.Signs.{is_c, same_sign, prefix_of, step_of}
use Rattle.kt_grammar.specs.Cursor.{◌>>=◌, Outcome, unexpected, begins_sign, behind, name_at}
use Rattle.kt_grammar.specs.Reading.{Readers, begins_base, type_at, between_at, deep_level, postfix_at, arguments_at, old_symbol_at, new_object_at}

-- the front of a unary expression
pub data Front : Type 0 where
  -- all of a primary expression
  Whole : Term → Front
  -- a name and the opening parenthesis of its arguments
  Calling : Name → Front
  Opening : Enclosing → Front
  Applying : Prefixing → Front

abbrev pub front_of : Head → Front
front_of (head.Whole x) = Whole (term_of x)
front_of (head.Call n) = Calling n
front_of (head.Enclosing e) = Opening e
front_of (head.Prefixing p) = Applying p

abbrev pub enclosed : Enclosing → Term → Term
enclosed (Parenthesis at) a = Parenthesised at a
enclosed (Transform at) a = Transformed at a

abbrev pub applied : Prefixing → Term → Term
applied (Prefix at op) a = Prefixed at op a
applied (Cast at type) a = Converted at type a

-- behind a name
unfoldable pub name_head : Dialect → Name → List Symbol → Outcome Front
name_head g n symbols =
    if is_c g && begins_sign signs.OpenParenthesis symbols then Ok (Calling n, drop 1 symbols) else Ok (Whole (Named n), symbols)

-- behind an opening parenthesis
unfoldable pub open_head : ℕ → List Symbol → Outcome Front
open_head at symbols =
    if begins_base symbols then (type_at symbols >>= λ t. behind signs.CloseParenthesis t.1 >>= λ rest. Ok (Applying (Cast at t.0), rest))
    else Ok (Opening (Parenthesis at), symbols)

-- at a prefix operator; or not, where there is none
unfoldable pub prefix_head : ℕ → Option PrefixOperator → List Symbol → List Symbol → Outcome Front
prefix_head at None symbols rest = unexpected symbols
prefix_head at (Some op) symbols rest = Ok (Applying (Prefix at op), rest)

-- behind a rule word
unfoldable pub rule_head : ℕ → RuleWord → List Symbol → Outcome Front
rule_head at rule.In rest = Ok (Whole (RuleValue at rule.In), rest)
rule_head at rule.Out rest = Ok (Whole (RuleValue at rule.Out), rest)
rule_head at rule.Base rest = Ok (Whole (RuleValue at rule.Base), rest)
rule_head at rule.OldSymbol rest = old_symbol_at at rest >>= λ x. Ok (Whole x.0, x.1)
rule_head at rule.Transform rest = behind signs.OpenParenthesis rest >>= λ inner. Ok (Opening (Transform at), inner)
rule_head at rule.New rest = new_object_at at rest >>= λ x. Ok (Whole x.0, x.1)

-- at a sign
unfoldable pub sign_head : Dialect → ℕ → Sign → List Symbol → List Symbol → Outcome Front
sign_head g at s symbols rest = if same_sign s signs.OpenParenthesis then open_head at rest else prefix_head at (prefix_of g s) symbols rest

-- the front of a unary expression
unfoldable pub head_at : Dialect → List Symbol → Outcome Front
head_at g [] = unexpected []
head_at g (symbol.Name at word ∷ rest) = name_head g (record { at = at; word = word }) rest
head_at g (symbol.Keyword at keywords.Null ∷ rest) = Ok (Whole (Null at), rest)
head_at g (symbol.Keyword at keywords.Eof ∷ rest) = Ok (Whole (Eof at), rest)
head_at g (symbol.Keyword at keywords.SizeOf ∷ rest) =
    if is_c g then (between_at rest >>= λ t. Ok (Whole (SizeOf at t.0), t.1)) else unexpected (symbol.Keyword at keywords.SizeOf ∷ rest)
head_at g (symbol.Keyword at other ∷ rest) = unexpected (symbol.Keyword at other ∷ rest)
head_at g (symbol.Number at n ∷ rest) = Ok (Whole (Constant at n), rest)
head_at g (symbol.Character at b ∷ rest) = Ok (Whole (Character at b), rest)
head_at g (symbol.Text at bytes ∷ rest) = if is_c g then Ok (Whole (Text at bytes), rest) else unexpected (symbol.Text at bytes ∷ rest)
head_at g (symbol.RuleWord at word ∷ rest) = if is_c g then unexpected (symbol.RuleWord at word ∷ rest) else rule_head at word rest
head_at g (symbol.Sign at s ∷ rest) = sign_head g at s (symbol.Sign at s ∷ rest) rest
head_at g (symbol.Other at ∷ rest) = unexpected (symbol.Other at ∷ rest)

-- what stands behind the front of a unary expression
unfoldable pub behind_head : Dialect → Option Readers → Front → List Symbol → Outcome Term
behind_head g r (Whole x) symbols = postfix_at g r x symbols
behind_head g r (Calling n) symbols = arguments_at g r symbols >>= λ args. postfix_at g r (Called n (terms_of args.0)) args.1
behind_head g r (Opening e) symbols =
    deep_level g r 0 symbols >>= λ a. behind signs.CloseParenthesis a.1 >>= λ rest. postfix_at g r (enclosed e a.0) rest
behind_head g r (Applying p) symbols = deep_level g r 8 symbols >>= λ a. Ok (applied p a.0, a.1)

-- ---- postfix operators

-- the postfix operator that this sign begins
unfoldable pub postfix_of : Dialect → Sign → Option PostfixOperator
postfix_of g s =
    if same_sign s signs.OpenBracket then Some postfix.Index
    else (if same_sign s signs.Dot then Some postfix.Field
    else (if same_sign s signs.Arrow then Some postfix.Arrow
    else elim (step_of g s) as (λ _. Option PostfixOperator) [ None ↦ None | (Some op) ↦ Some (postfix.Step op) ]))

unfoldable pub postfix_here : Dialect → List Symbol → Option PostfixOperator
postfix_here g (symbol.Sign at s ∷ rest) = postfix_of g s
postfix_here g _ = None

unfoldable pub field_at : Term → List Symbol → Outcome Term
field_at x symbols = name_at symbols >>= λ n. Ok (Member x n.0, n.1)

unfoldable pub arrow_at : Term → List Symbol → Outcome Term
arrow_at x symbols = name_at symbols >>= λ n. Ok (Pointed x n.0, n.1)

-- an expression with one postfix operator more, whose first symbol stands before these
unfoldable pub once_at : Dialect → Option Readers → PostfixOperator → Term → List Symbol → Outcome Term
once_at g r postfix.Index x symbols = deep_level g r 0 symbols >>= λ i. behind signs.CloseBracket i.1 >>= λ rest. Ok (Element x i.0, rest)
once_at g r postfix.Field x symbols = field_at x symbols
once_at g r postfix.Arrow x symbols = arrow_at x symbols
once_at g r (postfix.Step op) x symbols = Ok (Stepped x op, symbols)
