-- What is spelled begins with a token that begins an expression.
use Rattle.std.specs.Prelude.{◌≡◌, ℕ, ◌||◌, true, List, [], ◌∷◌, ◌++◌}
use Rattle.std.specs.Option.{is_some}
use Rattle.std.proofs.Common.{refl}
use Rattle.kt_grammar.specs.declared.keyword.Keyword.TheVariants as keywords
use Rattle.kt_grammar.specs.declared.keyword.RuleWord.TheVariants as rule
use Rattle.kt_grammar.specs.declared.sign.Sign.TheVariants as signs
use Rattle.kt_grammar.specs.declared.symbol.Symbol.{Symbol}
use Rattle.kt_grammar.specs.declared.symbol.Symbol.TheVariants as symbol
use Rattle.kt_grammar.specs.declared.operator.Dialect.{Dialect}
use Rattle.kt_grammar.specs.declared.operator.Dialect.TheVariants.{C, Rules}
use Rattle.kt_grammar.specs.declared.operator.PrefixOperator.{PrefixOperator}
use Rattle.kt_grammar.specs.declared.operator.PrefixOperator.TheVariants as prefix
use Rattle.kt_grammar.specs.Tree.{Constant, Character, Text, Null, Eof, Named, Called, Parenthesised, SizeOf, RuleValue, OldSymbol, Transformed, NewObject, Element, Member, Pointed, Stepped, Prefixed, Converted, Operated, Chosen, Assigned}
use Rattle.kt_grammar.specs.Signs.{same_sign, prefix_sign, has_prefix, prefix_of}
use Rattle.kt_grammar.specs.Marks.{Mark}
use Rattle.kt_grammar.specs.Reading.{begins_expr}
use Rattle.kt_grammar.specs.Laws.{Begins, ExprBegins}
use Rattle.kt_grammar.specs.CutLaws.{begins-append, begins-token}

-- a prefix operator of the dialect begins an expression
prefix_begins : (g : Dialect) (op : PrefixOperator) → has_prefix g op ≡ true → (same_sign (prefix_sign op) signs.OpenParenthesis || is_some (prefix_of g (prefix_sign op))) ≡ true
unfolding prefix_of
prefix_begins C prefix.Negate h = refl
prefix_begins C prefix.Not h = refl
prefix_begins C prefix.Dereference h = refl
prefix_begins C prefix.AddressOf h = refl
prefix_begins C prefix.Increment h = refl
prefix_begins C prefix.Decrement h = refl
prefix_begins Rules prefix.Negate h = refl
prefix_begins Rules prefix.Not h = refl
prefix_begins Rules prefix.Dereference h = refl
prefix_begins Rules _ h = absurd cc

abbrev IsBegun : Dialect → List Symbol → Type 0
IsBegun g symbols = begins_expr g symbols ≡ true

first_begins : (g : Dialect) (d : ℕ) (s : Symbol) (marks front back : List Mark) → marks ≡ front ++ back → front ≡ record { symbol = s; depth = d } ∷ [] → ((rest : List Symbol) → begins_expr g (s ∷ rest) ≡ true)
    → Begins (IsBegun g) d marks
first_begins g d s marks front back parts is so = begins-append (IsBegun g) d marks front back parts (begins-token (IsBegun g) d s front is so)

-- an expression that is spelled begins so
pub expr_begins : ExprBegins
unfolding begins_expr
expr_begins g d (Constant at n) marks is = begins-token (IsBegun g) d (symbol.Number at n) marks is (λ rest. refl)
expr_begins g d (Character at b) marks is = begins-token (IsBegun g) d (symbol.Character at b) marks is (λ rest. refl)
expr_begins g d (Text at bytes) marks is = begins-token (IsBegun g) d (symbol.Text at bytes) marks is.1 (λ rest. is.0)
expr_begins g d (Null at) marks is = begins-token (IsBegun g) d (symbol.Keyword at keywords.Null) marks is (λ rest. refl)
expr_begins g d (Eof at) marks is = begins-token (IsBegun g) d (symbol.Keyword at keywords.Eof) marks is (λ rest. refl)
expr_begins g d (Named n) marks is = begins-token (IsBegun g) d (symbol.Name n.at n.word) marks is (λ rest. refl)
expr_begins g d (Called n args) marks is = first_begins g d (symbol.Name n.at n.word) marks is.1.front is.1.back is.1.parts is.1.first (λ rest. refl)
expr_begins g d (Parenthesised at a) marks is = first_begins g d (symbol.Sign at signs.OpenParenthesis) marks is.front is.back is.parts is.first (λ rest. refl)
expr_begins g d (SizeOf at type) marks is = first_begins g d (symbol.Keyword at keywords.SizeOf) marks is.1.front is.1.back is.1.parts is.1.first (λ rest. is.0)
expr_begins g d (RuleValue at word) marks is = begins-token (IsBegun g) d (symbol.RuleWord at word) marks is.1.1 (λ rest. is.0)
expr_begins g d (OldSymbol at n) marks is = first_begins g d (symbol.RuleWord at rule.OldSymbol) marks is.1.front is.1.back is.1.parts is.1.first (λ rest. is.0)
expr_begins g d (Transformed at a) marks is = first_begins g d (symbol.RuleWord at rule.Transform) marks is.1.front is.1.back is.1.parts is.1.first (λ rest. is.0)
expr_begins g d (NewObject at f) marks is = first_begins g d (symbol.RuleWord at rule.New) marks is.1.front is.1.back is.1.parts is.1.first (λ rest. is.0)
expr_begins g d (Element a i) marks is = begins-append (IsBegun g) d marks is.1.front is.1.back is.1.parts (expr_begins g d a is.1.front is.1.first)
expr_begins g d (Member a f) marks is = begins-append (IsBegun g) d marks is.1.front is.1.back is.1.parts (expr_begins g d a is.1.front is.1.first)
expr_begins g d (Pointed a f) marks is = begins-append (IsBegun g) d marks is.1.front is.1.back is.1.parts (expr_begins g d a is.1.front is.1.first)
expr_begins g d (Stepped a op) marks is = begins-append (IsBegun g) d marks is.1.1.front is.1.1.back is.1.1.parts (expr_begins g d a is.1.1.front is.1.1.first)
expr_begins g d (Prefixed at op a) marks is =
    first_begins g d (symbol.Sign at (prefix_sign op)) marks is.1.1.front is.1.1.back is.1.1.parts is.1.1.first (λ rest. prefix_begins g op is.0)
expr_begins g d (Converted at type a) marks is = first_begins g d (symbol.Sign at signs.OpenParenthesis) marks is.1.front is.1.back is.1.parts is.1.first (λ rest. refl)
expr_begins g d (Operated op a b) marks is = begins-append (IsBegun g) d marks is.1.1.front is.1.1.back is.1.1.parts (expr_begins g d a is.1.1.front is.1.1.first)
expr_begins g d (Chosen c a b) marks is = begins-append (IsBegun g) d marks is.1.1.front is.1.1.back is.1.1.parts (expr_begins g d c is.1.1.front is.1.1.first)
expr_begins g d (Assigned op a b) marks is = begins-append (IsBegun g) d marks is.1.1.front is.1.1.back is.1.1.parts (expr_begins g d a is.1.1.front is.1.1.first)
