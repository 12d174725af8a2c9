-- Texts with a common front are read as expressions alike.
use Rattle.std.proofs.Common.{◌≡◌, ℕ, zero, suc, ◌+◌, ◌-◌, List, [], ◌∷◌, length, Option, Some, None, Ok, refl, le_refl}
use Rattle.kt_grammar.specs.declared.keyword.Keyword.TheVariants as keywords
use Rattle.kt_grammar.specs.declared.keyword.RuleWord.{RuleWord}
use Rattle.kt_grammar.specs.declared.keyword.RuleWord.TheVariants as rule
use Rattle.kt_grammar.specs.declared.sign.Sign.{Sign}
use Rattle.kt_grammar.specs.declared.sign.Sign.TheVariants as signs
use Rattle.kt_grammar.specs.declared.symbol.Symbol.{Symbol}
use Rattle.kt_grammar.specs.declared.symbol.Symbol.TheVariants as symbol
use Rattle.kt_grammar.specs.declared.operator.Dialect.{Dialect}
use Rattle.kt_grammar.specs.declared.operator.PrefixOperator.{PrefixOperator}
use Rattle.kt_grammar.specs.declared.operator.StepOperator.{StepOperator}
use Rattle.kt_grammar.specs.declared.tree.Name.{Name}
use Rattle.kt_grammar.specs.Tree.{Term, Constant, Character, Text, Null, Eof, Named, Called, Parenthesised, SizeOf, RuleValue, OldSymbol, Transformed, NewObject, Element, Member, Pointed, Stepped, Prefixed, Converted, Operated, Chosen, Assigned, terms_of}
use Rattle.kt_grammar.specs.Signs.{is_c, same_sign, prefix_of, step_of}
use Rattle.kt_grammar.specs.Cursor.{◌>>=◌, Outcome, listed_at}
use Rattle.kt_grammar.specs.Reading.{Readers, begins_expr, begins_postfix, deep, deep_level, more_at, index_at, stepped_at, postfix_at, arguments_at, named_at, old_symbol_at, new_object_at, transform_at, rule_at, primary_at, parenthesis_at, prefixed_at, unary_at, binary_here, assign_here, chain_at, choice_at, assignment_at, tail_at, climb_at, level_at, deeper, expr_at}
use Rattle.kt_grammar.specs.Laws.{ExprIsLocal}
use Rattle.kt_grammar.specs.Local.{IsLocal}
use Rattle.kt_grammar.specs.LocalLaws.{IsLocalFrom, IsFirst, then_local, gives_local, unexpected_local, too_deep_local, taken, untaken, by_first, dropped, either_from, and_first, if_local, option_local, begins_sign-first, behind_local, name_at-local, begins_base-first, begins_expr-first, refused_local, type_at-local, between_at-local, listed_local}
use Rattle.kt_grammar.proofs.NewObjects.{fresh_at-local}

-- ---- first symbols

begins_postfix-first : (g : Dialect) → IsFirst (begins_postfix g)
unfolding begins_postfix
begins_postfix-first g = record { same = same }
  where
    same : (s : Symbol) (rest other : List Symbol) → begins_postfix g (s ∷ rest) ≡ begins_postfix g (s ∷ other)
    same (symbol.Sign at s) rest other = refl
    same _ rest other = refl

binary_here-first : (l : ℕ) → IsFirst (binary_here l)
unfolding binary_here
binary_here-first l = record { same = same }
  where
    same : (s : Symbol) (rest other : List Symbol) → binary_here l (s ∷ rest) ≡ binary_here l (s ∷ other)
    same (symbol.Sign at s) rest other = refl
    same _ rest other = refl

assign_here-first : (g : Dialect) → IsFirst (assign_here g)
unfolding assign_here
assign_here-first g = record { same = same }
  where
    same : (s : Symbol) (rest other : List Symbol) → assign_here g (s ∷ rest) ≡ assign_here g (s ∷ other)
    same (symbol.Sign at s) rest other = refl
    same _ rest other = refl

-- ---- one deeper

record AreLocalReaders (r : Readers) : Type 0 where
  level : (least : ℕ) → IsLocal (r.level least)
  chain : (l : ℕ) (x : Term) → IsLocal (r.chain l x)
  postfix : (x : Term) → IsLocal (r.postfix x)

abbrev AreLocal : Option Readers → Type 0
AreLocal None = Unit {0}
AreLocal (Some r) = AreLocalReaders r

module _ (g : Dialect) where
  deep_level-local : (r : Option Readers) (least : ℕ) → AreLocal r → IsLocal (deep_level g r least)
  deep_level-local None least l = refused_local (begins_expr-first g)
  deep_level-local (Some r) least l = l.level least

  deep_arguments-local : (r : Option Readers) → AreLocal r → IsLocal (λ symbols. deep r (begins_expr g) (λ r. listed_at (r.level 0) (length symbols) []) symbols)
  deep_arguments-local None l = refused_local (begins_expr-first g)
  deep_arguments-local (Some r) l = listed_local (λ n. n) (λ n. le_refl n) (l.level 0) []

  deep_chain-local : (r : Option Readers) (l : ℕ) (op : Term → Term) → AreLocal r → IsLocal (deep r (begins_expr g) (λ r rest. r.level (suc l) rest >>= λ y. r.chain l (op y.0) y.1))
  deep_chain-local None l op h = refused_local (begins_expr-first g)
  deep_chain-local (Some r) l op h = then_local _ (h.level (suc l)) (λ y. h.chain l (op y))

  more_at-local : (r : Option Readers) (x : Term) → AreLocal r → IsLocal (more_at g r x)
  more_at-local None x l = if_local (begins_postfix-first g) too_deep_local (gives_local x)
  more_at-local (Some r) x l = l.postfix x

module _ (g : Dialect) (r : Option Readers) (l : AreLocal r) where
  index_at-local : (x : Term) → IsLocal (index_at g r x)
  unfolding index_at
  index_at-local x = then_local _ (deep_level-local g r 0 l) (λ i. behind_local signs.CloseBracket (more_at-local g r (Element x i) l))

  stepped : (x : Term) (at : ℕ) (s : Sign) (o : Option StepOperator)
      → IsLocalFrom (symbol.Sign at s) (λ rest. elim o as (λ _. Outcome Term) [ None ↦ Ok (x, symbol.Sign at s ∷ rest) | (Some op) ↦ more_at g r (Stepped x op) rest ])
  stepped x at s None = untaken (gives_local x)
  stepped x at s (Some op) = taken (more_at-local g r (Stepped x op) l)

  -- a postfix operator that is a sign
  from_sign : (x : Term) (at : ℕ) (s : Sign) → IsLocalFrom (symbol.Sign at s) (λ rest. postfix_at g r x (symbol.Sign at s ∷ rest))
  unfolding postfix_at stepped_at
  from_sign x at s = either_from (same_sign s signs.OpenBracket) (taken (index_at-local x))
      (either_from (same_sign s signs.Dot) (taken (then_local _ name_at-local (λ n. more_at-local g r (Member x n) l)))
      (either_from (same_sign s signs.Arrow) (taken (then_local _ name_at-local (λ n. more_at-local g r (Pointed x n) l)))
      (stepped x at s (step_of g s))))

  postfix_at-local : (x : Term) → IsLocal (postfix_at g r x)
  unfolding postfix_at
  postfix_at-local x = by_first (le_refl 0) some
    where
      some : (s : Symbol) → IsLocalFrom s (λ symbols. postfix_at g r x (s ∷ symbols))
      some (symbol.Sign at s) = from_sign x at s
      some _ = untaken (gives_local x)

  arguments_at-local : IsLocal (arguments_at g r)
  unfolding arguments_at
  arguments_at-local = if_local (begins_sign-first signs.CloseParenthesis) (dropped (gives_local [])) (then_local _ (deep_arguments-local g r l) (λ args. behind_local signs.CloseParenthesis (gives_local args)))

  named_at-local : (n : Name) → IsLocal (named_at g r n)
  unfolding named_at
  named_at-local n = if_local (and_first (is_c g) (begins_sign-first signs.OpenParenthesis)) (dropped (then_local _ arguments_at-local (λ args. gives_local (Called n (terms_of args))))) (gives_local (Named n))

  old_symbol_at-local : (at : ℕ) → IsLocal (old_symbol_at at)
  unfolding old_symbol_at
  old_symbol_at-local at = behind_local signs.OpenParenthesis (then_local _ name_at-local (λ n. behind_local signs.CloseParenthesis (gives_local (OldSymbol at n))))

  new_object_at-local : (at : ℕ) → IsLocal (new_object_at at)
  unfolding new_object_at
  new_object_at-local at = behind_local signs.OpenParenthesis (then_local _ fresh_at-local (λ n. behind_local signs.CloseParenthesis (gives_local (NewObject at n))))

  transform_at-local : (at : ℕ) → IsLocal (transform_at g r at)
  unfolding transform_at
  transform_at-local at = behind_local signs.OpenParenthesis (then_local _ (deep_level-local g r 0 l) (λ a. behind_local signs.CloseParenthesis (gives_local (Transformed at a))))

  rule_at-local : (at : ℕ) (word : RuleWord) → IsLocal (rule_at g r at word)
  unfolding rule_at
  rule_at-local at rule.In = gives_local (RuleValue at rule.In)
  rule_at-local at rule.Out = gives_local (RuleValue at rule.Out)
  rule_at-local at rule.Base = gives_local (RuleValue at rule.Base)
  rule_at-local at rule.OldSymbol = old_symbol_at-local at
  rule_at-local at rule.Transform = transform_at-local at
  rule_at-local at rule.New = new_object_at-local at

  primary_at-local : IsLocal (primary_at g r)
  unfolding primary_at
  primary_at-local = by_first (le_refl 0) some
    where
      some : (s : Symbol) → IsLocalFrom s (λ symbols. primary_at g r (s ∷ symbols))
      some (symbol.Name at word) = taken (named_at-local (record { at = at; word = word }))
      some (symbol.Keyword at keywords.Null) = taken (gives_local (Null at))
      some (symbol.Keyword at keywords.Eof) = taken (gives_local (Eof at))
      some (symbol.Keyword at keywords.SizeOf) = either_from (is_c g) (taken (then_local _ between_at-local (λ t. gives_local (SizeOf at t)))) (untaken unexpected_local)
      some (symbol.Keyword at _) = untaken unexpected_local
      some (symbol.Number at n) = taken (gives_local (Constant at n))
      some (symbol.Character at b) = taken (gives_local (Character at b))
      some (symbol.Text at bytes) = either_from (is_c g) (taken (gives_local (Text at bytes))) (untaken unexpected_local)
      some (symbol.RuleWord at word) = either_from (is_c g) (untaken unexpected_local) (taken (rule_at-local at word))
      some _ = untaken unexpected_local

  parenthesis_at-local : (at : ℕ) → IsLocal (parenthesis_at g r at)
  unfolding parenthesis_at
  parenthesis_at-local at = if_local begins_base-first
      (then_local _ type_at-local (λ t. behind_local signs.CloseParenthesis (then_local _ (deep_level-local g r 8 l) (λ a. gives_local (Converted at t a)))))
      (then_local _ (deep_level-local g r 0 l) (λ a. behind_local signs.CloseParenthesis (postfix_at-local (Parenthesised at a))))

  unary_at-local : IsLocal (unary_at g r)
  unfolding unary_at prefixed_at
  unary_at-local = by_first (le_refl 0) some
    where
      prefixed : (at : ℕ) (s : Sign) (o : Option PrefixOperator) → IsLocalFrom (symbol.Sign at s) (λ rest. prefixed_at g r at o (symbol.Sign at s ∷ rest) rest)
      prefixed at s None = untaken unexpected_local
      prefixed at s (Some op) = taken (then_local _ (deep_level-local g r 8 l) (λ a. gives_local (Prefixed at op a)))

      some : (s : Symbol) → IsLocalFrom s (λ symbols. unary_at g r (s ∷ symbols))
      some (symbol.Sign at s) = either_from (same_sign s signs.OpenParenthesis) (taken (parenthesis_at-local at)) (prefixed at s (prefix_of g s))
      some _ = untaken (then_local _ primary_at-local (λ x. postfix_at-local x))

  chain_at-local : (level : ℕ) (x : Term) → IsLocal (chain_at g r level x)
  unfolding chain_at
  chain_at-local level x = option_local (binary_here-first level) (gives_local x) (λ op. dropped (deep_chain-local g r level (λ y. Operated op x y) l))

  choice_at-local : (x : Term) → IsLocal (choice_at g r x)
  unfolding choice_at
  choice_at-local x = if_local (begins_sign-first signs.Question)
      (dropped (then_local _ (deep_level-local g r 0 l) (λ a. behind_local signs.Colon (then_local _ (deep_level-local g r 1 l) (λ b. gives_local (Chosen x a b))))))
      (gives_local x)

  assignment_at-local : (x : Term) → IsLocal (assignment_at g r x)
  unfolding assignment_at
  assignment_at-local x = option_local (assign_here-first g) (gives_local x) (λ op. dropped (then_local _ (deep_level-local g r 0 l) (λ y. gives_local (Assigned op x y))))

  tail_at-local : (level : ℕ) (x : Term) → IsLocal (tail_at g r level x)
  unfolding tail_at
  tail_at-local zero x = assignment_at-local x
  tail_at-local (suc zero) x = choice_at-local x
  tail_at-local (suc (suc k)) x = chain_at-local (suc (suc k)) x

  climb_at-local : (least n : ℕ) (x : Term) → IsLocal (climb_at g r least n x)
  unfolding climb_at
  climb_at-local least zero x = gives_local x
  climb_at-local least (suc n) x = then_local _ (tail_at-local (least + n) x) (λ y. climb_at-local least n y)

  level_at-local : (least : ℕ) → IsLocal (level_at g r least)
  unfolding level_at
  level_at-local least = then_local _ unary_at-local (λ x. climb_at-local least (8 - least) x)

deeper-local : (g : Dialect) (n : ℕ) → AreLocal (deeper g n)
unfolding deeper
deeper-local g zero = tt
deeper-local g (suc n) = let l = deeper-local g n in record { level = level_at-local g (deeper g n) l; chain = chain_at-local g (deeper g n) l; postfix = postfix_at-local g (deeper g n) l }

pub expr_is_local : ExprIsLocal
unfolding expr_at
expr_is_local g n = level_at-local g (deeper g n) (deeper-local g n) 0
