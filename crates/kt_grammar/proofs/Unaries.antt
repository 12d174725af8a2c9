-- A unary expression is its front and what stands behind that.
use Rattle.std.proofs.Common.{◌≡◌, ℕ, Bool, true, false, ◌&&◌, cond, List, [], ◌∷◌, drop, Option, Some, None, Ok, refl, sym}
use Rattle.kt_grammar.specs.declared.keyword.Keyword.TheVariants as keywords
use Rattle.kt_grammar.specs.declared.keyword.RuleWord.{RuleWord}
use Rattle.kt_grammar.specs.declared.keyword.RuleWord.TheVariants as rule
use Rattle.kt_grammar.specs.declared.sign.Sign.{Sign}
use Rattle.kt_grammar.specs.declared.sign.Sign.TheVariants as signs
use Rattle.kt_grammar.specs.declared.symbol.Symbol.{Symbol}
use Rattle.kt_grammar.specs.declared.symbol.Symbol.TheVariants as symbol
use Rattle.kt_grammar.specs.declared.operator.Dialect.{Dialect}
use Rattle.kt_grammar.specs.declared.operator.PrefixOperator.{PrefixOperator}
use Rattle.kt_grammar.specs.declared.tree.Name.{Name}
use Rattle.kt_grammar.specs.declared.head.Enclosing.TheVariants.{Parenthesis}
use Rattle.kt_grammar.specs.declared.head.Prefixing.TheVariants.{Cast}
use Rattle.kt_grammar.specs.Tree.{Term, Named, Called, SizeOf, Converted, Parenthesised, terms_of}
use Rattle.kt_grammar.specs.Signs.{is_c, same_sign, prefix_of}
use Rattle.kt_grammar.specs.Cursor.{◌>>=◌, Outcome, unexpected, begins_sign, behind}
use Rattle.kt_grammar.specs.Reading.{Readers, begins_base, type_at, between_at, deep_level, postfix_at, arguments_at, named_at, old_symbol_at, new_object_at, transform_at, rule_at, primary_at, parenthesis_at, prefixed_at, unary_at}
use Rattle.kt_grammar.specs.Heads.{Front, Whole, Calling, Opening, Applying, name_head, open_head, prefix_head, rule_head, sign_head, head_at, behind_head}
use Rattle.kt_grammar.proofs.Binds.{bind_assoc}

-- what stands behind a front that was read
abbrev pub completed : Dialect → Option Readers → Outcome Front → Outcome Term
completed g r front = front >>= λ h. behind_head g r h.0 h.1

abbrev pub with_postfix : Dialect → Option Readers → Outcome Term → Outcome Term
with_postfix g r read = read >>= λ x. postfix_at g r x.0 x.1

by_name : (g : Dialect) (r : Option Readers) (n : Name) (symbols : List Symbol) → with_postfix g r (named_at g r n symbols) ≡ completed g r (name_head g n symbols)
unfolding named_at name_head behind_head
by_name g r n symbols = elim (is_c g && begins_sign signs.OpenParenthesis symbols) as (λ b.
    with_postfix g r (cond b (arguments_at g r (drop 1 symbols) >>= λ args. Ok (Called n (terms_of args.0), args.1)) (Ok (Named n, symbols)))
    ≡ completed g r (cond b (Ok (Calling n, drop 1 symbols)) (Ok (Whole (Named n), symbols))))
    [ true ↦ bind_assoc (arguments_at g r (drop 1 symbols)) _ _ | false ↦ refl ]

by_open : (g : Dialect) (r : Option Readers) (at : ℕ) (symbols : List Symbol) → parenthesis_at g r at symbols ≡ completed g r (open_head at symbols)
unfolding parenthesis_at open_head behind_head
by_open g r at symbols = elim (begins_base symbols) as (λ b.
    cond b (type_at symbols >>= λ t. behind signs.CloseParenthesis t.1 >>= λ rest. deep_level g r 8 rest >>= λ a. Ok (Converted at t.0 a.0, a.1))
    (deep_level g r 0 symbols >>= λ a. behind signs.CloseParenthesis a.1 >>= λ rest. postfix_at g r (Parenthesised at a.0) rest)
    ≡ completed g r (cond b (type_at symbols >>= λ t. behind signs.CloseParenthesis t.1 >>= λ rest. Ok (Applying (Cast at t.0), rest)) (Ok (Opening (Parenthesis at), symbols))))
    [ true ↦ sym (simp bind_assoc) | false ↦ refl ]

by_prefix : (g : Dialect) (r : Option Readers) (at : ℕ) (o : Option PrefixOperator) (symbols rest : List Symbol) → prefixed_at g r at o symbols rest ≡ completed g r (prefix_head at o symbols rest)
unfolding prefixed_at prefix_head behind_head
by_prefix g r at None symbols rest = refl
by_prefix g r at (Some op) symbols rest = refl

by_rule : (g : Dialect) (r : Option Readers) (at : ℕ) (word : RuleWord) (symbols : List Symbol) → with_postfix g r (rule_at g r at word symbols) ≡ completed g r (rule_head at word symbols)
unfolding rule_at rule_head behind_head old_symbol_at new_object_at transform_at
by_rule g r at rule.In symbols = refl
by_rule g r at rule.Out symbols = refl
by_rule g r at rule.Base symbols = refl
by_rule g r at rule.OldSymbol symbols = simp bind_assoc
by_rule g r at rule.Transform symbols = simp bind_assoc
by_rule g r at rule.New symbols = simp bind_assoc

by_sign : (g : Dialect) (r : Option Readers) (at : ℕ) (s : Sign) (rest : List Symbol)
    → unary_at g r (symbol.Sign at s ∷ rest) ≡ completed g r (sign_head g at s (symbol.Sign at s ∷ rest) rest)
unfolding unary_at sign_head
by_sign g r at s rest = elim (same_sign s signs.OpenParenthesis) as (λ b.
    cond b (parenthesis_at g r at rest) (prefixed_at g r at (prefix_of g s) (symbol.Sign at s ∷ rest) rest)
    ≡ completed g r (cond b (open_head at rest) (prefix_head at (prefix_of g s) (symbol.Sign at s ∷ rest) rest)))
    [ true ↦ by_open g r at rest | false ↦ by_prefix g r at (prefix_of g s) (symbol.Sign at s ∷ rest) rest ]

-- what only one kind of file has
by_dialect : (g : Dialect) (r : Option Readers) (b : Bool) (x y : Outcome Term) (u v : Outcome Front) → with_postfix g r x ≡ completed g r u → with_postfix g r y ≡ completed g r v
    → with_postfix g r (cond b x y) ≡ completed g r (cond b u v)
by_dialect g r true x y u v e f = e
by_dialect g r false x y u v e f = f

pub unary_at-by_head : (g : Dialect) (r : Option Readers) (symbols : List Symbol) → unary_at g r symbols ≡ completed g r (head_at g symbols)
unfolding unary_at primary_at head_at behind_head
unary_at-by_head g r [] = refl
unary_at-by_head g r (symbol.Sign at s ∷ rest) = by_sign g r at s rest
unary_at-by_head g r (symbol.Name at word ∷ rest) = by_name g r (record { at = at; word = word }) rest
unary_at-by_head g r (symbol.Keyword at keywords.Null ∷ rest) = refl
unary_at-by_head g r (symbol.Keyword at keywords.Eof ∷ rest) = refl
unary_at-by_head g r (symbol.Keyword at keywords.SizeOf ∷ rest) =
    by_dialect g r (is_c g) (between_at rest >>= λ t. Ok (SizeOf at t.0, t.1)) (unexpected (symbol.Keyword at keywords.SizeOf ∷ rest)) (between_at rest >>= λ t. Ok (Whole (SizeOf at t.0), t.1)) (unexpected (symbol.Keyword at keywords.SizeOf ∷ rest))
    (simp bind_assoc) refl
unary_at-by_head g r (symbol.Keyword at other ∷ rest) = refl
unary_at-by_head g r (symbol.Number at n ∷ rest) = refl
unary_at-by_head g r (symbol.Character at b ∷ rest) = refl
unary_at-by_head g r (symbol.Text at bytes ∷ rest) = by_dialect g r (is_c g) _ (unexpected (symbol.Text at bytes ∷ rest)) _ (unexpected (symbol.Text at bytes ∷ rest)) refl refl
unary_at-by_head g r (symbol.RuleWord at word ∷ rest) =
    by_dialect g r (is_c g) (unexpected (symbol.RuleWord at word ∷ rest)) (rule_at g r at word rest) (unexpected (symbol.RuleWord at word ∷ rest)) (rule_head at word rest) refl (by_rule g r at word rest)
unary_at-by_head g r (symbol.Other at ∷ rest) = refl
