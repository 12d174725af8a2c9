-- The grammar of expressions: by which tokens an expression is spelled, each with its depth.
use Rattle.std.specs.Prelude.{ℕ, suc, ◌+◌, ◌==◌, Bool, true, false, nat_le, nat_lt, not, if◌then◌else◌}
use Rattle.kt_grammar.specs.declared.keyword.Keyword.TheVariants as keywords
use Rattle.kt_grammar.specs.declared.keyword.RuleWord.{RuleWord}
use Rattle.kt_grammar.specs.declared.keyword.RuleWord.TheVariants as rule
use Rattle.kt_grammar.specs.declared.sign.Sign.TheVariants as signs
use Rattle.kt_grammar.specs.declared.symbol.Symbol.TheVariants as symbol
use Rattle.kt_grammar.specs.declared.operator.Dialect.{Dialect}
use Rattle.kt_grammar.specs.declared.tree.Base.{Base}
use Rattle.kt_grammar.specs.declared.tree.Base.TheVariants as base
use Rattle.kt_grammar.specs.declared.tree.TypeName.{TypeName}
use Rattle.kt_grammar.specs.declared.tree.Fresh.{Fresh}
use Rattle.kt_grammar.specs.Tree.{Term, Constant, Character, Text, Null, Eof, Named, Called, Parenthesised, SizeOf, RuleValue, OldSymbol, Transformed, NewObject, Element, Member, Pointed, Stepped, Prefixed, Converted, Operated, Chosen, Assigned, Terms, Nothing, More}
use Rattle.kt_grammar.specs.Signs.{is_c, prefix_sign, has_prefix, step_sign, binary_sign, assign_sign, precedence}
use Rattle.kt_grammar.specs.Marks.{Language, nothing, token, sign, keyword, name, ◌·◌, when, optional, repeated}

-- the level of an expression: of assignment 0, of `?:` 1, of binary operators their precedence, of prefix operators and casts 8, else 9
abbrev pub level : Term → ℕ
level (Assigned op a b) = 0
level (Chosen c a b) = 1
level (Operated op a b) = precedence op
level (Prefixed at op a) = 8
level (Converted at type a) = 8
level _ = 9

-- how many operators of its level an expression has in one chain, as `a + b - c` has two and `a[i].f` has two
abbrev pub links : Term → ℕ
links (Operated op a b) = suc (if level a == precedence op then links a else 0)
links (Element a i) = suc (links a)
links (Member a f) = suc (links a)
links (Pointed a f) = suc (links a)
links (Stepped a op) = suc (links a)
links _ = 0

-- how many operators of a level a chain has before its next one of that level, when the expression stands before it
abbrev pub links_at : ℕ → Term → ℕ
links_at l a = if level a == l then links a else 0

-- in parentheses, which stand at this depth
abbrev pub between : ℕ → Language → Language
between d A = sign d signs.OpenParenthesis · A · sign d signs.CloseParenthesis

abbrev pub bare_base : ℕ → Base → Language
bare_base d base.Char = keyword d keywords.Char
bare_base d base.Int = keyword d keywords.Int
bare_base d base.Long = keyword d keywords.Long
bare_base d base.Mutex = keyword d keywords.Mutex
bare_base d (base.Struct n) = keyword d keywords.Struct · name d n

-- a type without stars, with or without `const`
abbrev pub spells_base : ℕ → Base → Language
spells_base d b = optional (keyword d keywords.Const) · bare_base d b

-- a type name, as in a cast
abbrev pub spells_type : ℕ → TypeName → Language
spells_type d t = spells_base d t.base · repeated d signs.Star t.stars

-- `$in`, `$out` and `$base` stand alone
abbrev pub is_value : RuleWord → Bool
is_value rule.In = true
is_value rule.Out = true
is_value rule.Base = true
is_value rule.OldSymbol = false
is_value rule.Transform = false
is_value rule.New = false

-- what stands between the parentheses of `$new`: a type, a comma and a number
abbrev pub spells_fresh : ℕ → Fresh → Language
spells_fresh d f = spells_type d f.type_name · sign d signs.Comma · token d (symbol.Number f.at f.count)

-- what an expression that begins at depth d is spelled by
abbrev mutual
  pub spells : Dialect → ℕ → Term → Language
  spells g d (Constant at n) = token d (symbol.Number at n)
  spells g d (Character at b) = token d (symbol.Character at b)
  spells g d (Text at bytes) = when (is_c g) (token d (symbol.Text at bytes))
  spells g d (Null at) = token d (symbol.Keyword at keywords.Null)
  spells g d (Eof at) = token d (symbol.Keyword at keywords.Eof)
  spells g d (Named n) = name d n
  spells g d (Called n args) = when (is_c g) (name d n · between d (arguments g (suc d) args))
  spells g d (Parenthesised at a) = token d (symbol.Sign at signs.OpenParenthesis) · spells g (suc d) a · sign d signs.CloseParenthesis
  spells g d (SizeOf at type) = when (is_c g) (token d (symbol.Keyword at keywords.SizeOf) · between d (spells_type d type))
  spells g d (RuleValue at word) = when (not (is_c g)) (when (is_value word) (token d (symbol.RuleWord at word)))
  spells g d (OldSymbol at n) = when (not (is_c g)) (token d (symbol.RuleWord at rule.OldSymbol) · between d (name d n))
  spells g d (Transformed at a) = when (not (is_c g)) (token d (symbol.RuleWord at rule.Transform) · between d (spells g (suc d) a))
  spells g d (NewObject at f) = when (not (is_c g)) (token d (symbol.RuleWord at rule.New) · between d (spells_fresh d f))
  spells g d (Element a i) =
      when (nat_le 9 (level a)) (spells g d a · sign (d + links a) signs.OpenBracket · spells g (suc (d + links a)) i · sign (d + links a) signs.CloseBracket)
  spells g d (Member a f) = when (nat_le 9 (level a)) (spells g d a · sign (d + links a) signs.Dot · name (d + links a) f)
  spells g d (Pointed a f) = when (nat_le 9 (level a)) (spells g d a · sign (d + links a) signs.Arrow · name (d + links a) f)
  spells g d (Stepped a op) = when (is_c g) (when (nat_le 9 (level a)) (spells g d a · sign (d + links a) (step_sign op)))
  spells g d (Prefixed at op a) =
      when (has_prefix g op) (when (nat_le 8 (level a)) (token d (symbol.Sign at (prefix_sign op)) · spells g (suc d) a))
  spells g d (Converted at type a) =
      when (nat_le 8 (level a))
      (token d (symbol.Sign at signs.OpenParenthesis) · spells_type d type · sign d signs.CloseParenthesis · spells g (suc d) a)
  spells g d (Operated op a b) =
      when (nat_le (precedence op) (level a)) (when (nat_lt (precedence op) (level b))
      (spells g d a · sign (d + links_at (precedence op) a) (binary_sign op) · spells g (suc (d + links_at (precedence op) a)) b))
  spells g d (Chosen c a b) =
      when (nat_le 2 (level c)) (when (nat_le 1 (level b))
      (spells g d c · sign d signs.Question · spells g (suc d) a · sign d signs.Colon · spells g (suc d) b))
  spells g d (Assigned op a b) =
      when (is_c g) (when (nat_le 1 (level a)) (spells g d a · sign d (assign_sign op) · spells g (suc d) b))

  -- arguments with commas between them
  pub arguments : Dialect → ℕ → Terms → Language
  arguments g d Nothing = nothing
  arguments g d (More a Nothing) = spells g d a
  arguments g d (More a (More b rest)) = spells g d a · sign d signs.Comma · arguments g d (More b rest)
