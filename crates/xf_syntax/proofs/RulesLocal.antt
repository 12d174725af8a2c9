-- Texts with a common front are read as rule files alike, up to the end of that front.
use Rattle.std.proofs.Common.{◌≡◌, ℕ, zero, suc, List, [], ◌∷◌, Option, Some, None, Ok, refl, le_refl}
use Rattle.kt_grammar.specs.declared.keyword.Keyword.TheVariants as keywords
use Rattle.kt_grammar.specs.declared.operator.Dialect.TheVariants.{Rules}
use Rattle.kt_grammar.specs.declared.sign.Sign.{Sign}
use Rattle.kt_grammar.specs.declared.sign.Sign.TheVariants as signs
use Rattle.kt_grammar.specs.declared.symbol.Symbol.{Symbol}
use Rattle.kt_grammar.specs.declared.symbol.Symbol.TheVariants as symbol
use Rattle.kt_grammar.specs.declared.tree.Name.{Name}
use Rattle.kt_grammar.specs.Tree.{Term}
use Rattle.kt_grammar.specs.Signs.{same_sign}
use Rattle.kt_grammar.specs.Cursor.{◌>>=◌, name_at}
use Rattle.kt_grammar.specs.Laws.{ExprIsLocal}
use Rattle.kt_grammar.specs.Local.{IsLocal}
use Rattle.kt_grammar.specs.LocalLaws.{IsLocalFrom, IsFirst, then_local, gives_local, unexpected_local, taken, untaken, by_first, dropped, either_from, if_local, or_first, begins_sign-first, behind_local, name_at-local, IsTaking, IsTakingFrom, then_taking, then_takes, takes_it, leaves_it, either_takes, taking_by_first, unexpected_taking, behind_taking, begins_expr-first, refused_local, until_local, refuses_alike}
use Rattle.kt_grammar.specs.TextLaws.{TextIsLocal}
use Rattle.kt_grammar.specs.Conditions.{behind_else}
use Rattle.kt_grammar.proofs.Conditions.{deep_expr_at-local, condition_at-local}
use Rattle.xf_syntax.specs.declared.tree.StructName.{StructName}
use Rattle.xf_syntax.specs.declared.tree.Target.TheVariants as target
use Rattle.xf_syntax.specs.declared.tree.Side.{Side}
use Rattle.xf_syntax.specs.declared.tree.Side.TheVariants as side
use Rattle.xf_syntax.specs.Tree.{Action, Compound, Empty, Assigned, Conditional, Alternative, actions_of, StructsPaired, Started, Moved}
use Rattle.xf_syntax.specs.Reading.{begins_if, begins_act, Blocks, part_at, block_at, else_at, if_behind, assigned_at, compound_behind, signed_at, act_at, acts_at, blocks, sign_at, code_at, ending_at, field_behind, field_at, target_at, named_behind, side_at, struct_name_at, moved_behind, paired_behind, struct_behind, started_behind, rule_at, rules_at}

-- ---- sides

-- a name takes a symbol
name_at-taking : IsTaking name_at
unfolding name_at
name_at-taking = taking_by_first (le_refl 0) tt some
  where
    some : (s : Symbol) → IsTakingFrom s (λ symbols. name_at (s ∷ symbols))
    some (symbol.Name at word) = takes_it (gives_local (record { at = at; word = word }))
    some _ = leaves_it unexpected_taking

field_behind-local : (s : StructName) → IsLocal (field_behind s)
unfolding field_behind
field_behind-local s = behind_local signs.Dot (then_local _ name_at-local (λ f. gives_local (target.Field s f)))

field_at-local : (at : ℕ) → IsLocal (field_at at)
unfolding field_at
field_at-local at = then_local _ name_at-local (λ s. field_behind-local (record { at = at; name = s }))

target_at-local : IsLocal target_at
unfolding target_at name_at
target_at-local = by_first (le_refl 0) some
  where
    some : (s : Symbol) → IsLocalFrom s (λ symbols. target_at (s ∷ symbols))
    some (symbol.Keyword at keywords.Struct) = taken (field_at-local at)
    some _ = untaken (then_local (λ g. Ok (target.Global g.0, g.1)) name_at-local (λ g. gives_local (target.Global g)))

named_behind-local : (n : Name) → IsLocal (named_behind n)
unfolding named_behind
named_behind-local n = if_local (begins_sign-first signs.DoubleColon) (dropped (then_local _ name_at-local (λ x. gives_local (side.Local n x)))) (gives_local (side.Target (target.Global n)))

side_at-local : IsLocal side_at
unfolding side_at name_at
side_at-local = by_first (le_refl 0) some
  where
    some : (s : Symbol) → IsLocalFrom s (λ symbols. side_at (s ∷ symbols))
    some (symbol.Keyword at keywords.Struct) = taken (then_local _ (field_at-local at) (λ t. gives_local (side.Target t)))
    some _ = untaken (then_local (λ n. named_behind n.0 n.1) name_at-local (λ n. named_behind-local n))

struct_name_at-local : IsLocal struct_name_at
unfolding struct_name_at
struct_name_at-local = by_first (le_refl 0) some
  where
    some : (s : Symbol) → IsLocalFrom s (λ symbols. struct_name_at (s ∷ symbols))
    some (symbol.Keyword at keywords.Struct) = taken (then_local _ name_at-local (λ s. gives_local (record { at = at; name = s })))
    some _ = untaken unexpected_local

-- ---- acts

begins_if-first : IsFirst begins_if
unfolding begins_if
begins_if-first = record { same = same }
  where
    same : (s : Symbol) (rest other : List Symbol) → begins_if (s ∷ rest) ≡ begins_if (s ∷ other)
    same (symbol.Keyword at keywords.If) rest other = refl
    same _ rest other = refl

begins_act-first : IsFirst begins_act
begins_act-first = or_first (or_first (or_first (begins_sign-first signs.OpenBrace) (begins_sign-first signs.Semicolon)) begins_if-first) (begins_expr-first Rules)

sign_at-local : (s : Sign) → IsLocal (sign_at s)
unfolding sign_at
sign_at-local s = by_first (le_refl 0) some
  where
    some : (t : Symbol) → IsLocalFrom t (λ symbols. sign_at s (t ∷ symbols))
    some (symbol.Sign at t) = either_from (same_sign t s) (taken (gives_local at)) (untaken unexpected_local)
    some _ = untaken unexpected_local

record AreLocalBlocks (b : Blocks) : Type 0 where
  act : IsLocal b.act
  acts : IsLocal b.acts

abbrev AreLocal : Option Blocks → Type 0
AreLocal None = Unit {0}
AreLocal (Some b) = AreLocalBlocks b

module _ (e : ExprIsLocal) where
  assigned_at-taking : (n : ℕ) → IsTaking (assigned_at n)
  unfolding assigned_at
  assigned_at-taking n = then_takes _ (e Rules n) (λ left. behind_taking signs.Assign (then_local _ (deep_expr_at-local e Rules n) (λ value. behind_local signs.Semicolon (gives_local (Assigned left value)))))

  part_at-local : (b : Option Blocks) → AreLocal b → IsLocal (part_at b)
  unfolding part_at
  part_at-local None l = refused_local begins_act-first
  part_at-local (Some b) l = l.act

  block_at-local : (b : Option Blocks) → AreLocal b → IsLocal (block_at b)
  unfolding block_at
  block_at-local None l = if_local (begins_sign-first signs.CloseBrace) (gives_local []) (refused_local begins_act-first)
  block_at-local (Some b) l = l.acts

  module _ (n : ℕ) (b : Option Blocks) (l : AreLocal b) where
    else_at-local : (c : Term) (s : Action) → IsLocal (else_at b c s)
    unfolding else_at behind_else
    else_at-local c s = by_first (le_refl 0) some
      where
        some : (t : Symbol) → IsLocalFrom t (λ symbols. else_at b c s (t ∷ symbols))
        some (symbol.Keyword at keywords.Else) = taken (then_local _ (part_at-local b l) (λ t. gives_local (Alternative c s t)))
        some _ = untaken (gives_local (Conditional c s))

    if_behind-local : IsLocal (if_behind n b)
    unfolding if_behind
    if_behind-local = then_local _ (condition_at-local e Rules n) (λ c. then_local _ (part_at-local b l) (λ s. else_at-local c s))

    compound_behind-local : IsLocal (compound_behind b)
    unfolding compound_behind
    compound_behind-local = then_local _ (block_at-local b l) (λ acts. behind_local signs.CloseBrace (gives_local (Compound (actions_of acts))))

    signed_at-taking : (at : ℕ) (s : Sign) → IsTakingFrom (symbol.Sign at s) (λ rest. signed_at n b s (symbol.Sign at s ∷ rest) rest)
    unfolding signed_at
    signed_at-taking at s = either_takes (same_sign s signs.OpenBrace) (takes_it compound_behind-local)
        (either_takes (same_sign s signs.Semicolon) (takes_it (gives_local Empty)) (leaves_it (assigned_at-taking n)))

    act_at-taking : IsTaking (act_at n b)
    unfolding act_at
    act_at-taking = taking_by_first (le_refl 0) tt some
      where
        some : (s : Symbol) → IsTakingFrom s (λ symbols. act_at n b (s ∷ symbols))
        some (symbol.Keyword at keywords.If) = takes_it if_behind-local
        some (symbol.Sign at s) = signed_at-taking at s
        some _ = leaves_it (assigned_at-taking n)

    acts_at-local : IsLocal (acts_at n b)
    unfolding acts_at
    acts_at-local = until_local (begins_sign-first signs.CloseBrace) act_at-taking []

  blocks-local : (n : ℕ) → AreLocal (blocks n)
  unfolding blocks
  blocks-local zero = tt
  blocks-local (suc n) = let l = blocks-local n in record { act = (act_at-taking n (blocks n) l).local; acts = acts_at-local n (blocks n) l }

  -- ---- rules

  code_at-local : (n : ℕ) → IsLocal (code_at n)
  unfolding code_at
  code_at-local n = then_local _ (sign_at-local signs.OpenBrace) (λ first. then_local _ (block_at-local (blocks n) (blocks-local n))
      (λ acts. then_local _ (sign_at-local signs.CloseBrace) (λ last. gives_local (record { first = first; last = last; actions = actions_of acts }))))

  ending_at-local : (n : ℕ) → IsLocal (ending_at n)
  unfolding ending_at
  ending_at-local n = if_local (begins_sign-first signs.Semicolon) (dropped (gives_local None)) (behind_local signs.Colon (then_local _ (code_at-local n) (λ c. gives_local (Some c))))

  moved_behind-local : (n : ℕ) (left : Side) → IsLocal (moved_behind n left)
  unfolding moved_behind
  moved_behind-local n left = behind_local signs.Arrow (then_local _ side_at-local (λ right. then_local _ (ending_at-local n) (λ c. gives_local (Moved left right c))))

  paired_behind-local : (s : StructName) → IsLocal (paired_behind s)
  unfolding paired_behind
  paired_behind-local s = then_local _ struct_name_at-local (λ t. behind_local signs.Semicolon (gives_local (StructsPaired s t)))

  struct_behind-local : (n : ℕ) (s : StructName) → IsLocal (struct_behind n s)
  unfolding struct_behind
  struct_behind-local n s = if_local (begins_sign-first signs.Arrow) (dropped (paired_behind-local s)) (then_local _ (field_behind-local s) (λ f. moved_behind-local n (side.Target f)))

  started_behind-local : (n : ℕ) → IsLocal (started_behind n)
  unfolding started_behind
  started_behind-local n = then_local _ target_at-local (λ t. then_local _ (ending_at-local n) (λ c. gives_local (Started t c)))

  -- a rule that begins with a name
  plain_rule-taking : (n : ℕ) → IsTaking (λ symbols. name_at symbols >>= λ x. named_behind x.0 x.1 >>= λ left. moved_behind n left.0 left.1)
  plain_rule-taking n = then_taking _ name_at-taking (λ x. then_local _ (named_behind-local x) (λ left. moved_behind-local n left))

  rule_at-taking : (n : ℕ) → IsTaking (rule_at n)
  unfolding rule_at name_at
  rule_at-taking n = taking_by_first (le_refl 0) tt some
    where
      some : (s : Symbol) → IsTakingFrom s (λ symbols. rule_at n (s ∷ symbols))
      some (symbol.Keyword at keywords.Struct) = takes_it (then_local _ name_at-local (λ s. struct_behind-local n (record { at = at; name = s })))
      some (symbol.Keyword at keywords.Init) = takes_it (started_behind-local n)
      some _ = leaves_it (plain_rule-taking n)

  rules_at-local : (n : ℕ) → IsLocal (rules_at n)
  unfolding rules_at
  rules_at-local n = until_local (record { same = λ s rest other. refl }) (rule_at-taking n) []

pub rules_are_local : ExprIsLocal → TextIsLocal rules_at
rules_are_local e n = refuses_alike (rules_at-local e n)
