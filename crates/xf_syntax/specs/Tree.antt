-- The syntax tree of a rule file as plain data, and what the code's tree is of it.
use Rattle.std.specs.Prelude.{ℕ, List, [], ◌∷◌, map, Option}
use Rattle.std.specs.Option.{option_map}
use Rattle.kt_grammar.specs.Tree.{Term, term_of}
use Rattle.kt_grammar.specs.Texts.{Sized}
use Rattle.xf_syntax.specs.declared.tree.StructName.{StructName}
use Rattle.xf_syntax.specs.declared.tree.Target.{Target}
use Rattle.xf_syntax.specs.declared.tree.Side.{Side}
use Rattle.xf_syntax.specs.declared.tree.Act.{Act, Block', If', IfElse', Row_of-Act, end_of-Act, more_of-Act}
use Rattle.xf_syntax.specs.declared.tree.Act.TheVariants as act
use Rattle.xf_syntax.specs.declared.tree.Body.{Body}
use Rattle.xf_syntax.specs.declared.tree.RuleItem.{RuleItem}
use Rattle.xf_syntax.specs.declared.tree.RuleItem.TheVariants as item
use Rattle.xf_syntax.specs.declared.tree.RuleFile.{RuleFile}

-- an act of a rule's body
mutual
  pub data Action : Type 0 where
    Compound : Actions → Action
    Empty : Action
    -- the left side and the value
    Assigned : Term → Term → Action
    Conditional : Term → Action → Action
    Alternative : Term → Action → Action → Action

  pub data Actions : Type 0 where
    Nothing : Actions
    More : Action → Actions → Actions

-- the body of a rule, with the places of its braces
pub record Code : Type 0 where
  pub first : ℕ
  pub last : ℕ
  pub actions : Actions

-- a rule; none as code is a semicolon
pub data Rule : Type 0 where
  StructsPaired : StructName → StructName → Rule
  Started : Target → Option Code → Rule
  Moved : Side → Side → Option Code → Rule

-- ---- the code's tree as plain data

abbrev mutual
  pub action_of : Act → Action
  action_of (Block' p row) = Compound (actions_of_row row)
  action_of act.Empty = Empty
  action_of (act.Assign left value) = Assigned (term_of left) (term_of value)
  action_of (If' c p (more_of-Act s end_of-Act)) = Conditional (term_of c) (action_of s)
  action_of (IfElse' c p (more_of-Act s end_of-Act) q (more_of-Act t end_of-Act)) = Alternative (term_of c) (action_of s) (action_of t)

  pub actions_of_row : {m : _} → Row_of-Act m → Actions
  actions_of_row end_of-Act = Nothing
  actions_of_row (more_of-Act s rest) = More (action_of s) (actions_of_row rest)

-- a list of acts as plain data
abbrev pub actions_of : List Action → Actions
actions_of [] = Nothing
actions_of (s ∷ rest) = More s (actions_of rest)

abbrev pub code_of : Body → Code
code_of b = record { first = b.first; last = b.last; actions = actions_of (map action_of b.acts) }

abbrev pub rule_of : RuleItem → Rule
rule_of (item.Structs a b) = StructsPaired a b
rule_of (item.Initial t b) = Started t (option_map code_of b)
rule_of (item.Move a b c) = Moved a b (option_map code_of c)

abbrev pub tree_of : RuleFile → Sized (List Rule)
tree_of f = record { content = map rule_of f.rules; length = f.length }
