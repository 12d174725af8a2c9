-- The grammar of rule files: by which tokens each part is spelled, each token with its depth.
use Rattle.std.specs.Prelude.{ℕ, suc, Bool, true, false, not, List, Option, Some, None}
use Rattle.kt_grammar.specs.declared.keyword.Keyword.TheVariants as keywords
use Rattle.kt_grammar.specs.declared.operator.Dialect.TheVariants.{Rules}
use Rattle.kt_grammar.specs.declared.sign.Sign.TheVariants as signs
use Rattle.kt_grammar.specs.declared.symbol.Symbol.TheVariants as symbol
use Rattle.kt_grammar.specs.Marks.{Language, nothing, token, sign, keyword, name, ◌·◌, when}
use Rattle.kt_grammar.specs.Spelling.{spells}
use Rattle.kt_grammar.specs.Lists.{each}
use Rattle.kt_grammar.specs.Conditions.{condition}
use Rattle.xf_syntax.specs.declared.tree.StructName.{StructName}
use Rattle.xf_syntax.specs.declared.tree.Target.{Target}
use Rattle.xf_syntax.specs.declared.tree.Target.TheVariants as target
use Rattle.xf_syntax.specs.declared.tree.Side.{Side}
use Rattle.xf_syntax.specs.declared.tree.Side.TheVariants as side
use Rattle.xf_syntax.specs.Tree.{Action, Compound, Empty, Assigned, Conditional, Alternative, Actions, Nothing, More, Code, Rule, StructsPaired, Started, Moved}

-- ---- bodies

-- the act ends with an `if` that an `else` behind it would belong to
abbrev pub ends_open : Action → Bool
ends_open (Conditional c s) = true
ends_open (Alternative c s t) = ends_open t
ends_open _ = false

-- An act whose own tokens stand at depth d. An act that is part of another stands one deeper, and so do the acts of a block and
-- the value of an assignment.
abbrev mutual
  pub action : ℕ → Action → Language
  action d (Compound block) = sign d signs.OpenBrace · actions (suc d) block · sign d signs.CloseBrace
  action d Empty = sign d signs.Semicolon
  action d (Assigned left value) = spells Rules d left · sign d signs.Assign · spells Rules (suc d) value · sign d signs.Semicolon
  action d (Conditional c s) = keyword d keywords.If · condition Rules d c · action (suc d) s
  action d (Alternative c s t) =
      when (not (ends_open s))
      (keyword d keywords.If · condition Rules d c · action (suc d) s · keyword d keywords.Else · action (suc d) t)

  pub actions : ℕ → Actions → Language
  actions d Nothing = nothing
  actions d (More s rest) = action d s · actions d rest

-- a body is a block whose braces stand where it tells
abbrev pub code : Code → Language
code c = token 0 (symbol.Sign c.first signs.OpenBrace) · actions 1 c.actions · token 0 (symbol.Sign c.last signs.CloseBrace)

-- ---- rules

abbrev pub struct_name : StructName → Language
struct_name s = token 0 (symbol.Keyword s.at keywords.Struct) · name 0 s.name

abbrev pub target_spelling : Target → Language
target_spelling (target.Global g) = name 0 g
target_spelling (target.Field s f) = struct_name s · sign 0 signs.Dot · name 0 f

abbrev pub side_spelling : Side → Language
side_spelling (side.Target t) = target_spelling t
side_spelling (side.Local f x) = name 0 f · sign 0 signs.DoubleColon · name 0 x

-- what ends a rule: a semicolon, or a colon and a body
abbrev pub ending : Option Code → Language
ending None = sign 0 signs.Semicolon
ending (Some c) = sign 0 signs.Colon · code c

abbrev pub rule : Rule → Language
rule (StructsPaired a b) = struct_name a · sign 0 signs.Arrow · struct_name b · sign 0 signs.Semicolon
rule (Started t c) = keyword 0 keywords.Init · target_spelling t · ending c
rule (Moved a b c) = side_spelling a · sign 0 signs.Arrow · side_spelling b · ending c

-- a rule file is its rules
abbrev pub rules : List Rule → Language
rules xs = each rule xs
