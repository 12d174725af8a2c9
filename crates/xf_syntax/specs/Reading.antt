-- Rule files at the front of a list of symbols, with so many more constructs that may be opened.
use Rattle.std.specs.Prelude.{ℕ, zero, suc, ◌||◌, Bool, true, false, List, [], ◌∷◌, length, drop, Option, Some, None, Ok, if◌then◌else◌}
use Rattle.kt_grammar.specs.declared.keyword.Keyword.TheVariants as keywords
use Rattle.kt_grammar.specs.declared.operator.Dialect.TheVariants.{Rules}
use Rattle.kt_grammar.specs.declared.sign.Sign.{Sign}
use Rattle.kt_grammar.specs.declared.sign.Sign.TheVariants as signs
use Rattle.kt_grammar.specs.declared.symbol.Symbol.{Symbol}
use Rattle.kt_grammar.specs.declared.symbol.Symbol.TheVariants as symbol
use Rattle.kt_grammar.specs.declared.tree.Name.{Name}
use Rattle.kt_grammar.specs.Tree.{Term}
use Rattle.kt_grammar.specs.Signs.{same_sign}
use Rattle.kt_grammar.specs.Cursor.{◌>>=◌, Outcome, unexpected, begins_sign, behind, name_at, until_at}
use Rattle.kt_grammar.specs.Reading.{begins_expr, expr_at}
use Rattle.kt_grammar.specs.Lists.{is_end}
use Rattle.kt_grammar.specs.Conditions.{refused, deep_expr_at, condition_at, behind_else}
use Rattle.xf_syntax.specs.declared.tree.StructName.{StructName}
use Rattle.xf_syntax.specs.declared.tree.Target.{Target}
use Rattle.xf_syntax.specs.declared.tree.Target.TheVariants as target
use Rattle.xf_syntax.specs.declared.tree.Side.{Side}
use Rattle.xf_syntax.specs.declared.tree.Side.TheVariants as side
use Rattle.xf_syntax.specs.Tree.{Action, Compound, Empty, Assigned, Conditional, Alternative, actions_of, Code, Rule, StructsPaired, Started, Moved}

-- ---- acts

-- an `if` stands at the front
unfoldable pub begins_if : List Symbol → Bool
begins_if (symbol.Keyword at keywords.If ∷ rest) = true
begins_if _ = false

-- an act begins with this symbol
abbrev pub begins_act : List Symbol → Bool
begins_act symbols = begins_sign signs.OpenBrace symbols || begins_sign signs.Semicolon symbols || begins_if symbols || begins_expr Rules symbols

-- what reads one deeper: an act, or the acts of a block up to its closing brace
pub record Blocks : Type 0 where
  pub act : List Symbol → Outcome Action
  pub acts : List Symbol → Outcome (List Action)

-- an act that is part of another
unfoldable pub part_at : Option Blocks → List Symbol → Outcome Action
part_at None symbols = refused begins_act symbols
part_at (Some b) symbols = b.act symbols

-- the acts of a block, behind its opening brace
unfoldable pub block_at : Option Blocks → List Symbol → Outcome (List Action)
block_at None symbols = if begins_sign signs.CloseBrace symbols then Ok ([], symbols) else refused begins_act symbols
block_at (Some b) symbols = b.acts symbols

-- an `else` and its act, where it stands
unfoldable pub else_at : Option Blocks → Term → Action → List Symbol → Outcome Action
else_at b c s symbols = elim (behind_else symbols) as (λ _. Outcome Action)
    [ None ↦ Ok (Conditional c s, symbols) | (Some rest) ↦ part_at b rest >>= λ t. Ok (Alternative c s t.0, t.1) ]

-- behind `if`
unfoldable pub if_behind : ℕ → Option Blocks → List Symbol → Outcome Action
if_behind n b symbols = condition_at Rules n symbols >>= λ c. part_at b c.1 >>= λ s. else_at b c.0 s.0 s.1

-- an assignment
unfoldable pub assigned_at : ℕ → List Symbol → Outcome Action
assigned_at n symbols = expr_at Rules n symbols >>= λ left. behind signs.Assign left.1 >>= λ inner. deep_expr_at Rules n inner
    >>= λ value. behind signs.Semicolon value.1 >>= λ rest. Ok (Assigned left.0 value.0, rest)

-- a block behind its opening brace
unfoldable pub compound_behind : Option Blocks → List Symbol → Outcome Action
compound_behind b symbols = block_at b symbols >>= λ acts. behind signs.CloseBrace acts.1 >>= λ rest. Ok (Compound (actions_of acts.0), rest)

-- a block, an empty act, or an assignment that begins with a sign
unfoldable pub signed_at : ℕ → Option Blocks → Sign → List Symbol → List Symbol → Outcome Action
signed_at n b s symbols rest =
    if same_sign s signs.OpenBrace then compound_behind b rest
    else (if same_sign s signs.Semicolon then Ok (Empty, rest)
    else assigned_at n symbols)

unfoldable pub act_at : ℕ → Option Blocks → List Symbol → Outcome Action
act_at n b [] = unexpected []
act_at n b (symbol.Keyword at keywords.If ∷ rest) = if_behind n b rest
act_at n b (symbol.Sign at s ∷ rest) = signed_at n b s (symbol.Sign at s ∷ rest) rest
act_at n b (other ∷ rest) = assigned_at n (other ∷ rest)

-- acts up to a closing brace
unfoldable pub acts_at : ℕ → Option Blocks → List Symbol → Outcome (List Action)
acts_at n b symbols = until_at (begins_sign signs.CloseBrace) (act_at n b) (length symbols) [] symbols

-- what reads one deeper, where so many more constructs may be opened
unfoldable pub blocks : ℕ → Option Blocks
blocks zero = None
blocks (suc n) = let b = blocks n in Some (record { act = act_at n b; acts = acts_at n b })

-- ---- bodies

-- the place of the sign at the front; 0 where none is
abbrev pub sign_place : List Symbol → ℕ
sign_place (symbol.Sign at s ∷ rest) = at
sign_place _ = 0

-- a sign and its place
unfoldable pub sign_at : Sign → List Symbol → Outcome ℕ
sign_at s (symbol.Sign at t ∷ rest) = if same_sign t s then Ok (at, rest) else unexpected (symbol.Sign at t ∷ rest)
sign_at s [] = unexpected []
sign_at s (other ∷ rest) = unexpected (other ∷ rest)

unfoldable pub code_at : ℕ → List Symbol → Outcome Code
code_at n symbols = sign_at signs.OpenBrace symbols >>= λ first. block_at (blocks n) first.1 >>= λ acts. sign_at signs.CloseBrace acts.1
    >>= λ last. Ok (record { first = first.0; last = last.0; actions = actions_of acts.0 }, last.1)

-- what ends a rule: a semicolon, or a colon and a body
unfoldable pub ending_at : ℕ → List Symbol → Outcome (Option Code)
ending_at n symbols =
    if begins_sign signs.Semicolon symbols then Ok (None, drop 1 symbols)
    else (behind signs.Colon symbols >>= λ inner. code_at n inner >>= λ c. Ok (Some c.0, c.1))

-- ---- sides

-- a field behind the name of its struct
unfoldable pub field_behind : StructName → List Symbol → Outcome Target
field_behind s symbols = behind signs.Dot symbols >>= λ inner. name_at inner >>= λ f. Ok (target.Field s f.0, f.1)

-- a field behind `struct`
unfoldable pub field_at : ℕ → List Symbol → Outcome Target
field_at at symbols = name_at symbols >>= λ s. field_behind (record { at = at; name = s.0 }) s.1

unfoldable pub target_at : List Symbol → Outcome Target
target_at (symbol.Keyword at keywords.Struct ∷ rest) = field_at at rest
target_at symbols = name_at symbols >>= λ g. Ok (target.Global g.0, g.1)

-- a global, or a local where two colons stand behind its function's name
unfoldable pub named_behind : Name → List Symbol → Outcome Side
named_behind n symbols =
    if begins_sign signs.DoubleColon symbols then (name_at (drop 1 symbols) >>= λ x. Ok (side.Local n x.0, x.1))
    else Ok (side.Target (target.Global n), symbols)

unfoldable pub side_at : List Symbol → Outcome Side
side_at (symbol.Keyword at keywords.Struct ∷ rest) = field_at at rest >>= λ t. Ok (side.Target t.0, t.1)
side_at symbols = name_at symbols >>= λ n. named_behind n.0 n.1

unfoldable pub struct_name_at : List Symbol → Outcome StructName
struct_name_at (symbol.Keyword at keywords.Struct ∷ rest) = name_at rest >>= λ s. Ok (record { at = at; name = s.0 }, s.1)
struct_name_at [] = unexpected []
struct_name_at (other ∷ rest) = unexpected (other ∷ rest)

-- ---- rules

-- a rule behind its left side
unfoldable pub moved_behind : ℕ → Side → List Symbol → Outcome Rule
moved_behind n left symbols = behind signs.Arrow symbols >>= λ inner. side_at inner >>= λ right. ending_at n right.1
    >>= λ c. Ok (Moved left right.0 c.0, c.1)

-- two structs behind the arrow
unfoldable pub paired_behind : StructName → List Symbol → Outcome Rule
paired_behind s symbols = struct_name_at symbols >>= λ t. behind signs.Semicolon t.1 >>= λ rest. Ok (StructsPaired s t.0, rest)

-- a rule of structs or of a field, behind the struct
unfoldable pub struct_behind : ℕ → StructName → List Symbol → Outcome Rule
struct_behind n s symbols =
    if begins_sign signs.Arrow symbols then paired_behind s (drop 1 symbols)
    else (field_behind s symbols >>= λ f. moved_behind n (side.Target f.0) f.1)

-- a rule behind `INIT`
unfoldable pub started_behind : ℕ → List Symbol → Outcome Rule
started_behind n symbols = target_at symbols >>= λ t. ending_at n t.1 >>= λ c. Ok (Started t.0 c.0, c.1)

unfoldable pub rule_at : ℕ → List Symbol → Outcome Rule
rule_at n (symbol.Keyword at keywords.Struct ∷ rest) = name_at rest >>= λ s. struct_behind n (record { at = at; name = s.0 }) s.1
rule_at n (symbol.Keyword at keywords.Init ∷ rest) = started_behind n rest
rule_at n symbols = name_at symbols >>= λ x. named_behind x.0 x.1 >>= λ left. moved_behind n left.0 left.1

-- the rules of a file
unfoldable pub rules_at : ℕ → List Symbol → Outcome (List Rule)
rules_at n symbols = until_at is_end (rule_at n) (length symbols) [] symbols
