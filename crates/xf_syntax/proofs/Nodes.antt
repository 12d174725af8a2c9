-- What an act is as plain data, made of its parts.
use Rattle.std.proofs.Common.{◌≡◌, List, map, refl, ap, ◌∙◌}
use denote.Hole.Carrier.{hidden}
use mathlib.Core.Former.{Count}
use Rattle.kt_grammar.specs.declared.tree.Expr.{Expr}
use Rattle.kt_grammar.specs.Tree.{term_of}
use Rattle.xf_syntax.specs.declared.tree.Act.TheBlock.{hidden-the_row-Act-1}
use Rattle.xf_syntax.specs.declared.tree.Act.{Act, Block, Block', Row_of-Act, end_of-Act, more_of-Act, items-the_row-Act, items_hidden-the_row-Act-0}
use Rattle.xf_syntax.specs.declared.tree.Act.TheVariants as act
use Rattle.xf_syntax.specs.Tree.{Compound, Conditional, Alternative, More, action_of, actions_of, actions_of_row}

pub conditional-is : (c : Expr) (s : Act) → action_of (act.If c s) ≡ Conditional (term_of c) (action_of s)
unfolding hidden-the_row-Act-1 hidden
conditional-is c s = refl

pub alternative-is : (c : Expr) (s t : Act) → action_of (act.IfElse c s t) ≡ Alternative (term_of c) (action_of s) (action_of t)
unfolding hidden-the_row-Act-1 hidden
alternative-is c s t = refl

abbrev row_of : Act → (n : Count) × Row_of-Act n
row_of (Block' _ row) = (_, row)
row_of _ = (_, end_of-Act)

of_row : (n : _) (row : Row_of-Act n) → actions_of_row row ≡ actions_of (map action_of (items-the_row-Act n row))
of_row n end_of-Act = refl
of_row n (more_of-Act s rest) = ap (More (action_of s)) (of_row _ rest)

pub compound-is : (acts : List Act) → action_of (Block acts) ≡ Compound (actions_of (map action_of acts))
compound-is acts =
    let row = row_of (Block acts) in
    ap Compound (of_row row.0 row.1 ∙ ap (λ (xs : List Act). actions_of (map action_of xs)) (items_hidden-the_row-Act-0 acts))

pub ruleset nodes = (conditional-is, alternative-is, compound-is)
