-- The views of pointers, by an environment.
use Rattle.std.specs.Prelude.{◌≡◌, ℕ, ◌≤◌, List, Option, Some, None}
use Rattle.kt_grammar.specs.declared.tree.Base.{Base}
use Rattle.kt_syntax.specs.declared.tree.Constant.{Constant}
use Rattle.kt_syntax.specs.declared.tree.Constant.TheVariants as written
use Rattle.kt_syntax.specs.declared.tree.Extent.{Extent}
use Rattle.kt_syntax.specs.declared.tree.Extent.TheVariants as extent
use Rattle.kt_types.specs.declared.kinds.View.{View}
use Rattle.kt_types.specs.declared.kinds.View.TheVariants as view
use Rattle.kt_tree.specs.declared.expr.Constant.TheVariants as constant
use Rattle.kt_tree.specs.Tree.{Expression, Constant'}
use Rattle.kt_typing.specs.Environment.{Environment, Meaning, Stands}
use Rattle.kt_program.specs.Outside.{Whole, outer_meaning}
use Rattle.kt_program.specs.Strings.{literal_number}
use Rattle.kt_program.specs.Views.{plain_view}

abbrev pub number_in : Expression → ℕ
number_in (Constant' (constant.Global k) t) = k
number_in _ = 0

-- the number of the global that a name stands for
abbrev pub global_number : Meaning → ℕ
global_number (Stands what t e) = number_in e
global_number _ = 0

-- the view of a pointer outside structs
abbrev pub view_in : Environment → Base → ℕ → Option Extent → View
view_in env b stars None = plain_view b stars
view_in env b stars (Some (extent.Name n)) = view.Global (global_number (env.name n.word))
view_in env b stars (Some (extent.Number at n)) = view.Count n.value

-- the number of a constant is one of `long`
abbrev pub FitsLong : Option Constant → Type 0
FitsLong (Some (written.Number n)) = n.value ≤ 9223372036854775807
FitsLong (Some (written.Negative n)) = n.value ≤ 9223372036854775808
FitsLong _ = Unit {0}

-- the environment tells the globals of the whole, and the numbers of its literals
pub record Tells (env : Environment) (w : Whole) : Type 0 where
  pub globals : (n : List ℕ) → env.name n ≡ outer_meaning w 0 w.globals n
  pub literals : (at : ℕ) → env.literal at ≡ literal_number w.literals at
