-- What an expression is to the one around it, and the value that it has (ISO/IEC 9899:2011, 6.3.2).
use Rattle.std.specs.Prelude.{ℕ, List, [], ◌∷◌, Option, Some, None, map}
use Rattle.std.specs.Option.{option_map}
use Rattle.kt_tree.specs.declared.expr.Request.TheVariants as request
use Rattle.kt_tree.specs.Tree.{Expression, Requested, Expressions, NoMore, More}
use Rattle.kt_tree.specs.Kinds.{Scope, pointee, mutex_type}
use Rattle.kt_typing.specs.declared.standing.Standing.{Standing}
use Rattle.kt_typing.specs.declared.standing.Standing.TheVariants as standing

-- where it begins inside any parentheses, what it is, a type, and a tree: of a value its own; of a place those of a pointer to it
-- (a local's are those of its value); of a product those of its count
pub record Operand : Type 0 where
  pub at : ℕ
  pub standing : Standing
  pub ty : ℕ
  pub tree : Expression

-- a value: its type and its tree
pub record Value : Type 0 where
  pub ty : ℕ
  pub tree : Expression

abbrev pub operand : ℕ → Standing → ℕ → Expression → Operand
operand at what t e = record { at = at; standing = what; ty = t; tree = e }

abbrev pub of_type : ℕ → Expression → Value
of_type t e = record { ty = t; tree = e }

abbrev pub valued : ℕ → ℕ → Expression → Operand
valued at t e = operand at standing.Value t e

-- a call without a result (nothing has a value of the mutex's type)
abbrev pub nothing : ℕ → Expression → Operand
nothing at e = operand at standing.Nothing mutex_type e

abbrev pub loaded : ℕ → Expression → Value
loaded t p = of_type t (Requested request.Load (Some t) (More p NoMore))

-- what something of this standing, type and tree is as a value
abbrev pub value_of : Scope → Standing → ℕ → Expression → Option Value
value_of s standing.Value t e = Some (of_type t e)
value_of s standing.Zero t e = Some (of_type t e)
value_of s (standing.Local x) t e = Some (of_type t e)
value_of s standing.Cell t e = option_map (λ c. loaded c e) (pointee s t)
value_of s standing.Null t e = None
value_of s standing.Whole t e = None
value_of s standing.Elements t e = None
value_of s (standing.Size at) t e = None
value_of s (standing.Product c) t e = None
value_of s standing.Nothing t e = None
value_of s (standing.Entry f) t e = None

-- the value of an operand, where it has one without help: null has none
abbrev pub value : Scope → Operand → Option Value
value s x = value_of s x.standing x.ty x.tree

-- the value of an operand, null being a pointer to `char`
abbrev pub scalar_of : Scope → Standing → ℕ → Expression → Option Value
scalar_of s standing.Null t e = Some (of_type t e)
scalar_of s what t e = value_of s what t e

abbrev pub scalar : Scope → Operand → Option Value
scalar s x = scalar_of s x.standing x.ty x.tree

abbrev pub types_of : List Value → List ℕ
types_of vs = map (λ v. v.ty) vs

abbrev pub trees_of : List Value → Expressions
trees_of [] = NoMore
trees_of (v ∷ vs) = More v.tree (trees_of vs)
