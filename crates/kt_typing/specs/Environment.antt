-- What an expression is typed in: a table of types, what names and the words of rule code stand for, and what is told of a struct
-- that has no definition. C files and rule code differ here alone.
use Rattle.std.specs.Prelude.{ℕ, zero, suc, List, Option, option_and_then, Some}
use Rattle.kt_grammar.specs.declared.keyword.RuleWord.{RuleWord}
use Rattle.kt_grammar.specs.declared.tree.Base.{Base}
use Rattle.kt_grammar.specs.declared.tree.Base.TheVariants as base
use Rattle.kt_grammar.specs.declared.tree.TypeName.{TypeName}
use Rattle.kt_tree.specs.Tree.{Expression}
use Rattle.kt_tree.specs.Kinds.{Scope, char_type, int_type, long_type, mutex_type}
use Rattle.kt_typing.specs.declared.fault.Fault.{Fault}
use Rattle.kt_typing.specs.declared.standing.Standing.{Standing}

-- what a name or a word stands for
pub data Meaning : Type 0 where
  Missing : Meaning
  -- something that may not stand by itself
  Barred : Meaning
  -- a value or a place, its type, and its tree
  Stands : Standing → ℕ → Expression → Meaning
  -- the defined function of a number
  Routine : ℕ → Meaning

pub record Environment : Type 0 where
  -- what the typed tree may name, with the table of types
  pub scope : Scope
  -- the type `char *`
  pub text : ℕ
  -- the type of pointers to a type
  pub pointer : ℕ → Option ℕ
  -- the type of the struct of a name
  pub struct : List ℕ → Option ℕ
  pub name : List ℕ → Meaning
  -- `$in`, `$out` and `$base`
  pub word : RuleWord → Meaning
  -- `$oldsym(g)`
  pub old_symbol : List ℕ → Meaning
  -- the number of the literal at a place of the file
  pub literal : ℕ → ℕ
  -- the number of a name among the names of points
  pub point : List ℕ → ℕ
  -- what is wrong where an expression that begins at a place needs the cells of a struct without a definition
  pub without_cells : ℕ → Fault
  -- and where such an expression names a field at the second place
  pub without_fields : ℕ → ℕ → Fault

-- the type of a base
abbrev pub base_type : Environment → Base → Option ℕ
base_type env base.Char = Some char_type
base_type env base.Int = Some int_type
base_type env base.Long = Some long_type
base_type env base.Mutex = Some mutex_type
base_type env (base.Struct n) = env.struct n.word

-- the type with so many stars
abbrev pub starred : Environment → ℕ → Option ℕ → Option ℕ
starred env zero t = t
starred env (suc n) t = option_and_then env.pointer (starred env n t)

abbrev pub type_named : Environment → TypeName → Option ℕ
type_named env t = starred env t.stars (base_type env t.base)
