-- What is typed has the type that the judgment of typed trees gives it.
use Rattle.std.specs.Prelude.{◌≡◌, ℕ, true, false, List, slice_get, Some}
use Rattle.kt_grammar.specs.declared.keyword.RuleWord.{RuleWord}
use Rattle.kt_tree.specs.Tree.{Expression, LocalRead}
use Rattle.kt_tree.specs.Kinds.{Scope, pointee, is_integer, is_pointer, is_scalar, int_type}
use Rattle.kt_tree.specs.Typed.{kind, NoValue, Of}
use Rattle.kt_typing.specs.declared.standing.Standing.{Standing}
use Rattle.kt_typing.specs.declared.standing.Standing.TheVariants as standing
use Rattle.kt_typing.specs.Environment.{Environment, Meaning, Stands}
use Rattle.kt_typing.specs.Operands.{Operand}
use Rattle.kt_typing.specs.Rules.{null_tree}

-- the tree gives a value of the type
abbrev pub HasType : Scope → ℕ → Expression → Type 0
HasType s t e = kind s e ≡ Some (Of t)

-- as null of any pointer type the tree has that type
abbrev pub IsNullTree : Scope → Expression → Type 0
IsNullTree s e = (t : ℕ) → is_pointer s t ≡ true → HasType s t (null_tree t e)

abbrev pub IsSoundAs : Scope → Standing → ℕ → Expression → Type 0
IsSoundAs s standing.Value t e = HasType s t e
IsSoundAs s standing.Zero t e = HasType s t e × IsNullTree s e
IsSoundAs s standing.Null t e = HasType s t e × IsNullTree s e
IsSoundAs s (standing.Local x) t e = (e ≡ LocalRead x) × (slice_get s.locals x ≡ Some t)
IsSoundAs s standing.Cell t e = HasType s t e × ((c : ℕ) → pointee s t ≡ Some c → is_scalar s c ≡ true)
IsSoundAs s standing.Whole t e = HasType s t e
IsSoundAs s standing.Elements t e = HasType s t e
IsSoundAs s (standing.Size at) t e = HasType s int_type e
IsSoundAs s (standing.Product c) t e = is_integer s t ≡ true → HasType s t e
IsSoundAs s standing.Nothing t e = kind s e ≡ Some NoValue
IsSoundAs s (standing.Entry f) t e = Unit {0}

abbrev pub IsSound : Scope → Operand → Type 0
IsSound s x = IsSoundAs s x.standing x.ty x.tree

abbrev pub IsSoundMeaning : Scope → Meaning → Type 0
IsSoundMeaning s (Stands what t e) = IsSoundAs s what t e
IsSoundMeaning s _ = Unit {0}

-- what names and words stand for is sound
pub record IsRight (env : Environment) : Type 0 where
  pub names : (name : List ℕ) → IsSoundMeaning env.scope (env.name name)
  pub words : (w : RuleWord) → IsSoundMeaning env.scope (env.word w)
  pub symbols : (name : List ℕ) → IsSoundMeaning env.scope (env.old_symbol name)
  -- `char *` is a pointer, and the mutex no integer
  pub text : is_pointer env.scope env.text ≡ true
  pub mutex : is_integer env.scope 3 ≡ false
