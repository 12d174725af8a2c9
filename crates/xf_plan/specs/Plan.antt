-- Rule plans: for two versions of a program, which structs correspond, and from where each field of such a struct, each global
-- and each noted local of the new one has its value (as xfgen relates old names to new ones: Kitsune, OOPSLA 2012, section 3).
use Rattle.std.specs.Prelude.{ℕ, ◌==◌, ◌&&◌, Bool, List, Option, filter}
use Rattle.std.specs.List.{list_any}
use Rattle.kt_types.specs.declared.kinds.View.{View}
use Rattle.kt_types.specs.Table.{Table}
use Rattle.kt_tree.specs.declared.global.Init.{Init}
use Rattle.xf_plan.specs.Bodies.{Actions}

-- ---- fields

pub data FieldSource : Type 0 where
  -- the old field of that number, by the default conversion
  OldField : ℕ → FieldSource
  -- zero, null or free
  ZeroField : FieldSource
  -- what a body gives, where `$in` is the old field of that number, if any
  FieldBody : Option ℕ → Actions → FieldSource

-- a field of a new struct that corresponds to an old one: the struct's number, the field's type and view
pub record FieldRule : Type 0 where
  pub struct : ℕ
  pub ty : ℕ
  pub view : View
  pub source : FieldSource

-- ---- globals

pub data GlobalSource : Type 0 where
  -- the global has its initial value
  Unmapped : GlobalSource
  -- the old global of that number, whose element type and count these are, by the default conversion
  OldGlobal : ℕ → ℕ → ℕ → GlobalSource
  -- what a body gives, where `$in` is the old global of that number, if any
  GlobalBody : Option ℕ → Actions → GlobalSource

-- a global of the new version
pub record GlobalRule : Type 0 where
  pub ty : ℕ
  pub count : ℕ
  pub view : View
  pub init : Init
  pub source : GlobalSource

-- ---- noted locals

-- the old function and local from which a local has its value, and the body by which it has it, if any
pub record LocalSource : Type 0 where
  pub function : ℕ
  pub local : ℕ
  pub body : Option Actions

-- a noted local of the new version; without a source it isn't kept
pub record LocalRule : Type 0 where
  pub function : ℕ
  pub local : ℕ
  pub ty : ℕ
  pub view : View
  pub source : Option LocalSource

-- ---- the whole

pub record Plan : Type 0 where
  -- the types of the old version and of the new one
  pub old : Table
  pub new : Table
  -- the old struct and the new one that correspond
  pub structs : List (ℕ × ℕ)
  -- one for each global of the new version
  pub globals : List GlobalRule
  -- one for each field of a new struct that corresponds to an old one, in the order of the declarations
  pub fields : List FieldRule
  -- one for each noted local of the new version
  pub locals : List LocalRule

abbrev pub is_pair : List (ℕ × ℕ) → ℕ → ℕ → Bool
is_pair pairs s r = list_any (λ p. (p.0 == s) && (p.1 == r)) pairs

-- the rules of the fields of a new struct
abbrev pub rules_of : Plan → ℕ → List FieldRule
rules_of p r = filter (λ f. f.struct == r) p.fields
