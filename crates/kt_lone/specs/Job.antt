-- A job: the versions of a program, when updates are asked for, how many turns a run may take, and the input.
use Rattle.std.specs.Prelude.{ℕ, List, Option, None, Some, slice_get}
use Rattle.kt_types.specs.Table.{Table, scalar_table}
use Rattle.kt_tree.specs.Version.{Program}

pub record Job : Type 0 where
  pub versions : List Program
  -- the turns after which the requests are made, one after another
  pub after : List ℕ
  pub budget : ℕ
  pub input : List ℕ

-- the version of that number, counted from 0
abbrev pub version_at : Job → ℕ → Option Program
version_at job v = slice_get job.versions v

abbrev pub types_of : Option Program → Table
types_of None = scalar_table
types_of (Some p) = p.types

-- the types of the version of that number
abbrev pub types_at : Job → ℕ → Table
types_at job v = types_of (version_at job v)
