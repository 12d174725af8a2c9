-- A job: the versions of a program, the rule plans of the updates between them, when updates are asked for, how many turns a run may
-- take, and the input.
use Rattle.std.specs.Prelude.{ℕ, suc, List, Option, None, Some, slice_get}
use Rattle.kt_types.specs.Table.{Table, scalar_table}
use Rattle.kt_tree.specs.Version.{Program}
use Rattle.xf_plan.specs.Plan.{Plan}

pub record Job : Type 0 where
  pub versions : List Program
  -- the plan of that number leads from the version of that number to the next
  pub plans : List Plan
  -- the turns after which the requests are made, one after another
  pub after : List ℕ
  pub budget : ℕ
  pub input : List ℕ

-- the version of that number, counted from 0
abbrev pub version_at : Job → ℕ → Option Program
version_at job v = slice_get job.versions v

abbrev pub types_of : Option Program → Table
types_of None = scalar_table
types_of (Some p) = p.types

-- the types of the version of that number
abbrev pub types_at : Job → ℕ → Table
types_at job v = types_of (version_at job v)

-- ---- the next update

-- the version in force, the next one, and the plan that leads to it
pub record Passage : Type 0 where
  pub old : Program
  pub new : Program
  pub plan : Plan

abbrev pub passage_of : Option Program → Option Program → Option Plan → Option Passage
passage_of (Some old) (Some new) (Some plan) = Some (record { old = old; new = new; plan = plan })
passage_of _ _ _ = None

-- the update from the version of that number, where there is a next one
abbrev pub passage_at : Job → ℕ → Option Passage
passage_at job v = passage_of (version_at job v) (version_at job (suc v)) (slice_get job.plans v)
