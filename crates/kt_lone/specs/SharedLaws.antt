-- What marks, requests, ends and the count of turns leave as it is.
use Rattle.std.specs.Prelude.{◌≡◌, ℕ, ◌+◌, ◌==◌, nat_le, List, [], ◌∷◌, Option, Some, None, is_some, Bool, true, false, ◌&&◌, if◌then◌else◌, refl}
use Rattle.kt_lone.specs.declared.mark.End.{End}
use Rattle.kt_lone.specs.declared.mark.Phase.{Phase}
use Rattle.kt_lone.specs.declared.mark.Phase.TheVariants.{Run, Asked, Main, Others}
use Rattle.kt_lone.specs.Job.{Job, version_at}
use Rattle.kt_lone.specs.World.{Shared, outside_of}
use Rattle.kt_lone.specs.Turn.{with_mark, request, asked, spent}

-- the version in force, the kept values, memory, input and output
pub record KeepsOutside (s r : Shared) : Type 0 where
  pub version : r.version ≡ s.version
  pub kept : r.kept ≡ s.kept
  pub outside : outside_of r ≡ outside_of s

if-keeps : (b : Bool) (s r : Shared) → KeepsOutside s r → KeepsOutside s (if b then r else s)
if-keeps true s r h = h
if-keeps false s r h = record { version = refl; kept = refl; outside = refl }

pub with_mark-keeps : (o : Option End) (s : Shared) → KeepsOutside s (with_mark o s)
with_mark-keeps None s = record { version = refl; kept = refl; outside = refl }
with_mark-keeps (Some how) s = record { version = refl; kept = refl; outside = refl }

request-keeps : (job : Job) (after : List ℕ) (s : Shared) → KeepsOutside s (request job after s)
request-keeps job [] s = record { version = refl; kept = refl; outside = refl }
request-keeps job (n ∷ after) s =
    if-keeps (is_some (version_at job (s.version + 1)) && nat_le n s.turns) s _ (record { version = refl; kept = refl; outside = refl })

pub asked-keeps : (job : Job) (phase : Phase) (s : Shared) → KeepsOutside s (asked job phase s)
asked-keeps job Run s = request-keeps job s.after s
asked-keeps job Asked s = record { version = refl; kept = refl; outside = refl }
asked-keeps job Main s = record { version = refl; kept = refl; outside = refl }
asked-keeps job Others s = record { version = refl; kept = refl; outside = refl }

pub spent-keeps : (job : Job) (s : Shared) → KeepsOutside s (spent job s)
spent-keeps job s = if-keeps (s.turns == job.budget) s _ (record { version = refl; kept = refl; outside = refl })
