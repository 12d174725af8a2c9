-- What marks tell of a job: its threads, and places of the version that a closing was to bring.
use Rattle.std.specs.Prelude.{◌≡◌, ◌≤◌, ◌<◌, ℕ, suc, Bool, true, false, List, [], ◌∷◌, length, Option, None, Some, slice_get, if◌then◌else◌}
use Rattle.std.specs.List.{AllByRecursion}
use Rattle.kt_tree.specs.Tree.{Function}
use Rattle.kt_tree.specs.Version.{Program}
use Rattle.xf_plan.specs.Plan.{LocalRule, Plan}
use Rattle.xf_plan.specs.declared.place.Place.{Place}
use Rattle.xf_plan.specs.declared.place.Place.TheVariants.{GlobalCell, Argument, Local, HeapCell}
use Rattle.kt_world.specs.declared.mark.Closed.{Closed}
use Rattle.kt_world.specs.declared.mark.Closed.TheVariants as closed
use Rattle.kt_world.specs.declared.mark.End.{End}
use Rattle.kt_world.specs.declared.mark.End.TheVariants as end
use Rattle.kt_world.specs.declared.mark.Mark.{Mark}
use Rattle.kt_world.specs.declared.mark.Mark.TheVariants as mark
use Rattle.kt_world.specs.Job.{Job, version_at}

-- the number of one of the 65 threads that there may be
abbrev pub IsThread : ℕ → Type 0
IsThread t = t ≤ 64

-- ---- plans

-- the program has a function of that number, with a local of that number
pub record HasLocal (p : Program) (f x : ℕ) : Type 0 where
  pub function : Function
  pub is : slice_get p.functions f ≡ Some function
  pub within : x < length function.locals

-- the plan has a rule for each global of this program, and others for locals of it
pub record LeadsTo (p : Program) (plan : Plan) : Type 0 where
  pub globals : length plan.globals ≡ length p.globals
  pub locals : AllByRecursion (λ (r : LocalRule). HasLocal p r.function r.local) plan.locals

-- each plan of a job leads to the version behind it
abbrev pub PlansLeadOn : Job → Type 0
PlansLeadOn job =
    (v : ℕ) (p : Program) (plan : Plan) → version_at job (suc v) ≡ Some p → slice_get job.plans v ≡ Some plan → LeadsTo p plan

-- ---- versions

-- an update was made
abbrev pub is_update : Mark → Bool
is_update (mark.Close turn k (closed.Ok images)) = true
is_update m = false

-- the number of the version in force behind a mark, where this one was before it
abbrev pub version_after : Mark → ℕ → ℕ
version_after m v = if is_update m then suc v else v

-- ---- marks

-- the place is one of this program
abbrev pub IsPlaceIn : Program → Place → Type 0
IsPlaceIn p (GlobalCell g cell) = g < length p.globals
IsPlaceIn p (Argument t) = IsThread t
IsPlaceIn p (Local t f x) = IsThread t × HasLocal p f x
IsPlaceIn p (HeapCell number cell) = Unit {0}

abbrev pub IsPlaceOf : Option Program → Place → Type 0
IsPlaceOf None place = ⊥
IsPlaceOf (Some p) place = IsPlaceIn p place

-- the closing that was to bring this version is told by threads and places that there are
abbrev pub TellsClosing : Option Program → Closed → Type 0
TellsClosing new (closed.Point t) = IsThread t
TellsClosing new (closed.Entry t) = IsThread t
TellsClosing new (closed.At fault) = IsPlaceOf new fault.place
TellsClosing new c = Unit {0}

abbrev pub TellsEnd : End → Type 0
TellsEnd (end.Trap t cause) = IsThread t
TellsEnd how = Unit {0}

-- the same of a mark, where the next update is one to this version; a request wakes at most as many threads as there may be
abbrev pub TellsOf : Option Program → Mark → Type 0
TellsOf new (mark.Ask turn k woken) = woken ≤ 65
TellsOf new (mark.Close turn k c) = TellsClosing new c
TellsOf new (mark.End turn how) = TellsEnd how
TellsOf new m = Unit {0}

-- the same of marks, before which this version was in force
abbrev pub TellOf : Job → ℕ → List Mark → Type 0
TellOf job v [] = Unit {0}
TellOf job v (m ∷ marks) = TellsOf (version_at job (suc v)) m × TellOf job (version_after m v) marks
