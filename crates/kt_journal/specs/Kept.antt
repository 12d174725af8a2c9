-- Numbers of marks, as the code keeps them: those of a thread, a request, a cell or a heap object have at most 64 bits, and what `main`
-- returned is in the range of `int`. It is for the contract of a function that looks at marks.
use Rattle.std.specs.Prelude.{ℕ, ◌<◌, ◌^◌, pos, negsuc}
use Rattle.xf_plan.specs.declared.place.Place.{Place}
use Rattle.xf_plan.specs.declared.place.Place.TheVariants as place
use Rattle.kt_world.specs.declared.mark.Closed.{Closed}
use Rattle.kt_world.specs.declared.mark.Closed.TheVariants as closed
use Rattle.kt_world.specs.declared.mark.End.{End}
use Rattle.kt_world.specs.declared.mark.End.TheVariants as end
use Rattle.kt_world.specs.declared.mark.Mark.{Mark}
use Rattle.kt_world.specs.declared.mark.Mark.TheVariants as mark

abbrev pub IsWord : ℕ → Type 0
IsWord n = n < 2 ^ 64

abbrev pub IsPlaceKept : Place → Type 0
IsPlaceKept (place.GlobalCell g cell) = IsWord cell
IsPlaceKept (place.HeapCell number cell) = IsWord number × IsWord cell
IsPlaceKept p = Unit {0}

abbrev pub IsClosingKept : Closed → Type 0
IsClosingKept (closed.Ok images) = IsWord images
IsClosingKept (closed.At fault) = IsPlaceKept fault.place
IsClosingKept c = Unit {0}

abbrev pub IsEndKept : End → Type 0
IsEndKept (end.Main (pos n)) = n < 2 ^ 31
IsEndKept (end.Main (negsuc n)) = n < 2 ^ 31
IsEndKept how = Unit {0}

abbrev pub IsKept : Mark → Type 0
IsKept (mark.Ask turn k woken) = IsWord k
IsKept (mark.Close turn k c) = IsWord k × IsClosingKept c
IsKept (mark.MainThere turn k) = IsWord k
IsKept (mark.Back turn k) = IsWord k
IsKept (mark.End turn how) = IsEndKept how
