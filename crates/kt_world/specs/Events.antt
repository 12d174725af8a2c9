-- What is tried after an act, in this order: the end of the run, `main` at its point, all threads back, the closing, the next
-- request, nobody left to turn, the budget. After an end nothing more is tried.
use Rattle.std.specs.Prelude.{ℕ, suc, nat_le, ◌==◌, ◌&&◌, ◌||◌, not, Bool, true, false, List, [], ◌∷◌, filter, length, map, Option, None, Some, is_none, is_some, if◌then◌else◌}
use Rattle.std.specs.List.{list_all}
use Rattle.kt_mem.specs.declared.thread.Mode.{Mode}
use Rattle.kt_mem.specs.declared.thread.Mode.TheVariants.{Normal, Updating}
use Rattle.kt_phase.specs.declared.counters.Phase.{Phase}
use Rattle.kt_phase.specs.declared.counters.Phase.TheVariants.{Run, Asked, Main, Others}
use Rattle.kt_world.specs.declared.mark.End.{End}
use Rattle.kt_world.specs.declared.mark.End.TheVariants as end
use Rattle.kt_world.specs.declared.mark.Mark.TheVariants as mark
use Rattle.kt_world.specs.Acts.{awake}
use Rattle.kt_world.specs.Job.{Job, passage_at}
use Rattle.kt_world.specs.Update.{closing}
use Rattle.kt_world.specs.Waiting.{any_enabled}
use Rattle.kt_world.specs.World.{Engine, Standing, Live, Waiter, Parked, Ended, Shared, Thread, World, lives, is_parked, marked}

-- unless the run has ended
abbrev pub ongoing : {X : Type 0} → (World X → World X) → World X → World X
ongoing f w = if is_none w.shared.ended then f w else w

abbrev pub on_shared : {X : Type 0} → (Shared → Shared) → World X → World X
on_shared f w = record w { shared = f w.shared }

-- ---- the end of the run

abbrev pub with_mark : Option End → Shared → Shared
with_mark None s = s
with_mark (Some how) s = marked (mark.End s.turns how) s

-- an end is marked
abbrev pub end_marked : {X : Type 0} → World X → World X
end_marked w = on_shared (λ s. with_mark s.ended s) w

-- the run ends so, which is marked
abbrev pub ended_as : End → Shared → Shared
ended_as how s = marked (mark.End s.turns how) (record s { ended = Some how })

-- ---- on the way after an update

abbrev pub is_normal : Mode → Bool
is_normal Normal = true
is_normal (Updating p) = false

-- `main` is on its way nowhere
abbrev pub main_is_normal : {X : Type 0} → Engine X → List (Thread X) → Bool
main_is_normal e [] = false
main_is_normal e (th ∷ rest) = is_normal (e.mode th.state)

-- `main` has come to its point
abbrev pub main_there : {X : Type 0} → Engine X → Phase → World X → World X
main_there e Main w =
    if main_is_normal e w.threads then on_shared (λ s. marked (mark.MainThere s.turns s.requests) (record s { phase = Others })) w else w
main_there e _ w = w

-- no live thread is on its way
abbrev pub all_normal : {X : Type 0} → Engine X → List (Thread X) → Bool
all_normal e threads = list_all (λ th. not (lives th.standing) || is_normal (e.mode th.state)) threads

-- all threads have come to their points
abbrev pub all_back : {X : Type 0} → Engine X → Phase → World X → World X
all_back e Others w =
    if all_normal e w.threads then on_shared (λ s. marked (mark.Back s.turns s.requests) (record s { phase = Run })) w else w
all_back e _ w = w

-- ---- the closing

abbrev pub all_parked : {X : Type 0} → List (Thread X) → Bool
all_parked threads = list_all (λ th. not (lives th.standing) || is_parked th.standing) threads

-- all live threads are parked
abbrev pub closed_up : {X : Type 0} → Engine X → Job → Phase → World X → World X
closed_up e job Asked w = if all_parked w.threads then closing e (passage_at job w.shared.version) w else w
closed_up e job _ w = w

-- ---- the next request

abbrev pub is_waiter : Standing → Bool
is_waiter Live = false
is_waiter (Waiter n k) = true
is_waiter Parked = false
is_waiter Ended = false

abbrev pub waiters : {X : Type 0} → List (Thread X) → ℕ
waiters threads = length (filter (λ th. is_waiter th.standing) threads)

-- all waiters wake
abbrev pub all_awake : {X : Type 0} → List (Thread X) → List (Thread X)
all_awake threads = map (λ th. if is_waiter th.standing then awake th else th) threads

abbrev pub requested : {X : Type 0} → List ℕ → World X → World X
requested after w =
    let s = w.shared in
    record {
      shared = marked (mark.Ask s.turns (suc s.requests) (waiters w.threads)) (record s { phase = Asked; after = after; requests = suc s.requests });
      threads = all_awake w.threads;
    }

abbrev pub request : {X : Type 0} → Job → List ℕ → World X → World X
request job [] w = w
request job (n ∷ after) w = if is_some (passage_at job w.shared.version) && nat_le n w.shared.turns then requested after w else w

-- the next request is made where there is a next version and enough turns were made
abbrev pub asked : {X : Type 0} → Job → Phase → World X → World X
asked job Run w = request job w.shared.after w
asked job _ w = w

-- ---- nobody left, and the budget

abbrev pub stuck : {X : Type 0} → Engine X → World X → World X
stuck e w = if any_enabled e w 0 w.threads then w else on_shared (ended_as end.Stuck) w

abbrev pub spent : Job → Shared → Shared
spent job s = if s.turns == job.budget then ended_as end.Budget s else s

-- ---- all of them

-- those that are tried before the first turn too
abbrev pub before_turn : {X : Type 0} → Engine X → Job → World X → World X
before_turn e job w = ongoing (on_shared (spent job)) (ongoing (stuck e) (ongoing (λ u. asked job u.shared.phase u) w))

abbrev pub after_act : {X : Type 0} → Engine X → Job → World X → World X
after_act e job w =
    before_turn e job
    (ongoing (λ u. closed_up e job u.shared.phase u)
    (ongoing (λ u. all_back e u.shared.phase u)
    (ongoing (λ u. main_there e u.shared.phase u) (end_marked w))))
