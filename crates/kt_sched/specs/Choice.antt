-- Which thread takes the next turn, by a schedule and the enabled threads, whose numbers stand in rising order.
use Rattle.std.specs.Prelude.{ℕ, ◌+◌, ◌-◌, ◌*◌, ◌/◌, ◌%◌, ◌^◌, ◌==◌, ◌&&◌, ◌++◌, Bool, List, filter, length, min, nat_lt, nat_le, Option, Some, None, slice_get, slice_index, if◌then◌else◌}
use Rattle.std.specs.List.{list_any}
use Rattle.kt_sched.specs.declared.choice.Schedule.{Schedule}
use Rattle.kt_sched.specs.declared.choice.Schedule.TheVariants.{RoundRobin, Mixed, Listed}

-- the thread is one of these
abbrev pub is_among : ℕ → List ℕ → Bool
is_among t threads = list_any (λ u. u == t) threads

-- the first of some threads
abbrev pub first_of : List ℕ → ℕ
first_of threads = slice_index threads 0

-- ---- round robin

-- the threads in the order of a search that starts behind thread c, goes on to the last one, and then from 0 to c
abbrev pub search_order : ℕ → List ℕ → List ℕ
search_order c threads = filter (λ t. nat_lt c t) threads ++ filter (λ t. nat_le t c) threads

-- how many steps such a search takes from thread c to thread t, where there are 65 threads
abbrev pub steps_to : ℕ → ℕ → ℕ
steps_to c t = if nat_lt c t then t - c else 65 - c + t

-- thread c, which took the last turns, so many of them, takes the next one too
abbrev pub goes_on : ℕ → ℕ → ℕ → List ℕ → Bool
goes_on quantum c used threads = nat_lt used quantum && is_among c threads

abbrev pub in_turn : ℕ → ℕ → ℕ → List ℕ → ℕ
in_turn quantum c used threads = if goes_on quantum c used threads then c else first_of (search_order c threads)

-- how many turns in a row that thread has then taken
abbrev pub used_after : ℕ → ℕ → ℕ → List ℕ → ℕ
used_after quantum c used threads = if goes_on quantum c used threads then used + 1 else 1

-- ---- the mixed schedule

-- the next number of a linear congruential sequence of 64 bits
abbrev pub mixed : ℕ → ℕ
mixed x = (x * 6364136223846793005 + 1442695040888963407) % 2 ^ 64

-- the thread that the number picks, by its upper bits
abbrev pub of_mixed : ℕ → List ℕ → ℕ
of_mixed x threads = slice_index threads ((x / 2 ^ 33) % length threads)

-- ---- listed turns

-- a wanted thread, where it is one of these; else the first of these
abbrev pub wanted_or_first : Option ℕ → List ℕ → ℕ
wanted_or_first None threads = first_of threads
wanted_or_first (Some t) threads = if is_among t threads then t else first_of threads

-- the thread of the turn before which so many were made
abbrev pub listed : List ℕ → ℕ → List ℕ → ℕ
listed turns made threads = wanted_or_first (slice_get turns made) threads

-- one more, up to the last value of 32 bits
abbrev pub one_more : ℕ → ℕ
one_more n = min (n + 1) (2 ^ 32 - 1)

-- ---- any schedule

-- the thread of the next turn
abbrev pub choice : Schedule → List ℕ → ℕ
choice (RoundRobin quantum c used) threads = in_turn quantum c used threads
choice (Mixed x) threads = of_mixed (mixed x) threads
choice (Listed turns made) threads = listed turns made threads

-- the schedule behind that choice
abbrev pub after : Schedule → List ℕ → Schedule
after (RoundRobin quantum c used) threads = RoundRobin quantum (in_turn quantum c used threads) (used_after quantum c used threads)
after (Mixed x) threads = Mixed (mixed x)
after (Listed turns made) threads = Listed turns (one_more made)
