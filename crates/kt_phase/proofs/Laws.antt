-- Laws that crates above cite: counters that stand for threads stand for them after each event.
use Rattle.std.proofs.Common.{◌≡◌, ℕ, ◌+◌, ◌<◌, ◌&&◌, Bool, true, false, if◌then◌else◌, Some, slice_get, refl, ap, arith, ◌-◌}
use Rattle.kt_phase.proofs.Counts.{one_if, all-back, all-parked, count-made, count-map, count-no, count-changed, count-some, count-below, parked-live, updating-live}
use Rattle.kt_phase.specs.Barrier as barrier
use Rattle.kt_phase.specs.Barrier.{Standing, Running, Parked, Ended, Thread, Barrier, StandsFor, lives, waits, count_of, is_live, is_parked, is_updating, unparked, restarted, new_thread}
use Rattle.kt_phase.specs.Counters as counters
use Rattle.kt_phase.specs.Counters.{Counters, is_asked, is_others}
use Rattle.kt_phase.specs.declared.counters.Phase.TheVariants.{Run}

pub closing-due : (c : Counters) (b : Barrier) → StandsFor c b → counters.is_closing_due c ≡ barrier.is_closing_due b
closing-due c b s = rw (s.phase, s.parked, s.live, all-parked b.threads) refl

pub update-over : (c : Counters) (b : Barrier) → StandsFor c b → counters.is_update_over c ≡ barrier.is_update_over b
update-over c b s = rw (s.phase, s.updating, all-back b.threads) refl

pub resumed-stands : (c : Counters) (b : Barrier) → StandsFor c b → StandsFor (counters.resumed c) (barrier.resumed b)
resumed-stands c b s = rw (update-over c b s) (by_test (barrier.is_update_over b)) where
  by_test : (over : Bool) → StandsFor (if over then record c { phase = Run } else c) (if over then record b { phase = Run } else b)
  by_test true = record { phase = refl; live = s.live; parked = s.parked; updating = s.updating }
  by_test false = s

pub made-stands : (c : Counters) (b : Barrier) → StandsFor c b → StandsFor (counters.after_making c) (barrier.after_making b)
made-stands c b s =
    let live = count-made is_live b.threads new_thread in
    let parked = count-made is_parked b.threads new_thread in
    let updating = count-made is_updating b.threads new_thread in
    record { phase = s.phase; live = omega (arith, live, s.live); parked = omega (arith, parked, s.parked); updating = omega (arith, updating, s.updating) }

pub parked-stands : (c : Counters) (b : Barrier) → StandsFor c b → (t : ℕ) (x : Thread) → slice_get b.threads t ≡ Some x → x.standing ≡ Running
    → StandsFor (counters.after_parking c) (barrier.after_parking t x b)
parked-stands c b s t x is runs =
    let later : Thread = record x { standing = Parked } in
    let live = count-changed is_live b.threads t x later true true is (ap lives runs) refl in
    let parked = count-changed is_parked b.threads t x later false true is (ap waits runs) refl in
    let updating = count-changed is_updating b.threads t x later x.updating x.updating is (ap (λ (s : Standing). lives s && x.updating) runs) refl in
    record { phase = s.phase; live = omega (arith, s.live, live); parked = omega (arith, s.parked, parked); updating = omega (arith, s.updating, updating) }

unparked-live : (t : Thread) → is_live (unparked t) ≡ is_live t
unparked-live t = by_parts t.standing t.updating where
  by_parts : (s : Standing) (u : Bool) → is_live (unparked (record { standing = s; updating = u })) ≡ lives s
  by_parts Running u = refl
  by_parts Parked u = refl
  by_parts Ended u = refl

unparked-waits : (t : Thread) → is_parked (unparked t) ≡ false
unparked-waits t = by_parts t.standing t.updating where
  by_parts : (s : Standing) (u : Bool) → is_parked (unparked (record { standing = s; updating = u })) ≡ false
  by_parts Running u = refl
  by_parts Parked u = refl
  by_parts Ended u = refl

unparked-updating : (t : Thread) → is_updating (unparked t) ≡ is_updating t
unparked-updating t = by_parts t.standing t.updating where
  by_parts : (s : Standing) (u : Bool) → is_updating (unparked (record { standing = s; updating = u })) ≡ (lives s && u)
  by_parts Running u = refl
  by_parts Parked u = refl
  by_parts Ended u = refl

restarted-live : (t : Thread) → is_live (restarted t) ≡ is_live t
restarted-live t = by_parts t.standing t.updating where
  by_parts : (s : Standing) (u : Bool) → is_live (restarted (record { standing = s; updating = u })) ≡ lives s
  by_parts Running u = refl
  by_parts Parked u = refl
  by_parts Ended u = refl

restarted-waits : (t : Thread) → is_parked (restarted t) ≡ false
restarted-waits t = by_parts t.standing t.updating where
  by_parts : (s : Standing) (u : Bool) → is_parked (restarted (record { standing = s; updating = u })) ≡ false
  by_parts Running u = refl
  by_parts Parked u = refl
  by_parts Ended u = refl

-- after a restart the updating threads are the live ones
restarted-updating : (t : Thread) → is_updating (restarted t) ≡ is_live t
restarted-updating t = by_parts t.standing t.updating where
  by_parts : (s : Standing) (u : Bool) → is_updating (restarted (record { standing = s; updating = u })) ≡ lives s
  by_parts Running u = refl
  by_parts Parked u = refl
  by_parts Ended u = refl

not_updating : (t : Thread) → is_updating (record t { updating = false }) ≡ false
not_updating t = by_standing t.standing where
  by_standing : (s : Standing) → (lives s && false) ≡ false
  by_standing Running = refl
  by_standing Parked = refl
  by_standing Ended = refl

pub refused-stands : (c : Counters) (b : Barrier) → StandsFor c b → StandsFor (counters.after_refusal c) (barrier.after_refusal b)
refused-stands c b s = record {
  phase = refl;
  live = rw (count-map is_live is_live unparked unparked-live b.threads) s.live;
  parked = rw (count-no is_parked unparked unparked-waits b.threads) refl;
  updating = rw (count-map is_updating is_updating unparked unparked-updating b.threads) s.updating;
}

pub restarted-stands : (c : Counters) (b : Barrier) → StandsFor c b → StandsFor (counters.after_restart c) (barrier.after_restart b)
restarted-stands c b s = record {
  phase = refl;
  live = rw (count-map is_live is_live restarted restarted-live b.threads) s.live;
  parked = rw (count-no is_parked restarted restarted-waits b.threads) refl;
  updating = rw (count-map is_updating is_live restarted restarted-updating b.threads) s.live;
}

pub returned-stands : (c : Counters) (b : Barrier) → StandsFor c b → (t : ℕ) (x : Thread) → slice_get b.threads t ≡ Some x → is_updating x ≡ true
    → StandsFor (counters.after_return c) (barrier.after_return t x b)
returned-stands c b s t x is on =
    let later : Thread = record x { updating = false } in
    let live = count-changed is_live b.threads t x later (is_live x) (is_live x) is refl refl in
    let parked = count-changed is_parked b.threads t x later (is_parked x) (is_parked x) is refl refl in
    let updating = count-changed is_updating b.threads t x later true false is on (not_updating x) in
    record { phase = s.phase; live = omega (arith, s.live, live); parked = omega (arith, s.parked, parked); updating = omega (arith, s.updating, updating) }

pub main-stands : (c : Counters) (b : Barrier) → StandsFor c b → (main : Thread) → slice_get b.threads 0 ≡ Some main → is_updating main ≡ true
    → StandsFor (counters.after_main c) (barrier.after_main main b)
main-stands c b s main is on =
    let returned = returned-stands c b s 0 main is on in
    record { phase = refl; live = returned.live; parked = returned.parked; updating = returned.updating }

pub ended-stands : (c : Counters) (b : Barrier) → StandsFor c b → (t : ℕ) (x : Thread) → slice_get b.threads t ≡ Some x → x.standing ≡ Running
    → StandsFor (counters.after_end x.updating c) (barrier.after_end t x b)
ended-stands c b s t x is runs =
    let later : Thread = record x { standing = Ended } in
    let live = count-changed is_live b.threads t x later true false is (ap lives runs) refl in
    let parked = count-changed is_parked b.threads t x later false false is (ap waits runs) refl in
    let updating = count-changed is_updating b.threads t x later x.updating false is (ap (λ (s : Standing). lives s && x.updating) runs) refl in
    record { phase = s.phase; live = omega (arith, s.live, live); parked = omega (arith, s.parked, parked); updating = by_test x.updating (count_of is_updating b.threads) c.updating s.updating _ updating } where
      by_test : (u : Bool) (before counted : ℕ) → counted ≡ before → (after : ℕ) → after + one_if u ≡ before + 0 → (if u then counted - 1 else counted) ≡ after
      by_test true before counted e after f = omega arith
      by_test false before counted e after f = omega arith

-- a running thread is live and not parked
pub some-unparked : (c : Counters) (b : Barrier) → StandsFor c b → (t : ℕ) (x : Thread) → slice_get b.threads t ≡ Some x → x.standing ≡ Running → c.parked < c.live
some-unparked c b s t x is runs =
    let below = count-below is_parked is_live parked-live b.threads t x is (rw runs refl) (rw runs refl) in
    omega (arith, s.live, s.parked, below)

pub some-updating : (c : Counters) (b : Barrier) → StandsFor c b → (t : ℕ) (x : Thread) → slice_get b.threads t ≡ Some x → is_updating x ≡ true → 0 < c.updating
some-updating c b s t x is on =
    let some = count-some is_updating b.threads t x is on in
    omega (arith, s.updating, some)

pub some-normal : (c : Counters) (b : Barrier) → StandsFor c b → (t : ℕ) (x : Thread) → slice_get b.threads t ≡ Some x → is_live x ≡ true → x.updating ≡ false → c.updating < c.live
some-normal c b s t x is live off =
    let below = count-below is_updating is_live updating-live b.threads t x is (rw (live, off) refl) live in
    omega (arith, s.live, s.updating, below)
