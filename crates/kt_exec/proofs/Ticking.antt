-- Ticks of a thread.
use Rattle.std.specs.Prelude.{◌≡◌, ℕ, ◌+◌, true}
use Rattle.std.proofs.Common.{sym, ap, ◌∙◌, add-one, below_more}
use Rattle.kt_code.specs.Code.{Code}
use Rattle.kt_code.specs.declared.private.Private.{Private}
use Rattle.kt_exec.specs.Stretching.{at_tick, after_tick, after_ticks, TicksFor}

-- one tick more
pub more-ticks : (c : Code) (n : ℕ) (p q : Private) → TicksFor c n p → q ≡ after_ticks c n p → at_tick c q ≡ true → TicksFor c (n + 1) p
more-ticks c n p q each leads h = below_more _ n each (ap (at_tick c) (sym leads) ∙ h)

pub leads-on : (c : Code) (n : ℕ) (p q r : Private) → q ≡ after_ticks c n p → r ≡ after_tick c q → r ≡ after_ticks c (n + 1) p
leads-on c n p q r e f = rw add-one (f ∙ ap (after_tick c) e)
