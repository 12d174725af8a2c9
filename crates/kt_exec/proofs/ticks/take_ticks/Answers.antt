use Rattle.std.proofs.Common.{◌≡◌, true, arith, sym, ◌∙◌}
use Rattle.kt_exec.specs.Stretching.{at_tick}
use Rattle.kt_exec.proofs.Ticking.{leads-on, more-ticks}
use Rattle.kt_exec.proofs.ticks.take_ticks.Goals as goal

pub ticks-preserved : goal.ticks-preserved
ticks-preserved c =
    let code = c.args.code.now in
    let first = c.args.private.now in
    let here : at_tick code c.ticks.private ≡ true = sym c.ticks.invariant.tick ∙ c.ticks-test.true in
    record {
      leads = leads-on code c.ticks.ticks first c.ticks.private c.take_tick.new.private c.ticks.invariant.leads c.in_ok-more.ensures.state;
      each = more-ticks code c.ticks.ticks first c.ticks.private c.ticks.invariant.each c.ticks.invariant.leads here;
      within = omega arith;
      tick = c.in_ok-more.ensures.more;
      fits = c.in_ok-more.ensures.fits;
    }
