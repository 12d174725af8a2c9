use Rattle.std.proofs.Common.{◌<◌, ◌≤◌, ◌∙◌, ℕ, List, length, nat_le, refl, sym, ap, arith}
use Rattle.std.specs.Prelude.{find}
use Rattle.std.proofs.lemmas.Bool.{le-leb}
use Rattle.kt_sched.proofs.Numbers.{find-start, flag-set, rest-clear, rest-end, rest-set}
use Rattle.kt_sched.proofs.flags.first_from.Goals as goal

pub loop-thread-init : goal.loop-thread-init
loop-thread-init c = find-start c.args.enabled.now c.args.start

pub loop-thread-preserved : goal.loop-thread-preserved
loop-thread-preserved c =
    let within : c.loop-thread.thread < length c.args.enabled.now = omega arith in
    ap (λ (rest : List ℕ). find (λ t. nat_le c.args.start t) rest) (sym (rest-clear c.args.enabled.now c.loop-thread.thread within c.if-enabled-thread.false)) ∙ c.loop-thread.invariant

pub returns-then-enabled-thread : goal.returns-then-enabled-thread
returns-then-enabled-thread c =
    let within : c.loop-thread.thread < length c.args.enabled.now = omega arith in
    let from : c.args.start ≤ c.loop-thread.thread = omega arith in
    record {
      thread = sym (sym c.loop-thread.invariant ∙ rw (rest-set c.args.enabled.now c.loop-thread.thread within c.if-enabled-thread.true, le-leb c.args.start c.loop-thread.thread from) refl);
      flag = flag-set c.args.enabled.now c.loop-thread.thread within c.if-enabled-thread.true;
    }

pub returns : goal.returns
returns c =
    let past : length c.args.enabled.now ≤ c.loop-thread.thread = omega arith in
    record {
      thread = sym (sym c.loop-thread.invariant ∙ ap (λ (rest : List ℕ). find (λ t. nat_le c.args.start t) rest) (rest-end c.args.enabled.now c.loop-thread.thread past));
      flag = tt;
    }
