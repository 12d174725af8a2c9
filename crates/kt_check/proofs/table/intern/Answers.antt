use Rattle.std.proofs.Common.{◌<◌, length, arith}
use Rattle.kt_check.proofs.Interning.{intern-step, item-or, larger-right}
use Rattle.kt_check.proofs.table.intern.Goals as goal

pub loop-place-preserved : goal.loop-place-preserved
loop-place-preserved c =
    let i = c.loop-place.place in
    let lt : i < c.args.count = omega arith in
    let within : i < length c.args.types.now = omega arith in
    record {
      begun = omega arith;
      within = omega (arith, larger-right (length c.args.table.now.types) c.args.count);
      stage =
          intern-step c.args.types.now c.args.table.now.structs c.args.table.now.defined i _ c.loop-place.table c.intern.new.self
          (c.requires.fit i _ c.loop-place.invariant.begun lt (item-or c.args.types.now i _ within)) (item-or c.args.types.now i _ within) c.loop-place.invariant.stage c.in_ok-intern.ensures.new;
    }
