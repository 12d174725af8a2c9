use Rattle.kt_codegen.proofs.Together.{function-added, entry-added}
use Rattle.kt_codegen.proofs.functions.emit_functions.Goals as goal

pub loop-function-preserved : goal.loop-function-preserved
loop-function-preserved c =
    let p = c.args.version.now in
    let fs = c.functions-function-items.result.now in
    let i = c.loop-function.function-index in
    let f = c.function-item.result in
    record {
      instrs = function-added p fs i f f c.loop-function-test.true c.function-item.is c.loop-function.instrs.items c.add_function.new.instrs.items
          c.loop-function.invariant.instrs c.in_ok-add_function.ensures.instrs;
      entries = entry-added p fs i f f c.loop-function-test.true c.function-item.is c.loop-function.instrs.items c.loop-function.entries.items c.add_function.new.entries.items
          c.loop-function.invariant.instrs c.loop-function.invariant.entries c.in_ok-add_function.ensures.entries;
    }
