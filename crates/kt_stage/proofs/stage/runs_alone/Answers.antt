use Rattle.std.proofs.Common.{ap, not}
use Rattle.kt_stage.specs.Stage.{is_threaded, function_asks}
use Rattle.kt_stage.proofs.Lists.{any-mapped}
use Rattle.kt_stage.proofs.stage.runs_alone.Goals as goal

pub returns : goal.returns
returns c = ap not (any-mapped (function_asks is_threaded) _ c.args.version.now.functions _ c.functions.ensures c.some_asks.ensures)
