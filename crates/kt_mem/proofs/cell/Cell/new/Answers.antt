use Rattle.std.proofs.Common.{◌∙◌, ap}
use Rattle.kt_mem.specs.Kept.{content_of}
use Rattle.kt_mem.proofs.KeptCells.{content_of-kept_as}
use Rattle.kt_mem.proofs.cell.Cell.new.Goals as goal

pub returns : goal.returns
returns c = ap content_of c.of.ensures ∙ content_of-kept_as c.args.ty c.args.value
