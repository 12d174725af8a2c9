use Rattle.kt_names.specs.Checked.{both}
use Rattle.kt_names.specs.Views.{operand_of}
use Rattle.kt_names.proofs.Parts.{judges-pair}
use Rattle.kt_terms.proofs.memory.operated_by.Goals as goal

pub returns : goal.returns
returns c s t h k =
    c.operated_at.ensures (both s t) (judges-pair operand_of operand_of c.args.x.typed c.args.y.typed c.both.result s t c.both.ensures h k)
