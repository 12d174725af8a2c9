use Rattle.kt_names.specs.Checked.{and_then}
use Rattle.kt_names.specs.Operands.{integer}
use Rattle.kt_names.specs.Views.{environment_of}
use Rattle.kt_terms.proofs.memory.so_many.Goals as goal

pub returns : goal.returns
returns c s h = c.allocated.ensures (and_then s (integer (environment_of c.args.env.now) c.args.x.at c.args.up)) (c.integer.ensures s h)
