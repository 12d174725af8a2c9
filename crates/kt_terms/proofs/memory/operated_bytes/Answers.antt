use Rattle.kt_names.specs.Views.{environment_of}
use Rattle.kt_terms.specs.Arguments.{argument_at}
use Rattle.kt_terms.specs.Specials.{operated_by}
use Rattle.kt_terms.proofs.memory.operated_bytes.Goals as goal

pub returns : goal.returns
returns c s t h k =
    c.bytes_by.ensures (operated_by (environment_of c.args.env.now) c.args.op (argument_at c.args.x s) (argument_at c.args.y t)) (c.operated_by-typed.ensures s t h k)
