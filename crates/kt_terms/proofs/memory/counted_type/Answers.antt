use Rattle.kt_names.specs.declared.fault.CheckFault.TheVariants.{Incomplete}
use Rattle.kt_names.specs.Checked.{holds}
use Rattle.kt_names.specs.Environment.{is_complete}
use Rattle.kt_names.specs.Views.{environment_of, value_of}
use Rattle.kt_terms.specs.Specials.{nothing_of}
use Rattle.kt_names.proofs.Parts.{judges-pair}
use Rattle.kt_terms.proofs.memory.counted_type.Goals as goal

pub returns : goal.returns
returns c s h =
    judges-pair value_of nothing_of c.args.count c.complete.result c.both.result s (holds (is_complete (environment_of c.args.env.now) c.args.t) (Incomplete c.args.place)) c.both.ensures h c.complete.ensures
