use Rattle.std.proofs.Common.{subst}
use Rattle.std.specs.List.{AllByRecursion}
use Rattle.kt_tree.specs.Version.{IsProgram}
use Rattle.kt_world.specs.Plain.{job_of}
use Rattle.kt_journal.proofs.MainOnly.{main_only}
use Rattle.kt_journal.proofs.laws.main_only_law.Goals as goal

pub returns : goal.returns
returns c = main_only (job_of c.args.job.now) (subst (AllByRecursion IsProgram) c.as_slice.ensures c.programs_law.ensures) c.args.turns.now
