use Rattle.std.proofs.Common.{subst}
use Rattle.std.specs.List.{AllByRecursion}
use Rattle.kt_tree.specs.Version.{IsProgram}
use Rattle.kt_world.specs.Plain.{job_of}
use Rattle.kt_journal.proofs.Complete.{IsKnown, read-back}
use Rattle.kt_journal.proofs.laws.read_back_law.Goals as goal

pub returns : goal.returns
returns c =
    let job = job_of c.args.job.now in
    let turns = c.args.turns.now in
    let programs = subst (AllByRecursion IsProgram) c.as_slice.ensures c.programs_law.ensures in
    let law = c.world_law.ensures in
    let known : IsKnown job turns = record { counted = law.counted; marks = law.marks; last = law.last; of_threads = law.of_threads; budget = law.budget; tell = law.tell } in
    λ how run are leads few. read-back job programs turns c.args.marks.now how known run are c.marks_law.ensures leads few
