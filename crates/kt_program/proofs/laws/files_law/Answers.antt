use Rattle.kt_program.proofs.FileRowsHold.{refused-file-rows, accepted-file-rows, refused-in-main-rows, accepted-in-main-rows, small-typed}
use Rattle.kt_program.proofs.laws.files_law.Goals as goal

pub returns-clause-refused : goal.returns-clause-refused
returns-clause-refused c = refused-file-rows

pub returns-clause-accepted : goal.returns-clause-accepted
returns-clause-accepted c = accepted-file-rows

pub returns-clause-refused_in_main : goal.returns-clause-refused_in_main
returns-clause-refused_in_main c = refused-in-main-rows

pub returns-clause-accepted_in_main : goal.returns-clause-accepted_in_main
returns-clause-accepted_in_main c = accepted-in-main-rows

pub returns-clause-typed : goal.returns-clause-typed
returns-clause-typed c = small-typed
