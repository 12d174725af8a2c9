use Rattle.kt_program.proofs.WorkedRows.{refused-rows, accepted-rows, refused-noted-rows, refused-void-rows, accepted-void-rows}
use Rattle.kt_program.proofs.laws.statements_law.Goals as goal

pub returns-clause-refused : goal.returns-clause-refused
returns-clause-refused c = refused-rows

pub returns-clause-accepted : goal.returns-clause-accepted
returns-clause-accepted c = accepted-rows

pub returns-clause-refused_noted : goal.returns-clause-refused_noted
returns-clause-refused_noted c = refused-noted-rows

pub returns-clause-refused_void : goal.returns-clause-refused_void
returns-clause-refused_void c = refused-void-rows

pub returns-clause-accepted_void : goal.returns-clause-accepted_void
returns-clause-accepted_void c = accepted-void-rows
