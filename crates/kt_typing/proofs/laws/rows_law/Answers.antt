use Rattle.kt_typing.proofs.WorkedRows.{refused-rows, two-faulty-parts-rows, own-faults-rows, accepted-rows, refused-in-rules-rows, accepted-in-rules-rows}
use Rattle.kt_typing.proofs.laws.rows_law.Goals as goal

pub returns-clause-refused : goal.returns-clause-refused
returns-clause-refused c = refused-rows

pub returns-clause-two_faulty_parts : goal.returns-clause-two_faulty_parts
returns-clause-two_faulty_parts c = two-faulty-parts-rows

pub returns-clause-own_faults : goal.returns-clause-own_faults
returns-clause-own_faults c = own-faults-rows

pub returns-clause-accepted : goal.returns-clause-accepted
returns-clause-accepted c = accepted-rows

pub returns-clause-refused_in_rules : goal.returns-clause-refused_in_rules
returns-clause-refused_in_rules c = refused-in-rules-rows

pub returns-clause-accepted_in_rules : goal.returns-clause-accepted_in_rules
returns-clause-accepted_in_rules c = accepted-in-rules-rows
