use Rattle.kt_meaning.proofs.Rows.{division, counting, ring, clients, restarted}
use Rattle.kt_meaning.proofs.laws.worked_programs_law.Goals as goal

pub returns-clause-division_and_short_circuit : goal.returns-clause-division_and_short_circuit
returns-clause-division_and_short_circuit c = division

pub returns-clause-counting_loop : goal.returns-clause-counting_loop
returns-clause-counting_loop c = counting

pub returns-clause-ring_of_nodes : goal.returns-clause-ring_of_nodes
returns-clause-ring_of_nodes c = ring

pub returns-clause-noted_clients : goal.returns-clause-noted_clients
returns-clause-noted_clients c = clients

pub returns-clause-noted_clients_restarted : goal.returns-clause-noted_clients_restarted
returns-clause-noted_clients_restarted c = restarted
