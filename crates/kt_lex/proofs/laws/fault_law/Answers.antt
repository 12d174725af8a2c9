use Rattle.kt_lex.proofs.Exactly.{stops_are_faults}
use Rattle.kt_lex.proofs.Faults.{faults_are_there}
use Rattle.kt_lex.proofs.laws.fault_law.Goals as goal

pub returns : goal.returns
returns c = record { there = faults_are_there; exact = stops_are_faults }
