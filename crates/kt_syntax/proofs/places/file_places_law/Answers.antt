use Rattle.kt_syntax.proofs.FaultsAreThere.{syntax_is_there, depth_is_there}
use Rattle.kt_syntax.proofs.places.file_places_law.Goals as goal

pub returns : goal.returns
returns c = record {
  syntax = syntax_is_there c.file_laws.ensures.read_back c.file_local_law.ensures c.file_fault_law.ensures;
  depth = depth_is_there c.file_laws.ensures.read_back c.file_local_law.ensures c.file_fault_law.ensures;
}
