use Rattle.kt_grammar.proofs.FaultsAreThere.{syntax_is_there, depth_is_there}
use Rattle.xf_syntax.specs.Spelling.{rules}
use Rattle.xf_syntax.specs.Reading.{rules_at}
use Rattle.xf_syntax.proofs.laws.rules_places_law.Goals as goal

pub returns : goal.returns
returns c = record {
  syntax = syntax_is_there rules rules_at c.rules_laws.ensures.read_back c.rules_local_law.ensures c.rules_fault_law.ensures;
  depth = depth_is_there rules rules_at c.rules_laws.ensures.read_back c.rules_local_law.ensures c.rules_fault_law.ensures;
}
