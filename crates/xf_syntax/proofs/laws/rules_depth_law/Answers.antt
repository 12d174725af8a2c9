use Rattle.kt_grammar.proofs.DepthsAgree.{depths_agree}
use Rattle.xf_syntax.specs.Spelling.{rules}
use Rattle.xf_syntax.specs.Reading.{rules_at}
use Rattle.xf_syntax.proofs.laws.rules_depth_law.Goals as goal

pub returns : goal.returns
returns c = depths_agree rules rules_at c.rules_laws.ensures.read_back c.rules_places_law.ensures.depth
