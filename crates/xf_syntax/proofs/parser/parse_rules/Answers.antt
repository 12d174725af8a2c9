use Rattle.kt_grammar.proofs.FaultsAreTold.{fails}
use Rattle.xf_syntax.specs.Tree.{tree_of}
use Rattle.xf_syntax.specs.Spelling.{rules}
use Rattle.xf_syntax.specs.Reading.{rules_at}
use Rattle.xf_syntax.proofs.parser.parse_rules.Goals as goal

pub returns-clause-fails : goal.returns-clause-fails
returns-clause-fails c =
    fails rules tree_of rules_at c.rules_stands_law.ensures c.rules_places_law.ensures.syntax c.rules_places_law.ensures.depth c.rules_answer_law.ensures.one c.args.bytes.now c.args.tokens.now _
    c.read_tokens.ensures.tree c.read_tokens.ensures.fault
