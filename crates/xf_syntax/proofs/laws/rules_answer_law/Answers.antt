use Rattle.kt_grammar.proofs.OneAnswer.{one_answer, has_answer}
use Rattle.xf_syntax.specs.Spelling.{rules}
use Rattle.xf_syntax.specs.Reading.{rules_at}
use Rattle.xf_syntax.proofs.laws.rules_answer_law.Goals as goal

pub returns : goal.returns
returns c = record {
  some = has_answer rules rules_at c.rules_stands_law.ensures c.rules_fault_law.ensures c.rules_places_law.ensures.syntax c.rules_places_law.ensures.depth;
  one = one_answer rules c.rules_laws.ensures.one_tree;
}
