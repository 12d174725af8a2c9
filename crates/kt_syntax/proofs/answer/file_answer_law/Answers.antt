use Rattle.kt_syntax.proofs.OneAnswer.{one_answer, has_answer}
use Rattle.kt_syntax.proofs.answer.file_answer_law.Goals as goal

pub returns : goal.returns
returns c = record {
  some = has_answer c.file_stands_law.ensures c.file_fault_law.ensures c.file_places_law.ensures.syntax c.file_places_law.ensures.depth;
  one = one_answer c.file_laws.ensures.one_tree;
}
