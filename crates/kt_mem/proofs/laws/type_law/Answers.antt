use Rattle.kt_mem.proofs.TypedAnswers.{results_have_type}
use Rattle.kt_mem.proofs.laws.type_law.Goals as goal

pub returns : goal.returns
returns c = results_have_type
