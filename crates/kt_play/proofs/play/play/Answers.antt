use Rattle.kt_play.proofs.PromiseLemmas.{promises}
use Rattle.kt_play.proofs.play.play.Goals as goal

pub returns : goal.returns
returns g c = promises c.file_answer_law.ensures.one _ _ c.respond.ensures.answer c.respond.ensures.same
