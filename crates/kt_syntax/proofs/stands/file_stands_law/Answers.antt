use Rattle.kt_syntax.proofs.ExternalStands.{file_stands}
use Rattle.kt_syntax.proofs.stands.file_stands_law.Goals as goal

pub returns : goal.returns
returns c = file_stands c.expr_stands_law.ensures
