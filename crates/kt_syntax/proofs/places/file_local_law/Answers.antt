use Rattle.kt_syntax.proofs.FileLocal.{file_is_local}
use Rattle.kt_syntax.proofs.places.file_local_law.Goals as goal

pub returns : goal.returns
returns c = file_is_local c.expr_local_law.ensures
