use Rattle.kt_syntax.proofs.ExternalFaults.{file_faults}
use Rattle.kt_syntax.proofs.stands.file_fault_law.Goals as goal

pub returns : goal.returns
returns c = file_faults c.expr_stands_law.ensures c.expr_fault_law.ensures c.expr_goes_on_law.ensures
