use Rattle.xf_eval.proofs.NumberedCells.{cells_by_number, globals_by_number, locals_by_number}
use Rattle.xf_eval.proofs.laws.by_number_law.Goals as goal

pub returns : goal.returns
returns c = record { cells = cells_by_number; globals = globals_by_number; locals = locals_by_number }
