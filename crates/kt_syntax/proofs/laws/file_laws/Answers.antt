use Rattle.kt_syntax.proofs.Files.{file-back, file-read, one-tree}
use Rattle.kt_syntax.proofs.laws.file_laws.Goals as goal

pub returns-clause-read_back : goal.returns-clause-read_back
returns-clause-read_back c = file-back c.expr_laws.ensures.read_back c.expr_laws.ensures.begins

pub returns-clause-read : goal.returns-clause-read
returns-clause-read c = file-read (file-back c.expr_laws.ensures.read_back c.expr_laws.ensures.begins)

pub returns-clause-one_tree : goal.returns-clause-one_tree
returns-clause-one_tree c = one-tree (file-back c.expr_laws.ensures.read_back c.expr_laws.ensures.begins)
