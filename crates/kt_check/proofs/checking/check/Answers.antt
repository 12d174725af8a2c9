use Rattle.kt_syntax.specs.Tree.{tree_of}
use Rattle.kt_check.specs.Files.{typed_file}
use Rattle.kt_check.proofs.Whole.{judges-version, judges-fault}
use Rattle.kt_check.proofs.checking.check.Goals as goal

pub returns-clause-version : goal.returns-clause-version
returns-clause-version c = judges-version c.judged.result (typed_file (tree_of c.args.file.now)) c.judged.ensures

pub returns-clause-fault : goal.returns-clause-fault
returns-clause-fault c = judges-fault c.judged.result (typed_file (tree_of c.args.file.now)) c.judged.ensures
