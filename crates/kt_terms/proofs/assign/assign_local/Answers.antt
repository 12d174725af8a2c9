use Rattle.std.proofs.Common.{Ok}
use Rattle.kt_tree.specs.Tree.{LocalSet}
use Rattle.kt_names.specs.Operands.{Valued, convert}
use Rattle.kt_names.specs.Views.{environment_of, operand_of}
use Rattle.kt_names.proofs.Parts.{fails}
use Rattle.kt_terms.proofs.assign.assign_local.Goals as goal

pub returns-in-Err : goal.returns-in-Err
returns-in-Err c =
    let env = environment_of c.args.env.now in
    fails (convert env c.args.place.1 c.args.right c.args.at (operand_of c.args.e))
    (λ v. Ok (Valued c.args.place.1 (LocalSet c.args.place.0 v))) c.in-Err.fault c.in-Err.ensures
