-- A version's code has only jumps that stay within it and go back to ticks.
use Rattle.std.proofs.Common.{arith}
use Rattle.kt_tree.specs.Version.{Program}
use Rattle.kt_code.specs.Settling.{HasJumps}
use Rattle.kt_codegen.specs.VersionCode.{functions_code, version_code}
use Rattle.kt_genexpr.proofs.ExpressionJumps.{all-jump}
use Rattle.kt_codegen.proofs.Jumps.{functions-jumps}
use Rattle.kt_codegen.proofs.Places.{has-itself}

pub version-jumps : (p : Program) → HasJumps (version_code p).instrs
version-jumps p =
    let all = functions_code p.types p.functions p.functions in
    all-jump all (functions-jumps all p.types p.functions p.functions 0 (has-itself all) (omega arith))
