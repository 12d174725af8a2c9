-- How the logic stores a version and its code.
use Rattle.std.specs.Prelude.{refl}
use Rattle.std.specs.Coded.{Coded, code_by, coded×}
use Rattle.kt_tree.specs.Stored.{program_code}
use Rattle.kt_tree.specs.Version.{Program}
use Rattle.kt_code.specs.Code.{Code}
use Rattle.kt_code.specs.contracts.code.Code as codes
use Rattle.kt_pair.specs.Pair.{Pair}

abbrev pub pair_code : Coded Pair
pair_code = code_by (Program × Code) (coded× program_code codes.the_row.coded) (λ p. (p.program, p.code)) (λ q. record { program = q.0; code = q.1 }) (λ _. refl)
