use Rattle.std.proofs.Common.{[], arith}
use Rattle.kt_program.specs.Views.{all_fields}
use Rattle.kt_declarations.proofs.CanDefine.{can-define}
use Rattle.kt_declarations.proofs.Faultless.{new-right, fields-right, distinct, counted, few, extended}
use Rattle.kt_declarations.proofs.laws.structs_law.Goals as goal

pub returns-clause-new : goal.returns-clause-new
returns-clause-new c env defined n fs right = new-right env defined n fs right

pub returns-clause-distinct : goal.returns-clause-distinct
returns-clause-distinct c env defined n fs right = distinct env (all_fields fs) [] 0 (all_fields fs) (fields-right env defined n fs right)

pub returns-clause-counts : goal.returns-clause-counts
returns-clause-counts c env defined n fs right = counted env (all_fields fs) [] 0 (all_fields fs) (fields-right env defined n fs right)

pub returns-clause-cells : goal.returns-clause-cells
returns-clause-cells c env defined n fs right = let all = few env (all_fields fs) [] 0 (all_fields fs) (omega arith) (fields-right env defined n fs right) in omega arith

pub returns-clause-extents : goal.returns-clause-extents
returns-clause-extents c env defined n fs i x right at = extended env (all_fields fs) [] 0 (all_fields fs) i x (fields-right env defined n fs right) at

pub returns-clause-can : goal.returns-clause-can
returns-clause-can c env defined n fs s ds right new are = can-define env defined n fs s ds right new are
