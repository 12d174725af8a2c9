use Rattle.std.proofs.Common.{not}
use Rattle.kt_typing.specs.Faults.{bad_type}
use Rattle.kt_program.specs.Declarators.{where_not}
use Rattle.kt_program.specs.Functions.{result_complete, is_result, result_place, function_twice, is_other_type}
use Rattle.kt_declarations.specs.Met.{kept}
use Rattle.kt_declarations.proofs.Behind.{is-named}
use Rattle.kt_declarations.proofs.Right.{over-four, made-four}
use Rattle.kt_declarations.proofs.Struct.{names-there}
use Rattle.kt_declarations.proofs.laws.heads_law.Goals as goal

pub returns-clause-first : goal.returns-clause-first
returns-clause-first c env w gs rs r j =
    over-four (result_complete env r.result r) (where_not (is_result env r.result r.stars) (bad_type (result_place r.stars r))) (function_twice gs rs r) (where_not (not (is_other_type w rs r)) (bad_type r.name.at)) j

pub returns-clause-made : goal.returns-clause-made
returns-clause-made c env w gs rs r j =
    made-four (result_complete env r.result r) (where_not (is_result env r.result r.stars) (bad_type (result_place r.stars r))) (function_twice gs rs r) (where_not (not (is_other_type w rs r)) (bad_type r.name.at)) j

pub returns-clause-structs : goal.returns-clause-structs
returns-clause-structs c = names-there

pub returns-clause-named : goal.returns-clause-named
returns-clause-named c f structs rs are n = is-named structs rs n (kept f n) (are n)
