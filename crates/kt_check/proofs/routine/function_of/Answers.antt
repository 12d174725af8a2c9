use Rattle.kt_syntax.specs.Tree.{routine_of}
use Rattle.kt_check.specs.Files.{outside}
use Rattle.kt_names.specs.Functions.{defined_function}
use Rattle.kt_check.specs.Stages.{frame_seen, sofar_of, function_parts, function_seen, functions_seen}
use Rattle.kt_names.proofs.Parts.{fails, judges-follows}
use Rattle.kt_check.proofs.Right.{agrees-right, on-ok}
use Rattle.kt_check.proofs.routine.function_of.Goals as goal

pub returns-in-Ok-clause-body : goal.returns-in-Ok-clause-body
returns-in-Ok-clause-body c =
    let f = frame_seen c.args.frame.now in
    let s = sofar_of c.args.sofar.now in
    let r = routine_of c.args.f.now in
    judges-follows functions_seen c.body_behind.result (function_parts f s r) (λ x. defined_function (outside f s) r x.1.1.1.1 r.body) (function_seen c.in-Ok.parts) c.in-Ok.ensures c.body_behind.ensures

pub returns-in-Ok-clause-agrees : goal.returns-in-Ok-clause-agrees
returns-in-Ok-clause-agrees c =
    on-ok c.body_behind.result (agrees-right (frame_seen c.args.frame.now) (sofar_of c.args.sofar.now) (routine_of c.args.f.now) (function_seen c.in-Ok.parts) c.in-Ok.ensures)

pub returns-in-Err-clause-body : goal.returns-in-Err-clause-body
returns-in-Err-clause-body c =
    let f = frame_seen c.args.frame.now in
    let s = sofar_of c.args.sofar.now in
    let r = routine_of c.args.f.now in
    fails (function_parts f s r) (λ x. defined_function (outside f s) r x.1.1.1.1 r.body) c.in-Err.fault c.in-Err.ensures
