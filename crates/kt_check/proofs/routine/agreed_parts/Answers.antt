use Rattle.std.proofs.Common.{subst}
use Rattle.kt_syntax.specs.Tree.{routine_of}
use Rattle.kt_names.specs.Judges.{Judges}
use Rattle.kt_names.specs.Functions.{parameters, body_in, is_noted, no_state}
use Rattle.kt_names.specs.Scopes.{state_of}
use Rattle.kt_check.specs.Stages.{right}
use Rattle.kt_names.proofs.Parts.{judges-pair}
use Rattle.kt_check.proofs.routine.agreed_parts.Goals as goal

pub returns : goal.returns
returns c =
    let r = routine_of c.args.f.now in
    judges-pair right state_of c.agrees.result c.parameters.result c.both.result _ _ c.both.ensures c.agrees.ensures
    (subst (λ e. Judges state_of c.parameters.result (parameters (body_in e r (is_noted r.body)) no_state r.parameters)) c.outside-env.ensures c.parameters.ensures)
