use Rattle.kt_play.proofs.OutcomeLemmas.{outcome}
use Rattle.kt_play.proofs.play.carry_out.Goals as goal

pub returns : goal.returns
returns g c =
    outcome c.write_report.result _ c.in_ok-report.report.turns c.in_ok-report.report.how c.in_ok-report.report.output.items
    c.in_ok-report.report.marks.items _ c.in_ok-report.ensures c.write_report.ensures
