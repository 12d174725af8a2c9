use Rattle.xf_rules.proofs.Rows.{sides, bodies, in-need, plans, refused-rows, accepted-rows, aging-plan, keeping-plan}
use Rattle.xf_rules.proofs.laws.rows_law.Goals as goal

pub returns-clause-sides : goal.returns-clause-sides
returns-clause-sides c = sides

pub returns-clause-bodies : goal.returns-clause-bodies
returns-clause-bodies c = bodies

pub returns-clause-needing : goal.returns-clause-needing
returns-clause-needing c = in-need

pub returns-clause-accepted : goal.returns-clause-accepted
returns-clause-accepted c = plans

pub returns-clause-refused_between : goal.returns-clause-refused_between
returns-clause-refused_between c = refused-rows

pub returns-clause-accepted_between : goal.returns-clause-accepted_between
returns-clause-accepted_between c = accepted-rows

pub returns-clause-aging : goal.returns-clause-aging
returns-clause-aging c = aging-plan

pub returns-clause-keeping : goal.returns-clause-keeping
returns-clause-keeping c = keeping-plan
