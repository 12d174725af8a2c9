use Rattle.xf_rules.proofs.Planned.{one-plan, faultless, unrefused, refused, one-refusal}
use Rattle.xf_rules.proofs.laws.plan_law.Goals as goal

pub returns-clause-one : goal.returns-clause-one
returns-clause-one c = one-plan

pub returns-clause-faultless : goal.returns-clause-faultless
returns-clause-faultless c = faultless

pub returns-clause-unrefused : goal.returns-clause-unrefused
returns-clause-unrefused c = unrefused

pub returns-clause-refused : goal.returns-clause-refused
returns-clause-refused c = refused

pub returns-clause-one_refusal : goal.returns-clause-one_refusal
returns-clause-one_refusal c = one-refusal
