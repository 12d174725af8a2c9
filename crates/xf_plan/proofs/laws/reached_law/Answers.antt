use Rattle.xf_plan.proofs.Reaching.{steps-are-paths}
use Rattle.xf_plan.proofs.laws.reached_law.Goals as goal

pub returns : goal.returns
returns c = steps-are-paths
