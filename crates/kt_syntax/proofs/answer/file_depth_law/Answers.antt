use Rattle.kt_syntax.proofs.DepthsAgree.{depths_agree}
use Rattle.kt_syntax.proofs.answer.file_depth_law.Goals as goal

pub returns : goal.returns
returns c = depths_agree c.file_laws.ensures.read_back c.file_places_law.ensures.depth
