use Rattle.std.proofs.Common.{ap, ◌∙◌}
use Rattle.kt_names.proofs.Latest.{local_in, named-is}
use Rattle.kt_names.proofs.in_scope.InScope.local_named.Goals as goal

pub returns-in-Some : goal.returns-in-Some
returns-in-Some c = c.local_at.ensures ∙ ap (local_in c.args.self.now) c.in-Some.ensures ∙ named-is c.args.self.now c.args.name.now

pub returns-in-None : goal.returns-in-None
returns-in-None c = ap (local_in c.args.self.now) c.in-None.ensures ∙ named-is c.args.self.now c.args.name.now
