use Rattle.std.proofs.Common.{ap, ◌∙◌}
use Rattle.kt_program.specs.Scopes.{contains}
use Rattle.kt_declarations.proofs.Kept.{has-name}
use Rattle.kt_declarations.proofs.names.Names.has.Goals as goal

pub returns : goal.returns
returns c = c.contains.ensures ∙ has-name c.self.inside.set.keys c.args.name.now ∙ ap (λ ns. contains ns c.args.name.now) c.self.view_is
