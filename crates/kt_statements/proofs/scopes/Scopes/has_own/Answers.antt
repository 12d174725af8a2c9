use Rattle.std.proofs.Common.{ap, ◌∙◌}
use Rattle.kt_statements.proofs.Latest.{is_from, own-is}
use Rattle.kt_statements.proofs.scopes.Scopes.has_own.Goals as goal

pub returns-in-Some : goal.returns-in-Some
returns-in-Some c =
    ap (is_from c.args.self.now.start) c.in-Some.ensures ∙ own-is c.args.self.now.locals.items c.args.self.now.start c.args.name.now c.requires.start

pub returns-in-None : goal.returns-in-None
returns-in-None c =
    ap (is_from c.args.self.now.start) c.in-None.ensures ∙ own-is c.args.self.now.locals.items c.args.self.now.start c.args.name.now c.requires.start
