use Rattle.std.proofs.Common.{rules}
use Rattle.kt_statements.proofs.Shown.{mark-is}
use Rattle.kt_statements.proofs.scopes.Scopes.mark.Goals as goal

pub returns : goal.returns
returns c = mark-is c.args.self.now.locals.items c.len.result c.args.self.now.start c.args.self.now.next c.args.self.now.in_loop (search rules) c.requires
