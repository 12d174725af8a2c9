use Rattle.kt_statements.specs.Scopes.{body_of, meaning_in, latest_first}
use Rattle.kt_statements.proofs.Shown.{has-name, shows-less, last-shown}
use Rattle.kt_statements.proofs.scopes.Scopes.forget.Goals as goal

pub put-requires : goal.put-requires
put-requires c =
    let env = (body_of c.args.body.now).environment in
    let now = meaning_in c.args.self.now.names.entries in
    has-name c.args.self.now.names.entries env.scope.locals env.name c.in-Some.last (latest_first c.pop.new.self.items)
    (last-shown env.scope.locals env.name now c.args.self.now.locals.items c.pop.new.self.items c.in-Some.last c.in-Some.ensures.items c.requires.shows)

pub returns-in-Some-clause-shows : goal.returns-in-Some-clause-shows
returns-in-Some-clause-shows c =
    let env = (body_of c.args.body.now).environment in
    let now = meaning_in c.args.self.now.names.entries in
    shows-less env.scope.locals env.name now (meaning_in c.put.new.names.entries) c.in-Some.last (latest_first c.pop.new.self.items)
    (last-shown env.scope.locals env.name now c.args.self.now.locals.items c.pop.new.self.items c.in-Some.last c.in-Some.ensures.items c.requires.shows) c.put.ensures
