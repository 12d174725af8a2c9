use Rattle.std.proofs.Common.{ap, ◌∙◌}
use Rattle.kt_names.proofs.Firsts.{is_below, among-is}
use Rattle.kt_names.proofs.body.Body.has_among.Goals as goal

pub returns-in-Some : goal.returns-in-Some
returns-in-Some c = ap (is_below c.args.count) (c.in-Some.ensures.value ∙ c.args.self.now.places c.args.name.now) ∙ among-is c.args.name.now c.args.self.now.locals.now c.args.count

pub returns-in-None : goal.returns-in-None
returns-in-None c = ap (is_below c.args.count) (c.in-None.ensures.value ∙ c.args.self.now.places c.args.name.now) ∙ among-is c.args.name.now c.args.self.now.locals.now c.args.count
