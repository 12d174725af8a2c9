use Rattle.std.proofs.Common.{take, ap, sym, arith, ◌∙◌}
use Rattle.std.proofs.lemmas.List.{take-take, take_all}
use Rattle.kt_names.proofs.in_scope.InScope.truncate.Goals as goal

pub loop-self-preserved : goal.loop-self-preserved
loop-self-preserved c = ap (take c.args.count) c.pop.ensures ∙ take-take c.args.count _ c.loop-self.self (omega arith) ∙ c.loop-self.invariant

pub returns : goal.returns
returns c = sym (take_all c.args.count c.loop-self.self (omega arith)) ∙ c.loop-self.invariant
