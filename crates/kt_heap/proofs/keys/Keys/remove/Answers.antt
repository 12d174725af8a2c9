use Rattle.std.proofs.Common.{arith}
use Rattle.std.proofs.lemmas.List.{length-set}
use Rattle.kt_heap.specs.declared.keys.Key.TheVariants.{Used, Free}
use Rattle.kt_heap.proofs.Chains.{get_within, put_set, chained_free, used_there}
use Rattle.kt_heap.proofs.keys.Keys.remove.Goals as goal

pub invariant_of-self : goal.invariant_of-self
invariant_of-self c =
    let keys = c.self.inside.items.items in
    let there = used_there keys c.args.key (rw (← c.self.view_is) at c.requires) in
    (chained_free keys c.self.inside.first c.args.key there.0 there.1 c.self.invariant.0, omega (arith, length-set keys c.args.key (Free c.self.inside.first), c.self.invariant.1))

pub returns-clause-put : goal.returns-clause-put
returns-clause-put c =
    let keys = c.self.inside.items.items in
    let there = used_there keys c.args.key (rw (← c.self.view_is) at c.requires) in
    rw (← c.self.view_is) (put_set keys c.args.key (Free c.self.inside.first) (get_within keys c.args.key (Used there.0) there.1))
