use Rattle.std.proofs.Common.{ap, ◌∙◌}
use Rattle.kt_tree.specs.Tree.{expressions_of}
use Rattle.kt_calls.proofs.Lists.{types-apart, trees-apart}
use Rattle.kt_calls.proofs.values.set_apart.Goals as goal

pub returns-in-Ok : goal.returns-in-Ok
returns-in-Ok c =
    (c.in-Ok.ensures.0 ∙ types-apart c.args.values.items, ap expressions_of c.in-Ok.ensures.1 ∙ trees-apart c.args.values.items)
