use Rattle.std.proofs.Common.{Ok, sym, ap}
use Rattle.kt_names.specs.Operands.{Value}
use Rattle.kt_names.specs.Rules.{one}
use Rattle.kt_names.specs.Views.{environment_of}
use Rattle.kt_terms.proofs.memory.one_element.Goals as goal

pub returns : goal.returns
returns c = c.allocated.ensures (Ok (one (environment_of c.args.env.now))) (ap (λ (v : Value). Ok v) (sym c.one.ensures))
