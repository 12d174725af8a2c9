use Rattle.std.proofs.Common.{sym, ◌∙◌}
use Rattle.kt_names.specs.declared.fault.CheckFault.TheVariants.{BadType}
use Rattle.kt_names.specs.Views.{environment_of}
use Rattle.std.proofs.Common.{true}
use Rattle.kt_names.specs.Terms.{allocated, counted}
use Rattle.kt_names.proofs.Parts.{faulty}
use Rattle.kt_terms.proofs.WrittenCalls.{taken-some, taken-none}
use Rattle.kt_terms.proofs.memory.zeroed_first.Goals as goal

pub returns-in-None : goal.returns-in-None
returns-in-None c specs are =
    let env = environment_of c.args.env.now in
    faulty _ (BadType c.args.up) (taken-none c.args.up (λ a. allocated env c.args.at c.args.t.now true (counted env a.at c.args.up a.typed)) 0 c.args.arguments specs (sym c.in-None.is ∙ c.first_argument.ensures) are)

pub returns-in-Some : goal.returns-in-Some
returns-in-Some c specs are =
    let env = environment_of c.args.env.now in
    taken-some c.args.up (λ a. allocated env c.args.at c.args.t.now true (counted env a.at c.args.up a.typed)) c.so_many.result 0 c.args.arguments c.in-Some.x specs (sym c.in-Some.is ∙ c.first_argument.ensures) c.so_many.ensures are
