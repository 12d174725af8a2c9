use Rattle.std.proofs.Common.{subst}
use Rattle.kt_grammar.specs.Tree.{term_of}
use Rattle.kt_tree.specs.Tree.{expression_of}
use Rattle.kt_names.specs.Environment.{Environment}
use Rattle.kt_names.specs.Judges.{Judges}
use Rattle.kt_names.specs.Statements.{effect_of}
use Rattle.kt_check.proofs.part.effect_of.Goals as goal

pub returns : goal.returns
returns c = subst (λ (env : Environment). Judges expression_of c.effect_in.result (effect_of env (term_of c.args.e.now))) c.here.ensures c.effect_in.ensures
