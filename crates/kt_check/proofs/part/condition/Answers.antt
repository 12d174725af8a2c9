use Rattle.std.proofs.Common.{subst}
use Rattle.kt_grammar.specs.Tree.{term_of}
use Rattle.kt_tree.specs.Tree.{expression_of}
use Rattle.kt_names.specs.Environment.{Environment}
use Rattle.kt_names.specs.Judges.{Judges}
use Rattle.kt_names.specs.Statements.{condition}
use Rattle.kt_check.proofs.part.condition.Goals as goal

pub returns : goal.returns
returns c = subst (λ (env : Environment). Judges expression_of c.condition_in.result (condition env (term_of c.args.e.now))) c.here.ensures c.condition_in.ensures
