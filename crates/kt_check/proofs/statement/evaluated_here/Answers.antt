use Rattle.std.proofs.Common.{Ok}
use Rattle.std.specs.Option.{option_map}
use Rattle.kt_grammar.specs.Tree.{term_of}
use Rattle.kt_tree.specs.Tree.{Expression, Evaluated, Repeated, expression_of, statement_of}
use Rattle.kt_names.specs.Statements.{here, condition, effect_of, returned}
use Rattle.kt_names.specs.Scopes.{state_of, body_of}
use Rattle.kt_names.proofs.Parts.{fails, judges-follows}
use Rattle.kt_check.proofs.Entries.{paired}
use Rattle.kt_check.proofs.Blocks.{made-beside}
use Rattle.kt_check.proofs.statement.evaluated_here.Goals as goal

pub returns : goal.returns
returns c =
    made-beside (effect_of (here (body_of c.args.body.now) (state_of c.args.scopes.now)) (term_of c.args.e.now)) (λ v. Evaluated v) c.args.scopes.now.next c.evaluated.result c.evaluated.ensures
