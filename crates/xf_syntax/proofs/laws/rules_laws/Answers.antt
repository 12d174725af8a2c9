use Rattle.kt_grammar.proofs.ItemTexts.{text-read, one-tree}
use Rattle.xf_syntax.specs.Spelling.{rules}
use Rattle.xf_syntax.specs.Reading.{rules_at}
use Rattle.xf_syntax.proofs.RulesBack.{rules-back}
use Rattle.xf_syntax.proofs.laws.rules_laws.Goals as goal

pub returns-clause-read_back : goal.returns-clause-read_back
returns-clause-read_back c = rules-back c.expr_laws.ensures.read_back c.expr_laws.ensures.begins

pub returns-clause-read : goal.returns-clause-read
returns-clause-read c = text-read rules rules_at (rules-back c.expr_laws.ensures.read_back c.expr_laws.ensures.begins)

pub returns-clause-one_tree : goal.returns-clause-one_tree
returns-clause-one_tree c = one-tree rules rules_at (rules-back c.expr_laws.ensures.read_back c.expr_laws.ensures.begins)
