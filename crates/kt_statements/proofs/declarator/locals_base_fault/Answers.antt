use Rattle.std.proofs.Common.{map, sym, ◌∙◌}
use Rattle.kt_syntax.specs.Tree.{local_of}
use Rattle.kt_program.specs.Mentioned.{stars_of}
use Rattle.kt_statements.proofs.Declarators.{some-plain}
use Rattle.kt_statements.proofs.declarator.locals_base_fault.Goals as goal

pub returns : goal.returns
returns c = c.base_fault.ensures (map (λ l. stars_of l.pointer) (map local_of c.args.locals.now)) (some-plain c.args.locals.now ∙ sym c.is_one_plain.ensures)
