use Rattle.std.proofs.Common.{eqb-true, sym}
use Rattle.kt_words.proofs.Keys.{other-empty}
use Rattle.kt_words.proofs.form.kind_of.Goals as goal

pub returns-then-is_empty : goal.returns-then-is_empty
returns-then-is_empty c = other-empty c.args.program c.args.word.now (eqb-true _ 0 (sym c.if-is_empty.ensures))
