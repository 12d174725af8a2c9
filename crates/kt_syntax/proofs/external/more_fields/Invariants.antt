use Rattle.std.proofs.Common.{◌≤◌, [], ◌∷◌, length}
use Rattle.kt_grammar.specs.Cursor.{begins_sign, until_at}
use Rattle.kt_syntax.specs.Reading.{fields_at}
use Rattle.kt_grammar.specs.declared.sign.Sign.TheVariants as signs
use Rattle.kt_syntax.proofs.Loops.{IsUnderWay}
use Rattle.kt_syntax.proofs.external.more_fields.Given as goal

abbrev pub invariant-loop-alloc : goal.invariant-loop-alloc
invariant-loop-alloc l = IsUnderWay (until_at (begins_sign signs.CloseBrace) fields_at) (until_at (begins_sign signs.CloseBrace) fields_at (length l.symbols) (l.fn.first ∷ []) l.symbols) l.done l.rest × (length l.rest ≤ length l.symbols)

abbrev pub decreases-loop-alloc : goal.decreases-loop-alloc
decreases-loop-alloc l = length l.rest
