use Rattle.std.proofs.Common.{◌≡◌}
use Rattle.kt_typing.specs.Environment.{starred}
use Rattle.kt_operands.specs.Views.{environment_of}
use Rattle.kt_declarations.proofs.base.starred.Given as goal

abbrev pub invariant-loop-star : goal.invariant-loop-star
invariant-loop-star l = l.whole ≡ starred (environment_of l.env) l._star l.fn.ty
