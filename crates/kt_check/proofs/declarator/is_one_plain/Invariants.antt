use Rattle.std.proofs.Common.{◌≡◌, drop}
use Rattle.kt_check.proofs.Declarations.{plain_in}
use Rattle.kt_check.proofs.declarator.is_one_plain.Given as goal

abbrev pub invariant-loop-declarator : goal.invariant-loop-declarator
invariant-loop-declarator l = plain_in (drop l.declarator-index l.declarators) ≡ plain_in l.declarators
