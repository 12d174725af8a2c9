use Rattle.std.proofs.Common.{◌≡◌, drop}
use Rattle.std.specs.List.{list_all}
use Rattle.kt_check.specs.Named.{is_named_field}
use Rattle.kt_check.proofs.named.fields.Given as goal

abbrev pub invariant-loop-declarator : goal.invariant-loop-declarator
invariant-loop-declarator l = list_all is_named_field (drop l.declarator-index l.declarators) ≡ list_all is_named_field l.declarators
