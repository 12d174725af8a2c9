use Rattle.std.proofs.Common.{◌≡◌, ◌++◌, map, drop}
use Rattle.kt_check.specs.Shapes.{one_field}
use Rattle.kt_check.proofs.fields.push_fields.Given as goal

abbrev pub invariant-loop-declarator : goal.invariant-loop-declarator
invariant-loop-declarator l = map one_field l.fields.items ++ map (λ d. record { base = l.more.base; declarator = d }) (drop l.declarator-index l.more.declarators) ≡ map one_field l.fn.fields.items ++ map (λ d. record { base = l.more.base; declarator = d }) l.more.declarators
