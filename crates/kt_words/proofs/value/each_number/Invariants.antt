use Rattle.std.proofs.Common.{◌≡◌, map, drop}
use Rattle.kt_words.specs.Orders.{each_number}
use Rattle.kt_words.proofs.Saying.{in_front_all}
use Rattle.kt_words.proofs.value.each_number.Given as goal

-- the numbers read stand in front of those of the rest
abbrev pub invariant-loop-part : goal.invariant-loop-part
invariant-loop-part l = each_number (map (λ part. part.now) l.parts) ≡ in_front_all l.numbers.items (each_number (map (λ part. part.now) (drop l.part-index l.parts)))
