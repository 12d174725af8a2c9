use Rattle.std.proofs.Common.{◌≡◌, ◌++◌, drop}
use Rattle.kt_words.specs.Orders.{values_of}
use Rattle.kt_words.specs.Reading.{listed, told}
use Rattle.kt_words.proofs.value.value_of.Given as goal

-- the value found and those of the rest are all
abbrev pub invariant-loop-value : goal.invariant-loop-value
invariant-loop-value l = values_of l.name (told l.values) ≡ listed l.found ++ values_of l.name (told (drop l.value-index l.values))
