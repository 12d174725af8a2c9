use Rattle.std.proofs.Common.{◌≡◌, ◌++◌, length}
use Rattle.std.specs.Option.{option_map}
use Rattle.kt_names.specs.Formats.{format_of}
use Rattle.kt_names.proofs.format.format_of.Given as goal

abbrev pub decreases-loop-rest : goal.decreases-loop-rest
decreases-loop-rest l = length l.rest

abbrev pub invariant-loop-rest : goal.invariant-loop-rest
invariant-loop-rest l = option_map (λ cs. l.pieces ++ cs) (format_of l.rest) ≡ format_of l.format
