-- What the code's operations stand for.
use Rattle.kt_typing.specs.Rules.{Combined, combined}
use Rattle.kt_operators.specs.declared.arithmetic.Combined.{Combined as CombinedCode}

abbrev pub combined_of : CombinedCode → Combined
combined_of c = combined c.operation c.own
