use Rattle.std.proofs.Common.{◌≡◌, ◌++◌, drop, false}
use Rattle.std.specs.Option.{option_map}
use Rattle.kt_lex.specs.Quotes.{bytes_in}
use Rattle.kt_lex.proofs.quote.bytes_in.Given as goal

-- what is read stands before what the rest stands for
abbrev pub invariant-loop-byte : goal.invariant-loop-byte
invariant-loop-byte l =
    bytes_in false l.body ≡ option_map (λ more. l.bytes.items ++ more) (bytes_in l.escaped (drop l.byte-index l.body))
