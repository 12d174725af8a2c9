use Rattle.std.proofs.Common.{◌≡◌, drop, false}
use Rattle.std.specs.Option.{is_some}
use Rattle.kt_lex.specs.Quotes.{bytes_in}
use Rattle.kt_lex.proofs.quote.is_string_body.Given as goal

-- the whole is a string's exactly if the rest is
abbrev pub invariant-loop-byte : goal.invariant-loop-byte
invariant-loop-byte l = is_some (bytes_in false l.body) ≡ is_some (bytes_in l.escaped (drop l.byte-index l.body))
