use Rattle.std.proofs.Common.{◌≡◌, drop, false}
use Rattle.kt_lex.specs.Quotes.{body_length}
use Rattle.kt_lex.proofs.Scans.{shifted}
use Rattle.kt_lex.proofs.quote.body_length.Given as goal

-- the quote that closes is the one behind the bytes that were passed
abbrev pub invariant-loop-i : goal.invariant-loop-i
invariant-loop-i l = body_length l.quote false l.bytes ≡ shifted l.i (body_length l.quote l.escaped (drop l.i l.bytes))
