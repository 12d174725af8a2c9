use Rattle.std.proofs.Common.{◌≡◌, take}
use Rattle.std.specs.List.{fold}
use Rattle.kt_lex.specs.Tokens.{indents_after}
use Rattle.kt_lex.proofs.scan.Place.behind.Given as goal

abbrev pub invariant-loop-byte : goal.invariant-loop-byte
invariant-loop-byte l = l.indented ≡ fold indents_after l.self.indented (take l.byte-index l.bytes)
