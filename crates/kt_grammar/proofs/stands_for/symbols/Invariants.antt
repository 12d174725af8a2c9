use Rattle.std.proofs.Common.{◌≡◌, take}
use Rattle.kt_grammar.specs.Symbols.{symbols_of_tokens}
use Rattle.kt_grammar.proofs.stands_for.symbols.Given as goal

abbrev pub invariant-loop-token : goal.invariant-loop-token
invariant-loop-token l = l.symbols.items ≡ symbols_of_tokens l.bytes (take l.token-index l.tokens)
