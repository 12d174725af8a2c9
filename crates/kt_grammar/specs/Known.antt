-- Each token of a file stands for something.
use Rattle.std.specs.Prelude.{◌≡◌, ℕ, List, Ok}
use Rattle.std.specs.List.{AllByRecursion}
use Rattle.kt_lex.specs.declared.token.Token.{Token}
use Rattle.kt_lex.specs.Tokens.{tokens_of}
use Rattle.kt_grammar.specs.declared.symbol.Symbol.{Symbol}
use Rattle.kt_grammar.specs.declared.symbol.Symbol.TheVariants as symbol
use Rattle.kt_grammar.specs.Symbols.{symbols_of_tokens}

-- a symbol that some spelling of a token stands for
abbrev pub IsKnown : Symbol → Type 0
IsKnown (symbol.Other at) = ⊥
IsKnown other = Unit {0}

-- no token of a file stands for `Other`
abbrev pub TokensAreKnown : Type 0
TokensAreKnown = (bytes : List ℕ) (tokens : List Token) → tokens_of bytes ≡ Ok tokens → AllByRecursion IsKnown (symbols_of_tokens bytes tokens)
