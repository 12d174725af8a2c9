-- What the tokens of a text stand for.
use Rattle.std.specs.Prelude.{ℕ, ◌-◌, ◌==◌, ◌&&◌, List, [], ◌∷◌, take, drop, map, codes, Option, Some, None, if◌then◌else◌}
use Rattle.std.specs.Str.{bytes_eq}
use Rattle.kt_lex.specs.declared.token.Kind.{Kind}
use Rattle.kt_lex.specs.declared.token.Kind.TheVariants as kind
use Rattle.kt_lex.specs.declared.token.Token.{Token}
use Rattle.kt_lex.specs.Numbers.{number_value}
use Rattle.kt_lex.specs.Quotes.{character_value, string_value}
use Rattle.kt_grammar.specs.declared.keyword.Keyword.{Keyword}
use Rattle.kt_grammar.specs.declared.keyword.Keyword.TheVariants as keyword
use Rattle.kt_grammar.specs.declared.keyword.RuleWord.{RuleWord}
use Rattle.kt_grammar.specs.declared.keyword.RuleWord.TheVariants as rule
use Rattle.kt_grammar.specs.declared.sign.Sign.{Sign}
use Rattle.kt_grammar.specs.declared.sign.Sign.TheVariants as sign
use Rattle.kt_grammar.specs.declared.symbol.Symbol.{Symbol}
use Rattle.kt_grammar.specs.declared.symbol.Symbol.TheVariants as symbol
use Rattle.kt_grammar.specs.Identifiers.{is_identifier}

-- the bytes of a token
unfoldable pub spelling_of : List ℕ → Token → List ℕ
spelling_of bytes token = take (token.end - token.at) (drop token.at bytes)

-- the first, or else the other
abbrev pub or_else : {A : Type 0} → Option A → Option A → Option A
or_else None other = other
or_else (Some x) other = Some x

-- ---- keywords (ISO/IEC 9899:2011, 6.4.1, and those of pthreads, stdio.h and updates)

unfoldable pub type_keyword : List ℕ → Option Keyword
type_keyword word =
    if bytes_eq (codes "char") word then Some keyword.Char
    else (if bytes_eq (codes "int") word then Some keyword.Int
    else (if bytes_eq (codes "long") word then Some keyword.Long
    else (if bytes_eq (codes "void") word then Some keyword.Void
    else (if bytes_eq (codes "struct") word then Some keyword.Struct
    else (if bytes_eq (codes "const") word then Some keyword.Const
    else (if bytes_eq (codes "static") word then Some keyword.Static
    else None))))))

unfoldable pub statement_keyword : List ℕ → Option Keyword
statement_keyword word =
    if bytes_eq (codes "if") word then Some keyword.If
    else (if bytes_eq (codes "else") word then Some keyword.Else
    else (if bytes_eq (codes "while") word then Some keyword.While
    else (if bytes_eq (codes "do") word then Some keyword.Do
    else (if bytes_eq (codes "for") word then Some keyword.For
    else (if bytes_eq (codes "return") word then Some keyword.Return
    else (if bytes_eq (codes "break") word then Some keyword.Break
    else (if bytes_eq (codes "continue") word then Some keyword.Continue
    else None)))))))

unfoldable pub other_keyword : List ℕ → Option Keyword
other_keyword word =
    if bytes_eq (codes "sizeof") word then Some keyword.SizeOf
    else (if bytes_eq (codes "pthread_mutex_t") word then Some keyword.Mutex
    else (if bytes_eq (codes "NULL") word then Some keyword.Null
    else (if bytes_eq (codes "EOF") word then Some keyword.Eof
    else (if bytes_eq (codes "PTHREAD_MUTEX_INITIALIZER") word then Some keyword.MutexInitializer
    else (if bytes_eq (codes "E_NOTELOCALS") word then Some keyword.NoteLocals
    else (if bytes_eq (codes "E_PTRARRAY") word then Some keyword.PointerArray
    else (if bytes_eq (codes "INIT") word then Some keyword.Init
    else None)))))))

unfoldable pub keyword_of : List ℕ → Option Keyword
keyword_of word = or_else (type_keyword word) (or_else (statement_keyword word) (other_keyword word))

unfoldable pub rule_word_of : List ℕ → Option RuleWord
rule_word_of word =
    if bytes_eq (codes "$in") word then Some rule.In
    else (if bytes_eq (codes "$out") word then Some rule.Out
    else (if bytes_eq (codes "$base") word then Some rule.Base
    else (if bytes_eq (codes "$oldsym") word then Some rule.OldSymbol
    else (if bytes_eq (codes "$xform") word then Some rule.Transform
    else (if bytes_eq (codes "$new") word then Some rule.New
    else None)))))

-- ---- signs (6.4.6; `::` is of rule files)

-- `{ } ( ) [ ] ; , .`
unfoldable pub bracket_of : ℕ → Option Sign
bracket_of b =
    if b == 123 then Some sign.OpenBrace
    else (if b == 125 then Some sign.CloseBrace
    else (if b == 40 then Some sign.OpenParenthesis
    else (if b == 41 then Some sign.CloseParenthesis
    else (if b == 91 then Some sign.OpenBracket
    else (if b == 93 then Some sign.CloseBracket
    else (if b == 59 then Some sign.Semicolon
    else (if b == 44 then Some sign.Comma
    else (if b == 46 then Some sign.Dot
    else None))))))))

-- `: ? = < > + - * / % ! &`
unfoldable pub operator_of : ℕ → Option Sign
operator_of b =
    if b == 58 then Some sign.Colon
    else (if b == 63 then Some sign.Question
    else (if b == 61 then Some sign.Assign
    else (if b == 60 then Some sign.Less
    else (if b == 62 then Some sign.Greater
    else (if b == 43 then Some sign.Plus
    else (if b == 45 then Some sign.Minus
    else (if b == 42 then Some sign.Star
    else (if b == 47 then Some sign.Slash
    else (if b == 37 then Some sign.Percent
    else (if b == 33 then Some sign.Not
    else (if b == 38 then Some sign.And
    else None)))))))))))

-- what this byte and `=` are: `== != <= >= += -= *= /= %=`
unfoldable pub before_equal : ℕ → Option Sign
before_equal b =
    if b == 61 then Some sign.Equal
    else (if b == 33 then Some sign.NotEqual
    else (if b == 60 then Some sign.LessEqual
    else (if b == 62 then Some sign.GreaterEqual
    else (if b == 43 then Some sign.PlusAssign
    else (if b == 45 then Some sign.MinusAssign
    else (if b == 42 then Some sign.StarAssign
    else (if b == 47 then Some sign.SlashAssign
    else (if b == 37 then Some sign.PercentAssign
    else None))))))))

-- what two of this byte are: `:: ++ -- && ||`
unfoldable pub doubled : ℕ → Option Sign
doubled b =
    if b == 58 then Some sign.DoubleColon
    else (if b == 43 then Some sign.PlusPlus
    else (if b == 45 then Some sign.MinusMinus
    else (if b == 38 then Some sign.AndAnd
    else (if b == 124 then Some sign.OrOr
    else None))))

unfoldable pub sign_of_two : ℕ → ℕ → Option Sign
sign_of_two a b =
    if b == 61 then before_equal a
    else (if a == b then doubled a
    else (if (a == 45) && (b == 62) then Some sign.Arrow
    else None))

unfoldable pub sign_of : List ℕ → Option Sign
sign_of [] = None
sign_of (a ∷ []) = or_else (bracket_of a) (operator_of a)
sign_of (a ∷ b ∷ []) = sign_of_two a b
sign_of (a ∷ b ∷ c ∷ rest) = None

-- ---- symbols

-- what was found as a symbol; none stands for a spelling that no token of its kind has
abbrev pub or_other : {A : Type 0} → ℕ → (ℕ → A → Symbol) → Option A → Symbol
or_other at as_symbol None = symbol.Other at
or_other at as_symbol (Some x) = as_symbol at x

-- what a spelling of a kind stands for
unfoldable pub spelled : ℕ → Kind → List ℕ → Symbol
spelled at kind.Identifier word = if is_identifier word then symbol.Name at word else symbol.Other at
spelled at kind.Keyword word = or_other at symbol.Keyword (keyword_of word)
spelled at kind.Number word = or_other at symbol.Number (number_value word)
spelled at kind.Character word = or_other at symbol.Character (character_value word)
spelled at kind.Text word = or_other at symbol.Text (string_value word)
spelled at kind.RuleWord word = or_other at symbol.RuleWord (rule_word_of word)
spelled at kind.Sign word = or_other at symbol.Sign (sign_of word)

-- what a token of a text stands for
unfoldable pub symbol_of : List ℕ → Token → Symbol
symbol_of bytes token = spelled token.at token.kind (spelling_of bytes token)

abbrev pub symbols_of_tokens : List ℕ → List Token → List Symbol
symbols_of_tokens bytes tokens = map (symbol_of bytes) tokens
