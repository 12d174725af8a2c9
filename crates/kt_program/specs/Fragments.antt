-- Short names for syntax trees of worked rows.
use Rattle.std.specs.Prelude.{ℕ, false, List, Option, Some, None}
use Rattle.kt_lex.specs.declared.number.Number.{Number}
use Rattle.kt_grammar.specs.Tree.{Term}
use Rattle.kt_syntax.specs.declared.tree.Declarator.{Declarator}
use Rattle.kt_syntax.specs.declared.tree.Pointer.{Pointer}
use Rattle.kt_syntax.specs.Tree.{Local, Statement, Compound, External, Tree, statements_of}
use Rattle.kt_typing.specs.Rows.{name}

abbrev pub plain : ℕ → Number
plain n = record { value = n; long = false; hexadecimal = false }

abbrev pub pointer : ℕ → ℕ → Option Pointer
pointer at stars = Some (record { stars = record { at = at; count = stars }; extent = None })

abbrev pub local : ℕ → List ℕ → Option Term → Local
local at word initial = record { pointer = None; name = name at word; initial = initial }

abbrev pub declarator : Option Pointer → ℕ → List ℕ → Declarator
declarator p at word = record { pointer = p; name = name at word; count = None }

abbrev pub inner : List Statement → Statement
inner es = Compound (statements_of es)

abbrev pub tree : List External → ℕ → Tree
tree xs length = record { externals = xs; length = length }
