-- What the code's lists of uses and strings stand for.
use Rattle.std.specs.Prelude.{ℕ, List, [], ◌∷◌, map, Option, Some, None}
use Rattle.kt_grammar.specs.declared.tree.Base.TheVariants as base
use Rattle.kt_grammar.specs.declared.tree.Name.{Name}
use Rattle.kt_grammar.specs.declared.tree.Expr.{Expr}
use Rattle.kt_grammar.specs.declared.tree.Expr.TheVariants as expr
use Rattle.kt_grammar.specs.Tree.{term_of}
use Rattle.kt_names.specs.declared.uses.Use.{Use as UseCode}
use Rattle.kt_names.specs.declared.uses.Use.TheVariants as named
use Rattle.kt_names.specs.declared.written.Written.{Written as WrittenCode}
use Rattle.kt_names.specs.declared.written.Written.TheVariants as written
use Rattle.kt_names.specs.Builtins.{builtin_named}
use Rattle.kt_names.specs.Uses.{Use, Starred, Arrayed}
use Rattle.kt_names.specs.Tables.{Written, Literal, Updates, Asks, first_written, term_written}

abbrev pub use_of : UseCode → Use
use_of named.Text = Starred base.Char 1
use_of (named.Starred b stars) = Starred b.now stars
use_of (named.Arrayed b stars n) = Arrayed b.now stars n

abbrev pub uses_in : List UseCode → List Use
uses_in us = map use_of us

abbrev pub written_as : WrittenCode → Written
written_as (written.Literal at bytes) = Literal at bytes.now
written_as (written.Updates bytes) = Updates bytes.now
written_as (written.Asks bytes) = Asks bytes.now

abbrev pub written_in : List WrittenCode → List Written
written_in ws = map written_as ws

-- the string that an expression is, with its place
abbrev pub text_in : Expr → Option (ℕ × List ℕ)
text_in (expr.Text at bytes) = Some (at, bytes)
text_in _ = None

-- what the first argument of a call writes
abbrev pub first_argument : Name → Expr → List Written
first_argument n e = elim (text_in e) as (λ _. List Written) [ None ↦ term_written (term_of e) | (Some t) ↦ first_written (builtin_named n.word) t.0 t.1 ]
