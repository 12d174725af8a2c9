-- What is judged inside of a function: its parameters, and its body, which are one scope.
use Rattle.std.specs.Prelude.{ℕ, Option, Some, None}
use Rattle.kt_syntax.specs.Tree.{Definition, Routine}
use Rattle.kt_program.specs.Functions.{nowhere, parameters, body_judged}
use Rattle.kt_program.specs.Judgments.{Judgment, Held, NoMore, And}
use Rattle.kt_program.specs.Made.{joined, block}
use Rattle.kt_program.specs.Scopes.{Body, Place}
use Rattle.kt_program.specs.Statements.{absent, entries, locals_among}
use Rattle.kt_statements.specs.Scopes.{behind_entries}

abbrev pub locals_of_body : Option Definition → ℕ
locals_of_body None = 0
locals_of_body (Some d) = locals_among d.entries

-- the body at a place, and the place behind it
abbrev pub body_at : Body → Place → Option Definition → Judgment
body_at b p None = absent
body_at b p (Some d) = Held None (entries b p d.entries) block

abbrev pub behind_body : Place → Option Definition → Place
behind_body p None = p
behind_body p (Some d) = behind_entries p d.entries

abbrev pub inside : Body → Routine → Judgment
inside b r = Held None (And (Held None (parameters b nowhere r.parameters) joined) (And (body_judged b r.parameters r.body) NoMore)) joined
