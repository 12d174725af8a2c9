-- Entries of blocks and the parts of `for`, one behind another.
use Rattle.std.specs.Prelude.{ℕ, Bool, true, List, [], ◌∷◌, Ok, Option, Some, None}
use Rattle.kt_grammar.specs.Tree.{Term}
use Rattle.kt_syntax.specs.Tree.{Declaration, Start, Statement as Syntax}
use Rattle.kt_tree.specs.Tree.{Expression, Statement, Evaluated, Conditional}
use Rattle.kt_names.specs.Checked.{Checked, and_then}
use Rattle.kt_names.specs.Statements.{Body, State, here, effect_of, returned, locals, statement}
use Rattle.kt_names.specs.Scopes.{Heading, declared_in, head_in, for_of}

-- a statement alone, and the scope behind it
abbrev pub single : State → Statement × ℕ → Checked (List Statement × State)
single s x = Ok (x.0 ∷ [], record s { next = x.1 })

abbrev pub single_in : Body → Bool → State → Syntax → Checked (List Statement × State)
single_in body in_loop s e = and_then (statement body in_loop s e) (single s)

-- one entry of a block, and the scope behind it
abbrev pub entry_in : Body → Bool → State → Syntax → Checked (List Statement × State)
entry_in body in_loop s e = elim (declared_in e) as (λ _. Checked (List Statement × State)) [ None ↦ single_in body in_loop s e | (Some d) ↦ locals body s d ]

-- a `for` in its scope
abbrev pub for_in : Body → State → Start → Option Term → Option Term → Syntax → Checked (Statement × ℕ)
for_in body s first test step a = and_then (head_in body s first test step) (λ h. and_then (statement body true h.1 a) (λ x. Ok (for_of h.0 x.0, x.1)))

-- an expression as a statement
abbrev pub evaluated_in : Body → State → Term → Checked (Statement × ℕ)
evaluated_in body s e = and_then (effect_of (here body s) e) (λ v. Ok (Evaluated v, s.next))

-- a return
abbrev pub returned_in : Body → State → ℕ → Option Term → Checked (Statement × ℕ)
returned_in body s at e = and_then (returned body s at e) (λ r. Ok (r, s.next))

-- a statement behind a condition
abbrev pub with_test : Expression → Checked (Statement × ℕ) → Checked ((Expression × Statement) × ℕ)
with_test test c = and_then c (λ x. Ok ((test, x.0), x.1))

-- what stands behind `else`
abbrev pub with_other : Expression × Statement → Checked (Statement × ℕ) → Checked (Statement × ℕ)
with_other p c = and_then c (λ y. Ok (Conditional p.0 p.1 y.0, y.1))

-- the body of a `for`, behind its head
abbrev pub with_body : Heading → Checked (Statement × ℕ) → Checked (Statement × ℕ)
with_body h c = and_then c (λ x. Ok (for_of h x.0, x.1))
