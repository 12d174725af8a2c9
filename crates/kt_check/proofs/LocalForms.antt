-- What holds of each local as it is declared holds of all locals of a function.
use Rattle.std.proofs.Common.{ℕ, List, [], ◌∷◌, map, Option, Some, None}
use Rattle.std.specs.List.{AllByRecursion}
use Rattle.kt_grammar.specs.declared.tree.Base.{Base}
use Rattle.kt_grammar.specs.declared.tree.Name.{Name}
use Rattle.kt_syntax.specs.declared.tree.Pointer.{Pointer}
use Rattle.kt_syntax.specs.declared.tree.Parameter.{Parameter}
use Rattle.kt_syntax.specs.Tree.{Local, Start, NoStart, Declares, Evaluates, Statement, Declared, Compound, Empty, Evaluated, Returned, Broken, Continued, Conditional, Alternative, Looped, Repeated, Counted, Statements, Nothing, More, Definition, Routine}
use Rattle.kt_names.specs.Uses.{where_there}
use Rattle.kt_names.specs.Tables.{DeclaredLocal, declared_type, parameter_local, start_locals, statement_locals, block_locals, locals_of}
use Rattle.kt_check.proofs.FieldCells.{all-both}

module _ (names : List (List ℕ)) (Q : DeclaredLocal → Type 0) (each : (n : Name) (b : Base) (p : Option Pointer) → Q (record { name = n.word; ty = declared_type names b p; base = b; pointer = p })) where
  abbrev Every : List DeclaredLocal → Type 0
  Every ls = AllByRecursion Q ls

  locals-every : (b : Base) (ls : List Local) → Every (map (λ l. record { name = l.name.word; ty = declared_type names b l.pointer; base = b; pointer = l.pointer }) ls)
  locals-every b [] = tt
  locals-every b (l ∷ ls) = (each l.name b l.pointer, locals-every b ls)

  start-every : (x : Start) → Every (start_locals names x)
  start-every NoStart = tt
  start-every (Declares x) = locals-every x.base x.locals
  start-every (Evaluates e) = tt

  mutual
    statement-every : (s : Statement) → Every (statement_locals names s)
    statement-every (Declared x) = locals-every x.base x.locals
    statement-every (Compound b) = block-every b
    statement-every Empty = tt
    statement-every (Evaluated e) = tt
    statement-every (Returned at e) = tt
    statement-every (Broken at) = tt
    statement-every (Continued at) = tt
    statement-every (Conditional c s) = statement-every s
    statement-every (Alternative c s t) = all-both Q (statement_locals names s) (statement_locals names t) (statement-every s) (statement-every t)
    statement-every (Looped c s) = statement-every s
    statement-every (Repeated s c) = statement-every s
    statement-every (Counted start test step s) = all-both Q (start_locals names start) (statement_locals names s) (start-every start) (statement-every s)

    block-every : (b : Statements) → Every (block_locals names b)
    block-every Nothing = tt
    block-every (More s rest) = all-both Q (statement_locals names s) (block_locals names rest) (statement-every s) (block-every rest)

  parameters-every : (ps : List Parameter) → Every (map (parameter_local names) ps)
  parameters-every [] = tt
  parameters-every (p ∷ ps) = (each p.name p.base p.pointer, parameters-every ps)

  body-every : (b : Option Definition) → Every (where_there (λ d. block_locals names d.entries) b)
  body-every None = tt
  body-every (Some b) = block-every b.entries

  pub all-locals : (r : Routine) → Every (locals_of names r)
  all-locals r = all-both Q (map (parameter_local names) r.parameters) (where_there (λ d. block_locals names d.entries) r.body) (parameters-every r.parameters) (body-every r.body)
