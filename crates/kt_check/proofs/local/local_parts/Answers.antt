use Rattle.std.proofs.Common.{ap, ◌∙◌}
use Rattle.std.specs.Option.{option_map}
use Rattle.kt_grammar.specs.Tree.{term_of}
use Rattle.kt_tree.specs.declared.stmt.Stmt.{Stmt}
use Rattle.kt_tree.specs.Tree.{statement_of}
use Rattle.kt_names.specs.Checked.{both}
use Rattle.kt_names.specs.Judges.{Judges}
use Rattle.kt_names.specs.Types.{ctype}
use Rattle.kt_names.specs.Uses.{stars_of}
use Rattle.kt_names.specs.Statements.{here, declared, declarator_place, held, pointer_outside, new_name, initial}
use Rattle.kt_names.specs.Scopes.{state_of, body_of}
use Rattle.kt_names.proofs.Parts.{judges-pair}
use Rattle.kt_check.proofs.LocalParts.{initial-by}
use Rattle.kt_check.proofs.local.local_parts.Goals as goal

abbrev unit : Unit {0} → Unit {0}
unit x = tt

pub returns-clause-judged : goal.returns-clause-judged
returns-clause-judged c =
    let body = body_of c.args.body.now in
    let s = state_of c.args.scopes.now in
    let l = c.args.l.now in
    let env = here body s in
    let one = held env c.args.base.now l.pointer l.name in
    let two = pointer_outside env l.pointer in
    let three = new_name body s l.name in
    let t = ctype body.environment.names c.args.base.now (stars_of l.pointer) in
    let up = declarator_place l.pointer l.name in
    let four = initial body (declared s l.name.word) s.next t up (option_map term_of l.initial) in
    let value : Judges statement_of c.initial-value.result four =
    initial-by body _ (declared s l.name.word) s.next _ t _ up (option_map term_of l.initial) c.initial-value.result
    (c.in_ok-declare.ensures.declared ∙ ap (declared s) c.as_bytes.ensures.bytes)
    (c.in_ok-t.ensures.ok ∙ ap (ctype body.environment.names c.args.base.now) c.stars_of.ensures)
    c.declarator_place-up.ensures c.initial-value.ensures in
    let last = judges-pair unit statement_of c.new_name-is_new.result c.initial-value.result c.both.result three four c.both.ensures c.new_name-is_new.ensures value in
    let middle = judges-pair unit (λ (x : Unit {0} × Stmt). (unit x.0, statement_of x.1)) c.extent_here-pointer.result c.both.result c.both-2.result two (both three four) c.both-2.ensures c.extent_here-pointer.ensures last in
    judges-pair unit (λ (x : Unit {0} × (Unit {0} × Stmt)). (unit x.0, (unit x.1.0, statement_of x.1.1))) c.held_here-is_held.result c.both-2.result c.both-3.result one (both two (both three four)) c.both-3.ensures
    c.held_here-is_held.ensures middle
