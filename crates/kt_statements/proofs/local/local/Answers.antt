use Rattle.std.proofs.Common.{ℕ, ap, ◌∙◌, subst}
use Rattle.kt_syntax.specs.Tree.{local_of}
use Rattle.kt_program.specs.Declarators.{declarator_place, held_fault, extent_fault, extent_of}
use Rattle.kt_program.specs.Scopes.{Place, declared}
use Rattle.kt_program.specs.Statements.{under, twice_fault, note_fault, initial}
use Rattle.kt_statements.specs.Judged.{Judges, lines_made}
use Rattle.kt_statements.specs.Scopes.{body_of, place_of}
use Rattle.kt_statements.proofs.Judged.{under-step}
use Rattle.kt_statements.proofs.local.local.Goals as goal

pub returns-clause-typed : goal.returns-clause-typed
returns-clause-typed c =
    let b = body_of c.args.body.now in
    let p = place_of c.args.scopes.now in
    let l = local_of c.args.l.now in
    let n = l.name.word in
    let value = c.in_ok-value.value in
    let behind = subst (λ (q : Place). Judges lines_made (initial b q p.next c.declarator_place-at.result l.initial) value) (c.in_ok-declare.ensures.place ∙ ap (declared p) c.as_bytes.ensures.bytes) c.in_ok-value.ensures in
    let j = initial b (declared p n) p.next (declarator_place l.pointer l.name) l.initial in
    let first = subst (λ (at : ℕ). Judges lines_made (initial b (declared p n) p.next at l.initial) value) c.declarator_place-at.ensures behind in
    let note = note_fault b p n l.name.at in
    let twice = twice_fault p n l.name.at in
    let extent = extent_fault b.environment (extent_of l.pointer) in
    let held = held_fault b.environment c.args.base.now l.pointer l.name in
    under-step lines_made (under extent (under twice (under note j))) c.held_fault-held.result held c.under-3.result c.under-4.result c.held_fault-held.ensures c.under-4.ensures
    (under-step lines_made (under twice (under note j)) c.extent_fault-extent.result extent c.under-2.result c.under-3.result c.extent_fault-extent.ensures c.under-3.ensures
    (under-step lines_made (under note j) c.twice_fault-twice.result twice c.under.result c.under-2.result c.twice_fault-twice.ensures c.under-2.ensures
    (under-step lines_made j c.note_fault-note.result note value c.under.result c.note_fault-note.ensures c.under.ensures first)))
