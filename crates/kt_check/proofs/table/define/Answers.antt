use Rattle.std.proofs.Common.{◌≡◌, ◌<◌, length, slice_get, sym, ap, ◌∙◌, subst}
use Rattle.kt_types.specs.Table.{Table, with_definition}
use Rattle.kt_types.specs.declared.faults.TypeFault.TheVariants.{NoMemory}
use Rattle.kt_check.specs.Built.{reach}
use Rattle.kt_check.proofs.Interning.{reached, fields-there, definition-there, only-memory}
use Rattle.kt_check.proofs.table.define.Goals as goal

pub intern-requires-clause-fit : goal.intern-requires-clause-fit
intern-requires-clause-fit c =
    let e : c.reach-count.result ≡ reach (length c.args.table.now.types) c.args.defined.now.fields.items = cc in
    λ p t low high at. c.requires.fit.1 p t low (subst (λ n. p < n) e high) at

pub define_struct-requires-clause-places : goal.define_struct-requires-clause-places
define_struct-requires-clause-places c =
    let old = c.args.table.now in
    let d = c.args.defined.now in
    let e : c.reach-count.result ≡ reach (length old.types) d.fields.items = cc in
    let is = reached c.args.types.now old.structs old.defined (length old.types) c.reach-count.result d.fields.items c.intern.new.table e c.in_ok-intern.ensures in
    λ n f at.
    fields-there c.args.types.now old.structs old.defined (length old.types) d.fields.items c.intern.new.table c.requires.fit.0 is n f
    (sym (ap (λ l. slice_get l n) c.in_ok-fields.ensures) ∙ at)

pub unreachable-requires : goal.unreachable-requires
unreachable-requires c =
    let old = c.args.table.now in
    let d = c.args.defined.now in
    let e : c.reach-count.result ≡ reach (length old.types) d.fields.items = cc in
    let is = reached c.args.types.now old.structs old.defined (length old.types) c.reach-count.result d.fields.items c.intern.new.table e c.in_ok-intern.ensures in
    let can = definition-there c.args.types.now old.structs old.defined (length old.types) d.number d.fields.items c.in_ok-fields.fields.items c.intern.new.table is c.in_ok-fields.ensures c.requires.fit.3 in
    let memory : c.in-Err-Twice.field-0 ≡ NoMemory = only-memory c.intern.new.table d.number c.in_ok-fields.fields.items c.in-Err-Twice.field-0 can c.in-Err-Twice.ensures.fault in
    let other = c.in-Err-Twice.field-0-is in
    cc

pub unreachable-requires-in-Err-Incomplete : goal.unreachable-requires-in-Err-Incomplete
unreachable-requires-in-Err-Incomplete c =
    let old = c.args.table.now in
    let d = c.args.defined.now in
    let e : c.reach-count.result ≡ reach (length old.types) d.fields.items = cc in
    let is = reached c.args.types.now old.structs old.defined (length old.types) c.reach-count.result d.fields.items c.intern.new.table e c.in_ok-intern.ensures in
    let can = definition-there c.args.types.now old.structs old.defined (length old.types) d.number d.fields.items c.in_ok-fields.fields.items c.intern.new.table is c.in_ok-fields.ensures c.requires.fit.3 in
    let memory : c.in-Err-Incomplete.field-0 ≡ NoMemory = only-memory c.intern.new.table d.number c.in_ok-fields.fields.items c.in-Err-Incomplete.field-0 can c.in-Err-Incomplete.ensures.fault in
    let other = c.in-Err-Incomplete.field-0-is in
    cc

pub unreachable-requires-in-Err-TooBig : goal.unreachable-requires-in-Err-TooBig
unreachable-requires-in-Err-TooBig c =
    let old = c.args.table.now in
    let d = c.args.defined.now in
    let e : c.reach-count.result ≡ reach (length old.types) d.fields.items = cc in
    let is = reached c.args.types.now old.structs old.defined (length old.types) c.reach-count.result d.fields.items c.intern.new.table e c.in_ok-intern.ensures in
    let can = definition-there c.args.types.now old.structs old.defined (length old.types) d.number d.fields.items c.in_ok-fields.fields.items c.intern.new.table is c.in_ok-fields.ensures c.requires.fit.3 in
    let memory : c.in-Err-TooBig.field-0 ≡ NoMemory = only-memory c.intern.new.table d.number c.in_ok-fields.fields.items c.in-Err-TooBig.field-0 can c.in-Err-TooBig.ensures.fault in
    let other = c.in-Err-TooBig.field-0-is in
    cc

pub returns-in-Ok : goal.returns-in-Ok
returns-in-Ok c =
    let old = c.args.table.now in
    let d = c.args.defined.now in
    let e : c.reach-count.result ≡ reach (length old.types) d.fields.items = cc in
    let is = reached c.args.types.now old.structs old.defined (length old.types) c.reach-count.result d.fields.items c.intern.new.table e c.in_ok-intern.ensures in
    c.in-Ok.ensures.ok.1 ∙ ap (λ l. with_definition c.intern.new.table d.number l) c.in_ok-fields.ensures ∙ ap (λ (t : Table). with_definition t d.number d.fields.items) is
