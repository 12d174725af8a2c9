use Rattle.std.proofs.Common.{ap, ◌∙◌, sym, subst}
use Rattle.kt_declarations.specs.Met.{Tells, kept}
use Rattle.kt_declarations.proofs.Behind.{declared-tells}
use Rattle.kt_declarations.proofs.functions.Functions.declare.Goals as goal

pub returns-clause-fault : goal.returns-clause-fault
returns-clause-fault c w b same are named =
    c.head_fault-fault.ensures w b.globals b.functions same
    (subst (Tells w.structs b.functions c.args.f.now.name.word) (sym (c.met_of-before.ensures ∙ ap (kept c.args.self.now) c.as_bytes-name.ensures.bytes)) (are c.args.f.now.name.word)) named

pub returns-clause-behind : goal.returns-clause-behind
returns-clause-behind c structs rs are named =
    declared-tells structs rs c.args.f.now named c.args.self.now.met.entries c.insert.new.self.entries c.in_ok-key.key c.met_behind.result (c.in_ok-key.ensures.items ∙ c.as_bytes-name.ensures.bytes) c.in_ok-insert.ensures.entries are
    (c.met_behind.ensures structs rs
    (subst (Tells structs rs c.args.f.now.name.word) (sym (c.met_of-before.ensures ∙ ap (kept c.args.self.now) c.as_bytes-name.ensures.bytes)) (are c.args.f.now.name.word)) named)
