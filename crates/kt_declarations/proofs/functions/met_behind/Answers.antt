use Rattle.kt_declarations.proofs.Behind.{met-is}
use Rattle.kt_declarations.proofs.functions.met_behind.Goals as goal

pub returns : goal.returns
returns c structs rs told named =
    met-is structs rs c.args.f.now named c.args.before told
    (record { first = c.first_of.result; defined = c.is_defined_behind.result; mixed = c.had_other.result })
    c.first_of.ensures c.is_defined_behind.ensures c.had_other.ensures
