use Rattle.std.proofs.Common.{sym}
use Rattle.std.proofs.lemmas.Bool.{false≢true}
use Rattle.kt_names.proofs.Lookups.{struct-found, struct-none}
use Rattle.kt_names.proofs.environment.Environment.struct_numbered.Goals as goal

pub returns-in-Some-get_index : goal.returns-in-Some-get_index
returns-in-Some-get_index c =
    struct-found c.args.number c.args.self.now.structs.now.entries c.in-Some.place (c.in-Some-get_index.number.now, c.in-Some-get_index.info.now) c.in-Some.ensures.index (sym c.in-Some-get_index.ensures.entry) c.in-Some.ensures.unique

pub returns-in-None-get_index : goal.returns-in-None-get_index
returns-in-None-get_index c = absurd (false≢true (c.in-None-get_index.ensures.found.1 c.in-Some.ensures.within))

pub returns-in-None : goal.returns-in-None
returns-in-None c = struct-none c.args.number c.args.self.now.structs.now.entries c.in-None.ensures.index
