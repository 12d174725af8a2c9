use Rattle.kt_check.proofs.NameMaps.{struct-number, struct-unnamed}
use Rattle.kt_check.proofs.frame.Frame.number_of_struct.Goals as goal

pub returns-in-Some : goal.returns-in-Some
returns-in-Some c = struct-number c.args.name.now c.args.self.now.names.now.keys c.in-Some.number c.in-Some.ensures.index

pub returns-in-None : goal.returns-in-None
returns-in-None c = struct-unnamed c.args.name.now c.args.self.now.names.now.keys c.in-None.ensures.index
