use Rattle.std.proofs.Common.{ap, ◌∙◌}
use Rattle.kt_names.specs.Types.{number_of_struct}
use Rattle.kt_names.proofs.Keys.{struct-found, struct-missing, names_of}
use Rattle.kt_names.proofs.types.number_of_struct.Goals as goal

pub returns-in-Some : goal.returns-in-Some
returns-in-Some c = struct-found c.args.structs.now.keys c.as_bytes.result.now c.in-Some.place c.in-Some.ensures.index ∙ ap (number_of_struct (names_of c.args.structs.now.keys)) c.as_bytes.ensures.bytes

pub returns-in-None : goal.returns-in-None
returns-in-None c = struct-missing c.args.structs.now.keys c.as_bytes.result.now c.in-None.ensures.index ∙ ap (number_of_struct (names_of c.args.structs.now.keys)) c.as_bytes.ensures.bytes
