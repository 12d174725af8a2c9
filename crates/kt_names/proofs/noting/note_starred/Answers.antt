use Rattle.std.proofs.Common.{None, sym}
use Rattle.std.proofs.lemmas.Option.{none-some}
use Rattle.kt_names.proofs.PlacedTypes.{changed-starred, found-starred}
use Rattle.kt_names.proofs.noting.note_starred.Goals as goal

pub note_behind-requires-clause-all : goal.note_behind-requires-clause-all
note_behind-requires-clause-all c =
    changed-starred c.args.types.now.keys c.args.starred.now.entries c.swap_remove.new.self.entries c.args.root None c.requires.all
    (λ places is. absurd (none-some places is))
    c.swap_remove.ensures.updates.0

pub note_behind-requires-clause-placed : goal.note_behind-requires-clause-placed
note_behind-requires-clause-placed c =
    found-starred c.args.starred.now.entries c.args.types.now.keys c.args.root c.in-Some.places c.requires.all c.in-Some.ensures.value
