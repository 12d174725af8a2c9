use Rattle.std.proofs.Common.{Some, subst}
use Rattle.std.proofs.lemmas.Option.{same_Some}
use Rattle.std.specs.Global.{Vec}
use Rattle.kt_names.specs.Placed.{AreStarred}
use Rattle.kt_names.proofs.PlacedTypes.{changed-starred}
use Rattle.kt_names.proofs.noting.note_behind.Goals as goal

pub returns : goal.returns
returns c =
    changed-starred c.args.types.now.keys c.args.starred.now.entries c.insert.new.self.entries c.args.root (Some c.in_ok-longer.longer) c.requires.all
    (λ places is. subst (λ (v : Vec _). AreStarred c.args.types.now.keys c.args.root v.items) (same_Some _ _ is) c.in_ok-longer.ensures)
    c.in_ok-insert.ensures.updates.0
