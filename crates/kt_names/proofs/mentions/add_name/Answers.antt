use Rattle.std.proofs.Common.{ap, ◌∙◌}
use Rattle.kt_names.specs.Types.{with_name}
use Rattle.kt_names.proofs.Keys.{inserted-name, names_of}
use Rattle.kt_names.proofs.mentions.add_name.Goals as goal

pub returns : goal.returns
returns c = ap names_of c.in_ok-insert.ensures.keys ∙ inserted-name c.args.names.now.keys c.in_ok-name.name ∙ ap (with_name (names_of c.args.names.now.keys)) c.in_ok-name.ensures.items
