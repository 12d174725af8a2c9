use Rattle.std.proofs.Common.{ap, ◌∙◌, List, ℕ}
use Rattle.std.specs.List.{list_any}
use Rattle.std.specs.Str.{bytes_eq}
use Rattle.kt_check.proofs.NameMaps.{names-any}
use Rattle.kt_check.proofs.sofar.Sofar.has_global.Goals as goal

pub returns : goal.returns
returns c names keeps =
    c.contains.ensures ∙ names-any c.args.name.now c.args.self.now.global_names.keys
    ∙ ap (λ (ns : List (List ℕ)). list_any (λ m. bytes_eq m c.args.name.now) ns) keeps.globals
