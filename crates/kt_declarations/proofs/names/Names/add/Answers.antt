use Rattle.std.proofs.Common.{◌||◌, not, ap, ◌∙◌}
use Rattle.std.specs.Str.{bytes_eq}
use Rattle.kt_program.specs.Scopes.{contains}
use Rattle.kt_declarations.proofs.Kept.{key-added, key-new}
use Rattle.kt_declarations.proofs.names.Names.add.Goals as goal

pub returns-clause-is_new : goal.returns-clause-is_new
returns-clause-is_new c =
    c.in_ok-is_new.ensures.added ∙ key-new c.self.inside.set.keys c.in_ok-name.name c.args.name.now c.in_ok-name.ensures.items
    ∙ ap (λ ns. not (contains ns c.args.name.now)) c.self.view_is

pub returns-clause-ok : goal.returns-clause-ok
returns-clause-ok c n =
    key-added c.self.inside.set.keys c.insert_full.new.self.keys c.in_ok-name.name c.args.name.now c.in_ok-name.ensures.items c.in_ok-is_new.ensures.keys n
    ∙ ap (λ ns. bytes_eq c.args.name.now n || contains ns n) c.self.view_is
