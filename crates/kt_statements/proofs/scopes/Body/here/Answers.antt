use Rattle.kt_operands.specs.Views.{environment_of, scope_of, pointer_by, struct_by, name_by, word_by, old_symbol_by, literal_by, point_by, cells_by, fields_by}
use Rattle.kt_statements.specs.Scopes.{latest_first, meaning_in}
use Rattle.kt_statements.proofs.Shown.{shows-means}
use Rattle.kt_statements.proofs.scopes.Body.here.Goals as goal

pub returns : goal.returns
unfolding scope_of pointer_by struct_by name_by word_by old_symbol_by literal_by point_by cells_by fields_by
returns c =
    let env = environment_of c.args.self.now.environment in
    let s = c.args.scopes.now in
    λ i. record env { name = λ q. shows-means env (meaning_in s.names.entries) (latest_first s.locals.items) c.requires.shown q i }
