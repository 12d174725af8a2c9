use Rattle.std.proofs.Common.{ap, ◌∙◌}
use Rattle.kt_declarations.specs.Fields.{field_of, known}
use Rattle.kt_declarations.proofs.Places.{known-more}
use Rattle.kt_declarations.proofs.field.FieldNames.add.Goals as goal

pub returns : goal.returns
returns c fields are len =
    known-more fields (field_of c.args.x) c.args.place len c.is_count_field.result c.is_count_field.ensures c.args.self.now.known.entries c.insert.new.self.entries c.in_ok-key.key
    c.known_of-before.result c.known_behind-behind.result are (c.in_ok-key.ensures.items ∙ c.as_bytes-name.ensures.bytes) (c.known_of-before.ensures ∙ ap (known c.args.self.now) c.as_bytes-name.ensures.bytes)
    c.known_behind-behind.ensures c.in_ok-insert.ensures.entries
