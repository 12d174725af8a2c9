use Rattle.kt_names.proofs.Lookups.{field-at, field-none}
use Rattle.kt_names.proofs.info.StructInfo.field_named.Goals as goal

pub returns-in-Some : goal.returns-in-Some
returns-in-Some c = field-at c.args.name.now c.args.self.now.fields.entries c.in-Some.index c.in-Some.field.now c.in-Some.ensures.index c.in-Some.ensures.value

pub returns-in-None : goal.returns-in-None
returns-in-None c = field-none c.args.name.now c.args.self.now.fields.entries c.in-None.ensures.index
