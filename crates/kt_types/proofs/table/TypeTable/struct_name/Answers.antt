use Rattle.std.proofs.Common.{Some, sym, ap, ◌∙◌}
use Rattle.kt_types.proofs.Views.{name-at, no-name}
use Rattle.kt_types.proofs.table.TypeTable.struct_name.Goals as goal

pub returns-in-Some : goal.returns-in-Some
returns-in-Some c =
    ap Some c.as_slice.ensures.value ∙ sym (name-at c.self.inside c.args.self.now c.self.view_is c.self.invariant c.args.s c.in-Some.name.now c.in-Some.field-0-1.now c.in-Some.ensures.entry)

pub returns-in-None : goal.returns-in-None
returns-in-None c = sym (no-name c.self.inside c.args.self.now c.self.view_is c.self.invariant c.args.s c.in-None.ensures.entry)
