use Rattle.std.proofs.Common.{Some, is_some, sym, refl, ap, ◌∙◌}
use Rattle.std.proofs.lemmas.Bool.{false≢true}
use Rattle.kt_types.proofs.Views.{type-at, no-type}
use Rattle.kt_types.proofs.Complete.{some-of, layout-nowhere, counted-cells, struct-complete, no-struct}
use Rattle.kt_types.proofs.table.TypeTable.is_complete.Goals as goal

pub returns-in-Struct : goal.returns-in-Struct
returns-in-Struct c =
    let found = type-at c.self.inside c.args.self.now c.self.view_is c.self.invariant c.args.ty c.in-Some.kind.now c.in-Some.field-0-1.now c.in-Some.ensures.entry in
    let (if_so, only_so) = struct-complete c.args.self.now c.args.ty c.in-Struct.s c.layout_of.result (found.0 ∙ ap Some c.in-Struct.is) c.layout_of.ensures in
    ((λ e. if_so (sym c.is_some.ensures ∙ e)), (λ e. c.is_some.ensures ∙ only_so e))

pub returns-in_default : goal.returns-in_default
returns-in_default c =
    let found = type-at c.self.inside c.args.self.now c.self.view_is c.self.invariant c.args.ty c.in-Some.kind.now c.in-Some.field-0-1.now c.in-Some.ensures.entry in
    let (cs, has, _, _, _) = counted-cells c.args.self.now c.args.ty c.in-Some.kind.now c.in-Some.field-0-1.now (no-struct c.in-Some.kind.now c.in_default.not-Struct) found.0 found.1 in
    ((λ _. some-of _ cs has), (λ _. refl))

pub returns-in-None : goal.returns-in-None
returns-in-None c =
    let nowhere = layout-nowhere c.args.self.now c.args.ty (no-type c.self.inside c.args.self.now c.self.view_is c.self.invariant c.args.ty c.in-None.ensures.entry) in
    ((λ e. absurd (false≢true e)), (λ e. absurd (false≢true (ap is_some (sym nowhere) ∙ e))))
