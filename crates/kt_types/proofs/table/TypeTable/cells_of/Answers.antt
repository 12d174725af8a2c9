use Rattle.std.proofs.Common.{length, Some, is_some, sym, ap, ◌∙◌}
use Rattle.std.proofs.lemmas.Bool.{false≢true}
use Rattle.kt_types.proofs.Views.{type-at, no-type}
use Rattle.kt_types.proofs.Parts.{cells-is}
use Rattle.kt_types.proofs.Complete.{layout-nowhere, counted-cells, struct-layout, struct-undefined, no-struct}
use Rattle.kt_types.proofs.table.TypeTable.cells_of.Goals as goal

pub unreachable-requires : goal.unreachable-requires
unreachable-requires c =
    let found = type-at c.self.inside c.args.self.now c.self.view_is c.self.invariant c.args.ty c.in-Some.kind.now c.in-Some.cells.now c.in-Some.ensures.entry in
    let none = struct-undefined c.args.self.now c.args.ty c.in-Struct.s (found.0 ∙ ap Some c.in-Struct.is) c.in-None-layout_of.ensures in
    false≢true (ap is_some (sym none) ∙ c.requires)

pub unreachable-requires-in-None : goal.unreachable-requires-in-None
unreachable-requires-in-None c =
    let nowhere = layout-nowhere c.args.self.now c.args.ty (no-type c.self.inside c.args.self.now c.self.view_is c.self.invariant c.args.ty c.in-None.ensures.entry) in
    false≢true (ap is_some (sym nowhere) ∙ c.requires)

pub returns-in-Some-layout_of-clause-count : goal.returns-in-Some-layout_of-clause-count
returns-in-Some-layout_of-clause-count c =
    let found = type-at c.self.inside c.args.self.now c.self.view_is c.self.invariant c.args.ty c.in-Some.kind.now c.in-Some.cells.now c.in-Some.ensures.entry in
    let (cs, has, _, count) = struct-layout c.args.self.now c.args.ty c.in-Struct.s c.in-Some-layout_of.layout.now (found.0 ∙ ap Some c.in-Struct.is) c.in-Some-layout_of.ensures.0 c.in-Some-layout_of.ensures.1 in
    count ∙ ap length (sym (cells-is c.args.self.now c.args.ty cs has))

pub returns-in_default : goal.returns-in_default
returns-in_default c =
    let found = type-at c.self.inside c.args.self.now c.self.view_is c.self.invariant c.args.ty c.in-Some.kind.now c.in-Some.cells.now c.in-Some.ensures.entry in
    let (cs, has, count, some, few) = counted-cells c.args.self.now c.args.ty c.in-Some.kind.now c.in-Some.cells.now (no-struct c.in-Some.kind.now c.in_default.not-Struct) found.0 found.1 in
    record { count = count ∙ ap length (sym (cells-is c.args.self.now c.args.ty cs has)); some_cells = some; within = few }
