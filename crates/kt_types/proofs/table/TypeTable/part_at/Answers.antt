use Rattle.std.proofs.Common.{◌≡◌, ◌<◌, ◌≤◌, ◌+◌, ◌-◌, ◌%◌, [], ◌∷◌, length, Some, is_some, slice_get, sym, ap, ◌∙◌, subst, get_or, arith}
use Rattle.std.specs.List.Sorted.{IsNonDecreasing}
use Rattle.std.proofs.lemmas.Bool.{false≢true}
use Rattle.std.proofs.lemmas.List.{get_or_read}
use Rattle.std.proofs.lemmas.Option.{slice_get-get_or}
use Rattle.kt_types.specs.declared.kinds.Ty.TheVariants.{Array}
use Rattle.kt_types.specs.Kept.{IsCounted, IsPart}
use Rattle.kt_types.proofs.Views.{type-at, no-type, defined-once}
use Rattle.kt_types.proofs.Parts.{cells-is, part-array, part-field, starts-sorted, starts-first}
use Rattle.kt_types.proofs.Complete.{some-of, layout-nowhere, struct-undefined, scalar-cells}
use Rattle.kt_types.proofs.table.TypeTable.part_at.Goals as goal

pub last_start-n-requires-clause-sorted : goal.last_start-n-requires-clause-sorted
last_start-n-requires-clause-sorted c =
    subst IsNonDecreasing (sym c.deref.ensures.value) (starts-sorted c.args.self.now c.in-Some-layout_of.layout.now.fields.items c.in-Some-layout_of.layout.now.starts.items c.in-Some-layout_of.ensures.0.starts)

pub last_start-n-requires-clause-some_start : goal.last_start-n-requires-clause-some_start
last_start-n-requires-clause-some_start c =
    subst (λ xs. 1 ≤ length xs) (sym c.deref.ensures.value) (starts-first c.args.self.now c.in-Some-layout_of.layout.now c.in-Some-layout_of.ensures.0).0

pub last_start-n-requires-clause-from : goal.last_start-n-requires-clause-from
last_start-n-requires-clause-from c =
    let first = (starts-first c.args.self.now c.in-Some-layout_of.layout.now c.in-Some-layout_of.ensures.0).1 in
    subst (λ xs. get_or xs 0 0 ≤ c.args.cell) (sym c.deref.ensures.value) (omega (arith, first))

pub unreachable-requires : goal.unreachable-requires
unreachable-requires c =
    let found = type-at c.self.inside c.args.self.now c.self.view_is c.self.invariant c.args.ty c.in-Some.kind.now c.in-Some.field-0-1.now c.in-Some.ensures.entry in
    let none = struct-undefined c.args.self.now c.args.ty c.in-Struct.s (found.0 ∙ ap Some c.in-Struct.is) c.in-None-layout_of.ensures in
    false≢true (ap is_some (sym none) ∙ c.requires.complete)

pub cells_of-requires : goal.cells_of-requires
cells_of-requires c =
    let found = type-at c.self.inside c.args.self.now c.self.view_is c.self.invariant c.args.ty c.in-Some.kind.now c.in-Some.field-0-1.now c.in-Some.ensures.entry in
    let counted : IsCounted c.args.self.now c.args.ty (Array c.in-Array.element c.in-Array.field-1) c.in-Some.field-0-1.now =
    subst (λ ty. IsCounted c.args.self.now c.args.ty ty c.in-Some.field-0-1.now) c.in-Array.is found.1 in
    some-of _ counted.0 counted.2

pub returns-in-Some-layout_of : goal.returns-in-Some-layout_of
returns-in-Some-layout_of c =
    let d = c.in-Some-layout_of.layout.now in
    let found = type-at c.self.inside c.args.self.now c.self.view_is c.self.invariant c.args.ty c.in-Some.kind.now c.in-Some.field-0-1.now c.in-Some.ensures.entry in
    let within : c.last_start-n.result < length d.starts.items = subst (λ xs. c.last_start-n.result < length xs) c.deref.ensures.value c.last_start-n.ensures.within in
    let from : get_or d.starts.items c.last_start-n.result 0 ≤ c.args.cell = subst (λ xs. get_or xs c.last_start-n.result 0 ≤ c.args.cell) c.deref.ensures.value c.last_start-n.ensures.from in
    let to : c.last_start-n.result + 1 < length d.starts.items → c.args.cell < get_or d.starts.items (c.last_start-n.result + 1) 0 =
    subst (λ xs. c.last_start-n.result + 1 < length xs → c.args.cell < get_or xs (c.last_start-n.result + 1) 0) c.deref.ensures.value c.last_start-n.ensures.to in
    let same_len = c.in-Some-layout_of.ensures.0.starts.len in
    let field : slice_get d.fields.items c.last_start-n.result ≡ Some c.index.result.now =
    slice_get-get_or d.fields.items c.last_start-n.result c.index.result.now (omega (arith, same_len)) ∙ ap Some (sym c.index.ensures) in
    let start : c.index-in-Some-layout_of.result.now ≡ get_or d.starts.items c.last_start-n.result 0 =
    get_or_read d.starts.items c.last_start-n.result c.index-in-Some-layout_of.result.now within c.index-in-Some-layout_of.ensures 0 in
    subst (λ m. IsPart c.args.self.now c.args.ty c.args.cell c.index.result.now.ty (c.args.cell - m)) (sym start)
    (part-field c.args.self.now (defined-once c.self.inside c.args.self.now c.self.view_is c.self.invariant) c.args.ty c.in-Struct.s d
    (found.0 ∙ ap Some c.in-Struct.is) c.in-Some-layout_of.ensures.0 c.in-Some-layout_of.ensures.1 c.last_start-n.result c.args.cell within from to c.requires.within c.index.result.now field)

pub returns-in-Array : goal.returns-in-Array
returns-in-Array c =
    let found = type-at c.self.inside c.args.self.now c.self.view_is c.self.invariant c.args.ty c.in-Some.kind.now c.in-Some.field-0-1.now c.in-Some.ensures.entry in
    let counted : IsCounted c.args.self.now c.args.ty (Array c.in-Array.element c.in-Array.field-1) c.in-Some.field-0-1.now =
    subst (λ ty. IsCounted c.args.self.now c.args.ty ty c.in-Some.field-0-1.now) c.in-Array.is found.1 in
    part-array c.args.self.now c.args.ty c.in-Array.element c.in-Array.field-1 c.in-Some.field-0-1.now c.args.cell (c.args.cell % c.cells_of.result)
    (found.0 ∙ ap Some c.in-Array.is) counted c.requires.within (ap (λ m. c.args.cell % m) c.cells_of.ensures.count)

pub returns-in_default : goal.returns-in_default
returns-in_default c =
    let found = type-at c.self.inside c.args.self.now c.self.view_is c.self.invariant c.args.ty c.in-Some.kind.now c.in-Some.field-0-1.now c.in-Some.ensures.entry in
    let own = cells-is c.args.self.now c.args.ty _ (scalar-cells c.args.self.now c.args.ty c.in-Some.kind.now c.in_default.not-Struct c.in_default.not-Array found.0) in
    let below : c.args.cell < 1 = subst (λ cs. c.args.cell < length cs) own c.requires.within in
    let first : c.args.cell ≡ 0 = omega arith in
    ap (λ cs. slice_get cs c.args.cell) own ∙ ap (slice_get (c.in-Some.kind.now ∷ [])) first ∙ sym found.0

pub returns-in-None : goal.returns-in-None
returns-in-None c =
    let nowhere = layout-nowhere c.args.self.now c.args.ty (no-type c.self.inside c.args.self.now c.self.view_is c.self.invariant c.args.ty c.in-None.ensures.entry) in
    absurd (false≢true (ap is_some (sym nowhere) ∙ c.requires.complete))
