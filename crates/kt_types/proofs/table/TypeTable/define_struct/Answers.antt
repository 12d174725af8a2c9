use Rattle.std.proofs.Common.{◌≡◌, ◌<◌, ◌≤◌, length, List, None, Some, is_some, sym, ap, ◌∙◌, subst, arith, true}
use Rattle.std.proofs.lemmas.Bool.{MatchBool-at_true}
use Rattle.std.proofs.lemmas.Option.{MatchOption-at_some, MatchOption-at_none}
use Rattle.indexmap.specs.IndexMap.{set_value_at}
use Rattle.kt_types.specs.declared.kinds.Ty.{Ty}
use Rattle.kt_types.specs.declared.table.StructLayout.{StructLayout}
use Rattle.kt_types.specs.Kept.{AreNames, AreStarts}
use Rattle.kt_types.specs.Layout.{IsNew, cells_before, cell_limit, joined, layout}
use Rattle.kt_types.specs.Table.{HasDistinctNames, fields_of}
use Rattle.kt_types.proofs.Cells.{joined-length}
use Rattle.kt_types.proofs.Complete.{value-of, is_none}
use Rattle.kt_types.proofs.Defined.{new-laid, definition-table, definition-kept}
use Rattle.kt_types.proofs.table.TypeTable.define_struct.Goals as goal

pub returns-in_default-2-clause-fault : goal.returns-in_default-2-clause-fault
returns-in_default-2-clause-fault c =
    let names = MatchOption-at_some _ _ c.in-Some.names c.in-Some.is c.in_ok-names.ensures in
    let distinct = subst HasDistinctNames c.deref.ensures.value names.0 in
    let new : fields_of c.args.self.now c.args.s ≡ None = MatchOption-at_none _ _ (is_none _ (sym c.if-is_some.false ∙ c.is_some.ensures)) c.layout_of.ensures in
    let complete = MatchBool-at_true _ _ c.if-not-are_complete.false c.are_complete.ensures in
    let (cs, joins) = value-of (joined (layout c.args.self.now) c.args.fields.items) (subst (λ fs. is_some (joined (layout c.args.self.now) fs) ≡ true) c.deref-2.ensures.value complete) in
    let over = MatchOption-at_none _ _ c.in_default-2.is c.in_ok-starts.ensures in
    let big = subst (λ fs. cell_limit < cells_before c.args.self.now fs (length fs)) c.deref-3.ensures.value over in
    ((new, distinct), cs, joins, subst (λ n. cell_limit < n) (sym (joined-length c.args.self.now c.args.fields.items cs joins)) big)

-- what the tests before the definition have shown
is_new : (c : goal.After-note_place) → IsNew c.args.self.now c.args.s c.args.fields.items
is_new c =
    let names = MatchOption-at_some _ _ c.in-Some.names c.in-Some.is c.in_ok-names.ensures in
    (MatchOption-at_none _ _ (is_none _ (sym c.if-is_some.false ∙ c.is_some.ensures)) c.layout_of.ensures, subst HasDistinctNames c.deref.ensures.value names.0)

names_are : (c : goal.After-note_place) → AreNames c.args.fields.items c.in-Some.names
names_are c =
    let names = MatchOption-at_some _ _ c.in-Some.names c.in-Some.is c.in_ok-names.ensures in
    subst (λ fs. AreNames fs c.in-Some.names) c.deref.ensures.value names.1

are_joined : (c : goal.After-note_place) → (cs : List Ty) × (joined (layout c.args.self.now) c.args.fields.items ≡ Some cs)
are_joined c =
    let complete = MatchBool-at_true _ _ c.if-not-are_complete.false c.are_complete.ensures in
    value-of (joined (layout c.args.self.now) c.args.fields.items) (subst (λ fs. is_some (joined (layout c.args.self.now) fs) ≡ true) c.deref-2.ensures.value complete)

are_laid : (c : goal.After-note_place) → AreStarts c.args.self.now c.args.fields.items c.in-Some-2.starts.items
    × (c.in-Some-2.cells ≡ cells_before c.args.self.now c.args.fields.items (length c.args.fields.items)) × (c.in-Some-2.cells ≤ cell_limit) × (length c.args.fields.items ≤ c.in-Some-2.cells)
are_laid c =
    let laid = MatchOption-at_some _ _ (c.in-Some-2.starts, c.in-Some-2.cells) c.in-Some-2.is c.in_ok-starts.ensures in
    subst (λ fs. AreStarts c.args.self.now fs c.in-Some-2.starts.items × (c.in-Some-2.cells ≡ cells_before c.args.self.now fs (length fs)) × (c.in-Some-2.cells ≤ cell_limit) × (length fs ≤ c.in-Some-2.cells))
    c.deref-3.ensures.value laid

abbrev definition : (c : goal.After-note_place) → StructLayout
definition c = record { number = c.args.s; fields = c.args.fields; names = c.in-Some.names; starts = c.in-Some-2.starts; cells = c.in-Some-2.cells }

noted : (c : goal.After-note_place) → c.note_place.new.structs.entries ≡ set_value_at c.self.inside.structs.entries c.args.s (Some (length c.self.inside.defined.items))
noted c =
    let last : c.len-place.result ≡ length c.self.inside.defined.items = omega (arith, c.len-place.ensures) in
    c.note_place.ensures ∙ ap (λ i. set_value_at c.self.inside.structs.entries c.args.s (Some i)) last

pub invariant_of-self-2 : goal.invariant_of-self-2
invariant_of-self-2 c =
    let (cs, joins) = are_joined c in
    let laid = are_laid c in
    definition-kept c.self.inside c.args.self.now c.self.view_is (definition c) c.note_place.new.structs.entries c.push.new.self.items
    (noted c) c.in_ok-push.ensures.items c.self.invariant c.requires.declared (is_new c).0
    (new-laid c.args.self.now (definition c) (is_new c).0 cs joins laid.0 laid.1 laid.2 laid.3 c.requires.some_field (names_are c))

pub returns-clause-ok : goal.returns-clause-ok
returns-clause-ok c =
    let (cs, joins) = are_joined c in
    let laid = are_laid c in (
      (is_new c, cs, joins, subst (λ n. n ≤ cell_limit) (laid.1 ∙ sym (joined-length c.args.self.now c.args.fields.items cs joins)) laid.2),
      definition-table c.self.inside c.args.self.now c.self.view_is (definition c) c.note_place.new.structs.entries c.push.new.self.items
          (noted c) c.in_ok-push.ensures.items,
    )
