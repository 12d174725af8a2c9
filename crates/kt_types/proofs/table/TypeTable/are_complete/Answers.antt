use Rattle.std.proofs.Common.{◌≡◌, Some, slice_get, sym, ap, ◌∙◌, subst, arith, inl, inr}
use Rattle.std.proofs.lemmas.Bool.{cases_eq, false≢true}
use Rattle.std.proofs.lemmas.Option.{same_Some, slice_get_within, slice_get-get_or}
use Rattle.kt_types.specs.Layout.{IsComplete, layout}
use Rattle.kt_types.specs.declared.kinds.FieldDecl.{FieldDecl}
use Rattle.kt_types.proofs.Cells.{joined-from}
use Rattle.kt_types.proofs.Complete.{value-of, none-of, some-of, joined-none}
use Rattle.kt_types.proofs.table.TypeTable.are_complete.Goals as goal

pub returns-then-not-is_complete : goal.returns-then-not-is_complete
returns-then-not-is_complete c =
    let at : slice_get c.args.fields.now c.loop-field.field-index ≡ Some c.field-item.result =
    slice_get-get_or c.args.fields.now c.loop-field.field-index c.field-item.result c.loop-field-test.true ∙ ap Some (sym c.field-item.is) in
    let none = none-of (layout c.args.self.now c.field-item.result.ty) (λ some. false≢true (sym c.if-not-is_complete.true ∙ c.is_complete.ensures.1 some)) in
    joined-none (layout c.args.self.now) c.args.fields.now c.loop-field.field-index c.field-item.result at none

pub loop-field-preserved : goal.loop-field-preserved
loop-field-preserved c n f lt there =
    let at : slice_get c.args.fields.now c.loop-field.field-index ≡ Some c.field-item.result =
    slice_get-get_or c.args.fields.now c.loop-field.field-index c.field-item.result c.loop-field-test.true ∙ ap Some (sym c.field-item.is) in
    elim (cases_eq n c.loop-field.field-index) [
      | inl last ↦
          let its : c.field-item.result ≡ f = same_Some _ _ (sym at ∙ ap (slice_get c.args.fields.now) (sym last) ∙ there) in
          subst (λ (g : FieldDecl). IsComplete c.args.self.now g.ty) its (c.is_complete.ensures.0 c.if-not-is_complete.false)
      | inr before ↦ c.loop-field.invariant n f (omega arith) there
    ]

pub returns : goal.returns
returns c =
    let (cs, has) = joined-from (layout c.args.self.now) c.args.fields.now (λ n f at.
    let within = slice_get_within c.args.fields.now n f at in
    value-of _ (c.loop-field.invariant n f (omega arith) at)) in
    some-of _ cs has
