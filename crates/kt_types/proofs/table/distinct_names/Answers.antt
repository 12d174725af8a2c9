use Rattle.std.proofs.Common.{◌≡◌, [], ◌∷◌, ◌++◌, map, Some, slice_get, sym, ap, ◌∙◌, arith, inl, inr, if◌then◌else◌}
use Rattle.std.proofs.lemmas.Bool.{cases_eq, not-true, not-false}
use Rattle.std.proofs.lemmas.List.{take_all}
use Rattle.std.proofs.lemmas.Option.{same_Some, slice_get_within, slice_get-get_or}
use Rattle.kt_types.proofs.Names.{found-name, absent-name, names_more}
use Rattle.kt_types.proofs.table.distinct_names.Goals as goal

pub returns-then-not-is_new : goal.returns-then-not-is_new
returns-then-not-is_new c distinct =
    let at : slice_get c.args.fields.now c.loop-field.field-index ≡ Some c.field-item.result =
    slice_get-get_or _ _ c.field-item.result c.loop-field-test.true ∙ ap Some (sym c.field-item.is) in
    let name_is : c.in_ok-name.name.items ≡ c.field-item.result.name = c.in_ok-name.ensures.items ∙ c.as_bytes.ensures in
    let any = not-false _ (sym c.in_ok-is_new.ensures.added ∙ c.if-not-is_new.true) in
    let (i, f, lt, there, same) = found-name c.loop-field.names.keys c.args.fields.now c.loop-field.field-index c.in_ok-name.name.items c.loop-field.invariant.names any in
    distinct i c.loop-field.field-index f c.field-item.result lt there at (same ∙ name_is)

pub loop-field-preserved : goal.loop-field-preserved
loop-field-preserved c =
    let at : slice_get c.args.fields.now c.loop-field.field-index ≡ Some c.field-item.result =
    slice_get-get_or _ _ c.field-item.result c.loop-field-test.true ∙ ap Some (sym c.field-item.is) in
    let name_is : c.in_ok-name.name.items ≡ c.field-item.result.name = c.in_ok-name.ensures.items ∙ c.as_bytes.ensures in
    let none = not-true _ (sym c.in_ok-is_new.ensures.added ∙ c.if-not-is_new.false) in
    record {
      names = ap (map (λ name. name.items)) (c.in_ok-is_new.ensures.keys ∙ ap (λ b. if b then c.loop-field.names.keys else c.loop-field.names.keys ++ c.in_ok-name.name ∷ []) none)
          ∙ names_more c.loop-field.names.keys c.in_ok-name.name c.args.fields.now c.loop-field.field-index c.field-item.result at name_is c.loop-field.invariant.names;
      apart = λ i j f g lt less first second same. elim (cases_eq j c.loop-field.field-index) [
        | inl last ↦
            let its : g ≡ c.field-item.result = same_Some _ _ (sym second ∙ ap (slice_get c.args.fields.now) last ∙ at) in
            absent-name c.loop-field.names.keys c.args.fields.now c.loop-field.field-index c.in_ok-name.name.items c.loop-field.invariant.names none i f (omega arith) first
            (same ∙ ap (λ h. h.name) its ∙ sym name_is)
        | inr before ↦ c.loop-field.invariant.apart i j f g lt (omega arith) first second same
      ];
    }

pub returns : goal.returns
returns c = (
  λ i j f g lt at there. c.loop-field.invariant.apart i j f g lt (omega (arith, slice_get_within c.args.fields.now j g there)) at there,
  c.loop-field.invariant.names ∙ ap (map (λ f. f.name)) (take_all c.loop-field.field-index c.args.fields.now c.loop-field-test.false),
)
