use Rattle.std.proofs.Common.{refl}
use Rattle.std.proofs.lemmas.List.Elements.{same_from_all_zip}
use Rattle.kt_types.proofs.Copies.{same_map}
use Rattle.kt_types.proofs.table.StructLayoutClone.clone.Goals as goal

pub returns : goal.returns
returns c = record {
  cases = record {
    number = refl;
    fields = same_from_all_zip _ _ _ c.in_ok-clone.ensures.cases.0 (λ x y h i. record { name = h.0 i; ty = h.1.0 i; view = h.1.1 i });
    names = same_map (λ name. name.items) _ (λ x y h. same_from_all_zip _ _ _ h.0 (λ a b is. is)) _ _ c.in_ok-clone-2.ensures.cases;
    starts = same_from_all_zip _ _ _ c.in_ok-clone-3.ensures.cases.0 (λ x y h. h);
    cells = refl;
  };
}
