use Rattle.std.proofs.Common.{[], map, refl, ap, ◌∙◌}
use Rattle.std.specs.List.{list_all}
use Rattle.kt_tree.specs.Names.{is_identifier}
use Rattle.kt_names.specs.Types.{with_names}
use Rattle.kt_names.proofs.Keys.{all-with-names, names_of}
use Rattle.kt_names.proofs.mentions.struct_names.Goals as goal

pub returns-clause-identifiers : goal.returns-clause-identifiers
returns-clause-identifiers c =
    ap (list_all is_identifier) (c.in_ok-add_names.ensures ∙ ap (λ ks. with_names (names_of ks) (map (λ n. n.now) c.as_slice.result.now)) c.new-names.ensures.empty)
    ∙ all-with-names is_identifier [] (map (λ n. n.now) c.as_slice.result.now) refl (ap (list_all is_identifier) c.as_slice.ensures.names ∙ c.as_slice.ensures.identifiers)
