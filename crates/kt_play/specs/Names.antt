-- The names of files that the code keeps, and their texts, as lists.
use Rattle.std.specs.Prelude.{ℕ, List, [], ◌∷◌}
use Rattle.kt_play.specs.declared.order.Names.{Names}
use Rattle.kt_play.specs.declared.order.Names.TheVariants.{One, Three}
use Rattle.kt_play.specs.declared.gather.Texts.{Texts}
use Rattle.kt_play.specs.declared.gather.Texts.TheVariants as texts

abbrev pub names_in : Names → List (List ℕ)
names_in (One version) = version.now ∷ []
names_in (Three first rules second) = first.now ∷ (rules.now ∷ (second.now ∷ []))

abbrev pub texts_in : Texts → List (List ℕ)
texts_in (texts.One version) = version.items ∷ []
texts_in (texts.Three first rules second) = first.items ∷ (rules.items ∷ (second.items ∷ []))
