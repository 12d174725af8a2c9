use Rattle.std.proofs.Common.{◌≡◌, Option, None, Some, ap, ◌∙◌, ℕ, ◌==◌}
use Rattle.std.specs.Cmp.Lexicographic.{pointwise}
use Rattle.kt_tree.specs.Names.{place_of}
use Rattle.kt_tree.proofs.Places.{position-map}
use Rattle.kt_tree.proofs.names.Names.find.Goals as goal

pub returns-in-Some-clause-place : goal.returns-in-Some-clause-place
returns-in-Some-clause-place c =
    c.in-Some.ensures.index ∙ position-map (λ k. k.items) (pointwise ◌==◌ c.args.name.now) c.self.inside.set.keys ∙ ap (place_of c.args.name.now) c.self.view_is

pub returns-in-None-clause-place : goal.returns-in-None-clause-place
returns-in-None-clause-place c =
    c.in-None.ensures.index ∙ position-map (λ k. k.items) (pointwise ◌==◌ c.args.name.now) c.self.inside.set.keys ∙ ap (place_of c.args.name.now) c.self.view_is
