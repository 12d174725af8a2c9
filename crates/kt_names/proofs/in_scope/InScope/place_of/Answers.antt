use Rattle.std.proofs.Common.{ap, List, ◌∙◌}
use Rattle.std.specs.Option.{option_flatten}
use Rattle.kt_names.specs.declared.info.Visible.{Visible}
use Rattle.kt_names.specs.Latest.{latest_first, place_of}
use Rattle.kt_names.proofs.in_scope.InScope.place_of.Goals as goal

pub returns-in-Some : goal.returns-in-Some
returns-in-Some c = ap option_flatten c.in-Some.ensures.value ∙ c.self.invariant.places c.args.name.now ∙ ap (λ (vs : List Visible). place_of (latest_first vs) c.args.name.now) c.self.view_is

pub returns-in-None : goal.returns-in-None
returns-in-None c = ap option_flatten c.in-None.ensures.value ∙ c.self.invariant.places c.args.name.now ∙ ap (λ (vs : List Visible). place_of (latest_first vs) c.args.name.now) c.self.view_is
