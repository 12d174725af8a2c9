use Rattle.std.specs.Prelude.{refl}
use Rattle.kt_world.proofs.laws.refusal_law.Goals as goal

pub returns : goal.returns
returns c = λ job closed w. record { memory = refl; version = refl; kept = refl }
