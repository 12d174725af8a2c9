-- What a machine tries after an act is what the world tries.
use Rattle.std.specs.Prelude.{◌≡◌, List, [], ◌∷◌, Bool, true, false, Option, None, is_none, if◌then◌else◌}
use Rattle.std.proofs.Common.{sym, ap, ◌∙◌}
use Rattle.kt_pair.specs.Pair.{Pair}
use Rattle.kt_lone.specs.declared.mark.End.{End}
use Rattle.kt_lone.specs.declared.mark.Mark.TheVariants as mark
use Rattle.kt_lone.specs.declared.mark.Phase.{Phase}
use Rattle.kt_lone.specs.declared.mark.Phase.TheVariants.{Run, Others}
use Rattle.kt_lone.specs.Turn.{all_back, all_normal, on_shared, ongoing}
use Rattle.kt_lone.specs.Update.{marked}
use Rattle.kt_lone.specs.World.{Shared, World}
use Rattle.kt_machine.specs.declared.machine.Machine.{Machine}
use Rattle.kt_machine.specs.Engine.{code_engine, thread_of, world_of}
use Rattle.kt_machine.specs.Shared.{shared_of}

module _ {X : Type 0} where
  pub ongoing-at : (f : Phase → World X → World X) (w n : World X) (phase : Phase) → w.shared.ended ≡ None → w.shared.phase ≡ phase → n ≡ f phase w →
      n ≡ ongoing (λ u. f u.shared.phase u) w
  ongoing-at f w n phase on is_phase is =
      is ∙ sym (ap (λ (o : Option End). if is_none o then f w.shared.phase w else w) on ∙ ap (λ (q : Phase). f q w) is_phase)

module _ (codes : List Pair) (m : Machine) where
  abbrev with_back : Shared → Shared
  with_back s = marked (mark.Back s.turns s.requests) (record s { phase = Run })

  pub back-marked : (b : Bool) (s : Shared) → b ≡ all_normal (code_engine codes) (world_of m).threads → b ≡ true → s ≡ with_back (shared_of m.shared) →
      record { shared = s; threads = thread_of m ∷ [] } ≡ all_back (code_engine codes) Others (world_of m)
  back-marked b s normal is after =
      ap (λ (s : Shared). record { shared = s; threads = thread_of m ∷ [] }) after
      ∙ sym (ap (λ (b : Bool). if b then on_shared with_back (world_of m) else world_of m) (sym normal ∙ is))

  pub not-back : (b : Bool) → b ≡ all_normal (code_engine codes) (world_of m).threads → b ≡ false →
      world_of m ≡ all_back (code_engine codes) Others (world_of m)
  not-back b normal is = sym (ap (λ (b : Bool). if b then on_shared with_back (world_of m) else world_of m) (sym normal ∙ is))
