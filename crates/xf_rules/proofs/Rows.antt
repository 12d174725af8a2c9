-- The worked rows, by computation.
use Rattle.std.proofs.Common.{◌≡◌, Bool, true, false, Option, Some, None, Result, Ok, Err, List, [], ◌∷◌, map, refl}
use Rattle.std.specs.List.{AllByRecursion}
use Rattle.std.specs.Option.{option_map}
use Rattle.kt_typing.specs.declared.fault.Fault.{Fault}
use Rattle.kt_types.specs.Layout.{layout, place_cells, struct_cells, repeated}
use Rattle.kt_tree.specs.Version.{Program}
use Rattle.xf_plan.specs.Plan.{Plan}
use Rattle.xf_syntax.specs.Tree.{Rule}
use Rattle.xf_rules.specs.Completion.{Goal}
use Rattle.xf_rules.specs.CrossRows.{refused_between, accepted_between}
use Rattle.xf_rules.specs.Examples.{wide, nodes, aged_nodes, kept, kept_longer}
use Rattle.xf_rules.specs.Files.{file}
use Rattle.xf_rules.specs.Judgments.{first_wrong}
use Rattle.xf_rules.specs.Plans.{planned, Refusal, Faulty, NeedsRule, IsPlanOf, IsRefusedBy, IsRefused, IsAccepted, IsRefusedBetween, IsAcceptedBetween}
use Rattle.xf_rules.specs.SideRows.{refused_sides, needing}
use Rattle.xf_rules.specs.BodyRows.{refused_bodies}
use Rattle.xf_rules.specs.PlanRows.{accepted}
use Rattle.xf_rules.specs.WholePlans.{age_rule, aging, kept_rules, keeping}
use Rattle.xf_rules.proofs.Exact.{found-first}

module _ (old new : Program) where
  -- what is told of a file: its first fault, or else what is planned
  abbrev told : Option (Result Plan Goal) → Option Refusal
  told (Some (Err g)) = Some (NeedsRule g)
  told (Some (Ok p)) = None
  told None = None

  abbrev answered : List Rule → Refusal → Option Refusal
  answered rules (Faulty f) = option_map Faulty (first_wrong (file old new rules))
  answered rules (NeedsRule g) = told (planned old new rules)

  needs : (o : Option (Result Plan Goal)) (g : Goal) → told o ≡ Some (NeedsRule g) → o ≡ Some (Err g)
  needs (Some (Err h)) g e = cc
  needs (Some (Ok p)) g e = absurd cc
  needs None g e = absurd cc

  faulty : (o : Option Fault) (f : Fault) → option_map Faulty o ≡ Some (Faulty f) → o ≡ Some f
  faulty (Some h) f e = cc
  faulty None f e = absurd cc

  refused-by : (rules : List Rule) (r : Refusal) → answered rules r ≡ Some r → IsRefusedBy old new rules r
  refused-by rules (Faulty f) e = found-first (file old new rules) f (faulty (first_wrong (file old new rules)) f e)
  refused-by rules (NeedsRule g) e = needs (planned old new rules) g e

  all-refused : (rows : List (List Rule × Refusal)) → map (λ r. answered r.0 r.1) rows ≡ map (λ r. Some r.1) rows → AllByRecursion (IsRefused old new) rows
  all-refused [] e = tt
  all-refused (r ∷ rows) e = (refused-by r.0 r.1 cc, all-refused rows cc)

  abbrev is_planned : Option (Result Plan Goal) → Bool
  is_planned (Some (Ok p)) = true
  is_planned _ = false

  some-plan : (o : Option (Result Plan Goal)) → is_planned o ≡ true → (p : Plan) × (o ≡ Some (Ok p))
  some-plan (Some (Ok p)) e = (p, refl)
  some-plan (Some (Err g)) e = absurd cc
  some-plan None e = absurd cc

  all-accepted : (rows : List (List Rule)) → map (λ r. is_planned (planned old new r)) rows ≡ map (λ r. true) rows → AllByRecursion (IsAccepted old new) rows
  all-accepted [] e = tt
  all-accepted (r ∷ rows) e = (some-plan (planned old new r) cc, all-accepted rows cc)

pub sides : AllByRecursion (IsRefused wide wide) refused_sides
unfolding layout place_cells struct_cells repeated
sides = all-refused wide wide refused_sides refl

pub in-need : AllByRecursion (IsRefused wide wide) needing
unfolding layout place_cells struct_cells repeated
in-need = all-refused wide wide needing refl

pub bodies : AllByRecursion (IsRefused wide wide) refused_bodies
unfolding layout place_cells struct_cells repeated
bodies = all-refused wide wide refused_bodies refl

pub plans : AllByRecursion (IsAccepted wide wide) accepted
unfolding layout place_cells struct_cells repeated
plans = all-accepted wide wide accepted refl

-- ---- rows with both versions

all-refused-between : (rows : List ((Program × Program) × (List Rule × Refusal)))
    → map (λ r. answered r.0.0 r.0.1 r.1.0 r.1.1) rows ≡ map (λ r. Some r.1.1) rows → AllByRecursion IsRefusedBetween rows
all-refused-between [] e = tt
all-refused-between (r ∷ rows) e = (refused-by r.0.0 r.0.1 r.1.0 r.1.1 cc, all-refused-between rows cc)

all-accepted-between : (rows : List ((Program × Program) × List Rule))
    → map (λ r. is_planned r.0.0 r.0.1 (planned r.0.0 r.0.1 r.1)) rows ≡ map (λ r. true) rows → AllByRecursion IsAcceptedBetween rows
all-accepted-between [] e = tt
all-accepted-between (r ∷ rows) e = (some-plan r.0.0 r.0.1 (planned r.0.0 r.0.1 r.1) cc, all-accepted-between rows cc)

pub refused-rows : AllByRecursion IsRefusedBetween refused_between
unfolding layout place_cells struct_cells repeated
refused-rows = all-refused-between refused_between refl

pub accepted-rows : AllByRecursion IsAcceptedBetween accepted_between
unfolding layout place_cells struct_cells repeated
accepted-rows = all-accepted-between accepted_between refl

-- ---- whole plans

pub aging-plan : IsPlanOf nodes aged_nodes age_rule aging
unfolding layout place_cells struct_cells repeated
aging-plan = refl

pub keeping-plan : IsPlanOf kept kept_longer kept_rules keeping
unfolding layout place_cells struct_cells repeated
keeping-plan = refl
