use Rattle.std.specs.Option.{option_map}
use Rattle.std.proofs.Common.{◌≡◌, ◌+◌, ◌-◌, ◌≤◌}
use Rattle.xf_plan.specs.Plain.{plan_of}
use Rattle.xf_plan.specs.Sources.{moved_by, sources_within, width}
use Rattle.xf_eval.specs.Asked.{at_place, source_at}
use Rattle.xf_eval.proofs.sources.source_of.Given as goal

abbrev pub invariant-loop : goal.invariant-loop
invariant-loop l = record {
  source : source_at (plan_of l.plan) l.from l.to l.cell
      ≡ option_map (moved_by l.part.start) (at_place (sources_within (plan_of l.plan) (l.end - l.counter) l.part.old l.part.new) l.part.cell);
  within : l.part.start + width l.plan.old l.part.old ≤ l.most;
}
