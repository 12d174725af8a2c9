use Rattle.std.specs.Prelude.{IsSome, Option}
use Rattle.std.specs.Option.{option_map}
use Rattle.std.proofs.Common.{◌≡◌, ◌+◌, ◌-◌, suc, Some, ap, sym, subst, ◌∙◌, arith}
use Rattle.xf_plan.proofs.Conversions.{one-more}
use Rattle.xf_plan.specs.Plain.{plan_of}
use Rattle.xf_plan.specs.Sources.{Source, moved_by, sources_within, width}
use Rattle.xf_eval.specs.declared.ways.Way.{Way}
use Rattle.xf_eval.specs.declared.ways.Way.TheVariants.{Ends, Into}
use Rattle.xf_eval.specs.Asked.{at_place, source_at}
use Rattle.xf_eval.specs.Parts.{IsWithin, LeadsBy}
use Rattle.xf_eval.proofs.Elements.{map-twice}
use Rattle.xf_eval.proofs.Descent.{inner-some}
use Rattle.xf_eval.proofs.sources.source_of.Goals as goal

pub returns-in-Ends-clause-source : goal.returns-in-Ends-clause-source
returns-in-Ends-clause-source c =
    let p = plan_of c.args.plan.now in
    let most = c.type_count-end.result in
    let n = most - (c.loop.counter + 1) in
    let part = c.loop.part in
    let more : most - c.loop.counter ≡ suc n = one-more c.loop.counter most c.loop-test.true in
    let inner = at_place (sources_within p (suc n) part.old part.new) part.cell in
    let here : source_at p c.args.from c.args.to c.args.cell ≡ option_map (moved_by part.start) inner =
    c.loop.invariant.source ∙ ap (λ x. option_map (moved_by part.start) (at_place (sources_within p x part.old part.new) part.cell)) more in
    let there = inner-some part.start inner (subst (λ (o : Option Source). IsSome o) here c.requires.there) in
    let leads : c.way_to.result ≡ Some (Ends c.in-Ends.found) = c.in-Some.is ∙ ap (λ (s : Way). Some s) c.in-Ends.is in
    let told = subst (LeadsBy (sources_within p n) inner) leads (c.way_to.ensures.leads n there) in
    here ∙ ap (option_map (moved_by part.start)) told ∙ ap (λ (s : Source). Some s) (sym c.moved_by.ensures.moved)

pub loop-preserved : goal.loop-preserved
loop-preserved c =
    let p = plan_of c.args.plan.now in
    let most = c.type_count-end.result in
    let n = most - (c.loop.counter + 1) in
    let part = c.loop.part in
    let next = c.in-Into.next in
    let more : most - c.loop.counter ≡ suc n = one-more c.loop.counter most c.loop-test.true in
    let inner = at_place (sources_within p (suc n) part.old part.new) part.cell in
    let here : source_at p c.args.from c.args.to c.args.cell ≡ option_map (moved_by part.start) inner =
    c.loop.invariant.source ∙ ap (λ x. option_map (moved_by part.start) (at_place (sources_within p x part.old part.new) part.cell)) more in
    let there = inner-some part.start inner (subst (λ (o : Option Source). IsSome o) here c.requires.there) in
    let leads : c.way_to.result ≡ Some (Into next) = c.in-Some.is ∙ ap (λ (s : Way). Some s) c.in-Into.is in
    let told = subst (LeadsBy (sources_within p n) inner) leads (c.way_to.ensures.leads n there) in
    let within = subst (IsWithin p.old (width p.old part.old)) leads c.way_to.ensures.within in
    record {
      source = here ∙ ap (option_map (moved_by part.start)) told ∙ map-twice part.start next.start (at_place (sources_within p n next.old next.new) next.cell);
      within = omega (arith, within, c.loop.invariant.within);
    }
