use Rattle.std.proofs.Common.{◌<◌, ◌++◌, ◌∙◌, length, take, arith, rules}
use Rattle.std.proofs.KnownBytes.{Appends-kept, Appends-trans}
use Rattle.std.proofs.lemmas.Bool.Decides.{nat_tests}
use Rattle.kt_edge.proofs.Calls.{by_failing, by_no_call, by_one_more}
use Rattle.kt_edge.proofs.Fronts.{AppendsPart-from_front, front_more}
use Rattle.kt_edge.proofs.whole.write_whole.Goals as goal

pub loop-rest-preserved : goal.loop-rest-preserved
loop-rest-preserved g c =
    let so_far = c.loop-rest.invariant in
    let taken = c.in_ok-count in
    let more : 0 < length c.loop-rest.rest.now = grind (arith, nat_tests) in (
      (so_far.0.0 ++ take taken.count c.loop-rest.rest.now, front_more _ _ _ taken.count so_far.0.1, Appends-trans _ _ _ _ _ so_far.0.2 taken.ensures.bytes),
      taken.ensures.count ∙ so_far.1,
      λ result last later. so_far.2 result last (by_one_more _ _ _ _ _ taken.count result more taken.ensures.gives later),
    )

pub returns-in_err-count-clause-part : goal.returns-in_err-count-clause-part
returns-in_err-count-clause-part g c =
    let so_far = c.loop-rest.invariant.0 in
    let more : 0 < length c.loop-rest.rest.now = grind (arith, nat_tests) in
    let part = AppendsPart-from_front _ _ so_far.0 c.loop-rest.rest.now _ so_far.1 more (Appends-kept _ _ _ _ so_far.2 c.in_err-count.ensures.bytes) in
    search (rules, part)

pub returns-in_err-count-clause-calls : goal.returns-in_err-count-clause-calls
returns-in_err-count-clause-calls g c =
    let more : 0 < length c.loop-rest.rest.now = grind (arith, nat_tests) in
    c.loop-rest.invariant.2 _ _ (by_failing _ _ _ _ _ c.from_residual.result c.from_residual.ensures.0 more c.in_err-count.ensures.gives)

pub returns-clause-calls : goal.returns-clause-calls
returns-clause-calls g c = c.loop-rest.invariant.2 _ _ (by_no_call _ _ _ (grind (arith, nat_tests)))
