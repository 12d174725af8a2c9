use Rattle.std.proofs.Common.{◌≡◌, ap, ◌∙◌, map, Some}
use Rattle.std.specs.Option.{option_map}
use Rattle.std.proofs.lemmas.Option.{slice_get-map}
use Rattle.kt_check.proofs.Interning.{declare-step, item-at}
use Rattle.kt_check.proofs.table.declare.Goals as goal

pub loop-name-preserved : goal.loop-name-preserved
loop-name-preserved c =
    let i = c.loop-name.name-index in
    let same : c.name-item.result.items ≡ c.as_slice.result.now = cc in
    declare-step (map (λ n. n.items) c.args.names.now) i c.as_slice.result.now c.loop-name.table c.declare_struct.new.self c.requires.distinct
    (slice_get-map (λ n. n.items) c.args.names.now i ∙ ap (option_map (λ n. n.items)) (item-at c.args.names.now i c.name-item.result c.loop-name-test.true c.name-item.is) ∙ ap Some same)
    c.loop-name.invariant c.in_ok-declare_struct.ensures.new
