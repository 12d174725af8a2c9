use Rattle.std.proofs.Common.{◌≡◌, Some, slice_get, sym, ap, ◌∙◌}
use Rattle.std.proofs.lemmas.Option.{slice_get-get_or}
use Rattle.kt_tree.proofs.Places.{new-name}
use Rattle.kt_tree.proofs.names.names_of_globals.Goals as goal

pub push-requires-clause-new : goal.push-requires-clause-new
push-requires-clause-new c =
    let item = c.global-item.result in
    let at : slice_get c.args.globals.now c.loop-global.global-index ≡ Some item =
    slice_get-get_or _ _ item c.loop-global-test.true ∙ ap Some (sym c.global-item.is) in
    rw (c.as_bytes.ensures, c.loop-global.invariant) (new-name (λ x. x.name) c.args.globals.now c.loop-global.global-index item c.requires.distinct at)
