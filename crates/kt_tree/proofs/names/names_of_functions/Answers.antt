use Rattle.std.proofs.Common.{◌≡◌, Some, slice_get, sym, ap, ◌∙◌}
use Rattle.std.proofs.lemmas.Option.{slice_get-get_or}
use Rattle.kt_tree.proofs.Places.{new-name}
use Rattle.kt_tree.proofs.names.names_of_functions.Goals as goal

pub push-requires-clause-new : goal.push-requires-clause-new
push-requires-clause-new c =
    let item = c.function-item.result in
    let at : slice_get c.args.functions.now c.loop-function.function-index ≡ Some item =
    slice_get-get_or _ _ item c.loop-function-test.true ∙ ap Some (sym c.function-item.is) in
    rw (c.as_bytes.ensures, c.loop-function.invariant) (new-name (λ x. x.name) c.args.functions.now c.loop-function.function-index item c.requires.distinct at)
