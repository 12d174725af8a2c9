use Rattle.std.proofs.Common.{◌≡◌, Some, slice_get, sym, ap, ◌∙◌}
use Rattle.std.proofs.lemmas.Option.{slice_get-get_or}
use Rattle.kt_tree.proofs.Places.{new-text}
use Rattle.kt_tree.proofs.names.names_of.Goals as goal

pub push-requires-clause-new : goal.push-requires-clause-new
push-requires-clause-new c =
    let at : slice_get c.args.texts.now c.loop-text.text-index ≡ Some c.text-item.result =
    slice_get-get_or _ _ c.text-item.result c.loop-text-test.true ∙ ap Some (sym c.text-item.is) in
    rw (c.as_bytes.ensures, c.loop-text.invariant) (new-text c.args.texts.now c.loop-text.text-index c.text-item.result c.requires.distinct at)
