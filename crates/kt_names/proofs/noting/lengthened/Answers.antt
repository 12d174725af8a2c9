use Rattle.std.proofs.Common.{List, ℕ, sym, ap, ◌∙◌, length, subst}
use Rattle.kt_names.specs.Types.{starred_place}
use Rattle.kt_names.specs.Placed.{AreStarred}
use Rattle.kt_names.proofs.PlacedTypes.{starred-push}
use Rattle.kt_names.proofs.noting.lengthened.Goals as goal

pub loop-preserved : goal.loop-preserved
loop-preserved c =
    let place = c.next_place-place.ensures ∙ ap (λ (ps : List ℕ). starred_place c.args.types.now.keys c.args.root (length ps)) c.as_slice.ensures.value in
    subst (AreStarred c.args.types.now.keys c.args.root) (sym c.in_ok-push.ensures.items) (starred-push c.args.types.now.keys c.args.root c.loop.longer.items _ c.loop.invariant place)
