use Rattle.kt_names.proofs.Keys.{next-star}
use Rattle.kt_names.proofs.listing.Listing.add_starred.Goals as goal

pub loop-preserved : goal.loop-preserved
loop-preserved c =
    next-star c.args.self.now.types.keys c.loop.self.types.keys c.add-in-loop.new.self.types.keys c.args.root c.loop.counter c.loop.place c.in_ok-place-2.place c.loop.invariant.0 c.loop.invariant.1 c.in_ok-place-2.ensures.types c.in_ok-place-2.ensures.place
