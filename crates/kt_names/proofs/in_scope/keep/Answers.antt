use Rattle.kt_names.proofs.Latest.{kept-write}
use Rattle.kt_names.proofs.in_scope.keep.Goals as goal

pub returns : goal.returns
returns c q = kept-write c.args.places.now.entries c.write.new.places.entries c.args.name.now c.in-Some.index c.args.place c.in-Some.ensures.index c.write.ensures q
