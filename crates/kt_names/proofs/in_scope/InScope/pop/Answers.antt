use Rattle.std.proofs.Common.{ap, ◌∙◌, if◌then◌else◌}
use Rattle.std.specs.Str.{bytes_eq}
use Rattle.kt_names.specs.Latest.{kept_under}
use Rattle.kt_names.proofs.Latest.{kept-pop, last-there}
use Rattle.kt_names.proofs.in_scope.InScope.pop.Goals as goal

pub keep-requires : goal.keep-requires
keep-requires c = rw c.as_slice.ensures.value (last-there c.self.inside.places.entries c.pop.new.self.items c.self.inside.names.items c.in-Some.last c.in-Some.ensures.items c.self.invariant)

pub invariant_of-self : goal.invariant_of-self
invariant_of-self c =
    let es = c.self.inside.places.entries in
    kept-pop es c.pop.new.self.items c.self.inside.names.items c.in-Some.last c.in-Some.ensures.items c.self.invariant c.keep.new.places.entries
    (λ q. c.keep.ensures q ∙ ap (λ n. if bytes_eq n q then c.in-Some.last.hides else kept_under es q) c.as_slice.ensures.value)
