use Rattle.std.proofs.Common.{◌≡◌, ◌↔◌, ℕ, Option, Some, sym, ◌∙◌, ap, subst}
use Rattle.std.specs.Option.{option_copied}
use Rattle.kt_heap.specs.Heap.{memory, number_at}
use Rattle.kt_heap.specs.Inside.{state_of}
use Rattle.kt_heap.proofs.heap.Heap.object_of.Goals as goal

pub returns-in-None : goal.returns-in-None
returns-in-None c =
    let s = state_of c.self.inside in
    rw (← c.self.view_is) (λ a. subst (λ (o : Option ℕ). (o ≡ Some a) ↔ (number_at (memory s) a ≡ Some c.args.serial)) (sym c.get.ensures.value ∙ ap option_copied c.in-None.is) (c.self.invariant.1 a c.args.serial))

pub returns-in-Some : goal.returns-in-Some
returns-in-Some c =
    let s = state_of c.self.inside in
    rw (← c.self.view_is) (λ a. subst (λ (o : Option ℕ). (o ≡ Some a) ↔ (number_at (memory s) a ≡ Some c.args.serial)) (sym c.get.ensures.value ∙ ap option_copied c.in-Some.is) (c.self.invariant.1 a c.args.serial))
