use Rattle.std.proofs.Common.{◌≡◌, ◌-◌, ℕ, List, length, Option, None, Some, IfSome, sym, ◌∙◌, ap, subst, arith}
use Rattle.std.specs.Option.{option_map}
use Rattle.kt_mem.specs.Memory.{Cell, without}
use Rattle.kt_heap.specs.declared.object.Obj.{Obj}
use Rattle.kt_heap.specs.Objects.{shown}
use Rattle.kt_heap.specs.Keyed.{obj_at}
use Rattle.kt_heap.specs.Heap.{memory}
use Rattle.kt_heap.specs.Inside.{state_of}
use Rattle.kt_heap.proofs.Look.{memory_put}
use Rattle.kt_heap.proofs.Keeps.{keeps_freed}
use Rattle.kt_heap.proofs.NumbersKept.{numbers_freed}
use Rattle.kt_heap.proofs.heap.Heap.free_at.Goals as goal

pub invariant_of-self : goal.invariant_of-self
invariant_of-self c =
    let s = state_of c.self.inside in
    let there : obj_at s.objects c.args.a ≡ Some c.in-Some.obj = sym c.take.ensures.value ∙ c.in-Some.is in
    (keeps_freed s c.take.new.self c.saturating_sub-self-inside.result c.args.a c.in-Some.obj c.self.invariant.0 c.take.ensures.taken there (omega (arith, c.self.invariant.0.room)), numbers_freed s c.take.new.self c.saturating_sub-self-inside.result c.args.a c.in-Some.obj _ _ c.self.invariant.0 c.self.invariant.1 c.take.ensures.taken there c.remove.ensures.updates.0)

pub returns-in-Some-clause-freed : goal.returns-in-Some-clause-freed
unfolding memory
returns-in-Some-clause-freed c =
    let s = state_of c.self.inside in
    let live = c.saturating_sub-self-inside.ensures ∙ ap (λ (xs : List Cell). s.used - length xs) c.as_slice.ensures in
    let there : Some c.in-Some.obj ≡ obj_at s.objects c.args.a = sym c.in-Some.is ∙ c.take.ensures.value in
    let freed = memory_put s c.take.new.self s.next c.saturating_sub-self-inside.result s.pairs c.args.a None c.take.ensures.taken in
    rw (← c.self.view_is) (subst (λ (x : Option Obj). IfSome (option_map shown x) (λ o. memory (record s { objects = c.take.new.self; used = c.saturating_sub-self-inside.result }) ≡ without (memory s) c.args.a o)) there (freed ∙ ap (λ (n : ℕ). record (without (memory s) c.args.a (shown c.in-Some.obj)) { live = n }) live))
