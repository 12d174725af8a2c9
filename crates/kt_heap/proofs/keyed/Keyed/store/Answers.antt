use Rattle.std.proofs.Common.{sym, subst}
use Rattle.kt_heap.specs.declared.keyed.Keyed.TheInside.{Inside}
use Rattle.kt_heap.specs.Keyed.{Keyed, IsKeyed}
use Rattle.kt_heap.proofs.Inserts.{stored_keyed}
use Rattle.kt_heap.proofs.keyed.Keyed.store.Goals.{in-None-get_mut, in-Some-get_mut}
use Rattle.kt_heap.proofs.keyed.Keyed.store.Goals as goal

-- the objects that the fields are
seen : Inside → Keyed
seen i = record { slots = i.slab.slots; keys = i.keys }

pub invariant_of-self : goal.invariant_of-self
unfolding seen
invariant_of-self c =
    elim c.match-get_mut.branch [
      | in-None-get_mut w ↦ subst (λ (i : Inside). IsKeyed (seen i)) (sym w.self-inside-is) c.self.invariant
      | in-Some-get_mut w ↦ subst (λ (i : Inside). IsKeyed (seen i)) (sym w.self-inside-is) (stored_keyed (seen c.self.inside) c.args.a c.in-Some.place w.in-Some-get_mut.entry.now w.store_in.new.entry c.self.invariant (sym c.in-Some.ensures) (sym w.in-Some-get_mut.ensures.value) w.store_in.ensures.address)
    ]
