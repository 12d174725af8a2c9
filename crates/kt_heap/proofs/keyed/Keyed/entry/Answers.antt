use Rattle.std.proofs.Common.{◌≡◌, ◌↔◌, Option, None, Some, sym, ◌∙◌, ap, subst}
use Rattle.std.specs.Option.{option_map, option_copied}
use Rattle.kt_heap.specs.declared.keyed.Entry.{Entry}
use Rattle.kt_heap.specs.Keyed.{Keyed, IsObjectAt, entry_in, entry_at}
use Rattle.kt_heap.proofs.KeyedLaws.{at_key_exact}
use Rattle.kt_heap.proofs.keyed.Keyed.entry.Goals as goal

pub returns-in-None-clause-own : goal.returns-in-None-clause-own
returns-in-None-clause-own c =
    let h : Keyed = record { slots = c.self.inside.slab.slots; keys = c.self.inside.keys } in
    let none : entry_at h c.args.key ≡ None = ap (entry_in h.slots) (sym c.get.ensures ∙ c.in-None.is) in
    rw (← c.self.view_is) (λ a. subst (λ (o : Option Entry). (option_map (λ (e : Entry). e.address) o ≡ Some a) ↔ IsObjectAt h c.args.key a) none (at_key_exact h c.args.key c.self.invariant a))

pub returns-in-Some-clause-own : goal.returns-in-Some-clause-own
returns-in-Some-clause-own c =
    let h : Keyed = record { slots = c.self.inside.slab.slots; keys = c.self.inside.keys } in
    let some : entry_at h c.args.key ≡ option_copied c.get-in-Some.result = ap (entry_in h.slots) (sym c.get.ensures ∙ c.in-Some.is) ∙ sym c.get-in-Some.ensures in
    rw (← c.self.view_is) (λ a. subst (λ (o : Option Entry). (option_map (λ (e : Entry). e.address) o ≡ Some a) ↔ IsObjectAt h c.args.key a) some (at_key_exact h c.args.key c.self.invariant a))
