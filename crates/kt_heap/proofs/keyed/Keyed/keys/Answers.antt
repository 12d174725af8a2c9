use Rattle.std.proofs.Common.{ℕ, ◌<◌, sym, subst}
use Rattle.kt_heap.specs.Keys.{key_of}
use Rattle.kt_heap.proofs.KeyedLaws.{key_below}
use Rattle.kt_heap.proofs.keyed.Keyed.keys.Goals as goal

pub returns-clause-above : goal.returns-clause-above
returns-clause-above c =
    rw (← c.self.view_is) (λ a some. subst (λ (n : ℕ). key_of a < n) (sym c.len.ensures) (key_below (record { slots = c.self.inside.slab.slots; keys = c.self.inside.keys }) a some))
